-- SPDX-License-Identifier: GPL-2.0-only
-- Meanings over two calls, and scans with one more.
use Rattle.std.proofs.Common.{◌≡◌, ℕ, ◌+◌, ◌≤◌, List, [], ◌∷◌, ◌++◌, map, length, replicate, sym, refl, ap, ◌∙◌, arith, length-append, append_assoc}
use Rattle.std.specs.Prelude.{Option, sum}
use Rattle.std.proofs.lemmas.List.{map-append, append-nil, replicate_more, take-replicate}
use Rattle.std.proofs.lemmas.List.Sums.{sum_by-append}
use Rattle.shr_base.specs.declared.places.Place.{Place}
use Rattle.shr_pass.specs.declared.answers.Count.{Count}
use Rattle.shr_pass.specs.declared.answers.ScanSeen.{ScanSeen}
use Rattle.shr_pass.specs.declared.answers.ScanAnswer.{ScanAnswer}
use Rattle.shr_pass.specs.declared.answers.ScanAnswer.TheVariants as answered
use Rattle.shr_pass.specs.Meanings.{SameMeaning}
use Rattle.shr_pass.specs.Passes.{Scans, asked_of, scan_freed}

module _ {Seat : Type 0} where
  -- a shrinker means what it means
  pub same_refl : (p : Option Place) (o r : Seat → Type 0) (k : Seat → Seat → Type 0) (t : ScanAnswer → Seat → Type 0) (c : Seat → List Count) (d : Seat → List ScanSeen) → SameMeaning p p o o r r k k t t c c d d
  same_refl p o r k t c d = record { place = refl; owes = λ s. ((λ x. x), (λ x. x)); ready = λ s. ((λ x. x), (λ x. x)); kept = λ s u. ((λ x. x), (λ x. x)); told = λ a s. ((λ x. x), (λ x. x)); counts = λ s. refl; scans = λ s. refl }

  -- a meaning that is kept over two calls is kept over both
  pub same_trans : (p₁ p₂ p₃ : Option Place) (o₁ o₂ o₃ : Seat → Type 0) (r₁ r₂ r₃ : Seat → Type 0) (k₁ k₂ k₃ : Seat → Seat → Type 0) (t₁ t₂ t₃ : ScanAnswer → Seat → Type 0) (c₁ c₂ c₃ : Seat → List Count) (d₁ d₂ d₃ : Seat → List ScanSeen)
      → SameMeaning p₁ p₂ o₁ o₂ r₁ r₂ k₁ k₂ t₁ t₂ c₁ c₂ d₁ d₂ → SameMeaning p₂ p₃ o₂ o₃ r₂ r₃ k₂ k₃ t₂ t₃ c₂ c₃ d₂ d₃ → SameMeaning p₁ p₃ o₁ o₃ r₁ r₃ k₁ k₃ t₁ t₃ c₁ c₃ d₁ d₃
  same_trans p₁ p₂ p₃ o₁ o₂ o₃ r₁ r₂ r₃ k₁ k₂ k₃ t₁ t₂ t₃ c₁ c₂ c₃ d₁ d₂ d₃ x y = record {
    place = y.place ∙ x.place;
    owes = λ s. ((λ h. (y.owes s).0 ((x.owes s).0 h)), (λ h. (x.owes s).1 ((y.owes s).1 h)));
    ready = λ s. ((λ h. (y.ready s).0 ((x.ready s).0 h)), (λ h. (x.ready s).1 ((y.ready s).1 h)));
    kept = λ s u. ((λ h. (y.kept s u).0 ((x.kept s u).0 h)), (λ h. (x.kept s u).1 ((y.kept s u).1 h)));
    told = λ a s. ((λ h. (y.told a s).0 ((x.told a s).0 h)), (λ h. (x.told a s).1 ((y.told a s).1 h)));
    counts = λ s. y.counts s ∙ x.counts s;
    scans = λ s. y.scans s ∙ x.scans s;
  }

-- before the first ask nothing was appended
pub scans_none : (told : ScanAnswer → Type 0) (before : List ScanSeen) (due : List ℕ) → Scans told before before due 0 0 0
scans_none told before due = record {
  made = [];
  appended = sym (append-nil before);
  number = refl;
  asked = refl;
  sum_freed = refl;
  told_freed = λ h. absurd (omega arith);
  told_closed = λ h. absurd (omega arith);
}

module _ (told told' : ScanAnswer → Type 0) (stays : (a : ScanAnswer) → told a → told' a) (before now after : List ScanSeen) (number size asks closed freed : ℕ) (x : Scans told before now (replicate number size) asks closed freed) where
  -- a call that appends nothing
  pub scans_same : after ≡ now → Scans told' before after (replicate number size) asks closed freed
  scans_same e = record {
    made = x.made;
    appended = e ∙ x.appended;
    number = x.number;
    asked = x.asked;
    sum_freed = x.sum_freed;
    told_freed = λ h. let t = x.told_freed h in (t.0, stays (answered.Freed t.0) t.1);
    told_closed = λ h. stays answered.Closed (x.told_closed h);
  }

  -- one ask more that found the list closed appends nothing
  pub scans_closed : after ≡ now → told' answered.Closed → Scans told' before after (replicate number size) (asks + 1) (closed + 1) freed
  scans_closed e t = record {
    made = x.made;
    appended = e ∙ x.appended;
    number = omega (arith, x.number);
    asked = x.asked;
    sum_freed = x.sum_freed;
    told_freed = λ h. let t = x.told_freed h in (t.0, stays (answered.Freed t.0) t.1);
    told_closed = λ h. t;
  }

  -- one ask more that freed appends its scan
  pub scans_freed : (asked n : ℕ) → after ≡ now ++ (record { asked = asked; freed = n }) ∷ [] → asked ≡ size → asks + 1 ≤ number → told' (answered.Freed n) → Scans told' before after (replicate number size) (asks + 1) closed (freed + n)
  scans_freed asked n e is fits t = let one : ScanSeen = record { asked = asked; freed = n } in let long = length-append x.made (one ∷ []) in let k : ℕ = length x.made in let few = x.number in record {
    made = x.made ++ one ∷ [];
    appended = e ∙ (ap (λ l. l ++ one ∷ []) x.appended ∙ append_assoc before x.made (one ∷ []));
    number = omega (arith, long, x.number);
    asked = map-append asked_of x.made (one ∷ []) ∙ (ap (λ l. l ++ asked ∷ []) (x.asked ∙ take-replicate k number size (omega arith)) ∙ (ap (λ a. replicate k size ++ a ∷ []) is ∙ (replicate_more k size ∙ (ap (λ m. replicate m size) (sym long) ∙ sym (take-replicate (length (x.made ++ one ∷ [])) number size (omega (arith, long, few)))))));
    sum_freed = let s : sum (map scan_freed x.made ++ n ∷ []) ≡ freed + n = omega (arith, sum_by-append (λ (y : ℕ). y) (map scan_freed x.made) (n ∷ []), x.sum_freed) in ap sum (map-append scan_freed x.made (one ∷ [])) ∙ s;
    told_freed = λ h. (n, t);
    told_closed = λ h. stays answered.Closed (x.told_closed h);
  }

-- the same scans, of which as much or less was told
pub scans_weaker : (told told' : ScanAnswer → Type 0) → ((a : ScanAnswer) → told a → told' a) → (before after : List ScanSeen) (due : List ℕ) (asks closed freed : ℕ) → Scans told before after due asks closed freed → Scans told' before after due asks closed freed
scans_weaker told told' stays before after due asks closed freed x = record {
  made = x.made;
  appended = x.appended;
  number = x.number;
  asked = x.asked;
  sum_freed = x.sum_freed;
  told_freed = λ h. let t = x.told_freed h in (t.0, stays (answered.Freed t.0) t.1);
  told_closed = λ h. stays answered.Closed (x.told_closed h);
}
