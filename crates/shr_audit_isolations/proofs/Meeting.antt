-- SPDX-License-Identifier: GPL-2.0-only
-- What scans met, and isolations that are lawful with them.
use Rattle.shr_audit_isolations.proofs.Common.{◌≡◌, ℕ, zero, suc, Bool, List, [], ◌∷◌, length, map, Option, Some, refl, sym, ap, subst, ◌∙◌, arith, sum_by, Decides, slice_get_within, IsLawfulIsolation, ScanSeen, met_one, mets_of, Isolation, EachItem, IsolationScan, seen_of, IsAskedAlike, IsBounded, isolation_freed, met_by, replicate, sum, Met, met_of}
use Rattle.std.specs.List.{AllByRecursion}
use Rattle.std.proofs.lemmas.List.Sums.{sum-map}
use Rattle.shr_base.specs.declared.objects.Policy.{Policy}

heads : {X : Type 0} (x y : X) (xs ys : List X) → x ∷ xs ≡ y ∷ ys → x ≡ y
heads x y xs ys e = cc

tails : {X : Type 0} (x y : X) (xs ys : List X) → x ∷ xs ≡ y ∷ ys → xs ≡ ys
tails x y xs ys e = cc

some_same : (a b : IsolationScan) → ◌≡◌ {A = Option IsolationScan} (Some a) (Some b) → a ≡ b
some_same a b e = cc

-- ---- what all met

pub ones_made : (xs : List IsolationScan) → EachItem (λ x. met_by x ≡ met_one) xs → map met_by xs ≡ replicate (length xs) met_one
ones_made [] h = refl
ones_made (x ∷ xs) h = ap (λ (m : Met). m ∷ map met_by xs) (h 0 x refl) ∙ ap (λ (ms : List Met). met_one ∷ ms) (ones_made xs (λ n y e. h (suc n) y e))

pub ones_met : (xs : List IsolationScan) (n : ℕ) → map met_by xs ≡ replicate n met_one → (length xs ≡ n) × EachItem (λ x. met_by x ≡ met_one) xs
ones_met [] zero e = (refl, λ n x at. absurd (let lt = slice_get_within [] n x at in omega (arith, lt)))
ones_met [] (suc n) e = absurd (no e)
  where
    no : ◌≡◌ {A = List Met} [] (met_one ∷ replicate n met_one) → ⊥
    no e = cc
ones_met (x ∷ xs) zero e = absurd (no e)
  where
    no : ◌≡◌ {A = List Met} (met_by x ∷ map met_by xs) [] → ⊥
    no e = cc
ones_met (x ∷ xs) (suc n) e =
    let more = ones_met xs n (tails (met_by x) met_one (map met_by xs) (replicate n met_one) e) in
    (ap suc more.0, each (heads (met_by x) met_one (map met_by xs) (replicate n met_one) e) more.1)
  where
    each : met_by x ≡ met_one → EachItem (λ y. met_by y ≡ met_one) xs → EachItem (λ y. met_by y ≡ met_one) (x ∷ xs)
    each here rest zero y at = subst (λ (z : IsolationScan). met_by z ≡ met_one) (some_same x y at) here
    each here rest (suc k) y at = rest k y at

pub so_many : (xs : List IsolationScan) (n : ℕ) (b : Bool) → length xs ≡ n → Decides b (EachItem (λ x. met_by x ≡ met_one) xs) → Decides b (map met_by xs ≡ replicate n met_one)
so_many xs n b count d = (λ t. ones_made xs (d.0 t) ∙ ap (λ (k : ℕ). replicate k met_one) count, λ e. d.1 (ones_met xs n e).1)

-- ---- an isolation

policies : (policy : Policy) (xs : List IsolationScan) → EachItem (IsAskedAlike policy) xs → AllByRecursion (λ (x : ScanSeen). x.policy ≡ policy) (map seen_of xs)
policies policy [] h = tt
policies policy (x ∷ xs) h = ((h 0 x refl).1, policies policy xs (λ n y e. h (suc n) y e))

asks : (policy : Policy) (xs : List IsolationScan) → EachItem (IsAskedAlike policy) xs → AllByRecursion (λ (x : ScanSeen). x.asked ≡ 1) (map seen_of xs)
asks policy [] h = tt
asks policy (x ∷ xs) h = ((h 0 x refl).0, asks policy xs (λ n y e. h (suc n) y e))

alike : (policy : Policy) (xs : List IsolationScan) → AllByRecursion (λ (x : ScanSeen). x.policy ≡ policy) (map seen_of xs) → AllByRecursion (λ (x : ScanSeen). x.asked ≡ 1) (map seen_of xs) → EachItem (IsAskedAlike policy) xs
alike policy [] p a n x at = absurd (let lt = slice_get_within [] n x at in omega (arith, lt))
alike policy (y ∷ ys) p a zero x at = subst (IsAskedAlike policy) (some_same y x at) (a.0, p.0)
alike policy (y ∷ ys) p a (suc n) x at = alike policy ys p.1 a.1 n x at

mets : (xs : List IsolationScan) → map met_of (map seen_of xs) ≡ map met_by xs
mets [] = refl
mets (x ∷ xs) = ap (λ (ms : List Met). met_by x ∷ ms) (mets xs)

freeds : (xs : List IsolationScan) → map (λ (x : ScanSeen). x.freed) (map seen_of xs) ≡ map isolation_freed xs
freeds [] = refl
freeds (x ∷ xs) = ap (λ (ns : List ℕ). x.freed ∷ ns) (freeds xs)

sums : (xs : List IsolationScan) → sum (map (λ (x : ScanSeen). x.freed) (map seen_of xs)) ≡ sum_by isolation_freed xs
sums xs = ap sum (freeds xs) ∙ sum-map isolation_freed xs

-- the four tests together
pub record AreTested (policy : Policy) (xs : List IsolationScan) (i : Isolation) : Type 0 where
  pub bounded : IsBounded i
  pub alike : EachItem (IsAskedAlike policy) xs
  pub met : map met_by xs ≡ mets_of i.visits i.ending
  pub freed : sum_by isolation_freed xs ≡ i.freed

pub lawful_tested : (policy : Policy) (xs : List IsolationScan) (i : Isolation) → AreTested policy xs i → IsLawfulIsolation policy (map seen_of xs) i
lawful_tested policy xs i h = record {
  policies = policies policy xs h.alike;
  asked = asks policy xs h.alike;
  met = mets xs ∙ h.met;
  freed = sym (sums xs ∙ h.freed);
  within = h.bounded.within;
  stopped = h.bounded.stopped;
  whole = h.bounded.whole;
}

pub tested_lawful : (policy : Policy) (xs : List IsolationScan) (i : Isolation) → IsLawfulIsolation policy (map seen_of xs) i → AreTested policy xs i
tested_lawful policy xs i h = record {
  bounded = record { within = h.within; stopped = h.stopped; whole = h.whole };
  alike = alike policy xs h.policies h.asked;
  met = sym (mets xs) ∙ h.met;
  freed = sym (sums xs) ∙ sym h.freed;
}

-- where the first three hold, the last one decides
pub all_tested : (policy : Policy) (xs : List IsolationScan) (i : Isolation) (b : Bool) → IsBounded i → EachItem (IsAskedAlike policy) xs → map met_by xs ≡ mets_of i.visits i.ending → Decides b (sum_by isolation_freed xs ≡ i.freed)
    → Decides b (IsLawfulIsolation policy (map seen_of xs) i)
all_tested policy xs i b bounded same mets d = (
  λ t. lawful_tested policy xs i (record { bounded = bounded; alike = same; met = mets; freed = d.0 t }),
  λ h. d.1 (tested_lawful policy xs i h).freed,
)
