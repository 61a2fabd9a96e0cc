-- SPDX-License-Identifier: GPL-2.0-only
-- Reports whose deferred work is in one order, and two in which it is in none.
use Rattle.shr_laws.proofs.Common.{◌≡◌, ◌⊎◌, ℕ, zero, suc, cond, List, [], ◌∷◌, ◌++◌, length, map, flat_map, slice_get, Some, refl, range_with_len, arith, sym, ap, subst, ◌∙◌, inl, inr, ⊎_elim, dite, ℕ_discrete, PlaceAmount, Place, Answered, Command, Offline, Script, Carry, Through, WalkRecord, Report, printed_at, serial_of, answers_of, IsThere, eq-eqb, ne_eqb, amount_of}
use Rattle.shr_base.specs.declared.replies.Reply.TheVariants as reply
use Rattle.shr_base.specs.declared.walks.Outcome.TheVariants as outcome
use Rattle.shr_laws.specs.Takes.{WordStep, took, gave, Taking, steps_by_worker, DeferredAmounts, TakesWhole, AreWholeTakes, after_all, none_deferred, steps_by, IsHanded, AreTakesInOrder}
use Rattle.shr_laws.proofs.SecondReport as second
use Rattle.shr_laws.proofs.SecondReport.{kept, place, shrink, unheld}
use Rattle.shr_model.proofs.Lists.{each_at}

-- ---- the second report tells of no take and no give
pub in_order : AreTakesInOrder second.script second.report
in_order = record {
  handed = λ worker k. [];
  hands = unhanded;
  line = [];
  parts = none;
  taken = tt;
  left = λ p there. refl;
} where
  unhanded : (worker k : ℕ) (a : Answered) → slice_get (answers_of second.report worker) k ≡ Some a → IsHanded second.script second.report (serial_of worker k) a.reply []
  unhanded zero k a at = each_at (λ n (b : Answered). IsHanded second.script second.report (serial_of 0 n) b.reply []) second.answers
      (record { places = refl; carried = refl }, (record { places = refl; carried = refl }, (record { places = refl; carried = refl }, (record { places = refl; carried = refl }, tt)))) k a at
  unhanded (suc worker) k a at = absurd (cc)

  none : (worker : ℕ) → [] ≡ flat_map (λ k. steps_by second.script second.report (serial_of worker k) []) (range_with_len 0 (length (answers_of second.report worker)))
  none zero = refl
  none (suc worker) = refl

-- ---- a pass defers 5 objects, its group goes offline, and the parent's word has them
abbrev root : Place
root = record { id = 0; node = 0; group = 0 }

abbrev script_of : List Command → Script
script_of commands = record second.script { workers = kept (record { commands = kept commands } ∷ []) }

-- a walk of the first command with a pass that took so much and gave so much
abbrev walk_of : ℕ → ℕ → WalkRecord
walk_of nr next = second.walk 0 1 (record { id = 0; outcome = outcome.Ran 0 (record { len = 5; version = 0; nr = nr; asks = 0; closed = 0; scanned = 0; freed = 0; next = next; ending = Through }) } ∷ [])

abbrev moved : Carry
moved = record { by = second.by 1; place = place; amount = 5 }

abbrev carried : Report
carried = record second.report {
  workers = kept (record second.part { answers = kept (unheld (reply.Walked 0) ∷ unheld (reply.OfflineDone 1 0 5) ∷ []); walks = kept (walk_of 0 5 ∷ []); carries = kept (moved ∷ []) } ∷ []);
  deferred = kept (amount_of root 5 ∷ []);
}

abbrev by_first : WordStep → Taking
by_first x = record { worker = 0; step = x }

abbrev line : List Taking
line = by_first (took (amount_of place 0)) ∷ by_first (gave (amount_of place 5)) ∷ by_first (took (amount_of place 5)) ∷ by_first (gave (amount_of root 5)) ∷ []

apart : (worker : ℕ) (xs : List WordStep) → steps_by_worker (suc worker) (map by_first xs) ≡ []
apart worker [] = refl
apart worker (x ∷ xs) = ap (λ b. cond b (x ∷ steps_by_worker (suc worker) (map by_first xs)) (steps_by_worker (suc worker) (map by_first xs))) (ne_eqb 0 (suc worker) (λ e. omega (arith, e))) ∙ apart worker xs

abbrev handed : ℕ → ℕ → List PlaceAmount
handed zero (suc zero) = amount_of place 5 ∷ []
handed worker k = []

one_of : (p : Place) → IsThere (script_of (shrink ∷ Offline 1 ∷ [])) p → (p ≡ root) ⊎ (p ≡ place)
one_of p there =
    let id = there.id in let node = there.node in let group = there.group in
    let id_is : p.id ≡ 0 = omega (arith, id) in let node_is : p.node ≡ 0 = omega (arith, node) in
    dite (ℕ_discrete p.group 0)
    (λ (e : p.group ≡ 0). inl (λ i. record { id = id_is i; node = node_is i; group = e i }))
    (λ ne. let e : p.group ≡ 1 = omega (arith, group, ne) in inr (λ i. record { id = id_is i; node = node_is i; group = e i }))

handed_over : AreTakesInOrder (script_of (shrink ∷ Offline 1 ∷ [])) carried
handed_over = record {
  handed = handed;
  hands = hands;
  line = line;
  parts = parts;
  taken = (refl, (tt, (refl, (tt, tt))));
  left = λ p there. ⊎_elim
      (λ e. subst (λ (q : Place). printed_at carried q ≡ after_all none_deferred line q) (sym e) refl)
      (λ e. subst (λ (q : Place). printed_at carried q ≡ after_all none_deferred line q) (sym e) refl)
      (one_of p there);
} where
  hands : (worker k : ℕ) (a : Answered) → slice_get (answers_of carried worker) k ≡ Some a → IsHanded (script_of (shrink ∷ Offline 1 ∷ [])) carried (serial_of worker k) a.reply (handed worker k)
  hands zero k a at = each_at (λ n (b : Answered). IsHanded (script_of (shrink ∷ Offline 1 ∷ [])) carried (serial_of 0 n) b.reply (handed 0 n)) (unheld (reply.Walked 0) ∷ unheld (reply.OfflineDone 1 0 5) ∷ [])
      (record { places = refl; carried = refl }, (record { places = refl; carried = refl }, tt)) k a at
  hands (suc worker) k a at = absurd (cc)

  parts : (worker : ℕ) → steps_by_worker worker line ≡ flat_map (λ k. steps_by (script_of (shrink ∷ Offline 1 ∷ [])) carried (serial_of worker k) (handed worker k)) (range_with_len 0 (length (answers_of carried worker)))
  parts zero = refl
  parts (suc worker) = apart worker (took (amount_of place 0) ∷ gave (amount_of place 5) ∷ took (amount_of place 5) ∷ gave (amount_of root 5) ∷ [])

-- ---- reports that aren't
-- a line of one worker begins with that worker's first step
begins : (w : DeferredAmounts) (l : List Taking) (x : WordStep) (xs : List WordStep) → ((worker : ℕ) → steps_by_worker (suc worker) l ≡ []) → steps_by_worker 0 l ≡ x ∷ xs → AreWholeTakes w l → TakesWhole w x
begins w [] x xs none is all = absurd (cc)
begins w (t ∷ ts) x xs none is all = by_worker t.worker refl where
  by_worker : (n : ℕ) → t.worker ≡ n → TakesWhole w x
  by_worker zero e = let same : t.step ∷ steps_by_worker 0 ts ≡ x ∷ xs = sym (ap (λ b. cond b (t.step ∷ steps_by_worker 0 ts) (steps_by_worker 0 ts)) (eq-eqb t.worker 0 e)) ∙ is in let head : t.step ≡ x = cc in subst (TakesWhole w) head all.0
  by_worker (suc n) e = absurd (let filled : t.step ∷ steps_by_worker (suc n) ts ≡ [] = sym (ap (λ b. cond b (t.step ∷ steps_by_worker (suc n) ts) (steps_by_worker (suc n) ts)) (eq-eqb t.worker (suc n) e)) ∙ none n in cc)

no_line : (l : List Taking) → ((worker : ℕ) → steps_by_worker worker l ≡ []) → l ≡ []
no_line [] none = refl
no_line (t ∷ ts) none = absurd (let filled : t.step ∷ steps_by_worker t.worker ts ≡ [] = sym (ap (λ b. cond b (t.step ∷ steps_by_worker t.worker ts) (steps_by_worker t.worker ts)) (eq-eqb t.worker t.worker refl)) ∙ none t.worker in cc)

none_in : (xs : List PlaceAmount) → map (λ (a : PlaceAmount). a.place) xs ≡ [] → xs ≡ []
none_in [] e = refl
none_in (x ∷ xs) e = absurd (cc)

-- a pass took 7 objects before anything was deferred
abbrev overtaken : Report
overtaken = record second.report { workers = kept (record second.part { answers = kept (unheld (reply.Walked 0) ∷ []); walks = kept (walk_of 7 0 ∷ []) } ∷ []) }

took_too_much : AreTakesInOrder (script_of (shrink ∷ [])) overtaken → ⊥
took_too_much h =
    let none = none_in (h.handed 0 0) (h.hands 0 0 (unheld (reply.Walked 0)) refl).places in
    let is : steps_by_worker 0 h.line ≡ took (amount_of place 7) ∷ gave (amount_of place 0) ∷ [] = h.parts 0 ∙ ap (λ (l : List PlaceAmount). steps_by (script_of (shrink ∷ [])) overtaken (serial_of 0 0) l ++ []) none in
    let e : 7 ≡ 0 = begins none_deferred h.line (took (amount_of place 7)) (gave (amount_of place 0) ∷ []) (λ worker. h.parts (suc worker)) is h.taken in absurd (omega (arith, e))

-- nothing was deferred, and a word of 4 is printed
abbrev unfounded : Report
unfounded = record second.report { workers = kept []; deferred = kept (amount_of root 4 ∷ []) }

printed_too_much : AreTakesInOrder (script_of []) unfounded → ⊥
printed_too_much h =
    let none = no_line h.line (λ worker. h.parts worker) in
    let e : 4 ≡ 0 = h.left root (record { id = omega arith; node = omega arith; group = omega arith }) ∙ ap (λ (l : List Taking). after_all none_deferred l root) none in absurd (omega (arith, e))
