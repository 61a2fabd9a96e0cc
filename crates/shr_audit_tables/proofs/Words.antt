-- SPDX-License-Identifier: GPL-2.0-only
-- The moves of all workers settle if and only if each printed word is right.
use Rattle.shr_audit_tables.proofs.Common.{◌≡◌, ℕ, ◌+◌, ◌<◌, ◌^◌, ◌⊎◌, inl, inr, ⊎_elim, Bool, true, false, List, [], ◌∷◌, length, get_or, refl, sym, ap, subst, ◌∙◌, arith, ◌↔◌, filter, filter_map, flat_map, sum_by, Decides, AllByRecursion, cases_lt, nat_tests, Decides-like, get_or_past, flat_map-append, sum_by-cons, sum_by-append, slice_get-get_or, Place, Attempt, Carry, WalkRecord, PlaceAmount, WorkerPart, amount_at, sum_at, is_place, Report, HasNumbers, IsPartNumbered, IsWalkNumbered, IsWellFormed, EachItem, Move, sum_up_at, sum_down_at, IsSettled, deferred_key, IsNarrow, GainsAtEach, given_by_worker, taken_by, AreWordsRight, pass_of, deferred_word, IsCarryNumbered, IsAmountNumbered, carried_to, carried_from}
use Rattle.shr_base.specs.declared.walks.PassRecord.{PassRecord}
use Rattle.shr_model.specs.Groups.{parent_of}
use Rattle.shr_model.specs.Moves.{is_below, given_at, taken_at}
use Rattle.shr_model.specs.Walks.{place_in, passes_at}
use Rattle.shr_audit_case.proofs.WordsLaw.{words_law}
use Rattle.shr_audit_tables.proofs.Amounts.{IsWide, narrow_or_wide, outside, sum_none, found_sum, small_sum}

-- ---- workers put together

pub given_all : (parents : List ℕ) (parts : List WorkerPart) (p : Place) → given_at parents (flat_map (λ (part : WorkerPart). part.walks.items) parts) (flat_map (λ (part : WorkerPart). part.carries.items) parts) p ≡ sum_by (λ (part : WorkerPart). given_by_worker parents part p) parts
given_all parents [] p = refl
given_all parents (part ∷ parts) p =
    let next = λ (x : PassRecord). x.next in
    let walks = flat_map (λ (part : WorkerPart). part.walks.items) parts in
    let carries = flat_map (λ (part : WorkerPart). part.carries.items) parts in
    let passes = ap (sum_by next) (flat_map-append (passes_at p) part.walks.items walks) ∙ sum_by-append next (flat_map (passes_at p) part.walks.items) (flat_map (passes_at p) walks) in
    let carried = sum_by-append (carried_to parents p) part.carries.items carries in
    let more = given_all parents parts p in
    let sum = sum_by-cons (λ (part : WorkerPart). given_by_worker parents part p) part parts in
    omega (arith, passes, carried, more, sum)

pub taken_all : (parts : List WorkerPart) (p : Place) → taken_at (flat_map (λ (part : WorkerPart). part.walks.items) parts) (flat_map (λ (part : WorkerPart). part.carries.items) parts) p ≡ sum_by (λ (part : WorkerPart). taken_by part p) parts
taken_all [] p = refl
taken_all (part ∷ parts) p =
    let nr = λ (x : PassRecord). x.nr in
    let walks = flat_map (λ (part : WorkerPart). part.walks.items) parts in
    let carries = flat_map (λ (part : WorkerPart). part.carries.items) parts in
    let passes = ap (sum_by nr) (flat_map-append (passes_at p) part.walks.items walks) ∙ sum_by-append nr (flat_map (passes_at p) part.walks.items) (flat_map (passes_at p) walks) in
    let carried = sum_by-append (carried_from p) part.carries.items carries in
    let more = taken_all parts p in
    let sum = sum_by-cons (λ (part : WorkerPart). taken_by part p) part parts in
    omega (arith, passes, carried, more, sum)

-- ---- nothing at places that no table has

no_passes : (p : Place) (w : WalkRecord) → IsWide p → IsWalkNumbered w → passes_at p w ≡ []
no_passes p w wide n = ap (filter_map (λ (a : Attempt). pass_of a.outcome)) (none w.attempts.items)
  where
    away : (id : ℕ) → is_place p (place_in w id) ≡ false
    away id = outside p (place_in w id) wide (let x = n.node in omega arith) (let x = n.group in omega arith)

    none : (xs : List Attempt) → filter (λ (a : Attempt). is_place p (place_in w a.id)) xs ≡ []
    none [] = refl
    none (x ∷ xs) = rw (away x.id) (none xs)

no_walks : (p : Place) (ws : List WalkRecord) → IsWide p → AllByRecursion IsWalkNumbered ws → flat_map (passes_at p) ws ≡ []
no_walks p [] wide n = refl
no_walks p (w ∷ ws) wide n = rw (no_passes p w wide n.0) (no_walks p ws wide n.1)

none_taken : (p : Place) (cs : List Carry) → IsWide p → AllByRecursion IsCarryNumbered cs → AllByRecursion (λ (c : Carry). carried_from p c ≡ 0) cs
none_taken p [] wide n = tt
none_taken p (c ∷ cs) wide n =
    let node = n.0.place.node in let group = n.0.place.group in
    let away = outside p c.place wide (omega (arith, node)) (omega (arith, group)) in
    (rw away refl, none_taken p cs wide n.1)

low_parent : (parents : List ℕ) (g : ℕ) → EachItem (λ n. n < 2 ^ 16) parents → parent_of parents g < 65536
low_parent parents g fit = ⊎_elim (λ lt. let h = fit g (get_or parents g 0) (slice_get-get_or parents g 0 lt) in omega (arith, h)) (λ ge. let h = get_or_past parents g 0 ge in omega (arith, h)) (cases_lt g (length parents))

not_below : (parents : List ℕ) (p c : Place) → IsWide p → c.node < 256 → parent_of parents c.group < 65536 → is_below parents p c ≡ false
not_below parents p c (inl w) n g = by_bool (is_below parents p c) refl
  where
    by_bool : (b : Bool) → is_below parents p c ≡ b → is_below parents p c ≡ false
    by_bool true e = absurd (grind (arith, nat_tests))
    by_bool false e = e
not_below parents p c (inr w) n g = by_bool (is_below parents p c) refl
  where
    by_bool : (b : Bool) → is_below parents p c ≡ b → is_below parents p c ≡ false
    by_bool true e = absurd (grind (arith, nat_tests))
    by_bool false e = e

none_given : (parents : List ℕ) (p : Place) (cs : List Carry) → IsWide p → EachItem (λ n. n < 2 ^ 16) parents → AllByRecursion IsCarryNumbered cs → AllByRecursion (λ (c : Carry). carried_to parents p c ≡ 0) cs
none_given parents p [] wide fit n = tt
none_given parents p (c ∷ cs) wide fit n =
    let node = n.0.place.node in
    let away = not_below parents p c.place wide (omega (arith, node)) (low_parent parents c.place.group fit) in
    (rw away refl, none_given parents p cs wide fit n.1)

gives_none : (parents : List ℕ) (p : Place) → IsWide p → EachItem (λ n. n < 2 ^ 16) parents → (parts : List WorkerPart) → AllByRecursion IsPartNumbered parts → AllByRecursion (λ (part : WorkerPart). given_by_worker parents part p ≡ 0) parts
gives_none parents p wide fit [] n = tt
gives_none parents p wide fit (part ∷ parts) n =
    let next = λ (x : PassRecord). x.next in
    let passes : sum_by next (flat_map (passes_at p) part.walks.items) ≡ 0 = ap (sum_by next) (no_walks p part.walks.items wide n.0.walks) in
    let carried = sum_none (carried_to parents p) part.carries.items (none_given parents p part.carries.items wide fit n.0.carries) in
    (omega (arith, passes, carried), gives_none parents p wide fit parts n.1)

takes_none : (p : Place) → IsWide p → (parts : List WorkerPart) → AllByRecursion IsPartNumbered parts → AllByRecursion (λ (part : WorkerPart). taken_by part p ≡ 0) parts
takes_none p wide [] n = tt
takes_none p wide (part ∷ parts) n =
    let nr = λ (x : PassRecord). x.nr in
    let passes : sum_by nr (flat_map (passes_at p) part.walks.items) ≡ 0 = ap (sum_by nr) (no_walks p part.walks.items wide n.0.walks) in
    let carried = sum_none (carried_from p) part.carries.items (none_taken p part.carries.items wide n.0.carries) in
    (omega (arith, passes, carried), takes_none p wide parts n.1)

pub none_printed : (p : Place) → IsWide p → (xs : List PlaceAmount) → AllByRecursion IsAmountNumbered xs → AllByRecursion (λ (x : PlaceAmount). amount_at p x ≡ 0) xs
none_printed p wide [] n = tt
none_printed p wide (x ∷ xs) n =
    let node = n.0.place.node in let group = n.0.place.group in
    let away = outside p x.place wide (omega (arith, node)) (omega (arith, group)) in
    (rw away refl, none_printed p wide xs n.1)

-- ---- the law

-- what words and then workers gain
gained : (w u v : Place → ℕ) (a b c : List Move) → a ≡ [] → GainsAtEach (λ p. 0) w a b → GainsAtEach u v b c → (p : Place) → IsNarrow p → (sum_up_at (deferred_key p) c ≡ u p) × (sum_down_at (deferred_key p) c ≡ w p + v p)
gained w u v a b c e f g p n =
    let x = f p n in let y = g p n in
    let xu = x.ups in let yu = y.ups in let xd = x.downs in let yd = y.downs in
    let s = empty a e in let t = empty_down a e in (omega (arith, xu, yu, s), omega (arith, xd, yd, t))
  where
    empty : (a : List Move) → a ≡ [] → sum_up_at (deferred_key p) a ≡ 0
    empty a e = rw e refl

    empty_down : (a : List Move) → a ≡ [] → sum_down_at (deferred_key p) a ≡ 0
    empty_down a e = rw e refl

-- the same at each place, and at each of narrow numbers
widened : (parents : List ℕ) (r : Report) → IsWellFormed r → HasNumbers r → EachItem (λ n. n < 2 ^ 16) parents
    → ((p : Place) → IsNarrow p → sum_at p r.deferred.items ≡ deferred_word (sum_by (λ (part : WorkerPart). given_by_worker parents part p) r.workers.items) (sum_by (λ (part : WorkerPart). taken_by part p) r.workers.items)) → AreWordsRight parents r
widened parents r well numbers fit law p = sym (found_sum r.deferred.items p well.deferred well.deferred_order) ∙ by_width (narrow_or_wide p) ∙ sym (rw (given_all parents r.workers.items p, taken_all r.workers.items p) refl)
  where
    by_width : IsNarrow p ⊎ IsWide p → sum_at p r.deferred.items ≡ deferred_word (sum_by (λ (part : WorkerPart). given_by_worker parents part p) r.workers.items) (sum_by (λ (part : WorkerPart). taken_by part p) r.workers.items)
    by_width (inl n) = law p n
    by_width (inr wide) =
        let printed = sum_none (amount_at p) r.deferred.items (none_printed p wide r.deferred.items numbers.deferred) in
        let given = sum_none (λ (part : WorkerPart). given_by_worker parents part p) r.workers.items (gives_none parents p wide fit r.workers.items numbers.workers) in
        let taken = sum_none (λ (part : WorkerPart). taken_by part p) r.workers.items (takes_none p wide r.workers.items numbers.workers) in
        printed ∙ sym (rw (given, taken) refl)

narrowed : (parents : List ℕ) (r : Report) → IsWellFormed r → AreWordsRight parents r → (p : Place) → IsNarrow p
    → sum_at p r.deferred.items ≡ deferred_word (sum_by (λ (part : WorkerPart). given_by_worker parents part p) r.workers.items) (sum_by (λ (part : WorkerPart). taken_by part p) r.workers.items)
narrowed parents r well law p n = found_sum r.deferred.items p well.deferred well.deferred_order ∙ law p ∙ rw (given_all parents r.workers.items p, taken_all r.workers.items p) refl

-- the moves of words and workers settle where each printed word is right, and nowhere else
pub words_decided : (parents : List ℕ) (r : Report) (words : List PlaceAmount) (parts : List WorkerPart) (a b c : List Move) (t : Bool) → IsWellFormed r → HasNumbers r → EachItem (λ n. n < 2 ^ 16) parents → words ≡ r.deferred.items → parts ≡ r.workers.items
    → a ≡ [] → GainsAtEach (λ p. 0) (λ p. sum_at p words) a b → GainsAtEach (λ p. sum_by (λ (part : WorkerPart). given_by_worker parents part p) parts) (λ p. sum_by (λ (part : WorkerPart). taken_by part p) parts) b c → ((t ≡ true) ↔ IsSettled c) → Decides t (AreWordsRight parents r)
words_decided parents r words parts a b c t well numbers fit words_are parts_are none f g settled =
    let f' : GainsAtEach (λ p. 0) (λ p. sum_at p r.deferred.items) a b = subst (λ (xs : List PlaceAmount). GainsAtEach (λ p. 0) (λ p. sum_at p xs) a b) words_are f in
    let g' : GainsAtEach (λ p. sum_by (λ (part : WorkerPart). given_by_worker parents part p) r.workers.items) (λ p. sum_by (λ (part : WorkerPart). taken_by part p) r.workers.items) b c =
    subst (λ (xs : List WorkerPart). GainsAtEach (λ p. sum_by (λ (part : WorkerPart). given_by_worker parents part p) xs) (λ p. sum_by (λ (part : WorkerPart). taken_by part p) xs) b c) parts_are g in
    Decides-like t (widened parents r well numbers fit) (narrowed parents r well)
    (words_law (λ p. sum_at p r.deferred.items) (λ p. sum_by (λ (part : WorkerPart). given_by_worker parents part p) r.workers.items) (λ p. sum_by (λ (part : WorkerPart). taken_by part p) r.workers.items) c t (λ p. small_sum r.deferred.items p well.deferred well.deferred_order)
    (gained (λ p. sum_at p r.deferred.items) (λ p. sum_by (λ (part : WorkerPart). given_by_worker parents part p) r.workers.items) (λ p. sum_by (λ (part : WorkerPart). taken_by part p) r.workers.items) a b c none f' g') settled)
