-- SPDX-License-Identifier: GPL-2.0-only
-- Moves that are added one after another.
use Rattle.shr_audit_case.proofs.SumsCommon.{◌≡◌, ℕ, ◌+◌, ◌<◌, Bool, true, false, cond, List, [], ◌∷◌, length, get_or, take, drop, refl, sym, ap, ◌∙◌, arith, ◌≤◌, sum_by, flat_map, sum_by_more, sum_by-cons, Place, PassRecord, WalkRecord, Carry, ◌&&◌, ◌==◌, is_place, nat_tests, passes_at, Move, IsNarrow, GainsAt, GainsAtEach, ◌++◌, Option, Some, None, subst, ◌⊎◌, filter, filter_map, sum_by_push, sum_by-append, nat_lt, is_below, at_group, place_in}
use Rattle.std.specs.List.{cons_option}
use Rattle.std.proofs.lemmas.List.{take_all}
use Rattle.shr_base.specs.Walks.{Attempt}
use Rattle.shr_model.specs.Groups.{parent_of}
use Rattle.shr_model.specs.Attempts.{pass_of}

pub gains_none : (ms : List Move) → GainsAtEach (λ p. 0) (λ p. 0) ms ms
gains_none ms p n = record { ups = omega arith; downs = omega arith }

pub gains_more : (u v u' v' u'' v'' : Place → ℕ) (a b c : List Move) → GainsAtEach u v a b → GainsAtEach u' v' b c → ((p : Place) → u'' p ≡ u p + u' p) → ((p : Place) → v'' p ≡ v p + v' p) → GainsAtEach u'' v'' a c
gains_more u v u' v' u'' v'' a b c g h e f p n =
    let x = g p n in let y = h p n in let up = e p in let down = f p in
    let xu = x.ups in let yu = y.ups in let xd = x.downs in let yd = y.downs in
    record { ups = omega (arith, xu, yu, up); downs = omega (arith, xd, yd, down) }

-- what a field of a pass says, and 0 where there is none
abbrev pub part : (PassRecord → ℕ) → Option PassRecord → ℕ
part f None = 0
part f (Some x) = f x

-- what an attempt of a walk gives at a place
abbrev pub part_at : (PassRecord → ℕ) → Place → WalkRecord → Attempt → ℕ
part_at f p w a = cond (is_place p (place_in w a.id)) (part f (pass_of a.outcome)) 0

one : (f : PassRecord → ℕ) (x : Option PassRecord) (rest : List PassRecord) → sum_by f (cons_option x rest) ≡ part f x + sum_by f rest
one f None rest = omega arith
one f (Some x) rest = sum_by-cons f x rest

passes_in : Place → WalkRecord → List Attempt → List PassRecord
passes_in p w xs = filter_map (λ (a : Attempt). pass_of a.outcome) (filter (λ (a : Attempt). is_place p (place_in w a.id)) xs)

at_one : (f : PassRecord → ℕ) (p : Place) (w : WalkRecord) (a : Attempt) (xs : List Attempt) (t : Bool) → is_place p (place_in w a.id) ≡ t → sum_by f (passes_in p w (a ∷ xs)) ≡ part_at f p w a + sum_by f (passes_in p w xs)
unfolding passes_in
at_one f p w a xs true e = rw e (one f (pass_of a.outcome) (passes_in p w xs))
at_one f p w a xs false e = rw e (omega arith)

sums : (f : PassRecord → ℕ) (p : Place) (w : WalkRecord) (xs : List Attempt) → sum_by f (passes_in p w xs) ≡ sum_by (part_at f p w) xs
unfolding passes_in
sums f p w [] = refl
sums f p w (a ∷ xs) = let here = at_one f p w a xs (is_place p (place_in w a.id)) refl in let more = sums f p w xs in let sum = sum_by-cons (part_at f p w) a xs in unfold passes_in in omega (arith, here, more, sum)

-- the passes of a walk at a place, attempt by attempt
pub walk_sum : (f : PassRecord → ℕ) (p : Place) (w : WalkRecord) → sum_by f (passes_at p w) ≡ sum_by (part_at f p w) w.attempts.items
unfolding passes_in
walk_sum f p w = sums f p w w.attempts.items

pub no_up : (b : Bool) → 0 ≡ 0 + cond b 0 0
no_up true = refl
no_up false = refl

pub gains_as : (u v u' v' : Place → ℕ) (a b : List Move) → GainsAtEach u v a b → ((p : Place) → u' p ≡ u p) → ((p : Place) → v' p ≡ v p) → GainsAtEach u' v' a b
gains_as u v u' v' a b g e f p n = let x = g p n in let up = e p in let down = f p in let xu = x.ups in let xd = x.downs in record { ups = omega (arith, xu, up); downs = omega (arith, xd, down) }

-- all attempts of a walk
pub walk_all : (f : PassRecord → ℕ) (p : Place) (w : WalkRecord) (i : ℕ) → length w.attempts.items ≤ i → sum_by f (passes_at p w) ≡ sum_by (part_at f p w) (take i w.attempts.items)
walk_all f p w i le = walk_sum f p w ∙ ap (sum_by (part_at f p w)) (sym (take_all i w.attempts.items le))

-- a child's carry goes to the place of its parent
pub to_parent : (parents : List ℕ) (p child : Place) → 0 < child.group → child.group < length parents → is_below parents p child ≡ is_place p (at_group child (parent_of parents child.group))
to_parent parents p child low high = let a : nat_lt 0 child.group ≡ true = grind (arith, nat_tests) in let b : nat_lt child.group (length parents) ≡ true = grind (arith, nat_tests) in
    rw (a, b) (swapped (child.id) p.id child.node p.node (parent_of parents child.group) p.group)
  where
    flip : (a b : ℕ) → (a == b) ≡ (b == a)
    flip a b = grind (arith, nat_tests)

    swapped : (a b c d e f : ℕ) → ((a == b) && (c == d) && (e == f)) ≡ ((b == a) && (d == c) && (f == e))
    swapped a b c d e f = rw (flip a b, flip c d, flip e f) refl

pub to_none : (parents : List ℕ) (p child : Place) → (child.group ≡ 0) ⊎ (length parents ≤ child.group) → is_below parents p child ≡ false
to_none parents p child h = grind (arith, nat_tests, h)

pub walks_all : (f : PassRecord → ℕ) (p : Place) (ws : List WalkRecord) (i : ℕ) → length ws ≤ i → sum_by f (flat_map (passes_at p) ws) ≡ sum_by f (flat_map (passes_at p) (take i ws))
walks_all f p ws i le = ap (λ (x : List WalkRecord). sum_by f (flat_map (passes_at p) x)) (sym (take_all i ws le))
