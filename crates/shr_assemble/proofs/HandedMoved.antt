-- SPDX-License-Identifier: GPL-2.0-only
-- What splicing all lists of a group moved is the sum over the entries that were made.
use Rattle.shr_assemble.proofs.Common.{◌≡◌, ℕ, suc, ◌+◌, ◌<◌, Bool, true, false, cond, List, [], ◌∷◌, length, map, refl, ap, arith, ne_eqb, ◌==◌, All, AllPairs, sum_by, slice_index_or, eqb-true, total, total-append, View, Shape, Made, Closing, made_by_closings, AreSpliced, moved_of, sum_total, IsSpliced, moved_from_group, place_by_number}
use Rattle.shr_assemble.proofs.QuietSplices.{IsSplicedTo}

-- how much an entry moved in from a group
abbrev pub moved_by : ℕ → Made → ℕ
moved_by group m = moved_of group m.entry

module _ (parents : List ℕ) (id node group : ℕ) where
  abbrev one_of : Closing → ℕ
  one_of c = cond (c.child == group) (length c.items) 0

  made_weigh : (cs : List Closing) → total (moved_by group) (made_by_closings parents id node cs) ≡ total one_of cs
  made_weigh [] = refl
  made_weigh (c ∷ cs) = let r = made_weigh cs in omega (arith, r)

  none_below : (cs : List Closing) → All (λ (c : Closing). c.child < group) cs → total one_of cs ≡ 0
  none_below [] h = refl
  none_below (c ∷ cs) h = let r = none_below cs (λ j d lt. h (suc j) d (omega (arith, lt))) in
      let low : c.child < group = h 0 c (omega arith) in
      let not : (c.child == group) ≡ false = ne_eqb c.child group (λ e. omega (arith, low, e)) in
      let none : one_of c ≡ 0 = ap (λ (b : Bool). cond b (length c.items) 0) not in omega (arith, r, none)

  -- each child was closed once
  once : (cs : List Closing) → AllPairs (λ (a b : Closing). b.child < a.child) cs → total one_of cs ≡ moved_from_group group cs
  once [] h = refl
  once (c ∷ cs) h = by_test (once cs (λ i j d lt within. h (suc i) (suc j) d (omega (arith, lt)) (omega (arith, within)))) (c.child == group) refl where
    by_test : total one_of cs ≡ moved_from_group group cs → (b : Bool) → (c.child == group) ≡ b → cond b (length c.items) 0 + total one_of cs ≡ cond b (length c.items) (moved_from_group group cs)
    by_test more true e = let same : c.child ≡ group = eqb-true c.child group e in
        let r = none_below cs (λ j d lt. let f : (slice_index_or cs j d).child < c.child = h 0 (suc j) d (omega arith) (omega (arith, lt)) in omega (arith, f, same)) in omega (arith, r)
    by_test more false e = omega (arith, more)

-- what splices moved is what their entries weigh
module _ (shape : Shape) (group : ℕ) where
  moved_one : (v u : View) (id node first : ℕ) → IsSpliced shape v u id node group first → total (moved_by group) u.traces.made ≡ total (moved_by group) v.traces.made + first
  moved_one v u id node first s =
      let adds = ap (λ (l : List Made). total (moved_by group) l) s.closings.gains.adds.made in
      let both = total-append (moved_by group) v.traces.made (made_by_closings shape.parents.items id node s.cs) in
      let weigh = made_weigh shape.parents.items id node group s.cs in
      let falls = once shape.parents.items id node group s.cs s.closings.falling in
      let is = s.moved_is in omega (arith, adds, both, weigh, falls, is)

  pub moved_all : (ns : List ℕ) (moved : ℕ) (v w : View) → AreSpliced shape (map (place_by_number shape group) ns) moved v w → total (moved_by group) w.traces.made ≡ total (moved_by group) v.traces.made + moved
  moved_all [] moved v w h = let none = h.0 in let same = ap (λ (y : View). total (moved_by group) y.traces.made) h.1 in omega (arith, none, same)
  moved_all (n ∷ ns) moved v w (u, first, rest, sums, is, others) =
      let one = moved_one v u (place_by_number shape group n).id (place_by_number shape group n).node first is in let more = moved_all ns rest u w others in omega (arith, sums, one, more)

  -- so it is the sum over any entries that were added
  pub moved_sum : (parents ns : List ℕ) (moved : ℕ) (v w : View) → AreSpliced shape (map (place_by_number shape group) ns) moved v w → (sp : IsSplicedTo parents group v w) → moved ≡ sum_by (moved_by group) sp.made
  moved_sum parents ns moved v w h sp =
      let all = moved_all ns moved v w h in
      let adds = ap (λ (l : List Made). total (moved_by group) l) sp.adds.made in
      let both = total-append (moved_by group) v.traces.made sp.made in
      let is = sum_total (moved_by group) sp.made in omega (arith, all, adds, both, is)
