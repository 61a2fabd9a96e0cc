-- SPDX-License-Identifier: GPL-2.0-only
-- Splitting the first seat and joining another into it keep the rule of seats, which tells what is
-- left once all are joined.
use Rattle.shr_seats.proofs.Common.{◌≡◌, ℕ, ◌+◌, ◌≢◌, Bool, true, false, cond, List, [], ◌∷◌, ◌++◌, map, length, set, sym, refl, ap, subst, ◌∙◌, ⊎_elim, arith, sum_by, count_by, some, some-ne-none, get_elem?, at_map, at_set, Each, Standing, at_first, at_split, with_split, with_join, is_out, IsWhole, AreSeats, AreEmptied, not, ◌&&◌, length-append, length-set, at_end}
use Rattle.std.proofs.lemmas.Bool.{cases_Bool}
use Rattle.shr_seats.proofs.Sums.{sum_by-changed, sum_by-joined, sum_by-more, sum_by-none, term_le, terms_le, Each-set, Each-push}

-- 1 for the first seat
abbrev firsts : Standing → ℕ
firsts z = cond z.first 1 0

-- 1 for a seat that is out
abbrev outs : Standing → ℕ
outs z = cond (is_out z) 1 0

true_false : (b : Bool) → b ≡ true → b ≡ false → ⊥
true_false b t f = let e : true ≡ false = sym t ∙ f in cc

first_one : (z : Standing) → z.first ≡ true → firsts z ≡ 1
first_one z e = ap (λ b. cond b 1 0) e

later_none : (z : Standing) → z.first ≡ false → firsts z ≡ 0
later_none z e = ap (λ b. cond b 1 0) e

first_none : (z : Standing) → firsts z ≡ 0 → z.first ≡ false
first_none z e = ⊎_elim (λ t. absurd (omega (arith, first_one z t, e))) (λ f. f) (cases_Bool z.first)

first_out : (z : Standing) → z.first ≡ true → outs z ≡ 0
first_out z e = ap (λ b. cond (not b && not z.gone) 1 0) e

later_out : (z : Standing) → z.first ≡ false → z.gone ≡ false → outs z ≡ 1
later_out z e g = ap (λ b. cond (not b && not z.gone) 1 0) e ∙ ap (λ b. cond (not b) 1 0) g

-- no other seat is the first
pub others : (zs : List Standing) (id j : ℕ) (z x : Standing) → AreSeats zs → get_elem? zs id ≡ some z → z.first ≡ true → j ≢ id → get_elem? zs j ≡ some x → x.first ≡ false
others zs id j z x o at is apart there = first_none x (omega (arith, o.one_first, terms_le firsts zs id j z x apart at there, first_one z is))

-- what is so of the changed first seat is so of each first seat
only_first : (P : Standing → Type 0) (zs : List Standing) (id : ℕ) (z w : Standing) → AreSeats zs → get_elem? zs id ≡ some z → z.first ≡ true → P w → Each (λ x. x.first ≡ true → P x) (set zs id w)
only_first P zs id z w o at is p j x e first = ⊎_elim
    (λ (g : (j ≡ id) × (w ≡ x)). subst P g.1 p)
    (λ (g : (j ≢ id) × (get_elem? zs j ≡ some x)). absurd (true_false x.first first (others zs id j z x o at is g.0 g.1)))
    (at_set zs id j w x e)

-- the one seat of a new table
pub AreSeats-first : AreSeats (at_first ∷ [])
AreSeats-first = record {
  one_first = refl;
  out = Each-push (λ x. x.first ≡ true → count_by is_out (at_first ∷ []) + x.joins ≡ x.splits) [] at_first (λ _. refl) (λ j x e is. absurd (some-ne-none x (sym e)));
  number = Each-push (λ x. x.first ≡ true → length (at_first ∷ []) ≡ 1 + x.splits) [] at_first (λ _. refl) (λ j x e is. absurd (some-ne-none x (sym e)));
}

-- the standings are in order after a split of the first seat
pub AreSeats-split : (zs : List Standing) (id : ℕ) (z : Standing) → get_elem? zs id ≡ some z → z.first ≡ true → AreSeats zs → AreSeats (set zs id (with_split z) ++ at_split ∷ [])
AreSeats-split zs id z at is o = let w : Standing = with_split z in let l : List Standing = set zs id w ++ at_split ∷ [] in
    let was = o.out id z at is in let many = o.number id z at is in record {
      one_first = omega (arith, o.one_first, sum_by-more firsts (set zs id w) at_split, sum_by-changed firsts zs id z w at);
      out = Each-push (λ x. x.first ≡ true → count_by is_out l + x.joins ≡ x.splits) (set zs id w) at_split (λ t. absurd (true_false at_split.first t refl))
          (only_first (λ x. count_by is_out l + x.joins ≡ x.splits) zs id z w o at is (omega (arith, sum_by-more outs (set zs id w) at_split, sum_by-changed outs zs id z w at, was)));
      number = Each-push (λ x. x.first ≡ true → length l ≡ 1 + x.splits) (set zs id w) at_split (λ t. absurd (true_false at_split.first t refl))
          (only_first (λ x. length l ≡ 1 + x.splits) zs id z w o at is (omega (arith, length-append (set zs id w) (at_split ∷ []), length-set zs id w, many)));
    }

-- and after another seat is joined into it
pub AreSeats-join : (zs : List Standing) (id other : ℕ) (z u : Standing) → get_elem? zs id ≡ some z → other ≢ id → get_elem? zs other ≡ some u → z.first ≡ true → u.gone ≡ false → AreSeats zs
    → AreSeats (set (set zs id (with_join z)) other at_end)
AreSeats-join zs id other z u at apart them is here o = let w : Standing = with_join z in let l : List Standing = set (set zs id w) other at_end in
    let later = others zs id other z u o at is apart them in
    let was = o.out id z at is in let many = o.number id z at is in record {
      one_first = omega (arith, o.one_first, sum_by-joined firsts zs id other z u w at_end at apart them, later_none u later);
      out = Each-set (λ x. x.first ≡ true → count_by is_out l + x.joins ≡ x.splits) (set zs id w) other at_end (λ t. absurd (true_false at_end.first t refl))
          (only_first (λ x. count_by is_out l + x.joins ≡ x.splits) zs id z w o at is (omega (arith, sum_by-joined outs zs id other z u w at_end at apart them, first_out z is, first_out w is, later_out u later here, was)));
      number = Each-set (λ x. x.first ≡ true → length l ≡ 1 + x.splits) (set zs id w) other at_end (λ t. absurd (true_false at_end.first t refl))
          (only_first (λ x. length l ≡ 1 + x.splits) zs id z w o at is (omega (arith, length-set (set zs id w) other at_end, length-set zs id w, many)));
    }

-- once all others are joined, only the first seat's view has anything
pub sole : {V : Type 0} (standing : V → Standing) (spent : V) (views : List V) (id : ℕ) (v : V) → get_elem? views id ≡ some v → (standing v).first ≡ true → IsWhole (standing v) → AreSeats (map standing views) → AreEmptied standing spent views
    → (j : ℕ) (x : V) → j ≢ id → get_elem? views j ≡ some x → x ≡ spent
sole standing spent views id v me is whole o emptied j x apart there = let zs : List Standing = map standing views in
    let mine = at_map standing views id v me in let theirs = at_map standing views j x there in
    let later = others zs id j (standing v) (standing x) o mine is apart theirs in
    let weight = term_le outs zs j (standing x) theirs in let was = o.out id (standing v) mine is in
    emptied j x there (⊎_elim (λ t. t) (λ f. absurd (omega (arith, weight, was, whole, later_out (standing x) later f))) (cases_Bool (standing x).gone))

-- a seat that is here is not gone
pub not_gone : (z : Standing) → z.gone ≡ false → z.gone ≡ true → ⊥
not_gone z f t = true_false z.gone t f

-- so a sum over the views is the first one's share
pub sum_by-sole : {V : Type 0} (standing : V → Standing) (spent : V) (views : List V) (id : ℕ) (v : V) → get_elem? views id ≡ some v → (standing v).first ≡ true → IsWhole (standing v) → AreSeats (map standing views) → AreEmptied standing spent views
    → (f : V → ℕ) → f spent ≡ 0 → sum_by f views ≡ f v
sum_by-sole standing spent views id v me is whole o emptied f none-spent = let rest : sum_by f (set views id spent) ≡ 0 = sum_by-none f (set views id spent) (λ j x e. ⊎_elim
    (λ (g : (j ≡ id) × (spent ≡ x)). ap f (sym g.1) ∙ none-spent)
    (λ (g : (j ≢ id) × (get_elem? views j ≡ some x)). ap f (sole standing spent views id v me is whole o emptied j x g.0 g.1) ∙ none-spent)
    (at_set views id j spent x e)) in
    omega (arith, sum_by-changed f views id v spent me, rest, none-spent)
