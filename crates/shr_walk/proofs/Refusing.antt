-- SPDX-License-Identifier: GPL-2.0-only
-- The group that refuses a charge is one of the charged group's path.
use Rattle.shr_walk.proofs.ChargingCommon.{◌≡◌, ℕ, zero, suc, ◌+◌, ◌<◌, ◌≤◌, Bool, true, false, cond, List, [], ◌∷◌, ◌++◌, length, map, refl, sym, ap, subst, ◌∙◌, inl, inr, arith, ◌==◌, Serial, UseStep, IsTree, IsAtOrAbove, path_of, Shape, use_group, path_to, ◌≢◌, eq-eqb, ne_eqb, parent_of, IsChargeRefused}
use Rattle.std.proofs.lemmas.Bool.Decides.{eqb_tells}
use Rattle.shr_model.proofs.GroupsLaws.{path_of-below}
use Rattle.shr_model.proofs.GroupsOrder.{IsOn, by_parents, on_self, on_le}
use Rattle.shr_model.proofs.Members.{Has, Contains_from_Has, Has_last}
use Rattle.shr_charge.proofs.Ways.{way_here, way_root, way_up}
use Rattle.shr_walk.proofs.Netting.{count_first, times_of}

module _ (parents : List ℕ) (tree : IsTree parents) where
  -- each group of the part of a path is of the path
  way_on : (last h g : ℕ) → g < length parents → Has (path_to parents g last) h → IsOn parents h g
  way_on last h g there = by_parents parents tree (λ b. Has (path_to parents b last) h → IsOn parents h b)
      (λ has. elim (subst (λ (l : List ℕ). Has l h) (way_root parents last) has) as (λ _. IsOn parents h 0) [ inl e ↦ subst (λ (b : ℕ). IsOn parents b 0) e (on_self parents tree 0 tree.has_root) | inr none ↦ absurd none ])
      (λ b above low before has. elim (eqb_tells b last) as (λ _. IsOn parents h b) [
        | inl same ↦ elim (subst (λ (l : List ℕ). Has l h) (ap (path_to parents b) (sym same.1) ∙ way_here parents b) has) as (λ _. IsOn parents h b)
            [ inl e ↦ subst (λ (c : ℕ). IsOn parents c b) e (on_self parents tree b low) | inr none ↦ absurd none ]
        | inr other ↦ elim (subst (λ (l : List ℕ). Has l h) (way_up parents tree b last other.1 above low) has) as (λ _. IsOn parents h b)
            [ inl e ↦ subst (λ (c : ℕ). IsOn parents c b) e (on_self parents tree b low) | inr up ↦ subst (λ (l : List ℕ). Has l h) (sym (path_of-below parents tree b above low)) (inr (before up)) ]
      ]) g there

-- the group that refused is on the path of the group that was to be charged
pub refused_on : (k : Shape) (by : Serial) (group level number usage : ℕ) (ops : List UseStep) → IsTree k.parents.items → group < length k.parents.items → IsChargeRefused k by group level number usage ops → IsOn k.parents.items level group
refused_on k by group level number usage ops tree there r = way_on k.parents.items tree level level group there
    (subst (λ (l : List ℕ). Has l level) r.levels (subst (λ (g : ℕ). Has (map use_group r.ups ++ g ∷ []) level) (sym r.here) (Has_last (map use_group r.ups) level)))

pub refused_above : (k : Shape) (by : Serial) (group level number usage : ℕ) (ops : List UseStep) → IsTree k.parents.items → group < length k.parents.items → IsChargeRefused k by group level number usage ops → IsAtOrAbove k.parents.items level group
refused_above k by group level number usage ops tree there r = Contains_from_Has (path_of k.parents.items group) level (refused_on k by group level number usage ops tree there r)

-- ---- a group stands once on its way

times_none : (g : ℕ) (xs : List ℕ) → ((h : ℕ) → Has xs h → h ≢ g) → times_of g xs ≡ 0
times_none g [] f = refl
times_none g (x ∷ xs) f = let first = count_first (λ j. j == g) x xs in let one : ◌≡◌ {A = ℕ} (cond (x == g) 1 0) 0 = ap (λ (b : Bool). cond b 1 0) (ne_eqb x g (f x (inl refl))) in
    let others = times_none g xs (λ h has. f h (inr has)) in omega (arith, first, one, others)

pub way_once : (parents : List ℕ) → IsTree parents → (last g : ℕ) → g < length parents → times_of g (path_to parents g last) ≡ 1
way_once parents tree last zero there = ap (times_of 0) (way_root parents last)
way_once parents tree last (suc n) there = let g : ℕ = suc n in let above : 0 < suc n = omega arith in
    elim (eqb_tells (suc n) last) as (λ _. times_of (suc n) (path_to parents (suc n) last) ≡ 1) [
      | inl same ↦ ap (times_of (suc n)) (ap (path_to parents (suc n)) (sym same.1) ∙ way_here parents (suc n)) ∙ ap (λ (b : Bool). 0 + cond b 1 0) (eq-eqb (suc n) (suc n) refl)
      | inr other ↦ let way = way_up parents tree (suc n) last other.1 above there in let low = tree.lower (suc n) above there in
          let up : parent_of parents (suc n) < length parents = omega (arith, low, there) in
          let first = count_first (λ j. j == suc n) (suc n) (path_to parents (parent_of parents (suc n)) last) in
          let one : ◌≡◌ {A = ℕ} (cond (suc n == suc n) 1 0) 1 = ap (λ (b : Bool). cond b 1 0) (eq-eqb (suc n) (suc n) refl) in
          let none = times_none (suc n) (path_to parents (parent_of parents (suc n)) last) (λ h has same. let le = on_le parents tree h (parent_of parents (suc n)) up (way_on parents tree last h (parent_of parents (suc n)) up has) in omega (arith, le, low, same)) in
          let whole = ap (times_of (suc n)) way in omega (arith, whole, first, one, none)
    ]

one_at_most : (b : Bool) → ◌≤◌ (cond {A = ℕ} b 1 0) 1
one_at_most true = omega arith
one_at_most false = omega arith

-- each other group stands there at most once
pub way_few : (parents : List ℕ) → IsTree parents → (last h g : ℕ) → g < length parents → times_of h (path_to parents g last) ≤ 1
way_few parents tree last h g there = by_parents parents tree (λ b. times_of h (path_to parents b last) ≤ 1)
    (let way = ap (times_of h) (way_root parents last) in let one = one_at_most (0 == h) in omega (arith, way, one))
    (λ b above low before. elim (eqb_tells b last) as (λ _. times_of h (path_to parents b last) ≤ 1) [
      | inl same ↦ let way = ap (times_of h) (ap (path_to parents b) (sym same.1) ∙ way_here parents b) in let one = one_at_most (b == h) in omega (arith, way, one)
      | inr other ↦ let way = ap (times_of h) (way_up parents tree b last other.1 above low) in let first = count_first (λ j. j == h) b (path_to parents (parent_of parents b) last) in
          elim (eqb_tells b h) as (λ _. times_of h (path_to parents b last) ≤ 1) [
            | inl here ↦ let once = way_once parents tree last b low in let is = subst (λ (j : ℕ). times_of j (path_to parents b last) ≡ 1) here.1 once in omega (arith, is)
            | inr there ↦ let none : ◌≡◌ {A = ℕ} (cond (b == h) 1 0) 0 = ap (λ (t : Bool). cond t 1 0) there.0 in omega (arith, way, first, none, before)
          ]
    ]) g there
