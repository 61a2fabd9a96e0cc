-- SPDX-License-Identifier: GPL-2.0-only
-- The path of a group up to another, step by step.
use Rattle.shr_charge.proofs.Common.{◌≡◌, ◌≢◌, ℕ, zero, suc, ◌<◌, ◌≤◌, true, false, ◌||◌, eqb, cond, List, [], ◌∷◌, length, sym, refl, ap, ◌∙◌, ⊎_elim, arith, eq-eqb, ne_eqb, cases_Bool, eqb-true, IsTree, parent_of, path_of, depth_of, path_to}
use Rattle.shr_model.specs.Groups.{path_within}
use Rattle.shr_charge.specs.Paths.{path_to_within}
use Rattle.std.proofs.Math.Bool.{or-true}

module _ (parents : List ℕ) where
  stop_here : (n g last : ℕ) → (eqb g last || eqb g 0) ≡ true → path_to_within n parents g last ≡ g ∷ []
  unfolding path_to_within
  stop_here zero g last e = refl
  stop_here (suc n) g last e = ap (λ b. cond b (g ∷ []) (g ∷ path_to_within n parents (parent_of parents g) last)) e

  goes_on : (n g last : ℕ) → (eqb g last || eqb g 0) ≡ false → path_to_within (suc n) parents g last ≡ g ∷ path_to_within n parents (parent_of parents g) last
  unfolding path_to_within
  goes_on n g last e = ap (λ b. cond b (g ∷ []) (g ∷ path_to_within n parents (parent_of parents g) last)) e

  at_root : (g last : ℕ) → g ≡ 0 → (eqb g last || eqb g 0) ≡ true
  at_root g last e = ap (λ b. eqb g last || b) (eq-eqb g 0 e) ∙ or-true (eqb g last)

  not_root : (g last : ℕ) → (eqb g last || eqb g 0) ≡ false → 0 < g
  not_root g last e = ⊎_elim (λ (t : eqb g 0 ≡ true). absurd (let c : true ≡ false = sym (at_root g last (eqb-true g 0 t)) ∙ e in cc)) (λ (f : eqb g 0 ≡ false). let apart : g ≢ 0 = λ z. let c : true ≡ false = sym (eq-eqb g 0 z) ∙ f in cc in omega arith) (cases_Bool (eqb g 0))

  -- any number of steps from the group's own on does
  same_way : IsTree parents → (n m g last : ℕ) → g ≤ n → g ≤ m → g < length parents → path_to_within n parents g last ≡ path_to_within m parents g last
  same_way tree zero m g last a b low = let e : g ≡ 0 = omega arith in stop_here zero g last (at_root g last e) ∙ sym (stop_here m g last (at_root g last e))
  same_way tree (suc n) zero g last a b low = let e : g ≡ 0 = omega arith in stop_here (suc n) g last (at_root g last e) ∙ sym (stop_here zero g last (at_root g last e))
  same_way tree (suc n) (suc m) g last a b low = ⊎_elim
      (λ (t : (eqb g last || eqb g 0) ≡ true). stop_here (suc n) g last t ∙ sym (stop_here (suc m) g last t))
      (λ (f : (eqb g last || eqb g 0) ≡ false). let above = not_root g last f in let lower = tree.lower g above low in
      goes_on n g last f ∙ (ap (λ l. g ∷ l) (same_way tree n m (parent_of parents g) last (omega arith) (omega arith) (omega arith)) ∙ sym (goes_on m g last f)))
      (cases_Bool (eqb g last || eqb g 0))

  -- a path that ends at once
  pub way_ends : (g last : ℕ) → (g ≡ last → ⊥) → 0 < g → (eqb g last || eqb g 0) ≡ false
  way_ends g last apart above = let a = ne_eqb g last apart in let b = ne_eqb g 0 (λ z. absurd (omega arith)) in ap (λ x. x || eqb g 0) a ∙ b

  -- the path of a group to itself
  pub way_here : (g : ℕ) → path_to parents g g ≡ g ∷ []
  way_here g = stop_here g g g (ap (λ b. b || eqb g 0) (eq-eqb g g refl))

  -- the path of the root
  pub way_root : (last : ℕ) → path_to parents 0 last ≡ 0 ∷ []
  way_root last = stop_here 0 0 last (at_root 0 last refl)

  -- one step up
  pub way_up : IsTree parents → (g last : ℕ) → g ≢ last → 0 < g → g < length parents → path_to parents g last ≡ g ∷ path_to parents (parent_of parents g) last
  way_up tree g last apart above low = let lower = tree.lower g above low in let f = way_ends g last apart above in
      same_way tree g (suc g) g last (omega arith) (omega arith) low ∙ (goes_on g g last f ∙ ap (λ l. g ∷ l) (same_way tree g (parent_of parents g) (parent_of parents g) last (omega arith) (omega arith) (omega arith)))

  -- up to the root it is the whole path
  whole_within : (n g : ℕ) → path_to_within n parents g 0 ≡ path_within n parents g
  unfolding path_within path_to_within
  whole_within zero g = refl
  whole_within (suc n) g = ⊎_elim
      (λ (t : eqb g 0 ≡ true). stop_here (suc n) g 0 (at_root g 0 (eqb-true g 0 t)) ∙ (ap (λ (k : ℕ). k ∷ []) (eqb-true g 0 t) ∙ sym (ap (λ b. cond b (0 ∷ []) (g ∷ path_within n parents (parent_of parents g))) t)))
      (λ (f : eqb g 0 ≡ false). goes_on n g 0 (ap (λ b. b || b) f) ∙ (ap (λ l. g ∷ l) (whole_within n (parent_of parents g)) ∙ sym (ap (λ b. cond b (0 ∷ []) (g ∷ path_within n parents (parent_of parents g))) f)))
      (cases_Bool (eqb g 0))

  -- the path to the root is the whole path
  pub way_whole : (g : ℕ) → path_to parents g 0 ≡ path_of parents g
  way_whole g = whole_within g g

  zero_way : (g last : ℕ) → path_to_within zero parents g last ≡ g ∷ []
  unfolding path_to_within
  zero_way g last = refl

  some_within : (n g last : ℕ) → 1 ≤ length (path_to_within n parents g last)
  unfolding path_to_within
  some_within zero g last = omega arith
  some_within (suc n) g last = ⊎_elim
      (λ (t : (eqb g last || eqb g 0) ≡ true). let e = ap (length {A = ℕ}) (stop_here (suc n) g last t) in omega (arith, e))
      (λ (f : (eqb g last || eqb g 0) ≡ false). let e = ap (length {A = ℕ}) (goes_on n g last f) in omega (arith, e))
      (cases_Bool (eqb g last || eqb g 0))

  -- a path has a group
  pub way_some : (g last : ℕ) → 1 ≤ length (path_to parents g last)
  way_some g last = some_within g g last

  short_within : (n g last : ℕ) → length (path_to_within n parents g last) ≤ length (path_to_within n parents g 0)
  short_within zero g last = let a = ap (length {A = ℕ}) (zero_way g last) in let b = ap (length {A = ℕ}) (zero_way g 0) in omega (arith, a, b)
  short_within (suc n) g last = ⊎_elim
      (λ (t : (eqb g last || eqb g 0) ≡ true). let e = ap (length {A = ℕ}) (stop_here (suc n) g last t) in omega (arith, e, some_within (suc n) g 0))
      (λ (f : (eqb g last || eqb g 0) ≡ false). let e = ap (length {A = ℕ}) (goes_on n g last f) in let above = not_root g last f in let z = ne_eqb g 0 (λ h. absurd (omega arith)) in
      let d = ap (length {A = ℕ}) (goes_on n g 0 (ap (λ b. b || b) z)) in omega (arith, e, d, short_within n (parent_of parents g) last))
      (cases_Bool (eqb g last || eqb g 0))

  -- a path is at most as long as the group is deep
  pub way_short : (g last : ℕ) → length (path_to parents g last) ≤ depth_of parents g
  way_short g last = let e = ap (length {A = ℕ}) (way_whole g) in omega (arith, e, short_within g g last)
