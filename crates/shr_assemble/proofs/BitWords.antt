-- SPDX-License-Identifier: GPL-2.0-only
-- The bit word of a place among those that a finished core prints.
use Rattle.shr_assemble.proofs.Common.{◌≡◌, ℕ, zero, suc, ◌<◌, Bool, true, false, ◌&&◌, cond, List, [], ◌∷◌, ◌++◌, refl, ap, subst, ◌∙◌, arith, eqb, eq-eqb, ne_eqb, find, Option, Some, None, eqb-true, dite, ℕ_discrete, MapEnd, Place, unit_of, map_number, has_bit, find_back}
use Rattle.std.proofs.lemmas.List.Folds.{find-append}
use Rattle.shr_core.specs.Ending.{units_below, groups_below, nodes_below}
use Rattle.shr_model.proofs.Booleans.{both_and}

-- what is found in front stays found, and where nothing is, the rest is searched
found_front : {A : Type 0} (p : A → Bool) (xs ys : List A) (x : A) → find p xs ≡ Some x → find p (xs ++ ys) ≡ Some x
found_front p xs ys x some = rw (find-append p xs ys, some) refl

both_none : {A : Type 0} (p : A → Bool) (xs ys : List A) → find p xs ≡ None → find p ys ≡ None → find p (xs ++ ys) ≡ None
both_none p xs ys a b = find_back p xs ys a ∙ b

one_none : {A : Type 0} (p : A → Bool) (x : A) → p x ≡ false → find p (x ∷ []) ≡ None
one_none {A} p x e = ap (λ (b : Bool). cond {A = Option A} b (Some x) None) e

one_found : {A : Type 0} (p : A → Bool) (x : A) → p x ≡ true → find p (x ∷ []) ≡ Some x
one_found {A} p x e = ap (λ (b : Bool). cond {A = Option A} b (Some x) None) e

not_all : (b c d : Bool) → (b ≡ true → c ≡ true → d ≡ true → ⊥) → (b && c && d) ≡ false
not_all true true true h = absurd (h refl refl refl)
not_all b c d h = refl

module _ (bits : ℕ → ℕ) (place : Place) where
  -- the bit word of a node, a group and a unit
  abbrev word : ℕ → ℕ → ℕ → MapEnd
  word node group unit = record { node = node; group = group; unit = unit; bits = bits (map_number node group unit) }

  other : (node group unit : ℕ) → (node ≡ place.node → group ≡ place.group → unit ≡ unit_of place.id → ⊥) → has_bit place (word node group unit) ≡ false
  other node group unit never = not_all (eqb node place.node) (eqb group place.group) (eqb unit (unit_of place.id)) (λ a b c. never (eqb-true node place.node a) (eqb-true group place.group b) (eqb-true unit (unit_of place.id) c))

  own : has_bit place (word place.node place.group (unit_of place.id)) ≡ true
  own = both_and (eqb place.node place.node) (eqb place.group place.group) (eqb (unit_of place.id) (unit_of place.id)) (eq-eqb place.node place.node refl) (eq-eqb place.group place.group refl) (eq-eqb (unit_of place.id) (unit_of place.id) refl)

  none_units : (n node group : ℕ) → ((u : ℕ) → u < n → has_bit place (word node group u) ≡ false) → find (has_bit place) (units_below n node group bits) ≡ None
  unfolding units_below
  none_units zero node group never = refl
  none_units (suc n) node group never = both_none (has_bit place) (units_below n node group bits) (word node group n ∷ []) (none_units n node group (λ u lt. never u (omega (arith, lt)))) (one_none (has_bit place) (word node group n) (never n (omega arith)))

  -- the words of a group, of which the root has none
  abbrev of_group : ℕ → ℕ → ℕ → Bool → List MapEnd
  of_group units node group root = cond root [] (units_below units node group bits)

  none_group : (units node group : ℕ) (root : Bool) → ((u : ℕ) → u < units → has_bit place (word node group u) ≡ false) → find (has_bit place) (of_group units node group root) ≡ None
  none_group units node group true never = refl
  none_group units node group false never = none_units units node group never

  none_groups : (units n node : ℕ) → ((g u : ℕ) → g < n → has_bit place (word node g u) ≡ false) → find (has_bit place) (groups_below units n node bits) ≡ None
  unfolding groups_below
  none_groups units zero node never = refl
  none_groups units (suc n) node never = both_none (has_bit place) (groups_below units n node bits) (of_group units node n (eqb n 0)) (none_groups units n node (λ g u lt. never g u (omega (arith, lt)))) (none_group units node n (eqb n 0) (λ u lt. never n u (omega arith)))

  none_nodes : (units groups n : ℕ) → ((m g u : ℕ) → m < n → has_bit place (word m g u) ≡ false) → find (has_bit place) (nodes_below units groups n bits) ≡ None
  unfolding nodes_below
  none_nodes units groups zero never = refl
  none_nodes units groups (suc n) never = both_none (has_bit place) (nodes_below units groups n bits) (groups_below units groups n bits) (none_nodes units groups n (λ m g u lt. never m g u (omega (arith, lt)))) (none_groups units groups n (λ g u lt. never n g u (omega arith)))

  abbrev Finds : List MapEnd → Type 0
  Finds ms = find (has_bit place) ms ≡ Some (word place.node place.group (unit_of place.id))

  found_units : (n : ℕ) → unit_of place.id < n → Finds (units_below n place.node place.group bits)
  unfolding units_below
  found_units zero lt = absurd (omega (arith, lt))
  found_units (suc n) lt = dite (ℕ_discrete (unit_of place.id) n)
      (λ e. subst (λ (m : ℕ). Finds (units_below m place.node place.group bits ++ word place.node place.group m ∷ [])) e
      (find_back (has_bit place) (units_below (unit_of place.id) place.node place.group bits) (word place.node place.group (unit_of place.id) ∷ [])
      (none_units (unit_of place.id) place.node place.group (λ u below. other place.node place.group u (λ a b c. omega (arith, below, c))))
      ∙ one_found (has_bit place) (word place.node place.group (unit_of place.id)) own))
      (λ ne. found_front (has_bit place) (units_below n place.node place.group bits) (word place.node place.group n ∷ []) (word place.node place.group (unit_of place.id)) (found_units n (omega (arith, lt, ne))))

  found_group : (units : ℕ) (root : Bool) → root ≡ false → unit_of place.id < units → Finds (of_group units place.node place.group root)
  found_group units true e lt = absurd (let f : true ≡ false = e in cc)
  found_group units false e lt = found_units units lt

  below_root : (g : ℕ) → 0 < g → eqb g 0 ≡ false
  below_root g h = ne_eqb g 0 (λ e. omega (arith, h, e))

  found_groups : (units n : ℕ) → unit_of place.id < units → 0 < place.group → place.group < n → Finds (groups_below units n place.node bits)
  unfolding groups_below
  found_groups units zero u some lt = absurd (omega (arith, lt))
  found_groups units (suc n) u some lt = dite (ℕ_discrete place.group n)
      (λ e. subst (λ (m : ℕ). Finds (groups_below units m place.node bits ++ of_group units place.node m (eqb m 0))) e
      (find_back (has_bit place) (groups_below units place.group place.node bits) (of_group units place.node place.group (eqb place.group 0))
      (none_groups units place.group place.node (λ g v below. other place.node g v (λ a b c. omega (arith, below, b))))
      ∙ found_group units (eqb place.group 0) (below_root place.group some) u))
      (λ ne. found_front (has_bit place) (groups_below units n place.node bits) (of_group units place.node n (eqb n 0)) (word place.node place.group (unit_of place.id)) (found_groups units n u some (omega (arith, lt, ne))))

  -- the bit word of a place that is there is found
  pub found_nodes : (units groups n : ℕ) → unit_of place.id < units → 0 < place.group → place.group < groups → place.node < n → Finds (nodes_below units groups n bits)
  unfolding nodes_below
  found_nodes units groups zero u some g lt = absurd (omega (arith, lt))
  found_nodes units groups (suc n) u some g lt = dite (ℕ_discrete place.node n)
      (λ e. subst (λ (m : ℕ). Finds (nodes_below units groups m bits ++ groups_below units groups m bits)) e
      (find_back (has_bit place) (nodes_below units groups place.node bits) (groups_below units groups place.node bits)
      (none_nodes units groups place.node (λ m h v below. other m h v (λ a b c. omega (arith, below, a))))
      ∙ found_groups units groups u some g))
      (λ ne. found_front (has_bit place) (nodes_below units groups n bits) (groups_below units groups n bits) (word place.node place.group (unit_of place.id)) (found_nodes units groups n u some g (omega (arith, lt, ne))))
