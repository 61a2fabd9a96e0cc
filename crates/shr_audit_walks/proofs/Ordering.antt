-- SPDX-License-Identifier: GPL-2.0-only
-- The preorders of groups, from the last group up.
use Rattle.shr_audit_walks.proofs.RoundsCommon.{◌≡◌, ◌⊎◌, ℕ, zero, suc, ◌+◌, ◌-◌, ◌<◌, ◌≤◌, Bool, true, false, cond, List, [], ◌∷◌, ◌++◌, length, get_or, filter, flat_map, Some, refl, sym, ap, subst, ◌∙◌, inl, inr, arith, Global, slice_get, Vec, range_with_len, cases_Bool, append-nil, length-append, flat_map-append, filter-append, slice_get_within, IsTree, parent_of, preorder_of, preorder_of-group, AreOrdersFrom, slice_get-get_or, is_child, child_again, child_higher, child_takes, some_injective}
use Rattle.shr_audit_walks.specs.Orders.{subtrees_of}
use Rattle.shr_audit_formed.proofs.Strip.{range_more}

clash : (b : Bool) → b ≡ true → b ≡ false → ⊥
clash b e f = cc

module _ (parents : List ℕ) (group : ℕ) where
  -- the preorders of the children of a group with lower numbers than this
  abbrev pub below : ℕ → List ℕ
  below n = flat_map (preorder_of parents) (filter (is_child parents group) (range_with_len 0 n))

  step : (n : ℕ) → below (n + 1) ≡ below n ++ flat_map (preorder_of parents) (cond (is_child parents group n) (n ∷ []) [])
  step n =
      ap (λ (xs : List ℕ). flat_map (preorder_of parents) (filter (is_child parents group) xs)) (range_more 0 n n (omega arith))
      ∙ ap (flat_map (preorder_of parents)) (filter-append (is_child parents group) (range_with_len 0 n) (n ∷ []))
      ∙ flat_map-append (preorder_of parents) (filter (is_child parents group) (range_with_len 0 n)) (cond (is_child parents group n) (n ∷ []) [])

  pub one_child : (n : ℕ) → is_child parents group n ≡ true → below (n + 1) ≡ below n ++ preorder_of parents n
  one_child n is = step n ∙ ap (λ (b : Bool). below n ++ flat_map (preorder_of parents) (cond b (n ∷ []) [])) is ∙ ap (λ (xs : List ℕ). below n ++ xs) (append-nil (preorder_of parents n))

  pub no_child : (n : ℕ) → is_child parents group n ≡ false → below (n + 1) ≡ below n
  no_child n isnt = step n ∙ ap (λ (b : Bool). below n ++ flat_map (preorder_of parents) (cond b (n ∷ []) [])) isnt ∙ append-nil (below n)

  -- no child stands before its parent
  pub none_before : IsTree parents → (n : ℕ) → n ≤ group + 1 → below n ≡ []
  none_before tree zero le = refl
  none_before tree (suc n) le =
      let more : suc n ≡ n + 1 = omega arith in
      ap below more ∙ no_child n (by (cases_Bool (is_child parents group n))) ∙ none_before tree n (omega arith)
    where
      by : ((is_child parents group n ≡ true) ⊎ (is_child parents group n ≡ false)) → is_child parents group n ≡ false
      by (inl t) = absurd (let l = child_higher parents group n tree (child_takes parents group n t) in omega (arith, l, le))
      by (inr f) = f

  pub is_one : (n : ℕ) → group < n → n < length parents → parent_of parents n ≡ group → is_child parents group n ≡ true
  is_one n above there e = child_again parents group n (record { above = omega arith; there = there; parent = e })

  pub is_none : (n : ℕ) → (parent_of parents n ≡ group → ⊥) → is_child parents group n ≡ false
  is_none n ne = by (cases_Bool (is_child parents group n))
    where
      by : ((is_child parents group n ≡ true) ⊎ (is_child parents group n ≡ false)) → is_child parents group n ≡ false
      by (inl t) = absurd (ne (child_takes parents group n t).parent)
      by (inr f) = f

-- ---- the orders from a group on

at_end : {X : Type 0} (xs : List X) (x : X) (n : ℕ) (y : X) → slice_get (xs ++ x ∷ []) n ≡ Some y → (n < length xs × (slice_get xs n ≡ Some y)) ⊎ ((n ≡ length xs) × (x ≡ y))
at_end [] x zero y e = inr (refl, some_injective x y e)
at_end [] x (suc n) y e = absurd (let lt = slice_get_within (x ∷ []) (suc n) y e in omega (arith, lt))
at_end (z ∷ zs) x zero y e = inl (omega arith, e)
at_end (z ∷ zs) x (suc n) y e = elim (at_end zs x n y e) [
  | inl h ↦ inl (let lt = h.0 in omega (arith, lt), h.1)
  | inr h ↦ inr (ap suc h.0, h.1)
]

pub no_orders : (parents : List ℕ) → AreOrdersFrom parents (length parents) []
no_orders parents = record { many = omega arith; each = λ g v lt e. absurd (let l = slice_get_within [] (length parents - 1 - g) v e in omega (arith, l)) }

pub order_more : (parents : List ℕ) (group : ℕ) (orders : List (Vec ℕ Global)) (order : Vec ℕ Global) → AreOrdersFrom parents (group + 1) orders → order.items ≡ preorder_of parents group → AreOrdersFrom parents group (orders ++ order ∷ [])
order_more parents group orders order before is =
    let n = before.many in
    let long = length-append orders (order ∷ []) in
    record {
      many = omega (arith, n, long);
      each = λ g v lt e. elim (at_end orders order (length parents - 1 - g) v e) [
        | inl h ↦ before.each g v lt h.1
        | inr h ↦ let at = h.0 in let same : g ≡ group = omega (arith, n, at, lt) in subst (λ (o : Vec ℕ Global). o.items ≡ preorder_of parents g) h.1 (is ∙ ap (preorder_of parents) (sym same))
      ];
    }

pub order_at : (parents : List ℕ) (group g : ℕ) (orders : List (Vec ℕ Global)) (v : Vec ℕ Global) → AreOrdersFrom parents group orders → g < length parents → length parents - 1 - g < length orders → v ≡ get_or orders (length parents - 1 - g) v → v.items ≡ preorder_of parents g
order_at parents group g orders v are lt within is = are.each g v lt (slice_get-get_or orders (length parents - 1 - g) v within ∙ ap (λ (o : Vec ℕ Global). Some o) (sym is))

pub whole_order : (parents : List ℕ) (group : ℕ) (first all : List ℕ) → IsTree parents → group < length parents → first ≡ group ∷ [] → all ≡ first ++ subtrees_of parents group → all ≡ preorder_of parents group
whole_order parents group first all tree lt f e = e ∙ ap (λ (xs : List ℕ). xs ++ subtrees_of parents group) f ∙ sym (preorder_of-group parents tree group lt)

-- a group below the root, and one below it
pub small_tree : IsTree (0 ∷ 0 ∷ 1 ∷ [])
small_tree = record { has_root = omega arith; root = refl; lower = by }
  where
    by : (group : ℕ) → 0 < group → group < 3 → parent_of (0 ∷ 0 ∷ 1 ∷ []) group < group
    by zero some lt = absurd (omega arith)
    by (suc zero) some lt = omega arith
    by (suc (suc zero)) some lt = omega arith
    by (suc (suc (suc n))) some lt = absurd (omega arith)
