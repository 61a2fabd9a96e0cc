-- SPDX-License-Identifier: GPL-2.0-only
-- The deferred words that are printed stand in the order of their places.
use Rattle.shr_assemble.proofs.Common.{◌≡◌, ℕ, ◌+◌, ◌*◌, ◌/◌, ◌%◌, ◌<◌, ◌≤◌, ◌^◌, ◌⊎◌, inl, inr, ⊎_elim, Bool, true, false, not, eq-eqb, List, [], ◌∷◌, length, map, sym, refl, ap, ◌∙◌, arith, filter, if◌then◌else◌, ◌==◌, AllByRecursion, AllAdjacentBelow, range_with_len, cases_order, get_or-range_with_len, length-range_with_len, get_or_from_slice_get, slice_get_within, mod-lt, PlaceAmount, amount_of, Sizes, row_count, is_some_amount, IsPlaceBefore, IsAmountWell, by_slices, mul-le-mul_right, mod-add-div', IsNumbered, place_of_row}
use Rattle.shr_deferred.specs.Left.{amounts}
use Rattle.shr_lawful.proofs.Listed.{PairsRec, pairs_by_slices, pairs_filter}
use Rattle.shr_assemble.proofs.WellPairs.{pairs_map, adjacent}

-- a number by its quotient and its rest
record IsCut (n d q r : ℕ) : Type 0 where
  is : n ≡ q * d + r
  rest : r < d

cut : (n d : ℕ) → 0 < d → IsCut n d (n / d) (n % d)
cut n d some = record { is = (let e = mod-add-div' n d in omega (arith, e)); rest = mod-lt n some }

-- a greater quotient is of a greater number
greater : (n m d q p r s : ℕ) → IsCut n d q r → IsCut m d p s → p < q → m < n
greater n m d q p r s a b lt = let more = mul-le-mul_right {m = p + 1} {n = q} d (omega (arith, lt)) in let one : (p + 1) * d ≡ p * d + d = distribute p d in let ra = a.rest in let rb = b.rest in let ia = a.is in let ib = b.is in omega (arith, more, one, rb, ia, ib) where
  distribute : (p d : ℕ) → (p + 1) * d ≡ p * d + d
  distribute p d = grind arith

-- a number is below another that it can't reach
by_order : (n m : ℕ) → (m ≤ n → ⊥) → n < m
by_order n m never = ⊎_elim (λ same. absurd (never (let e = same in omega (arith, e)))) (⊎_elim (λ low. low) (λ high. absurd (never (omega (arith, high))))) (cases_order n m)

-- places by their numbers in the table
module _ (z : Sizes) (nodes : z.nodes ≤ 4) (groups : z.groups ≤ 256) (some_node : 0 < z.nodes) (some_group : 0 < z.groups) where
  place_rises : (i j : ℕ) → i < j → IsPlaceBefore (place_of_row z i) (place_of_row z j)
  place_rises i j lt = by_group (cases_order (i / z.groups) (j / z.groups)) where
    a : IsCut i z.groups (i / z.groups) (i % z.groups)
    a = cut i z.groups some_group

    b : IsCut j z.groups (j / z.groups) (j % z.groups)
    b = cut j z.groups some_group

    c : IsCut (i / z.groups) z.nodes (i / z.groups / z.nodes) (i / z.groups % z.nodes)
    c = cut (i / z.groups) z.nodes some_node

    d : IsCut (j / z.groups) z.nodes (j / z.groups / z.nodes) (j / z.groups % z.nodes)
    d = cut (j / z.groups) z.nodes some_node

    by_node : i / z.groups < j / z.groups → ((i / z.groups / z.nodes) ≡ (j / z.groups / z.nodes)) ⊎ (((i / z.groups / z.nodes) < (j / z.groups / z.nodes)) ⊎ ((j / z.groups / z.nodes) < (i / z.groups / z.nodes))) → IsPlaceBefore (place_of_row z i) (place_of_row z j)
    by_node less (inl same) = let ci = c.is in let di = d.is in let e : (i / z.groups / z.nodes) * z.nodes ≡ (j / z.groups / z.nodes) * z.nodes = ap (λ n. n * z.nodes) same in inr (same, inl (omega (arith, less, ci, di, e)))
    by_node less (inr (inl low)) = inl low
    by_node less (inr (inr high)) = absurd (let h = greater (i / z.groups) (j / z.groups) z.nodes (i / z.groups / z.nodes) (j / z.groups / z.nodes) (i / z.groups % z.nodes) (j / z.groups % z.nodes) c d high in omega (arith, less, h))

    by_group : ((i / z.groups) ≡ (j / z.groups)) ⊎ (((i / z.groups) < (j / z.groups)) ⊎ ((j / z.groups) < (i / z.groups))) → IsPlaceBefore (place_of_row z i) (place_of_row z j)
    by_group (inl same) = let ai = a.is in let bi = b.is in let e : (i / z.groups) * z.groups ≡ (j / z.groups) * z.groups = ap (λ n. n * z.groups) same in
        let q : i / z.groups / z.nodes ≡ j / z.groups / z.nodes = ap (λ n. n / z.nodes) same in let r : i / z.groups % z.nodes ≡ j / z.groups % z.nodes = ap (λ n. n % z.nodes) same in inr (q, inr (r, omega (arith, lt, ai, bi, e)))
    by_group (inr (inl less)) = by_node less (cases_order (i / z.groups / z.nodes) (j / z.groups / z.nodes))
    by_group (inr (inr more)) = absurd (let h = greater i j z.groups (i / z.groups) (j / z.groups) (i % z.groups) (j % z.groups) a b more in omega (arith, lt, h))

  range_rises : (n : ℕ) → PairsRec (λ i j. i < j) (range_with_len 0 n)
  range_rises n = pairs_by_slices (λ i j. i < j) (range_with_len 0 n) (λ i j x y lt at_x at_y.
      let e = get_or_from_slice_get (range_with_len 0 n) i x 0 at_x in let f = get_or_from_slice_get (range_with_len 0 n) j y 0 at_y in
      let long = length-range_with_len 0 n in let li = slice_get_within (range_with_len 0 n) i x at_x in let lj = slice_get_within (range_with_len 0 n) j y at_y in
      let g = get_or-range_with_len 0 n i 0 (omega (arith, li, long)) in let h = get_or-range_with_len 0 n j 0 (omega (arith, lj, long)) in omega (arith, e, f, g, h, lt))

  -- the places that are printed rise
  pub amounts_rise : (f : ℕ → ℕ) → AllAdjacentBelow (λ (x y : PlaceAmount). IsPlaceBefore x.place y.place) (amounts z f (row_count z)) (length (amounts z f (row_count z)))
  unfolding amounts
  amounts_rise f = adjacent (λ (x y : PlaceAmount). IsPlaceBefore x.place y.place) _
      (pairs_filter (λ (x y : PlaceAmount). IsPlaceBefore x.place y.place) is_some_amount (map (λ i. amount_of (place_of_row z i) (f i)) (range_with_len 0 (row_count z)))
      (pairs_map (λ (x y : PlaceAmount). IsPlaceBefore x.place y.place) (λ i. amount_of (place_of_row z i) (f i)) (range_with_len 0 (row_count z))
      (rising (range_with_len 0 (row_count z)) (range_rises (row_count z))))) where
        rising : (is : List ℕ) → PairsRec (λ i j. i < j) is → PairsRec (λ i j. IsPlaceBefore (place_of_row z i) (place_of_row z j)) is
        rising [] h = tt
        rising (i ∷ is) h = (heads is h.0, rising is h.1) where
          heads : (js : List ℕ) → AllByRecursion (λ j. i < j) js → AllByRecursion (λ j. IsPlaceBefore (place_of_row z i) (place_of_row z j)) js
          heads [] h = tt
          heads (j ∷ js) h = (place_rises i j h.0, heads js h.1)

  -- the place of a word has the numbers of its type, where there are few ids
  place_numbered : z.ids ≤ 256 → (i : ℕ) → i < row_count z → IsNumbered (place_of_row z i)
  place_numbered ids i lt = record {
    id = let low = id_below in omega (arith, low, ids);
    node = let low = mod-lt (i / z.groups) some_node in omega (arith, low, nodes);
    group = let low = mod-lt i some_group in omega (arith, low, groups);
  } where
    a : IsCut i z.groups (i / z.groups) (i % z.groups)
    a = cut i z.groups some_group

    c : IsCut (i / z.groups) z.nodes (i / z.groups / z.nodes) (i / z.groups % z.nodes)
    c = cut (i / z.groups) z.nodes some_node

    row_below : i / z.groups < z.ids * z.nodes
    row_below = by_order (i / z.groups) (z.ids * z.nodes) (λ high. let more = mul-le-mul_right {m = z.ids * z.nodes} {n = i / z.groups} z.groups high in let is = a.is in absurd (omega (arith, more, is, lt)))

    id_below : i / z.groups / z.nodes < z.ids
    id_below = by_order (i / z.groups / z.nodes) z.ids (λ high. let more = mul-le-mul_right {m = z.ids} {n = i / z.groups / z.nodes} z.nodes high in let is = c.is in let row = row_below in absurd (omega (arith, more, is, row)))

  -- so the words that are printed have, and each is a number of 64 bits where all are
  pub amounts_numbered : z.ids ≤ 256 → (f : ℕ → ℕ) → ((i : ℕ) → f i < 2 ^ 64) → AllByRecursion IsAmountWell (amounts z f (row_count z))
  unfolding amounts
  amounts_numbered ids f low = kept (range_with_len 0 (row_count z)) (by_slices (λ i. i < row_count z) (range_with_len 0 (row_count z)) (λ j i at.
      let e = get_or_from_slice_get (range_with_len 0 (row_count z)) j i 0 at in let long = length-range_with_len 0 (row_count z) in
      let within = slice_get_within (range_with_len 0 (row_count z)) j i at in let g = get_or-range_with_len 0 (row_count z) j 0 (omega (arith, within, long)) in omega (arith, e, g, within, long))) where
        amount : ℕ → PlaceAmount
        amount i = amount_of (place_of_row z i) (f i)

        one : (i : ℕ) (b : Bool) → (f i == 0) ≡ b → IsNumbered (place_of_row z i) → (xs : List PlaceAmount) → AllByRecursion IsAmountWell xs → AllByRecursion IsAmountWell (if not b then (amount i ∷ xs) else xs)
        one i true e there xs h = h
        one i false e there xs h = (record { numbers = there; some = λ zero. absurd (let t = eq-eqb (f i) 0 zero in let c : true ≡ false = sym t ∙ e in cc); amount = low i }, h)

        kept : (is : List ℕ) → AllByRecursion (λ i. i < row_count z) is → AllByRecursion IsAmountWell (filter is_some_amount (map amount is))
        kept [] h = tt
        kept (i ∷ is) h = one i (f i == 0) refl (place_numbered ids i h.0) (filter is_some_amount (map amount is)) (kept is h.1)
