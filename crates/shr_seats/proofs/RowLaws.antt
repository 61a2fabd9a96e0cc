-- SPDX-License-Identifier: GPL-2.0-only
-- Places and rows answer to one another, in one order.
use Rattle.std.proofs.Common.{◌≡◌, ℕ, ◌+◌, ◌*◌, ◌/◌, ◌%◌, ◌<◌, ◌≤◌, sym, ap, ◌∙◌, arith}
use Rattle.std.proofs.lemmas.Nat.{same_from_place}
use Rattle.std.proofs.Math.Nat.{div-lt_iff_lt-mul, mod-lt, div-add-mod, mul-le-mul_right, le-mul_of_pos_right, mul-div_cancel, mul-mod_left, zero-div}
use Rattle.shr_base.specs.declared.places.Place.{Place}
use Rattle.shr_seats.specs.declared.rows.Sizes.{Sizes}
use Rattle.shr_seats.specs.Rows.{IsPlaceOf, row_count, row_of, place_of_row}

-- the parts of two places are the same
pub record SamePlace (p q : Place) : Type 0 where
  pub id : q.id ≡ p.id
  pub node : q.node ≡ p.node
  pub group : q.group ≡ p.group

-- the sizes have the node and the group
pub record IsAcross (z : Sizes) (p : Place) : Type 0 where
  pub node : p.node < z.nodes
  pub group : p.group < z.groups

-- two places with one row are one place
pub one_place : (z : Sizes) (p q : Place) → IsAcross z p → IsAcross z q → row_of z p ≡ row_of z q → SamePlace p q
one_place z p q a b e = let t = same_from_place (p.id * z.nodes + p.node) p.group (q.id * z.nodes + q.node) q.group z.groups a.group b.group e in
    let u = same_from_place p.id p.node q.id q.node z.nodes a.node b.node t.0 in record { id = sym u.0; node = sym u.1; group = sym t.1 }

-- a place's row is one of the rows
ahead : (a b n m w : ℕ) → a < b → n < w → a * w + n < b * w + m
ahead a b n m w l s = let t : (a + 1) * w ≤ b * w = mul-le-mul_right w (omega (arith, l)) in omega (arith, t, s)

pub row_low : (z : Sizes) (p : Place) → IsPlaceOf z p → row_of z p < row_count z
row_low z p a = let t : p.id * z.nodes + p.node < z.ids * z.nodes + 0 = ahead p.id z.ids p.node 0 z.nodes a.id a.node in
    let u : (p.id * z.nodes + p.node) * z.groups + p.group < (z.ids * z.nodes) * z.groups + 0 = ahead (p.id * z.nodes + p.node) (z.ids * z.nodes) p.group 0 z.groups (omega (arith, t)) a.group in omega (arith, u)

-- an id has a row of its own, if there is a node and a group
pub ids_low : (z : Sizes) → 0 < z.nodes → 0 < z.groups → z.ids ≤ row_count z
ids_low z nodes groups = let t : z.ids ≤ z.ids * z.nodes = le-mul_of_pos_right z.ids nodes in let u : z.ids * z.nodes ≤ z.ids * z.nodes * z.groups = le-mul_of_pos_right (z.ids * z.nodes) groups in omega (arith, t, u)

-- each row is that of a place of the table
pub place_inside : (z : Sizes) (row : ℕ) → 0 < z.nodes → 0 < z.groups → row < row_count z → IsPlaceOf z (place_of_row z row)
place_inside z row some-nodes some-groups low = record {
  id = (div-lt_iff_lt-mul {k = z.nodes} {x = row / z.groups} {y = z.ids} some-nodes).1 ((div-lt_iff_lt-mul {k = z.groups} {x = row} {y = z.ids * z.nodes} some-groups).1 low);
  node = mod-lt (row / z.groups) some-nodes;
  group = mod-lt row some-groups;
}

-- the place of a row has that row
pub row_back : (z : Sizes) (row : ℕ) → row_of z (place_of_row z row) ≡ row
row_back z row = let a = div-add-mod (row / z.groups) z.nodes in let b = div-add-mod row z.groups in
    let c : (row / z.groups / z.nodes * z.nodes + row / z.groups % z.nodes) ≡ row / z.groups = omega (arith, a) in
    ap (λ (k : ℕ). k * z.groups + row % z.groups) c ∙ omega (arith, b)

-- a place that comes later by id, node and group has a later row
pub later : (z : Sizes) (p q : Place) → IsAcross z p → (p.id < q.id → row_of z p < row_of z q) × (p.id ≡ q.id → p.node < q.node → row_of z p < row_of z q) × (p.id ≡ q.id → p.node ≡ q.node → p.group < q.group → row_of z p < row_of z q)
later z p q a =
    let up : p.id * z.nodes + p.node < q.id * z.nodes + q.node → row_of z p < row_of z q = λ l. ahead (p.id * z.nodes + p.node) (q.id * z.nodes + q.node) p.group q.group z.groups l a.group in (
      (λ l. up (ahead p.id q.id p.node q.node z.nodes l a.node)),
      (λ e l. up (omega (arith, ap (λ (i : ℕ). i * z.nodes) e, l))),
      λ e f l. omega (arith, ap (λ (i : ℕ). (i * z.nodes + p.node) * z.groups) e, ap (λ (n : ℕ). (q.id * z.nodes + n) * z.groups) f, l),
    )

-- one place has one row
pub same_row : (z : Sizes) (p q : Place) → SamePlace p q → row_of z q ≡ row_of z p
same_row z p q s = let a : ℕ → ℕ → ℕ → ℕ = λ i n g. (i * z.nodes + n) * z.groups + g in
    ap (λ i. a i q.node q.group) s.id ∙ (ap (λ n. a p.id n q.group) s.node ∙ ap (λ g. a p.id p.node g) s.group)

-- the rows end where the ids do
pub row_above : (z : Sizes) (p : Place) → z.ids ≤ p.id → row_count z ≤ row_of z p
row_above z p h = let t : z.ids * z.nodes ≤ p.id * z.nodes = mul-le-mul_right z.nodes h in let u : z.ids * z.nodes * z.groups ≤ (p.id * z.nodes + p.node) * z.groups = mul-le-mul_right z.groups (omega (arith, t)) in omega (arith, u)

-- the first row is that of the first place
pub place_first : (z : Sizes) → 0 < z.nodes → 0 < z.groups → ((place_of_row z 0).id ≡ 0) × ((place_of_row z 0).node ≡ 0) × ((place_of_row z 0).group ≡ 0)
place_first z nodes groups = let a : 0 / z.groups ≡ 0 = zero-div z.groups in let b = div-add-mod 0 z.groups in let c = div-add-mod (0 / z.groups) z.nodes in
    (ap (λ (x : ℕ). x / z.nodes) a ∙ zero-div z.nodes, omega (arith, a, c), omega (arith, b))

-- after the last row would come the first place of one id more
pub place_last : (z : Sizes) → 0 < z.nodes → 0 < z.groups → ((place_of_row z (row_count z)).id ≡ z.ids) × ((place_of_row z (row_count z)).node ≡ 0) × ((place_of_row z (row_count z)).group ≡ 0)
place_last z nodes groups = let a : z.ids * z.nodes * z.groups / z.groups ≡ z.ids * z.nodes = mul-div_cancel (z.ids * z.nodes) groups in
    (ap (λ (x : ℕ). x / z.nodes) a ∙ mul-div_cancel z.ids nodes, ap (λ (x : ℕ). x % z.nodes) a ∙ mul-mod_left z.ids z.nodes, mul-mod_left (z.ids * z.nodes) z.groups)
