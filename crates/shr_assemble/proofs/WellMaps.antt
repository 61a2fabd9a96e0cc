-- SPDX-License-Identifier: GPL-2.0-only
-- The bit words that are printed stand by node, group and unit.
use Rattle.shr_assemble.proofs.Common.{◌≡◌, ℕ, zero, suc, ◌+◌, ◌-◌, Bool, List, [], ◌∷◌, ◌++◌, map, sym, refl, ap, ◌∙◌, arith, ne_eqb, flat_map, if◌then◌else◌, ◌==◌, range_with_len, flat_map-append, append-nil, map-append, MapEnd, map_number, bit_places}
use Rattle.shr_core.specs.Ending.{units_below, groups_below, nodes_below}
use Rattle.shr_assemble.proofs.WalkingWell.{range_suc}

-- where a bit word stands
abbrev pub where_is : MapEnd → ℕ × ℕ × ℕ
where_is m = (m.node, m.group, m.unit)

range_more : (a n : ℕ) → range_with_len a (suc n) ≡ range_with_len a n ++ (a + n) ∷ []
range_more a zero = ap (λ x. x ∷ []) (omega arith)
range_more a (suc n) = ap (λ l. a ∷ l) (range_more (a + 1) n ∙ ap (λ x. range_with_len (a + 1) n ++ x ∷ []) (omega arith))

-- the units of a group
abbrev cell : ℕ → ℕ → ℕ → List (ℕ × ℕ × ℕ)
cell units node group = map (λ unit. (node, group, unit)) (range_with_len 0 units)

-- a bit word
abbrev word_at : ℕ → ℕ → ℕ → (ℕ → ℕ) → MapEnd
word_at node group unit bits = record { node = node; group = group; unit = unit; bits = bits (map_number node group unit) }

cell_is : (units node group : ℕ) (bits : ℕ → ℕ) → map where_is (units_below units node group bits) ≡ cell units node group
unfolding units_below
cell_is zero node group bits = refl
cell_is (suc unit) node group bits =
    map-append where_is (units_below unit node group bits) (word_at node group unit bits ∷ [])
    ∙ (ap (λ l. l ++ (node, group, unit) ∷ []) (cell_is unit node group bits)
    ∙ (sym (map-append (λ u. (node, group, u)) (range_with_len 0 unit) (unit ∷ [])) ∙ ap (map (λ u. (node, group, u))) (sym (range_suc unit))))

-- the groups of a node, below a number and from 1
abbrev row : ℕ → ℕ → ℕ → List (ℕ × ℕ × ℕ)
row units groups node = flat_map (cell units node) (range_with_len 1 (groups - 1))

row_more : (units group node : ℕ) → row units (suc (suc group)) node ≡ row units (suc group) node ++ cell units node (suc group)
row_more units group node =
    ap (flat_map (cell units node)) (ap (range_with_len 1) (let e : suc (suc group) - 1 ≡ suc group = omega arith in e) ∙ range_more 1 group)
    ∙ (flat_map-append (cell units node) (range_with_len 1 group) ((1 + group) ∷ [])
    ∙ (ap (λ n. flat_map (cell units node) (range_with_len 1 n) ++ flat_map (cell units node) ((1 + group) ∷ [])) (let e : group ≡ suc group - 1 = omega arith in e)
    ∙ (ap (λ n. row units (suc group) node ++ flat_map (cell units node) (n ∷ [])) (let e : 1 + group ≡ suc group = omega arith in e)
    ∙ ap (λ l. row units (suc group) node ++ l) (append-nil (cell units node (suc group))))))

row_is : (units group node : ℕ) (bits : ℕ → ℕ) → map where_is (groups_below units group node bits) ≡ row units group node
unfolding groups_below
row_is units zero node bits = refl
row_is units (suc zero) node bits = refl
row_is units (suc (suc group)) node bits =
    map-append where_is (groups_below units (suc group) node bits) (if suc group == 0 then [] else units_below units node (suc group) bits)
    ∙ (ap (λ (b : Bool). map where_is (groups_below units (suc group) node bits) ++ map where_is (if b then [] else units_below units node (suc group) bits)) (ne_eqb (suc group) 0 (λ e. absurd (omega (arith, e))))
    ∙ (ap (λ l. l ++ map where_is (units_below units node (suc group) bits)) (row_is units (suc group) node bits)
    ∙ (ap (λ l. row units (suc group) node ++ l) (cell_is units node (suc group) bits) ∙ sym (row_more units group node))))

pub table_is : (units groups nodes : ℕ) (bits : ℕ → ℕ) → map where_is (nodes_below units groups nodes bits) ≡ bit_places nodes groups (range_with_len 0 units)
unfolding nodes_below
table_is units groups zero bits = refl
table_is units groups (suc node) bits =
    map-append where_is (nodes_below units groups node bits) (groups_below units groups node bits)
    ∙ (ap (λ l. l ++ map where_is (groups_below units groups node bits)) (table_is units groups node bits)
    ∙ (ap (λ l. bit_places node groups (range_with_len 0 units) ++ l) (row_is units groups node bits ∙ sym (append-nil (row units groups node)))
    ∙ (sym (flat_map-append (row units groups) (range_with_len 0 node) (node ∷ [])) ∙ ap (flat_map (row units groups)) (sym (range_suc node)))))
