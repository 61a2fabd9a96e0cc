-- SPDX-License-Identifier: GPL-2.0-only
-- Lists, and the journals of pools, are parted in one way.
use Rattle.shr_report.proofs.Common.{◌≡◌, ℕ, ◌<◌, List, ◌++◌, flat_map, sym, ap, ◌∙◌, append_assoc, arith, codes, AllByRecursion, AllZip, PlaceEnd, UnitsEnd, line, place_words, entry_line, item_line, place_lines, plain_entry_line, units_lines, HasWords, IsSpelled, IsSameUnits, read_list, read_item, UnitsHead, read_units, IsPlaceWell, IsSameEnd, read_entry, read_plain_entry}
use Rattle.shr_report.proofs.Printed.{one_line}
use Rattle.shr_report.proofs.LinesBack.{printed_list, printed_entry, printed_item}
use Rattle.shr_report.proofs.PlainLinesBack.{units_head_of, units_line, printed_units, printed_plain_entry}
use Rattle.shr_report.proofs.Sections.{kind, kind_list, IsEntryKind, kind_entry, kind_item, kind_units, IsUnitKind, kind_plain_entry, section, flat_once, flat_each, flat_numbered, after_flat, all_any}

-- ---- lists

-- neither an entry nor an item
abbrev IsPastList : ℕ → Type 0
IsPastList k = (IsEntryKind k → ⊥) × (k ≡ 25 → ⊥)

place_parts : (p : PlaceEnd) (rest : List ℕ) → place_lines p ++ rest ≡ line (codes "list") (place_words p.place) ++ (flat_map entry_line p.entries.items ++ (flat_map item_line p.items.items ++ rest))
place_parts p rest = regrouped (line (codes "list") (place_words p.place)) (flat_map entry_line p.entries.items) (flat_map item_line p.items.items) rest
  where
    regrouped : (a b c d : List ℕ) → (a ++ b ++ c) ++ d ≡ a ++ (b ++ (c ++ d))
    regrouped a b c d = simp append_assoc

-- the lines of a list begin with its first line
pub kind_place : (p : PlaceEnd) (rest : List ℕ) → kind (place_lines p ++ rest) ≡ 15
kind_place p rest = ap kind (place_parts p rest) ∙ kind_list p.place (flat_map entry_line p.entries.items ++ (flat_map item_line p.items.items ++ rest))

list_past : (k : ℕ) → k ≡ 15 → IsPastList k
list_past k e = (λ h. let low = h.low in absurd (omega arith), λ f. absurd (omega arith))

item_entry : (k : ℕ) → k ≡ 25 → IsEntryKind k → ⊥
item_entry k e h = let high = h.high in absurd (omega arith)

place_once : (p q : PlaceEnd) (rest rest' : List ℕ) → IsPlaceWell p → IsPlaceWell q → IsPastList (kind rest) → IsPastList (kind rest') → place_lines p ++ rest ≡ place_lines q ++ rest' → IsSameEnd p q × (rest ≡ rest')
place_once p q rest rest' h k a b e =
    let items = flat_map item_line p.items.items ++ rest in
    let items' = flat_map item_line q.items.items ++ rest' in
    let one = one_line read_list p.place q.place (line (codes "list") (place_words p.place)) (line (codes "list") (place_words q.place)) (flat_map entry_line p.entries.items ++ items) (flat_map entry_line q.entries.items ++ items')
    (printed_list p.place) (printed_list q.place) (sym (place_parts p rest) ∙ e ∙ place_parts q rest') in
    let no_entry = after_flat item_line (λ n. IsEntryKind n → ⊥) (λ o more. item_entry (kind (item_line o ++ more)) (kind_item o more)) p.items.items rest a.0 in
    let no_entry' = after_flat item_line (λ n. IsEntryKind n → ⊥) (λ o more. item_entry (kind (item_line o ++ more)) (kind_item o more)) q.items.items rest' b.0 in
    let entries = flat_once read_entry entry_line HasWords IsEntryKind kind_entry printed_entry p.entries.items q.entries.items items items' h.entries k.entries no_entry no_entry' one.1 in
    let objects = flat_once read_item item_line IsSpelled (λ n. n ≡ 25) kind_item printed_item p.items.items q.items.items rest rest' h.items k.items a.1 b.1 entries.1 in
    let same : IsSameEnd p q = record { place = one.0; entries = entries.0; items = objects.0 } in
    (same, objects.1)

-- a text of lists is that of one row of lists only
pub places_once : (ps qs : List PlaceEnd) (rest rest' : List ℕ) → AllByRecursion IsPlaceWell ps → AllByRecursion IsPlaceWell qs → 25 < kind rest → 25 < kind rest'
    → flat_map place_lines ps ++ rest ≡ flat_map place_lines qs ++ rest' → AllZip IsSameEnd ps qs × (rest ≡ rest')
places_once ps qs rest rest' h k a b e =
    section (λ (i : ℕ) (p : PlaceEnd). place_lines p) IsPlaceWell IsSameEnd (λ n. n ≡ 15) IsPastList (λ n p more. kind_place p more) (λ n p more. list_past (kind (place_lines p ++ more)) (kind_place p more))
    (λ n m p q rest rest' x y c d e. place_once p q rest rest' x y c d e) 0 0 ps qs rest rest' h k (late_list (kind rest) a) (late_list (kind rest') b) (late_past (kind rest) a) (late_past (kind rest') b)
    (ap (λ (t : List ℕ). t ++ rest) (sym (flat_numbered place_lines 0 ps)) ∙ e ∙ ap (λ (t : List ℕ). t ++ rest') (flat_numbered place_lines 0 qs))
  where
    late_list : (k : ℕ) → 25 < k → k ≡ 15 → ⊥
    late_list k h e = absurd (omega arith)

    late_past : (k : ℕ) → 25 < k → IsPastList k
    late_past k h = (λ e. let high = e.high in absurd (omega arith), λ e. absurd (omega arith))

-- ---- the journals of pools

end_parts : (u : UnitsEnd) (rest : List ℕ) → units_lines u ++ rest ≡ units_line u.pool u.node u.free ++ (flat_map plain_entry_line u.entries.items ++ rest)
end_parts u rest = append_assoc (units_line u.pool u.node u.free) (flat_map plain_entry_line u.entries.items) rest

-- the lines of a pool on a node begin with its first line
pub kind_pool_end : (u : UnitsEnd) (rest : List ℕ) → kind (units_lines u ++ rest) ≡ 26
kind_pool_end u rest = ap kind (end_parts u rest) ∙ kind_units u.pool u.node u.free (flat_map plain_entry_line u.entries.items ++ rest)

-- no entry of a pool's journal
abbrev IsPastUnits : ℕ → Type 0
IsPastUnits k = IsUnitKind k → ⊥

end_past : (k : ℕ) → k ≡ 26 → IsPastUnits k
end_past k e h = let low = h.low in absurd (omega arith)

end_same : (u v : UnitsEnd) → units_head_of u.pool u.node u.free ≡ units_head_of v.pool v.node v.free → u.entries.items ≡ v.entries.items → IsSameUnits u v
end_same u v e entries = record {
  pool = ap (λ (h : UnitsHead). h.pool) e;
  node = ap (λ (h : UnitsHead). h.node) e;
  entries = entries;
  free = ap (λ (h : UnitsHead). h.free) e;
}

end_once : (u v : UnitsEnd) (rest rest' : List ℕ) → IsPastUnits (kind rest) → IsPastUnits (kind rest') → units_lines u ++ rest ≡ units_lines v ++ rest' → IsSameUnits u v × (rest ≡ rest')
end_once u v rest rest' a b e =
    let one = one_line read_units (units_head_of u.pool u.node u.free) (units_head_of v.pool v.node v.free) (units_line u.pool u.node u.free) (units_line v.pool v.node v.free)
    (flat_map plain_entry_line u.entries.items ++ rest) (flat_map plain_entry_line v.entries.items ++ rest') (printed_units u.pool u.node u.free) (printed_units v.pool v.node v.free)
    (sym (end_parts u rest) ∙ e ∙ end_parts v rest') in
    let entries = flat_each read_plain_entry plain_entry_line IsUnitKind kind_plain_entry printed_plain_entry u.entries.items v.entries.items rest rest' a b one.1 in
    (end_same u v one.0 entries.0, entries.1)

-- a text of the journals of pools is that of one row of them only
pub ends_once : (us vs : List UnitsEnd) (rest rest' : List ℕ) → 29 < kind rest → 29 < kind rest'
    → flat_map units_lines us ++ rest ≡ flat_map units_lines vs ++ rest' → AllZip IsSameUnits us vs × (rest ≡ rest')
ends_once us vs rest rest' a b e =
    section (λ (i : ℕ) (u : UnitsEnd). units_lines u) (λ u. Unit {0}) IsSameUnits (λ n. n ≡ 26) IsPastUnits (λ n u more. kind_pool_end u more) (λ n u more. end_past (kind (units_lines u ++ more)) (kind_pool_end u more))
    (λ n m u v rest rest' x y c d e. end_once u v rest rest' c d e) 0 0 us vs rest rest' (all_any us) (all_any vs) (late_end (kind rest) a) (late_end (kind rest') b) (late_past (kind rest) a) (late_past (kind rest') b)
    (ap (λ (t : List ℕ). t ++ rest) (sym (flat_numbered units_lines 0 us)) ∙ e ∙ ap (λ (t : List ℕ). t ++ rest') (flat_numbered units_lines 0 vs))
  where
    late_end : (k : ℕ) → 29 < k → k ≡ 26 → ⊥
    late_end k h e = absurd (omega arith)

    late_past : (k : ℕ) → 29 < k → IsPastUnits k
    late_past k h e = let high = e.high in absurd (omega arith)
