-- SPDX-License-Identifier: GPL-2.0-only
-- What is left, one word or room more.
use Rattle.shr_core.proofs.Common.{◌≡◌, ℕ, zero, suc, ◌+◌, ◌*◌, ◌<◌, ◌≤◌, true, cond, eqb, List, [], ◌∷◌, ◌++◌, get_or, sym, refl, ap, ◌∙◌, arith, append_assoc, if◌then◌else◌, append-nil, dite, ℕ_discrete, some, get_elem?, Object, Entry, MapEnd, Sizes, row_of, row_count, map_number, is_row, row_in, bits_in, places_in, Slot, lookups_of, entries_of, items_of_slot, entries_in, items_in, place_ends}
use Rattle.shr_seats.proofs.RowLaws.{place_first, place_last}
use Rattle.shr_core.proofs.Laying.{row_yes, numbered, bits_read, number_at, number_is, number_row, next, gap}
use Rattle.shr_core.specs.Ending.{EndValue, ends_below, lookups_below, units_below, groups_below, nodes_below}
use Rattle.shr_model.proofs.Lists.{word_of}

-- the same by another name of its number
pub word_is : (ws : List ℕ) (i k x : ℕ) → i ≡ k → get_elem? ws i ≡ some x → x ≡ get_or ws k 0
word_is ws i k x e there = sym (word_of ws i x there) ∙ ap (λ (j : ℕ). get_or ws j 0) e

-- a bit word that was read in its row
pub bits_word : (z : Sizes) (node group unit : ℕ) (ws : List ℕ) (word row x : ℕ) → node < z.nodes → group < z.groups → z.nodes ≤ 4 → z.groups ≤ 256 → row ≡ row_of z (record { id = unit; node = node; group = group }) → word ≡ 8 * row + 2 → get_elem? ws word ≡ some x → x ≡ bits_in z ws (map_number node group unit)
bits_word z node group unit ws word row x a b nodes groups is at there = let k : ℕ = map_number node group unit in let same = numbered z (record { id = unit; node = node; group = group }) (omega (arith, a, nodes)) (omega (arith, b, groups)) in
    word_is ws word (8 * row_in z k + 2) x (omega (arith, at, is, same)) there ∙ sym (bits_read z ws k (row_yes z k (omega (arith, a, b, nodes, groups)) (omega (arith, a, b, nodes, groups))))

pub lookups_none : (look : ℕ → ℕ) → [] ≡ lookups_below 0 look
unfolding lookups_below
lookups_none look = refl

-- one more id after those with lower numbers
pub lookups_more : (ids n : ℕ) (look : ℕ → ℕ) (log : List ℕ) → log ≡ lookups_below ids look → n ≡ lookups_of (look ids) → log ++ n ∷ [] ≡ lookups_below (suc ids) look
unfolding lookups_below
lookups_more ids n look log e f = λ i. e i ++ f i ∷ []

pub units_none : (node group : ℕ) (bits : ℕ → ℕ) (maps : List MapEnd) → maps ≡ maps ++ units_below 0 node group bits
unfolding units_below
units_none node group bits maps = sym (append-nil maps)

pub ends_none : (entries : ℕ → List Entry) (items : ℕ → List Object) → [] ≡ ends_below 0 entries items
unfolding ends_below
ends_none entries items = refl

-- one more place after those with lower numbers
pub ends_more : (n : ℕ) (entries : ℕ → List Entry) (items : ℕ → List Object) (ends : List EndValue) (es : List Entry) (is : List Object) → ends ≡ ends_below n entries items → es ≡ entries n → is ≡ items n → ends ++ place_ends n es is ≡ ends_below (suc n) entries items
unfolding ends_below
ends_more n entries items ends es is e f g = λ i. e i ++ place_ends n (f i) (g i)

-- places without a journal add nothing
ends_reach : (n m : ℕ) (entries : ℕ → List Entry) (items : ℕ → List Object) → n ≤ m → ((k : ℕ) → n ≤ k → k < m → entries k ≡ []) → ends_below n entries items ≡ ends_below m entries items
unfolding ends_below
ends_reach n zero entries items le none = let e : n ≡ 0 = omega (arith, le) in ap (λ (x : ℕ). ends_below x entries items) e
ends_reach n (suc m) entries items le none = dite (ℕ_discrete n (suc m)) (λ e. ap (λ (x : ℕ). ends_below x entries items) e)
    (λ ne. ends_reach n m entries items (omega (arith, le, ne)) (λ k low high. none k low (omega (arith, high)))
    ∙ (sym (append-nil (ends_below m entries items)) ∙ ap (λ (es : List Entry). ends_below m entries items ++ place_ends m es (items m)) (sym (none m (omega (arith, le, ne)) (omega arith)))))

-- the number of the first row, and the one after the last row's
first_number : (z : Sizes) → 0 < z.nodes → 0 < z.groups → number_at z 0 ≡ 0
first_number z nodes groups = let t = place_first z nodes groups in omega (arith, t.0, t.1, t.2)

last_number : (z : Sizes) → 0 < z.nodes → 0 < z.groups → number_at z (row_count z) ≡ places_in z.ids
last_number z nodes groups = let t = place_last z nodes groups in omega (arith, t.0, t.1, t.2)

pub rows_none : (z : Sizes) (entries : ℕ → List Entry) (items : ℕ → List Object) → 0 < z.nodes → 0 < z.groups → [] ≡ ends_below (number_at z 0) entries items
rows_none z entries items nodes groups = ends_none entries items ∙ ap (λ (x : ℕ). ends_below x entries items) (sym (first_number z nodes groups))

pub rows_all : (z : Sizes) (entries : ℕ → List Entry) (items : ℕ → List Object) (row : ℕ) → 0 < z.nodes → 0 < z.groups → row ≡ row_count z → ends_below (number_at z row) entries items ≡ ends_below (places_in z.ids) entries items
rows_all z entries items row nodes groups e = ap (λ (x : ℕ). ends_below x entries items) (ap (number_at z) e ∙ last_number z nodes groups)

-- the place of a row more
pub rows_more : (z : Sizes) (row : ℕ) (slots : List Slot) (ends : List EndValue) (slot : Slot) → 0 < z.nodes → z.nodes ≤ 4 → 0 < z.groups → z.groups ≤ 256 → get_elem? slots row ≡ some slot
    → ends ≡ ends_below (number_at z row) (entries_in z slots) (items_in z slots) → ends ++ place_ends (number_at z row) slot.list.entries slot.list.items ≡ ends_below (number_at z (row + 1)) (entries_in z slots) (items_in z slots)
rows_more z row slots ends slot nodes most-nodes groups most-groups value e = let n : ℕ = number_at z row in let es = entries_in z slots in let is = items_in z slots in
    let yes : is_row z n ≡ true = number_is z row nodes most-nodes groups most-groups in let at : get_elem? slots (row_in z n) ≡ some slot = ap (get_elem? slots) (number_row z row nodes most-nodes groups most-groups) ∙ value in
    ends_more n es is ends slot.list.entries slot.list.items e
    (sym (ap (λ b. cond b (entries_of (get_elem? slots (row_in z n))) []) yes ∙ ap entries_of at))
    (sym (ap (λ b. cond b (items_of_slot (get_elem? slots (row_in z n))) []) yes ∙ ap items_of_slot at))
    ∙ ends_reach (suc n) (number_at z (row + 1)) es is (omega (arith, next z row nodes most-nodes groups most-groups))
    (λ k low high. ap (λ b. cond b (entries_of (get_elem? slots (row_in z k))) []) (gap z row nodes most-nodes groups most-groups k (omega (arith, low)) high))

-- one turn of the loop over ids
pub lookups_next : (ids n : ℕ) (look : ℕ → ℕ) (log new : List ℕ) → log ≡ lookups_below ids look → n ≡ lookups_of (look ids) → new ≡ log ++ n ∷ [] → new ≡ lookups_below (ids + 1) look
lookups_next ids n look log new e f g = let more : suc ids ≡ ids + 1 = omega arith in g ∙ (lookups_more ids n look log e f ∙ ap (λ (x : ℕ). lookups_below x look) more)

-- a bit word more
units_last : (unit node group : ℕ) (bits : ℕ → ℕ) (start : List MapEnd) (word : ℕ) → word ≡ bits (map_number node group unit) → (start ++ units_below unit node group bits) ++ record { node = node; group = group; unit = unit; bits = word } ∷ [] ≡ start ++ units_below (suc unit) node group bits
unfolding units_below
units_last unit node group bits start word e = append_assoc start (units_below unit node group bits) (record { node = node; group = group; unit = unit; bits = word } ∷ []) ∙ ap (λ (x : ℕ). start ++ (units_below unit node group bits ++ record { node = node; group = group; unit = unit; bits = x } ∷ [])) e

-- one turn of the loop over units
pub units_next : (unit node group : ℕ) (bits : ℕ → ℕ) (start maps new : List MapEnd) (word : ℕ) → maps ≡ start ++ units_below unit node group bits → word ≡ bits (map_number node group unit) → new ≡ maps ++ record { node = node; group = group; unit = unit; bits = word } ∷ [] → new ≡ start ++ units_below (unit + 1) node group bits
units_next unit node group bits start maps new word e f g = let more : suc unit ≡ unit + 1 = omega arith in
    g ∙ (ap (λ (l : List MapEnd). l ++ record { node = node; group = group; unit = unit; bits = word } ∷ []) e ∙ (units_last unit node group bits start word f ∙ ap (λ (x : ℕ). start ++ units_below x node group bits) more))

-- a group's words more
pub groups_none : (units node : ℕ) (bits : ℕ → ℕ) (maps : List MapEnd) → maps ≡ maps ++ groups_below units 0 node bits
unfolding groups_below
groups_none units node bits maps = sym (append-nil maps)

groups_last : (units group node : ℕ) (bits : ℕ → ℕ) (start : List MapEnd) → (start ++ groups_below units group node bits) ++ (if eqb group 0 then [] else units_below units node group bits) ≡ start ++ groups_below units (suc group) node bits
unfolding groups_below
groups_last units group node bits start = append_assoc start (groups_below units group node bits) (if eqb group 0 then [] else units_below units node group bits)

-- one turn of the loop over groups
pub groups_next : (units group node : ℕ) (bits : ℕ → ℕ) (start maps new : List MapEnd) → maps ≡ start ++ groups_below units group node bits → new ≡ maps ++ (if eqb group 0 then [] else units_below units node group bits) → new ≡ start ++ groups_below units (group + 1) node bits
groups_next units group node bits start maps new e g = let more : suc group ≡ group + 1 = omega arith in
    g ∙ (ap (λ (l : List MapEnd). l ++ (if eqb group 0 then [] else units_below units node group bits)) e ∙ (groups_last units group node bits start ∙ ap (λ (x : ℕ). start ++ groups_below units x node bits) more))

-- a node's words more
pub nodes_none : (units groups : ℕ) (bits : ℕ → ℕ) → [] ≡ nodes_below units groups 0 bits
unfolding nodes_below
nodes_none units groups bits = refl

nodes_last : (units groups node : ℕ) (bits : ℕ → ℕ) → nodes_below units groups node bits ++ groups_below units groups node bits ≡ nodes_below units groups (suc node) bits
unfolding nodes_below
nodes_last units groups node bits = refl

-- one turn of the loop over nodes
pub nodes_next : (units groups node : ℕ) (bits : ℕ → ℕ) (maps new : List MapEnd) → maps ≡ nodes_below units groups node bits → new ≡ maps ++ groups_below units groups node bits → new ≡ nodes_below units groups (node + 1) bits
nodes_next units groups node bits maps new e g = let more : suc node ≡ node + 1 = omega arith in
    g ∙ (ap (λ (l : List MapEnd). l ++ groups_below units groups node bits) e ∙ (nodes_last units groups node bits ∙ ap (λ (x : ℕ). nodes_below units groups x bits) more))
