-- SPDX-License-Identifier: GPL-2.0-only
-- Numbers of places, rows and words answer to one another.
use Rattle.shr_core.proofs.Common.{◌≡◌, ◌⊎◌, inl, inr, ℕ, ◌+◌, ◌*◌, ◌/◌, ◌%◌, ◌<◌, ◌≤◌, ◌≢◌, Bool, true, false, cond, ltb, ◌&&◌, List, length, set, get_or, sym, refl, ap, ◌∙◌, ⊎_elim, arith, lt-ltb, get_or-set_same, get_or-set_other, cases_Bool, nat_tests, dite, dec_lt, some, set_else, Place, place_number, Sizes, row_count, row_of, Shape, Slot, is_row, row_in, counts_in, locks_in, bits_in, homes_in, places_in, rooms_in, words_in, place_id, node_of, group_of, place_at, sizes_of, groups_in, IsInside, IsRoom, set_here, place_of_row}
use Rattle.std.proofs.Math.Nat.{mod-lt}
use mathlib.Core.Option.{Option}
use Rattle.shr_seats.proofs.RowLaws.{IsAcross, one_place, row_low, ids_low, row_back, later, same_row}

parts : (a b c d : ℕ) → (ltb a b && ltb c d) ≡ true → (a < b) × (c < d)
parts a b c d e = (grind (arith, nat_tests), grind (arith, nat_tests))

not_both : (b : Bool) → b ≡ false → b ≡ true → ⊥
not_both b f t = let e : false ≡ true = sym f ∙ t in cc

-- the sizes have the node and the group of a number with a row
pub across : (z : Sizes) (k : ℕ) → is_row z k ≡ true → IsAcross z (place_at k)
across z k is = let t = parts (node_of k) z.nodes (group_of k) z.groups is in record { node = t.0; group = t.1 }

pub row_yes : (z : Sizes) (k : ℕ) → node_of k < z.nodes → group_of k < z.groups → is_row z k ≡ true
row_yes z k a b = ap (λ (x : Bool). x && ltb (group_of k) z.groups) (lt-ltb (node_of k) z.nodes a) ∙ lt-ltb (group_of k) z.groups b

-- the sizes lack the group or the node of a number without a row
pub lacking : (z : Sizes) (k : ℕ) → is_row z k ≡ false → (z.groups ≤ group_of k) ⊎ (z.nodes ≤ node_of k)
lacking z k lacks = dite (dec_lt (group_of k) z.groups) (λ g. dite (dec_lt (node_of k) z.nodes) (λ n. absurd (not_both (is_row z k) lacks (row_yes z k n g))) (λ n. inr (omega (arith, n)))) (λ g. inl (omega (arith, g)))

-- two numbers with one row are one
pub one_number : (z : Sizes) (k j : ℕ) → is_row z k ≡ true → is_row z j ≡ true → row_in z j ≡ row_in z k → j ≡ k
one_number z k j a b e = let s = one_place z (place_at j) (place_at k) (across z j b) (across z k a) e in number j k (sym s.id) (sym s.node) (sym s.group) where
  number : (x y : ℕ) → x / 1024 ≡ y / 1024 → x / 256 % 4 ≡ y / 256 % 4 → x % 256 ≡ y % 256 → x ≡ y
  number x y a b c = omega (arith, a, b, c)

-- a higher number has a later row
pub rising : (z : Sizes) (k j : ℕ) → is_row z k ≡ true → k < j → row_in z k < row_in z j
rising z k j a l = let t = later z (place_at k) (place_at j) (across z k a) in dite (dec_lt (place_id k) (place_id j)) t.0
    (λ h. let e : place_id k ≡ place_id j = omega arith in dite (dec_lt (node_of k) (node_of j)) (t.1 e) (λ g. t.2 e (omega arith) (omega arith)))

-- the row of a place of the sizes is that of its number
pub numbered : (z : Sizes) (p : Place) → p.node < 4 → p.group < 256 → row_in z (place_number p) ≡ row_of z p
numbered z p node group = same_row z p (place_at (place_number p)) record { id = omega (arith, node, group); node = omega (arith, node, group); group = omega (arith, node, group) }

quarter : (a b c : ℕ) → 8 * a + c ≡ 8 * b + c → a ≡ b
quarter a b c e = omega (arith, e)

quarter_of : (a b : ℕ) → 8 * a ≡ 8 * b → a ≡ b
quarter_of a b e = omega (arith, e)

same_where : (b : Bool) (m n : ℕ) → (b ≡ true → m ≡ n) → ◌≡◌ {A = ℕ} (cond b m 0) (cond b n 0)
same_where true m n h = h refl
same_where false m n h = refl

none_there : (b : Bool) (n : ℕ) → n ≡ 0 → ◌≡◌ {A = ℕ} (cond b n 0) 0
none_there true n e = e
none_there false n e = refl

module _ (z : Sizes) (ws : List ℕ) (k : ℕ) where
  -- words that are 0 are read as 0
  pub count_none : get_or ws (8 * row_in z k) 0 ≡ 0 → counts_in z ws k ≡ 0
  count_none e = none_there (is_row z k) (get_or ws (8 * row_in z k) 0) e

  pub lock_none : get_or ws (8 * row_in z k + 1) 0 ≡ 0 → locks_in z ws k ≡ 0
  lock_none e = none_there (is_row z k) (get_or ws (8 * row_in z k + 1) 0) e

  pub bits_none : get_or ws (8 * row_in z k + 2) 0 ≡ 0 → bits_in z ws k ≡ 0
  bits_none e = none_there (is_row z k) (get_or ws (8 * row_in z k + 2) 0) e

-- the words of a number that has a row
module _ (z : Sizes) (ws : List ℕ) (k : ℕ) (is : is_row z k ≡ true) where
  pub count_read : counts_in z ws k ≡ get_or ws (8 * row_in z k) 0
  count_read = ap (λ (b : Bool). cond b (get_or ws (8 * row_in z k) 0) 0) is

  pub lock_read : locks_in z ws k ≡ get_or ws (8 * row_in z k + 1) 0
  lock_read = ap (λ (b : Bool). cond b (get_or ws (8 * row_in z k + 1) 0) 0) is

  pub bits_read : bits_in z ws k ≡ get_or ws (8 * row_in z k + 2) 0
  bits_read = ap (λ (b : Bool). cond b (get_or ws (8 * row_in z k + 2) 0) 0) is

-- a word of such a number becomes n
module _ (z : Sizes) (ws : List ℕ) (k n : ℕ) (is : is_row z k ≡ true) where
  pub count_here : 8 * row_in z k < length ws → counts_in z (set ws (8 * row_in z k) n) k ≡ n
  count_here low = count_read z (set ws (8 * row_in z k) n) k is ∙ get_or-set_same ws (8 * row_in z k) n 0 low

  -- and no other number's does
  pub count_else : (x : ℕ) → x ≢ k → counts_in z (set ws (8 * row_in z k) n) x ≡ counts_in z ws x
  count_else x ne = same_where (is_row z x) (get_or (set ws (8 * row_in z k) n) (8 * row_in z x) 0) (get_or ws (8 * row_in z x) 0)
      (λ has. get_or-set_other ws (8 * row_in z k) (8 * row_in z x) n 0 (λ e. ne (one_number z k x is has (quarter_of (row_in z x) (row_in z k) e))))

  pub lock_here : 8 * row_in z k + 1 < length ws → locks_in z (set ws (8 * row_in z k + 1) n) k ≡ n
  lock_here low = lock_read z (set ws (8 * row_in z k + 1) n) k is ∙ get_or-set_same ws (8 * row_in z k + 1) n 0 low

  pub lock_else : (x : ℕ) → x ≢ k → locks_in z (set ws (8 * row_in z k + 1) n) x ≡ locks_in z ws x
  lock_else x ne = same_where (is_row z x) (get_or (set ws (8 * row_in z k + 1) n) (8 * row_in z x + 1) 0) (get_or ws (8 * row_in z x + 1) 0)
      (λ has. get_or-set_other ws (8 * row_in z k + 1) (8 * row_in z x + 1) n 0 (λ e. ne (one_number z k x is has (quarter (row_in z x) (row_in z k) 1 e))))

  pub bits_here : 8 * row_in z k + 2 < length ws → bits_in z (set ws (8 * row_in z k + 2) n) k ≡ n
  bits_here low = bits_read z (set ws (8 * row_in z k + 2) n) k is ∙ get_or-set_same ws (8 * row_in z k + 2) n 0 low

  pub bits_else : (x : ℕ) → x ≢ k → bits_in z (set ws (8 * row_in z k + 2) n) x ≡ bits_in z ws x
  bits_else x ne = same_where (is_row z x) (get_or (set ws (8 * row_in z k + 2) n) (8 * row_in z x + 2) 0) (get_or ws (8 * row_in z x + 2) 0)
      (λ has. get_or-set_other ws (8 * row_in z k + 2) (8 * row_in z x + 2) n 0 (λ e. ne (one_number z k x is has (quarter (row_in z x) (row_in z k) 2 e))))

-- the slot of a number that has a row changes
module _ (z : Sizes) (homes : List (Option Slot)) (k : ℕ) (slot : Option Slot) (is : is_row z k ≡ true) where
  pub home_here : row_in z k < length homes → homes_in z (set homes (row_in z k) slot) k ≡ some slot
  home_here low = set_here homes (row_in z k) slot low

  pub home_else : (x : ℕ) → is_row z x ≡ true → x ≢ k → homes_in z (set homes (row_in z k) slot) x ≡ homes_in z homes x
  home_else x has ne = set_else homes (row_in z k) (row_in z x) slot (λ e. ne (one_number z k x is has e))

-- a place of the shape has a row
pub inside_is : (shape : Shape) (k : ℕ) → IsInside shape k → is_row (sizes_of shape) k ≡ true
inside_is shape k i = row_yes (sizes_of shape) k i.node i.group

pub inside_low : (shape : Shape) (k : ℕ) → IsInside shape k → row_in (sizes_of shape) k < row_count (sizes_of shape)
inside_low shape k i = row_low (sizes_of shape) (place_at k) record { id = omega (arith, i.place); node = i.node; group = i.group }

-- each place of the shape has a room
pub place_room : (shape : Shape) (k : ℕ) → IsInside shape k → IsRoom shape k
place_room shape k i = record { room = omega (arith, i.place); node = i.node; group = i.group }

-- and a room with the number of a place is that of a place of the shape
pub room_inside : (shape : Shape) (r : ℕ) → IsRoom shape r → r < places_in shape.ids → IsInside shape r
room_inside shape r i low = record { place = low; node = i.node; group = i.group }

-- the pool has one too
pub pool_room : (shape : Shape) → 0 < shape.nodes → 0 < groups_in shape → IsRoom shape (places_in shape.ids)
pool_room shape nodes groups = record { room = omega arith; node = omega (arith, nodes); group = omega (arith, groups) }

pub room_is : (shape : Shape) (r : ℕ) → IsRoom shape r → is_row (sizes_of shape) r ≡ true
room_is shape r i = row_yes (sizes_of shape) r i.node i.group

-- the pool's row comes after those of all places
pub pool_row : (shape : Shape) → row_in (sizes_of shape) (places_in shape.ids) ≡ row_count (sizes_of shape)
pool_row shape = let z : Sizes = sizes_of shape in let p : Place = record { id = shape.ids; node = 0; group = 0 } in
    same_row z p (place_at (places_in shape.ids)) (record { id = omega arith; node = omega arith; group = omega arith }) ∙ flat shape.ids z.nodes z.groups where
      flat : (i n g : ℕ) → (i * n + 0) * g + 0 ≡ i * n * g
      flat i n g = let a : i * n + 0 ≡ i * n = omega arith in let b : i * n * g + 0 ≡ i * n * g = omega arith in ap (λ (x : ℕ). x * g + 0) a ∙ b

pub room_low : (shape : Shape) (r : ℕ) → IsRoom shape r → row_in (sizes_of shape) r < rooms_in (sizes_of shape)
room_low shape r i = dite (dec_lt r (places_in shape.ids)) (λ l. omega (arith, inside_low shape r (room_inside shape r i l)))
    (λ h. let e : r ≡ places_in shape.ids = omega (arith, h, i.room) in omega (arith, ap (row_in (sizes_of shape)) e, pool_row shape))

-- each id has a lookup word
pub look_low : (shape : Shape) (i : ℕ) → 0 < shape.nodes → 0 < groups_in shape → i < shape.ids → 8 * i + 3 < words_in (sizes_of shape)
look_low shape i nodes groups near = omega (arith, near, ids_low (sizes_of shape) nodes groups)

-- the number of the place of a row
abbrev pub number_at : Sizes → ℕ → ℕ
number_at z row = place_number (place_of_row z row)

fits_node : (i m g w : ℕ) → m < w → m < 4 → g < 256 → (1024 * i + 256 * m + g) / 256 % 4 < w
fits_node i m g w a b c = omega (arith, a, b, c)

fits_group : (i m g w : ℕ) → g < w → g < 256 → (1024 * i + 256 * m + g) % 256 < w
fits_group i m g w a b = omega (arith, a, b)

-- a table of 1 to 4 nodes and 1 to 256 groups
module _ (z : Sizes) (row : ℕ) (nodes : 0 < z.nodes) (most-nodes : z.nodes ≤ 4) (groups : 0 < z.groups) (most-groups : z.groups ≤ 256) where
  near_node : row / z.groups % z.nodes < z.nodes
  near_node = mod-lt (row / z.groups) nodes

  near_group : row % z.groups < z.groups
  near_group = mod-lt row groups

  -- the number of a row has that row
  pub number_row : row_in z (number_at z row) ≡ row
  number_row = numbered z (place_of_row z row) (omega (arith, near_node, most-nodes)) (omega (arith, near_group, most-groups)) ∙ row_back z row

  pub number_is : is_row z (number_at z row) ≡ true
  number_is = row_yes z (number_at z row) (fits_node (row / z.groups / z.nodes) (row / z.groups % z.nodes) (row % z.groups) z.nodes near_node (omega (arith, near_node, most-nodes)) (omega (arith, near_group, most-groups)))
      (fits_group (row / z.groups / z.nodes) (row / z.groups % z.nodes) (row % z.groups) z.groups near_group (omega (arith, near_group, most-groups)))

module _ (z : Sizes) (row : ℕ) (nodes : 0 < z.nodes) (most-nodes : z.nodes ≤ 4) (groups : 0 < z.groups) (most-groups : z.groups ≤ 256) where
  -- the next row has a higher number
  pub next : number_at z row < number_at z (row + 1)
  next = let here = number_row z row nodes most-nodes groups most-groups in let there = number_row z (row + 1) nodes most-nodes groups most-groups in let has = number_is z (row + 1) nodes most-nodes groups most-groups in
      dite (dec_lt (number_at z row) (number_at z (row + 1))) (λ l. l) (λ h. absurd (dite (dec_lt (number_at z (row + 1)) (number_at z row))
      (λ l. omega (arith, rising z (number_at z (row + 1)) (number_at z row) has l, here, there))
      (λ g. let e : number_at z row ≡ number_at z (row + 1) = omega (arith, h, g) in omega (arith, ap (row_in z) e, here, there))))

  -- between the two no number has a row
  pub gap : (k : ℕ) → number_at z row < k → k < number_at z (row + 1) → is_row z k ≡ false
  gap k low high = ⊎_elim (λ has. absurd (omega (arith, rising z (number_at z row) k (number_is z row nodes most-nodes groups most-groups) low, rising z k (number_at z (row + 1)) has high, number_row z row nodes most-nodes groups most-groups, number_row z (row + 1) nodes most-nodes groups most-groups)))
      (λ lacks. lacks) (cases_Bool (is_row z k))
