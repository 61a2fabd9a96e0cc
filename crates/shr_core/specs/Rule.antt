-- SPDX-License-Identifier: GPL-2.0-only
-- The rule of the core table. Each part speaks of the words of one kind and of one part of the
-- views.
use Rattle.std.specs.Prelude.{◌≡◌, ◌≢◌, ◌⊎◌, ℕ, ◌+◌, ◌-◌, ◌*◌, ◌/◌, ◌%◌, ◌^◌, ◌<◌, ◌≤◌, List, [], ◌∷◌, ◌++◌, map, length, cond, ◌==◌, ◌&&◌, nat_lt, nat_le, max, slice_index, if◌then◌else◌, Some, None, Bool, true, false, Contains, take, drop}
use Rattle.std.specs.Prelude as prelude
use Rattle.std.specs.Int.{bit_at}
use mathlib.Core.Option.{Option, some}
use lib.ListN.{get_elem?}
use Rattle.atomic_table.specs.Table.{State}
use Rattle.shr_base.specs.declared.objects.Object.{Object}
use Rattle.shr_base.specs.declared.journals.Entry.{Entry}
use Rattle.shr_base.specs.declared.journals.PoolEntry.{PoolEntry}
use Rattle.shr_base.specs.declared.journals.PoolEntry.TheVariants.{Registered, Unregistered, Idle}
use Rattle.shr_model.specs.PlaceNumbers.{place_number}
use Rattle.shr_model.specs.Items.{is_closed}
use Rattle.shr_model.specs.Families.{Family, moved_in, items_at, IsLegal}
use Rattle.shr_model.specs.Pool.{phase_of, decl_of, last_number, from_of, is_live, registrations, decl_at, end_of, is_before, IsPoolJournal}
use Rattle.shr_model.specs.PoolEnds.{dying_in, HaveEndedBy}
use Rattle.shr_list.specs.Listed.{Listed}
use Rattle.shr_seats.specs.Views.{Each}
use Rattle.shr_seats.specs.Standing.{Standing, at_first, at_split, at_end, AreSeats, AreEmptied}
use Rattle.shr_seats.specs.Weights.{total, Begins, only, times}
use Rattle.shr_core.specs.declared.view.View.{View}
use Rattle.shr_core.specs.Slots.{Slot}
use Rattle.shr_seats.specs.declared.shape.Shape.{Shape}
use Rattle.shr_core.specs.declared.setting.Setting.{Setting}
use Rattle.shr_core.specs.Parts.{RoomContent, Hand, Holding, Made, Known, Counted, Traces, Mapped, Marks, Tried, Loaded, Claims, Turn, Turns, Dated, no_rooms, no_traces, no_marks, no_claims, no_turns}
use Rattle.shr_core.specs.Layout.{counts_in, locks_in, bits_in, looks_in, homes_in, places_in, rooms_in, words_in, place_id, node_of, group_of, place_at, above, map_of, place_bit}
use Rattle.shr_seats.specs.Shapes.{IsShape, groups_in, sizes_of}
use Rattle.shr_core.specs.Lookup.{refs_of, lookups_of, phase_in, decl_in}
use Rattle.shr_core.specs.Order.{AreOrdered}

-- the view of a seat that was split off and did nothing yet
abbrev pub blank : View
blank = record { holding = no_rooms; traces = no_traces; marks = no_marks; claims = no_claims; turns = no_turns; standing = at_split; seat = 0; did = [] }

-- the view of the first seat at the start
abbrev pub opener : View
opener = record blank { standing = at_first }

-- what is left of the view of a seat that was joined away
abbrev pub spent : View
spent = record blank { standing = at_end }

-- what a core may be made with: a shape, and a number of the first lookups
pub record IsCoreSetting (key : Setting) : Type 0 where
  pub shape : IsShape key.shape
  -- a number has 32 bits
  pub first : key.first_lookup < 2 ^ 32

-- a place is of the shape
pub record IsInside (shape : Shape) (k : ℕ) : Type 0 where
  -- the number is below all places', so the id is below the shape's
  pub place : k < places_in shape.ids
  pub node : node_of k < shape.nodes
  pub group : group_of k < groups_in shape

-- the core has a room with this number: a place's, or the pool's
pub record IsRoom (shape : Shape) (r : ℕ) : Type 0 where
  pub room : r ≤ places_in shape.ids
  pub node : node_of r < shape.nodes
  pub group : group_of r < groups_in shape

-- the journal of each place now
abbrev pub Journals : Type 0
Journals = ℕ → List Entry

-- the items of each place after this many entries
abbrev pub Histories : Type 0
Histories = ℕ → ℕ → List Object

-- the items of a place after all of its entries
abbrev pub items_now : Journals → Histories → ℕ → List Object
items_now now after k = after k (length (now k))

-- each object is born in one of this many groups
abbrev pub AreBorn : ℕ → List Object → Type 0
AreBorn groups items = Each (λ (object : Object). object.birth < groups) items

-- a count word is the number of entries and of items, and both are within their limits
pub record AreCounts (shape : Shape) (now : Journals) (after : Histories) (count : ℕ → ℕ) : Type 0 where
  -- the version stands above the length
  pub is : (k : ℕ) → k < places_in shape.ids → count k ≡ length (now k) * 2 ^ 32 + length (items_now now after k)
  pub items : (k : ℕ) → length (items_now now after k) ≤ shape.most_items
  -- a Closed may stand past the limit
  pub entries : (k : ℕ) → length (now k) ≤ shape.most_entries + 1
  -- entries stand at places of the shape
  pub placed : (k : ℕ) → 0 < length (now k) → IsInside shape k

-- all that a slot has
abbrev pub slot_content : Slot → RoomContent
slot_content slot = record { entries = slot.list.entries; items = slot.list.items; most_items = slot.list.most_items; most_entries = slot.list.most_entries; pool = slot.pool.items }

-- what a place's room has when its list is this one
abbrev pub list_content : Listed → RoomContent
list_content list = record { entries = list.entries; items = list.items; most_items = list.most_items; most_entries = list.most_entries; pool = [] }

-- what the pool's room has when its journal is this one
abbrev pub pool_content : List PoolEntry → RoomContent
pool_content pool = record { entries = []; items = []; most_items = 0; most_entries = 0; pool = pool }

-- what a room has is so now: its place's journal, items and limits, or the pool's journal
pub record Fits (shape : Shape) (now : Journals) (after : Histories) (pool : List PoolEntry) (room : ℕ) (c : RoomContent) : Type 0 where
  pub entries : room < places_in shape.ids → c.entries ≡ now room
  pub items : room < places_in shape.ids → c.items ≡ items_now now after room
  pub most_items : room < places_in shape.ids → c.most_items ≡ shape.most_items
  pub most_entries : room < places_in shape.ids → c.most_entries ≡ shape.most_entries
  -- the room after the last place's is the pool's
  pub turns : room ≡ places_in shape.ids → c.pool ≡ pool

-- a room at home; the pool has a spare of at least the number of dying ids
pub record IsRoomAtHome (shape : Shape) (now : Journals) (after : Histories) (pool : List PoolEntry) (room : ℕ) (slot : Slot) : Type 0 where
  pub fits : Fits shape now after pool room (slot_content slot)
  pub spare : room ≡ places_in shape.ids → dying_in shape.ids pool ≤ slot.pool.spare

-- 1 if the room in hand has this number, else 0
abbrev pub is_room : ℕ → Hand → ℕ
is_room r h = only r h.room

-- how often a seat has a room in hand
abbrev pub has_room : ℕ → Holding → ℕ
has_room r v = total (is_room r) v.hands

-- each room in a seat's hand has what it has now
abbrev pub AreInHand : (ℕ → Type 0) → (ℕ → RoomContent → Type 0) → Holding → Type 0
AreInHand IsOne fits v = Each (λ h. IsOne h.room × fits h.room h.content) v.hands

-- Each room is at home if its lock word is 0, and in the hand of one seat if it is 1.
pub record AreRooms (IsOne : ℕ → Type 0) (lock : ℕ → ℕ) (home_of : ℕ → Option (Option Slot)) (keeps : ℕ → Slot → Type 0) (fits : ℕ → RoomContent → Type 0) (hands : List Holding) : Type 0 where
  -- a lock word counts the seats that have the room in hand
  pub locks : (r : ℕ) → IsOne r → total (has_room r) hands ≡ lock r
  pub one : (r : ℕ) → IsOne r → lock r ≤ 1
  -- the content of a free room is in its slot
  pub home : (r : ℕ) → IsOne r → lock r ≡ 0 → (slot : Slot) × (home_of r ≡ some (some slot)) × keeps r slot
  pub hand : Each (AreInHand IsOne fits) hands

-- the journals as a family of places
abbrev pub family_of : Journals → Family
family_of now place = now (place_number place)

-- whether this is Some of k
abbrev pub is_some_of : ℕ → prelude.Option ℕ → Bool
is_some_of k None = false
is_some_of k (Some x) = x == k

-- 1 if this is Some of k, else 0
abbrev pub only_some : ℕ → prelude.Option ℕ → ℕ
only_some k o = cond (is_some_of k o) 1 0

-- 1 if the seat is amid the splice of the list of this place into its parent's, else 0
abbrev pub half_of : ℕ → Holding → ℕ
half_of k h = only_some k h.half

-- The splice of a child's list of which only the parent's MovedIn is stored.
pub record IsHalfSpliced (parents : List ℕ) (now : Journals) (h : Holding) (k : ℕ) : Type 0 where
  -- the place is of a child
  pub below_root : 0 < group_of k
  pub group : group_of k < length parents
  -- the seat has both rooms in hand
  pub own : 0 < has_room k h
  pub parent : 0 < has_room (above parents k) h
  -- the child's list is still open
  pub child : is_closed (now k) ≡ false
  -- and the parent's journal has its MovedIn
  pub taken : Contains (moved_in (now (above parents k))) (group_of k)

-- Every journal is legal, and the items are those that the family of journals leaves, each born in
-- a group of the tree. The family is paired: a child's list is closed if and only if its parent's
-- took it in, but for a seat that has stored the one count and not yet the other.
pub record AreLists (parents : List ℕ) (now : Journals) (after : Histories) (hands : List Holding) : Type 0 where
  -- after n entries
  pub items : (k n : ℕ) → n ≤ length (now k) → after k n ≡ items_at parents (family_of now) (place_at k) n
  pub births : (k n : ℕ) → n ≤ length (now k) → AreBorn (length parents) (after k n)
  pub legal : (k : ℕ) → IsLegal parents (family_of now) (place_at k)
  -- a child's list that is closed was moved into its parent's
  pub closed : (k : ℕ) → 0 < group_of k → group_of k < length parents → is_closed (now k) ≡ true → Contains (moved_in (now (above parents k))) (group_of k)
  -- one that was moved in is closed, or a seat is between the two stores
  pub taken : (k : ℕ) → 0 < group_of k → group_of k < length parents → Contains (moved_in (now (above parents k))) (group_of k) → (is_closed (now k) ≡ true) ⊎ (0 < total (half_of k) hands)
  -- a seat between the two stores is as it should be
  pub halves : Each (λ h. (k : ℕ) → h.half ≡ Some k → IsHalfSpliced parents now h k) hands

-- 1 if this is the entry of the place with this number, else 0
abbrev pub hit : ℕ → ℕ → Made → ℕ
hit k n x = cond (x.place == k) (cond (x.number == n) 1 0) 0

-- an entry stands in the journal with its number, and these items were there before it
abbrev pub IsMade : Journals → Histories → Made → Type 0
IsMade now after x = (get_elem? (now x.place) x.number ≡ some x.entry) × (x.items ≡ after x.place x.number)

-- what is known of a place's journal is a prefix of it
abbrev pub IsKnown : Journals → Known → Type 0
IsKnown now x = Begins x.entries (now x.place)

-- the list had the count's length after the first `version` entries of its journal
abbrev pub IsSeen : Journals → Histories → Counted → Type 0
IsSeen now after x = (x.version ≤ length (now x.place)) × (x.len ≡ length (after x.place x.version))

-- what seats made, know and have counted is so
pub record AreTraces (now : Journals) (after : Histories) (traces : List Traces) : Type 0 where
  -- each entry of each journal is made by exactly one seat, and no other entry is
  pub once : (k n : ℕ) → total (λ t. total (hit k n) t.made) traces ≡ cond (nat_lt n (length (now k))) 1 0
  -- an entry that was made stands in the journal, and its items were there before it
  pub made : Each (λ t. Each (IsMade now after) t.made) traces
  -- what a seat knows is a prefix of the journal
  pub known : Each (λ t. Each (IsKnown now) t.known) traces
  -- a count that was seen was so at its version
  pub seen : Each (λ t. Each (IsSeen now after) t.seen) traces

-- a map has the bit of each place that its seat had set by then and that no seat has cleared
abbrev pub IsMapped : ℕ → List Marks → Mapped → Type 0
IsMapped places marks x = (k : ℕ) → k < places → map_of k ≡ x.map → 0 < times k x.set → total (λ m. times k m.cleared) marks ≡ 0 → bit_at x.bits (place_bit k) ≡ 1

-- each bit that a map has was set by some seat
abbrev pub IsShown : ℕ → List Marks → Mapped → Type 0
IsShown places marks x = (k : ℕ) → k < places → map_of k ≡ x.map → bit_at x.bits (place_bit k) ≡ 1 → 0 < total (λ m. times k m.sets) marks

-- each bit that a map has stands for an id
abbrev pub HasOnlyIds : ℕ → Mapped → Type 0
HasOnlyIds ids x = (b : ℕ) → b < 64 → bit_at x.bits b ≡ 1 → 64 * (x.map / 1024) + b < ids

-- the bit words are as the seats have set and cleared them, and what they owe is enough
pub record AreMarks (ids : ℕ) (count bits phase : ℕ → ℕ) (marks : List Marks) : Type 0 where
  -- if a place below the root has items and its id is live, its bit is set or a seat owes it
  pub flagged : (k : ℕ) → k < places_in ids → 0 < group_of k → phase (place_id k) % 3 ≡ 1 → 0 < count k % 2 ^ 32 → (bit_at (bits (map_of k)) (place_bit k) ≡ 1) ⊎ (0 < total (λ m. times k m.owed) marks)
  -- a bit that a seat has set and none has cleared is set
  pub settled : (k : ℕ) → k < places_in ids → 0 < total (λ m. times k m.sets) marks → total (λ m. times k m.cleared) marks ≡ 0 → bit_at (bits (map_of k)) (place_bit k) ≡ 1
  -- and so in each map that was seen since
  pub mapped : Each (λ m. Each (IsMapped (places_in ids) marks) m.maps) marks
  -- a bit that is set, or was seen to be, some seat has set
  pub raised : (k : ℕ) → k < places_in ids → bit_at (bits (map_of k)) (place_bit k) ≡ 1 → 0 < total (λ m. times k m.sets) marks
  pub shown : Each (λ m. Each (IsShown (places_in ids) marks) m.maps) marks
  -- each bit that is set stands for an id
  pub none_else : (m b : ℕ) → m < places_in ids → b < 64 → bit_at (bits m) b ≡ 1 → 64 * (m / 1024) + b < ids
  -- and each that was seen to be
  pub none_shown : Each (λ m. Each (HasOnlyIds ids) m.maps) marks

-- 1 if this is the lookup of the id with this number, else 0
abbrev pub hit_attempt : ℕ → ℕ → Tried → ℕ
hit_attempt i n x = cond (x.id == i) (cond (x.number == n) 1 0) 0

-- what a lookup of the id meets now
abbrev pub met_now : ℕ → List PoolEntry → prelude.Option ℕ
met_now i pool = if is_live i pool then Some (decl_of i pool) else None

-- a lookup was held if and only if its number lies in a registration, and then by its declaration
abbrev pub IsTried : ℕ → List PoolEntry → Tried → Type 0
IsTried ids pool x = (x.id < ids) × (x.held ≡ decl_at x.number (registrations x.id pool))

-- a word that was loaded had no more lookups than there are now
abbrev pub IsLoaded : ℕ → (ℕ → ℕ) → Loaded → Type 0
IsLoaded ids look x = (x.id < ids) × (x.word.lookups ≤ lookups_of (look x.id))

-- a held id is live or dying, and its number lies in its last registration, which has the
-- declaration
pub record IsHeld (ids : ℕ) (look : ℕ → ℕ) (pool : List PoolEntry) (c : Claims) (i : ℕ) : Type 0 where
  pub near : i < ids
  -- the id is live or dying
  pub busy : phase_of i pool % 3 ≢ 0
  -- its number was handed out
  pub below : c.number < lookups_of (look i)
  -- and not before the last registration
  pub last : from_of i pool ≤ c.number
  pub decl : c.decl ≡ decl_of i pool
  -- and that is what a lookup with this number meets
  pub met : decl_at c.number (registrations i pool) ≡ Some c.decl

-- the lookup words, by what each seat holds, probes and has tried
pub record AreLookups (ids first : ℕ) (look : ℕ → ℕ) (pool : List PoolEntry) (claims : List Claims) : Type 0 where
  -- there are at most 65 seats
  pub few : length claims ≤ 65
  -- the references in a word are those of the seats that hold or probe the id
  pub refs : (i : ℕ) → i < ids → refs_of (look i) ≡ total (λ c. only_some i c.held + only_some i c.probe) claims
  -- each reference is of another view: none holds and probes at once
  pub apart : Each (λ c. (c.held ≡ None) ⊎ (c.probe ≡ None)) claims
  -- numbers fit their 32 bits, with one for each seat that may look up next
  pub space : (i : ℕ) → i < ids → lookups_of (look i) + total (λ c. only_some i c.may) claims ≤ max first (2 ^ 32 - 192)
  -- numbers begin with the first
  pub low : (i : ℕ) → i < ids → first ≤ lookups_of (look i)
  pub phase : (i : ℕ) → i < ids → phase_in (look i) ≡ phase_of i pool
  pub decl : (i : ℕ) → i < ids → decl_in (look i) ≡ decl_of i pool
  -- a lookup made from now on meets what the journal's last entry says
  pub edges : (i n : ℕ) → i < ids → lookups_of (look i) ≤ n → decl_at n (registrations i pool) ≡ met_now i pool
  -- a registration that has ended did so by the lookups now
  pub ended : (i : ℕ) → i < ids → HaveEndedBy (lookups_of (look i)) (registrations i pool)
  -- no entry of the id has a number past the lookups now
  pub numbers : (i : ℕ) → i < ids → last_number i pool ≤ lookups_of (look i)
  -- the last registration began by then too
  pub began : (i : ℕ) → i < ids → from_of i pool ≤ lookups_of (look i)
  -- every number from the first up to the lookups now was handed out to exactly one attempt
  pub once : (i n : ℕ) → i < ids → total (λ c. total (hit_attempt i n) c.attempts) claims ≡ cond (nat_le first n && nat_lt n (lookups_of (look i))) 1 0
  pub tried : Each (λ c. Each (IsTried ids pool) c.attempts) claims
  pub loaded : Each (λ c. Each (IsLoaded ids look) c.loaded) claims
  pub held : Each (λ c. (i : ℕ) → c.held ≡ Some i → IsHeld ids look pool c i) claims

-- the drain mark of a node: the lists of the owned id are empty from this group on
abbrev pub mark_of : Claims → ℕ → ℕ
mark_of c node = slice_index c.drained node

-- a seat with these claims owns the id
pub record IsOwner (shape : Shape) (now : Journals) (after : Histories) (pool : List PoolEntry) (claims : List Claims) (c : Claims) (i : ℕ) : Type 0 where
  pub near : i < shape.ids
  pub dying : phase_of i pool % 3 ≡ 2
  -- once a load has shown no reference, no seat holds the id
  pub quiet : c.quiet ≡ true → total (λ d. only_some i d.held) claims ≡ 0
  -- one mark for each of 4 nodes
  pub nodes : length c.drained ≡ 4
  -- a mark moves only when the id is quiet
  pub unmoved : c.quiet ≡ false → (node : ℕ) → node < 4 → groups_in shape ≤ mark_of c node
  -- lists at or above the mark of their node are empty
  pub drained : (k : ℕ) → place_id k ≡ i → mark_of c (node_of k) ≤ group_of k → items_now now after k ≡ []

-- who owns dying ids, and which lists are empty
pub record AreOwned (shape : Shape) (now : Journals) (after : Histories) (pool : List PoolEntry) (claims : List Claims) : Type 0 where
  -- an id has at most one owner
  pub one : (i : ℕ) → total (λ c. only_some i c.owner) claims ≤ 1
  -- what an owner knows of its id is so
  pub owner : Each (λ c. (i : ℕ) → c.owner ≡ Some i → IsOwner shape now after pool claims c i) claims
  -- a place that the shape lacks has nothing
  pub outside : (k : ℕ) → (groups_in shape ≤ group_of k) ⊎ (shape.nodes ≤ node_of k) → items_now now after k ≡ []
  -- an idle id has empty lists
  pub resting : (k : ℕ) → k < places_in shape.ids → phase_of (place_id k) pool % 3 ≡ 0 → items_now now after k ≡ []

-- 1 if this is the pool's entry with this number, else 0
abbrev pub hit_turn : ℕ → Turn → ℕ
hit_turn n x = only n x.number

-- the entry stands in the pool's journal at its number
abbrev pub IsTurn : List PoolEntry → Turn → Type 0
IsTurn pool x = get_elem? pool x.number ≡ some x.entry

-- the pool's journal, and what seats have made and know of it
pub record AreTurns (ids decls : ℕ) (pool : List PoolEntry) (turns : List Turns) : Type 0 where
  -- each entry of the pool's journal is made by exactly one seat, and no other entry is
  pub once : (n : ℕ) → total (λ t. total (hit_turn n) t.made) turns ≡ cond (nat_lt n (length pool)) 1 0
  pub made : Each (λ t. Each (IsTurn pool) t.made) turns
  -- what a seat knows of it is a prefix
  pub known : Each (λ t. Begins t.known pool) turns
  -- and so is what any seat that was joined into it knew
  pub heard : Each (λ t. Each (λ k. Begins k pool) t.heard) turns
  -- it is a journal of registrations
  pub journal : IsPoolJournal ids decls pool

-- The registration in which the lookup of a dated id lies ended after that lookup: the next
-- Unregistered of the id after these entries, if there is one, has a later number.
pub record IsDated (ids : ℕ) (look : ℕ → ℕ) (pool : List PoolEntry) (d : Dated) : Type 0 where
  pub near : d.id < ids
  -- its number was handed out
  pub below : d.number < lookups_of (look d.id)
  pub entries : d.entries ≤ length pool
  pub ended : is_before d.number (end_of d.id (drop d.entries pool)) ≡ true

-- what seats have dated is so
abbrev pub AreDated : ℕ → (ℕ → ℕ) → List PoolEntry → List Turns → Type 0
AreDated ids look pool turns = Each (λ t. Each (IsDated ids look pool) t.dated) turns

-- the entry ends a registration of the id
abbrev pub ends_registration : ℕ → PoolEntry → Bool
ends_registration i (Registered decl id from) = false
ends_registration i (Unregistered decl id to) = id == i
ends_registration i (Idle id) = false

-- one of these turns is the id's last Unregistered in the pool's journal
pub record HasLastEnd (i : ℕ) (pool : List PoolEntry) (turns : List Turn) : Type 0 where
  pub place : ℕ
  pub turn : Turn
  -- it is one of these turns
  pub own : get_elem? turns place ≡ some turn
  pub stands : IsTurn pool turn
  pub ends : ends_registration i turn.entry ≡ true
  -- no later entry ends a registration of the id
  pub last : (n : ℕ) (e : PoolEntry) → turn.number < n → get_elem? pool n ≡ some e → ends_registration i e ≡ false
  -- and the id has no later entry
  pub alone : phase_of i pool ≡ phase_of i (take turn.number pool) + 1

-- a view made the last Unregistered of the id that it owns
abbrev pub HasOwnEnd : List PoolEntry → View → Type 0
HasOwnEnd pool v = (i : ℕ) → v.claims.owner ≡ Some i → HasLastEnd i pool v.turns.made

-- the rooms that a view has in hand
abbrev pub holding_of : View → Holding
holding_of v = v.holding

-- what a view has made, knows and has counted of journals
abbrev pub traces_of : View → Traces
traces_of v = v.traces

-- the bits that a view owes, has set, has cleared and has seen
abbrev pub marks_of : View → Marks
marks_of v = v.marks

-- the ids that a view holds, probes and owns, and its lookups
abbrev pub claims_of : View → Claims
claims_of v = v.claims

-- what a view has made and knows of the pool's journal
abbrev pub turns_of : View → Turns
turns_of v = v.turns

-- where a view stands among the seats
abbrev pub view_standing : View → Standing
view_standing v = v.standing

-- the phase of an id by the pool's journal
abbrev pub phases : List PoolEntry → ℕ → ℕ
phases pool i = phase_of i pool

-- the rooms and lock words of a core with this setting
abbrev pub AreRoomsOf : Setting → Journals → Histories → List PoolEntry → (ℕ → ℕ) → List (Option Slot) → List Holding → Type 0
AreRoomsOf key now after pool lock homes hands = AreRooms (IsRoom key.shape) lock (homes_in (sizes_of key.shape) homes) (IsRoomAtHome key.shape now after pool) (Fits key.shape now after pool) hands

-- the lookup words of a core with this setting
abbrev pub AreLookupsOf : Setting → (ℕ → ℕ) → List PoolEntry → List Claims → Type 0
AreLookupsOf key look pool claims = AreLookups key.shape.ids key.first_lookup look pool claims

-- The rule by its parts: over the journals now, the words of each kind, the slots at home and each
-- part of the views.
pub record Rules (key : Setting) (now : Journals) (after : Histories) (pool : List PoolEntry) (count lock bits look : ℕ → ℕ) (homes : List (Option Slot))
    (hands : List Holding) (traces : List Traces) (marks : List Marks) (claims : List Claims) (turns : List Turns) (standings : List Standing) : Type 0 where
  pub counted : AreCounts key.shape now after count
  pub roomed : AreRoomsOf key now after pool lock homes hands
  pub listed : AreLists key.shape.parents.items now after hands
  pub traced : AreTraces now after traces
  pub marked : AreMarks key.shape.ids count bits (phases pool) marks
  pub looked : AreLookupsOf key look pool claims
  pub owned : AreOwned key.shape now after pool claims
  pub turned : AreTurns key.shape.ids key.shape.decls pool turns
  pub dated : AreDated key.shape.ids look pool turns
  pub seated : AreSeats standings

-- The rule of the core table. It holds between any two steps.
pub record Sound (key : Setting) (s : State Slot View) : Type 0 where
  -- what the words and slots stand for: the journals, the items after each entry, registrations
  pub now : Journals
  pub after : Histories
  pub pool : List PoolEntry
  pub sized : IsCoreSetting key
  -- a row of words and a slot for each room
  pub wide : length s.words ≡ words_in (sizes_of key.shape)
  pub deep : length s.homes ≡ rooms_in (sizes_of key.shape)
  -- a view that was joined away holds nothing else
  pub emptied : AreEmptied view_standing spent s.views
  -- a view that owns an id made the id's last Unregistered
  pub ended : Each (HasOwnEnd pool) s.views
  -- all that the seats did, in one order
  pub ordered : AreOrdered key.shape.ids key.first_lookup now pool (bits_in (sizes_of key.shape) s.words) (looks_in s.words) s.views
  pub rules : Rules key now after pool (counts_in (sizes_of key.shape) s.words) (locks_in (sizes_of key.shape) s.words) (bits_in (sizes_of key.shape) s.words) (looks_in s.words) s.homes
      (map holding_of s.views) (map traces_of s.views) (map marks_of s.views) (map claims_of s.views) (map turns_of s.views) (map view_standing s.views)
