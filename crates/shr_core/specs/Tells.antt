-- SPDX-License-Identifier: GPL-2.0-only
-- What each step tells the call that makes it, of the number found and of the seat after it.
use Rattle.std.specs.Prelude.{◌≡◌, ◌≢◌, ℕ, ◌+◌, ◌-◌, ◌*◌, ◌%◌, ◌^◌, ◌<◌, ◌≤◌, ◌==◌, cond, ◌∷◌, List, [], true, length, Some}
use Rattle.shr_base.specs.declared.ends.LookupWord.{LookupWord}
use Rattle.shr_base.specs.declared.journals.PoolEntry.{PoolEntry}
use Rattle.shr_model.specs.Pool.{phase_of, decl_of, from_of, registrations, decl_at}
use Rattle.shr_model.specs.PoolEnds.{dying_in}
use Rattle.shr_list.specs.Listed.{Listed}
use Rattle.shr_seats.specs.Views.{Each}
use Rattle.shr_seats.specs.Standing.{IsWhole}
use Rattle.shr_core.specs.declared.view.View.{View}
use Rattle.shr_core.specs.Slots.{Slot}
use Rattle.shr_seats.specs.declared.shape.Shape.{Shape}
use Rattle.shr_core.specs.declared.setting.Setting.{Setting}
use Rattle.shr_core.specs.Parts.{RoomContent}
use Rattle.shr_core.specs.Layout.{places_in, length_of, version_of}
use Rattle.shr_core.specs.Lookup.{word_in}
use Rattle.shr_core.specs.Rule.{HasLastEnd, has_room, only_some, list_content, pool_content, met_now}
use Rattle.shr_core.specs.Steps.{Sat, with_count, IsCounted, with_drained, with_map, IsOfIds, with_taken, IsTaken, IsTakenPool, with_word, with_lookup, with_phase, in_hand}

-- a load of the count word of the place k
abbrev pub count_loaded : Shape → Sat → ℕ → ℕ → Sat → Type 0
count_loaded shape m k r n = (n ≡ (with_count m.0 k (length_of r) (version_of r), m.1)) × IsCounted shape m.0 k (length_of r) (version_of r)

-- a load of the count word of the place k that notes nothing but that the list is drained, if it is
-- empty
abbrev pub empty_loaded : Sat → ℕ → ℕ → Sat → Type 0
empty_loaded m k r n = n ≡ (cond (length_of r == 0) (with_drained m.0 k) m.0, m.1)

-- a load of the bit word b of a unit
abbrev pub mapped : Shape → Sat → ℕ → ℕ → ℕ → Sat → Type 0
mapped shape m b unit r n = (n ≡ (with_map m.0 b r, m.1)) × IsOfIds shape.ids unit r

-- what a slot is as a place's room
abbrev pub place_content : Slot → RoomContent
place_content slot = list_content slot.list

-- what a slot is as the pool's room
abbrev pub turns_content : Slot → RoomContent
turns_content slot = pool_content slot.pool.items

-- a room was taken, out of the slot of its row, and this is told of what it has
abbrev pub TakesRoom : Sat → ℕ → ℕ → (Slot → RoomContent) → (Slot → Type 0) → Sat → Type 0
TakesRoom m r row of told n = (slot : Slot) × (n ≡ (with_taken m.0 r (of slot), (row, slot) ∷ m.1)) × told slot

-- a seat that is alone finds a room taken only if it has the room itself
abbrev pub IsBusy : View → ℕ → Type 0
IsBusy v r = v.standing.first ≡ true → IsWhole v.standing → 0 < has_room r v.holding

-- a compare and exchange of a lock word: if it found 0 the room is taken, else the view is `missed`
abbrev pub took : Sat → View → ℕ → ℕ → (Slot → RoomContent) → (Slot → Type 0) → ℕ → Sat → Type 0
took m missed r row of told found n = (found ≡ 0 → TakesRoom m r row of told n) × (found ≢ 0 → n ≡ (missed, m.1)) × (found ≢ 0 → IsBusy m.0 r)

-- what is told of the slot of a place's room that was taken
abbrev pub PlaceTold : Shape → View → ℕ → Slot → Type 0
PlaceTold shape v k slot = IsTaken shape v k (list_content slot.list)

-- a seat that is alone has made all of the pool's journal
abbrev pub MadeAll : View → List PoolEntry → Type 0
MadeAll v pool = v.standing.first ≡ true → IsWhole v.standing → length pool ≤ length v.turns.made

-- what is told of the pool's slot that was taken: a spare for each dying id, how long it is, and by
-- whom it was made where the seat is alone
abbrev pub PoolTold : Shape → View → Slot → Type 0
PoolTold shape v slot = IsTakenPool v slot.pool.items × (dying_in shape.ids slot.pool.items ≤ slot.pool.spare) × (length slot.pool.items ≤ 65535 * shape.ids) × MadeAll v slot.pool.items

-- a list has what the seat has in hand
pub record IsInHand (list : Listed) (c : RoomContent) : Type 0 where
  pub entries : list.entries ≡ c.entries
  pub items : list.items ≡ c.items
  pub most_items : list.most_items ≡ c.most_items
  pub most_entries : list.most_entries ≡ c.most_entries

-- the pool is in hand
abbrev pub HasPool : Shape → View → Type 0
HasPool shape v = 0 < has_room (places_in shape.ids) v.holding

-- the pool's journal in hand
abbrev pub pool_of : Shape → View → List PoolEntry
pool_of shape v = (in_hand v (places_in shape.ids)).pool

-- What an id's word says to a seat of this view. The declaration of an id that was registered is
-- one of the shape's. While the pool is in hand, its journal says what is in the word. A seat that
-- is alone knows its references, and before its first lookup its number.
pub record IsOfPool (key : Setting) (v : View) (id : ℕ) (w : LookupWord) : Type 0 where
  pub phase : HasPool key.shape v → w.phase ≡ phase_of id (pool_of key.shape v)
  pub decl : HasPool key.shape v → w.decl ≡ decl_of id (pool_of key.shape v)
  pub declared : w.phase ≢ 0 → w.decl < key.shape.decls
  pub dying : HasPool key.shape v → v.claims.owner ≡ Some id → w.phase % 3 ≡ 2
  -- the Unregistered of an id that the seat owns is its own, and the id's last entry
  pub last_end : HasPool key.shape v → v.claims.owner ≡ Some id → HasLastEnd id (pool_of key.shape v) v.turns.made
  -- the next lookup's number lies in a registration exactly where the id is live, and not before
  -- that
  pub met : HasPool key.shape v → decl_at w.lookups (registrations id (pool_of key.shape v)) ≡ met_now id (pool_of key.shape v)
  pub began : HasPool key.shape v → from_of id (pool_of key.shape v) ≤ w.lookups
  -- it is the number of no lookup that the seat made, and no word that it loaded had more
  pub tried : Each (λ x. x.id ≡ id → x.number < w.lookups) v.claims.attempts
  pub later : Each (λ x. x.id ≡ id → x.word.lookups ≤ w.lookups) v.claims.loaded
  pub first : v.standing.first ≡ true → IsWhole v.standing → v.claims.attempts ≡ [] → w.lookups ≡ key.first_lookup
  -- the seat's own references are counted, and those of a seat that is alone are all
  pub refs : only_some id v.claims.held + only_some id v.claims.probe ≤ w.refs
  pub only : v.standing.first ≡ true → IsWhole v.standing → w.refs ≡ only_some id v.claims.held + only_some id v.claims.probe

-- a load of the lookup word of an id
abbrev pub worded : Setting → Sat → ℕ → ℕ → Sat → Type 0
worded key m i r n = (n ≡ (with_word m.0 i (word_in r), m.1)) × IsOfPool key m.0 i (word_in r)

-- a lookup of an id
abbrev pub looked : Setting → Sat → ℕ → ℕ → Sat → Type 0
looked key m i r n = (n ≡ (with_lookup m.0 i (word_in r), m.1)) × IsOfPool key m.0 i (word_in r)

-- what a phase step adds to a word with the declaration `old`: one to the phase, and the difference
-- to the declaration
abbrev pub raise : ℕ → ℕ → ℕ
raise old decl = (2 ^ 40 + (decl * 2 ^ 56 + (2 ^ 64 - old * 2 ^ 56)) % 2 ^ 64) % 2 ^ 64

-- a phase step
abbrev pub phase_told : Setting → Sat → ℕ → ℕ → ℕ → Sat → Type 0
phase_told key m i d r n = (n ≡ (with_phase key.shape m.0 i d (word_in r), m.1)) × IsOfPool key m.0 i (word_in r)

-- a phase step was made after a load of the word, which the step then found
pub record Raises (key : Setting) (v : View) (id decl : ℕ) (word : LookupWord) (w : View) : Type 0 where
  pub before : LookupWord
  pub loaded : IsOfPool key v id before
  pub found : IsOfPool key (with_word v id before) id word
  pub step : w ≡ with_phase key.shape (with_word v id before) id decl word
