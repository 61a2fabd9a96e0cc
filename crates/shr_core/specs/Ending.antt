-- SPDX-License-Identifier: GPL-2.0-only
-- What a core leaves when it is finished.
use Rattle.std.specs.Prelude.{◌≡◌, ℕ, zero, suc, ◌+◌, ◌/◌, ◌^◌, ◌<◌, All, List, [], ◌∷◌, ◌++◌, map, cond, ◌==◌, if◌then◌else◌}
use mathlib.Core.Option.{Option, none, some}
use lib.ListN.{get_elem?}
use Rattle.atomic_table.specs.Table.{State}
use Rattle.shr_base.specs.declared.objects.Object.{Object}
use Rattle.shr_base.specs.declared.places.Place.{Place}
use Rattle.shr_base.specs.declared.journals.Entry.{Entry}
use Rattle.shr_base.specs.declared.ends.PlaceEnd.{PlaceEnd}
use Rattle.shr_base.specs.declared.ends.MapEnd.{MapEnd}
use Rattle.shr_base.specs.declared.ends.Closed.{Closed}
use Rattle.shr_core.specs.declared.view.View.{View}
use Rattle.shr_core.specs.Slots.{Slot}
use Rattle.shr_core.specs.declared.setting.Setting.{Setting}
use Rattle.shr_seats.specs.declared.rows.Sizes.{Sizes}
use Rattle.shr_core.specs.Layout.{is_row, row_in, bits_in, looks_in, places_in, place_at, map_number}
use Rattle.shr_seats.specs.Shapes.{sizes_of, groups_in}
use Rattle.shr_core.specs.Lookup.{lookups_of}
use Rattle.shr_core.specs.Rule.{Sound, items_now}

-- each of these bit words has 64 bits
abbrev pub AreNarrow : List MapEnd → Type 0
AreNarrow maps = All (λ (m : MapEnd). m.bits < 2 ^ 64) maps

-- a place's end, without the spare of its lists
pub record EndValue : Type 0 where
  pub place : Place
  pub entries : List Entry
  pub items : List Object

-- the place, the journal and the items of an end
abbrev pub end_value : PlaceEnd → EndValue
end_value end = record { place = end.place; entries = end.entries.items; items = end.items.items }

-- the end of the place with this number, if it has a journal
abbrev pub place_ends : ℕ → List Entry → List Object → List EndValue
place_ends k [] items = []
place_ends k (e ∷ es) items = record { place = place_at k; entries = e ∷ es; items = items } ∷ []

-- the ends of the places with lower numbers that have a journal, in the order of their numbers
unfoldable pub ends_below : ℕ → (ℕ → List Entry) → (ℕ → List Object) → List EndValue
ends_below zero entries items = []
ends_below (suc k) entries items = ends_below k entries items ++ place_ends k (entries k) (items k)

-- the lookups of the ids with lower numbers
unfoldable pub lookups_below : ℕ → (ℕ → ℕ) → List ℕ
lookups_below zero look = []
lookups_below (suc id) look = lookups_below id look ++ lookups_of (look id) ∷ []

-- the bit words of a node and group, of lower units
unfoldable pub units_below : ℕ → ℕ → ℕ → (ℕ → ℕ) → List MapEnd
units_below zero node group bits = []
units_below (suc unit) node group bits = units_below unit node group bits ++ record { node = node; group = group; unit = unit; bits = bits (map_number node group unit) } ∷ []

-- the bit words of a node, of lower groups but the root
unfoldable pub groups_below : ℕ → ℕ → ℕ → (ℕ → ℕ) → List MapEnd
groups_below units zero node bits = []
groups_below units (suc group) node bits = groups_below units group node bits ++ (if group == 0 then [] else units_below units node group bits)

-- the bit words of lower nodes
unfoldable pub nodes_below : ℕ → ℕ → ℕ → (ℕ → ℕ) → List MapEnd
nodes_below units groups zero bits = []
nodes_below units groups (suc node) bits = nodes_below units groups node bits ++ groups_below units groups node bits

-- how many units of 64 ids there are
abbrev pub units_in : ℕ → ℕ
units_in ids = (ids + 63) / 64

-- the journal in a slot, empty if there is no slot
abbrev pub entries_of : Option Slot → List Entry
entries_of none = []
entries_of (some slot) = slot.list.entries

-- the items in a slot, none if there is no slot
abbrev pub items_of_slot : Option Slot → List Object
items_of_slot none = []
items_of_slot (some slot) = slot.list.items

-- the journal in the slot of the place with this number
abbrev pub entries_in : Sizes → List Slot → ℕ → List Entry
entries_in z slots k = cond (is_row z k) (entries_of (get_elem? slots (row_in z k))) []

-- the items in the slot of the place with this number
abbrev pub items_in : Sizes → List Slot → ℕ → List Object
items_in z slots k = cond (is_row z k) (items_of_slot (get_elem? slots (row_in z k))) []

-- What is left is that of a last state which meets the rule and in which the seat has this view:
-- each place that has a journal with its items, by id, node and group; each bit word by node, group
-- and unit; each id's number of lookups; and the journal of registrations.
pub record IsClosedOf (key : Setting) (id : ℕ) (v : View) (closed : Closed) : Type 0 where
  pub last : State Slot View
  pub sound : Sound key last
  pub seat : get_elem? last.views id ≡ some v
  pub pool : closed.pool.items ≡ sound.pool
  pub places : map end_value closed.places.items ≡ ends_below (places_in key.shape.ids) sound.now (items_now sound.now sound.after)
  pub maps : closed.maps.items ≡ nodes_below (units_in key.shape.ids) (groups_in key.shape) key.shape.nodes (bits_in (sizes_of key.shape) last.words)
  pub lookups : closed.lookups.items ≡ lookups_below key.shape.ids (looks_in last.words)
