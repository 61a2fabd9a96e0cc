-- SPDX-License-Identifier: GPL-2.0-only
-- Bits: none is missing at the end.
use Rattle.std.specs.Prelude.{◌≡◌, ◌≢◌, ℕ, Bool, true, false, ◌&&◌, ◌==◌, find, [], Option, Some, None}
use Rattle.shr_base.specs.declared.places.Place.{Place}
use Rattle.shr_base.specs.declared.ends.MapEnd.{MapEnd}
use Rattle.shr_base.specs.declared.scripts.Script.{Script}
use Rattle.shr_model.specs.Places.{unit_of, bit_of}
use Rattle.shr_model.specs.Bits.{is_set}
use Rattle.shr_model.specs.Pool.{is_live}
use Rattle.shr_laws.specs.declared.report.Report.{Report}
use Rattle.shr_laws.specs.Parts.{items_left}

-- a printed bit word has the bit of a place
abbrev pub has_bit : Place → MapEnd → Bool
has_bit place m = (m.node == place.node) && (m.group == place.group) && (m.unit == unit_of place.id)

-- a printed bit word, if there is one, has this bit
abbrev pub shows_bit : ℕ → Option MapEnd → Bool
shows_bit bit None = false
shows_bit bit (Some m) = is_set m.bits bit

-- the bit of a place is set at the end
abbrev pub is_set_at : Report → Place → Bool
is_set_at r place = shows_bit (bit_of place.id) (find (has_bit place) r.maps.items)

-- no bit is missing at the end of a run
pub record AreBitsLawful (s : Script) (r : Report) : Type 0 where
  -- each place below the root that has items, and whose id is live at the end, has its bit set
  pub set : (place : Place) → place.group ≢ 0 → items_left s r place ≢ [] → is_live place.id r.pool.items ≡ true → is_set_at r place ≡ true
