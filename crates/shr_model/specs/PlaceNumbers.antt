-- SPDX-License-Identifier: GPL-2.0-only
-- The number of a place.
use Rattle.std.specs.Prelude.{ℕ, ◌+◌, ◌*◌}
use Rattle.shr_base.specs.declared.places.Place.{Place}

-- the number of a place: those of an id stand together, and within them those of a node
abbrev pub place_number : Place → ℕ
place_number place = 1024 * place.id + 256 * place.node + place.group
