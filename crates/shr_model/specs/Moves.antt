-- SPDX-License-Identifier: GPL-2.0-only
-- What passes and carries gave to the deferred word of a place and took from it.
use Rattle.std.specs.Prelude.{ℕ, ◌+◌, Bool, ◌&&◌, ◌==◌, cond, List, flat_map, sum_by}
use Rattle.shr_base.specs.declared.places.Place.{Place}
use Rattle.shr_base.specs.declared.walks.PassRecord.{PassRecord}
use Rattle.shr_base.specs.Walks.{WalkRecord}
use Rattle.shr_base.specs.declared.walks.Carry.{Carry}
use Rattle.shr_model.specs.Places.{is_place}
use Rattle.shr_model.specs.Groups.{is_child}
use Rattle.shr_model.specs.Walks.{passes_at}

-- a place is at this id and node, of a child group
abbrev pub is_below : List ℕ → Place → Place → Bool
is_below parents place child = (child.id == place.id) && (child.node == place.node) && is_child parents place.group child.group

-- what was given: what passes deferred there, and what was carried from the places of child groups
abbrev pub given_at : List ℕ → List WalkRecord → List Carry → Place → ℕ
given_at parents walks carries place =
    sum_by (λ (p : PassRecord). p.next) (flat_map (passes_at place) walks) + sum_by (λ (c : Carry). cond (is_below parents place c.place) c.amount 0) carries

-- what was taken: what passes took over there, and what was carried from this place
abbrev pub taken_at : List WalkRecord → List Carry → Place → ℕ
taken_at walks carries place =
    sum_by (λ (p : PassRecord). p.nr) (flat_map (passes_at place) walks) + sum_by (λ (c : Carry). cond (is_place place c.place) c.amount 0) carries
