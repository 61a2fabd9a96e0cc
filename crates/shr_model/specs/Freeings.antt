-- SPDX-License-Identifier: GPL-2.0-only
-- Which objects each entry freed, and how many of them were born at or below a group.
use Rattle.std.specs.Prelude.{ℕ, Bool, ◌==◌, List, map, count_by}
use Rattle.std.specs.List.{list_any, enumerate_from}
use Rattle.shr_base.specs.declared.objects.Object.{Object}
use Rattle.shr_base.specs.declared.places.Place.{Place}
use Rattle.shr_base.specs.declared.journals.Entry.{Entry}
use Rattle.shr_model.specs.Groups.{path_of}
use Rattle.shr_model.specs.Items.{freed_by}
use Rattle.shr_model.specs.Families.{Family, items_at}

-- an entry with the objects that it freed
pub record Freeing : Type 0 where
  pub entry : Entry
  pub objects : List Object

-- the entries of a place with the objects that they freed
abbrev pub freeings_at : List ℕ → Family → Place → List Freeing
freeings_at parents family place =
    map (λ (e : ℕ × Entry). record { entry = e.1; objects = freed_by (items_at parents family place e.0) e.1 }) (enumerate_from 0 (family place))

-- a group is at or above another
abbrev pub is_at_or_above : List ℕ → ℕ → ℕ → Bool
is_at_or_above parents group below = list_any (λ g. g == group) (path_of parents below)

-- how many of the objects were born at or below a group
abbrev pub born_below : List ℕ → ℕ → List Object → ℕ
born_below parents group objects = count_by (λ (o : Object). is_at_or_above parents group o.birth) objects
