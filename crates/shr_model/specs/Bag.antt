-- SPDX-License-Identifier: GPL-2.0-only
-- Which objects were added, freed and are listed, by the serials of the commands that added them.
use Rattle.std.specs.Prelude.{◌≢◌, ℕ, if◌then◌else◌, List, [], ◌∷◌, ◌++◌, map, flat_map, IsPermutation}
use Rattle.std.specs.List.{AllByRecursion}
use Rattle.shr_base.specs.declared.objects.Object.{Object}
use Rattle.shr_base.specs.declared.places.Place.{Place}
use Rattle.shr_base.specs.declared.places.Serial.{Serial}
use Rattle.shr_base.specs.declared.journals.Entry.{Entry}
use Rattle.shr_base.specs.declared.journals.Entry.TheVariants.{Add}
use Rattle.shr_model.specs.Items.{freed_from}
use Rattle.shr_model.specs.Families.{Family, lists_moved_at, items_of}

-- the serials of objects
abbrev pub serials_of : List Object → List Serial
serials_of objects = map (λ o. o.serial) objects

-- the serial that an entry adds
abbrev pub added_by : Entry → List Serial
added_by (Add by birth added key value) = if added then by ∷ [] else []
added_by e = []

-- the serials that a journal adds
abbrev pub added_by_all : List Entry → List Serial
added_by_all entries = flat_map added_by entries

-- the serials that the journals of these places add
abbrev pub added_in : List Place → Family → List Serial
added_in places family = flat_map (λ p. added_by_all (family p)) places

-- the objects that the journal of a place frees
abbrev pub freed_at : List ℕ → Family → Place → List Object
freed_at parents family place = freed_from (lists_moved_at parents family place) [] (family place)

-- the serials of the objects that the journals of these places free
abbrev pub freed_in : List Place → List ℕ → Family → List Serial
freed_in places parents family = flat_map (λ p. serials_of (freed_at parents family p)) places

-- the serials of the objects that the journals of these places leave
abbrev pub listed_in : List Place → List ℕ → Family → List Serial
listed_in places parents family = flat_map (λ p. serials_of (items_of parents family p)) places

-- no two serials are the same
unfoldable pub AreDistinct : List Serial → Type 0
AreDistinct [] = Unit {0}
AreDistinct (x ∷ xs) = AllByRecursion (λ y. x ≢ y) xs × AreDistinct xs

-- each object was added once, and was freed once or is listed once
pub record IsBag (added freed listed : List Serial) : Type 0 where
  pub distinct : AreDistinct added
  pub parts : IsPermutation added (freed ++ listed)
