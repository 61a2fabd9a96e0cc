-- SPDX-License-Identifier: GPL-2.0-only
-- A child's list that is closed, and the entry of its parent's that moved it in.
use Rattle.std.specs.Prelude.{◌≡◌, ℕ, ◌<◌, Bool, true, false, ◌==◌, List, length}
use Rattle.shr_base.specs.declared.places.Place.{Place}
use Rattle.shr_base.specs.declared.journals.Entry.{Entry}
use Rattle.shr_base.specs.declared.journals.Entry.TheVariants.{MovedIn}
use Rattle.shr_model.specs.Groups.{is_child}
use Rattle.shr_model.specs.Places.{at_group}
use Rattle.shr_model.specs.Families.{IsPairedAt}
use Rattle.shr_laws.specs.declared.report.Report.{Report}
use Rattle.shr_laws.specs.Parts.{journals_of}

-- an entry moved the list of a child in
abbrev pub moves : ℕ → Entry → Bool
moves child (MovedIn moved objects) = moved == child
moves child e = false

-- the list of a place's own group fits its parent's, if the group is one below the root
abbrev pub IsOwnPaired : List ℕ → Report → Place → Type 0
IsOwnPaired parents r place = 0 < place.group → place.group < length parents → IsPairedAt parents (journals_of r) place

-- the lists of its children fit its own
abbrev pub AreChildrenPaired : List ℕ → Report → Place → Type 0
AreChildrenPaired parents r place = (child : ℕ) → is_child parents place.group child ≡ true → IsPairedAt parents (journals_of r) (at_group place child)

-- both
abbrev pub IsPairedAround : List ℕ → Report → Place → Type 0
IsPairedAround parents r place = IsOwnPaired parents r place × AreChildrenPaired parents r place
