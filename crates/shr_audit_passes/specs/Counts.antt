-- SPDX-License-Identifier: GPL-2.0-only
-- The counts of a walk, against what the journals of their places leave.
use Rattle.std.specs.Prelude.{◌≡◌, ℕ, ◌≤◌, List, length}
use Rattle.std.specs.List.{AllByRecursion}
use Rattle.shr_base.specs.declared.places.Place.{Place}
use Rattle.shr_base.specs.declared.scripts.Script.{Script}
use Rattle.shr_base.specs.Walks.{Attempt, WalkRecord}
use Rattle.shr_model.specs.Attempts.{Count, counts_of}
use Rattle.shr_model.specs.Families.{items_at}
use Rattle.shr_model.specs.Walks.{place_in}
use Rattle.shr_laws.specs.declared.report.Report.{Report}
use Rattle.shr_laws.specs.LawfulWalk.{IsCountRight}
use Rattle.shr_laws.specs.Parts.{journals_of}

-- a count of a place is right, in a tree with these parents
pub record IsCountIn (parents : List ℕ) (r : Report) (place : Place) (c : Count) : Type 0 where
  pub there : c.version ≤ length (journals_of r place)
  pub len : c.len ≡ length (items_at parents (journals_of r) place c.version)

-- each count of an attempt of a walk is, in such a tree
abbrev pub AreCountsIn : List ℕ → Report → WalkRecord → Attempt → Type 0
AreCountsIn parents r w a = AllByRecursion (IsCountIn parents r (place_in w a.id)) (counts_of a.outcome)

-- each is, in the tree of the script
abbrev pub AreCountsAt : Script → Report → WalkRecord → Attempt → Type 0
AreCountsAt s r w a = AllByRecursion (IsCountRight s r (place_in w a.id)) (counts_of a.outcome)
