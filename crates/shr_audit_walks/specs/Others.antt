-- SPDX-License-Identifier: GPL-2.0-only
-- Scan entries of passes, by the keys of these.
use Rattle.std.specs.Prelude.{◌<◌, List, Contains, ⊤}
use Rattle.shr_base.specs.declared.journals.Entry.{Entry}
use Rattle.shr_base.specs.declared.journals.Entry.TheVariants.{Scan}
use Rattle.shr_base.specs.declared.places.Place.{Place}
use Rattle.shr_laws.specs.declared.report.Report.{Report}
use Rattle.shr_model.specs.Isolations.{first_isolation}
use Rattle.shr_audit_formed.specs.Each.{EachItem}
use Rattle.shr_audit_walks.specs.Keys.{key_of}
use Rattle.shr_audit_walks.specs.Passes.{keys_of_report}

-- a Scan entry at a place that is of a walk is of one with a pass there
abbrev pub IsEntryOfPass : Report → Place → Entry → Type 0
IsEntryOfPass r place (Scan worker n asked policy visits freed stopped) = n < first_isolation → Contains (keys_of_report r) (key_of worker n place)
IsEntryOfPass r place e = ⊤

-- each entry of a place is
abbrev pub AreOfPasses : Report → Place → List Entry → Type 0
AreOfPasses r place entries = EachItem (IsEntryOfPass r place) entries
