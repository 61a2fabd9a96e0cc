-- SPDX-License-Identifier: GPL-2.0-only
-- The entries of the journal of the tree, and the answers that made them.
use Rattle.std.specs.Prelude.{◌≡◌, ℕ, Bool, true, false, List, ⊤}
use Rattle.shr_base.specs.declared.places.Serial.{Serial}
use Rattle.shr_base.specs.declared.journals.TreeEntry.{TreeEntry}
use Rattle.shr_base.specs.declared.journals.TreeEntry.TheVariants.{Begin, Done, Made}
use Rattle.shr_base.specs.declared.scripts.Script.{Script}
use Rattle.shr_laws.specs.declared.report.Report.{Report}
use Rattle.shr_laws.specs.Causes as causes
use Rattle.shr_laws.specs.Causes.{IsOffline, MayHaveBegun, StandsInTree}
use Rattle.shr_audit_reasons.specs.declared.cites.Cited.{Cited}
use Rattle.shr_audit_reasons.specs.declared.cites.Cited.TheVariants.{Never, Once, Often}
use Rattle.shr_audit_reasons.specs.Cites.{cited_in}

-- one answer says so
abbrev pub is_once : Cited → Bool
is_once Never = false
is_once (Once worker command) = true
is_once (Often worker command others) = false

-- an answer does
abbrev pub is_cited : Cited → Bool
is_cited Never = false
is_cited (Once worker command) = true
is_cited (Often worker command others) = true

-- an entry, if it is a Done, was noted once
abbrev pub IsDoneNotedOnce : List Cited → ℕ → TreeEntry → Type 0
IsDoneNotedOnce table n (Done group) = is_once (cited_in table n) ≡ true
IsDoneNotedOnce table n e = ⊤

-- the same of a Made
abbrev pub IsMadeNotedOnce : List Cited → ℕ → TreeEntry → Type 0
IsMadeNotedOnce table n (Made group) = is_once (cited_in table n) ≡ true
IsMadeNotedOnce table n e = ⊤

-- the group of an entry, if it is a Begin, was noted
abbrev pub IsBeginCited : List Cited → TreeEntry → Type 0
IsBeginCited table (Begin group) = is_cited (cited_in table group) ≡ true
IsBeginCited table e = ⊤

-- each Begin is of an `offline` that may have begun
abbrev pub AreBeginsCaused : Script → Report → Type 0
AreBeginsCaused s r = (n group : ℕ) → StandsInTree r n (Begin group) → (by : Serial) × IsOffline s r by group MayHaveBegun

-- each Done, and each Made, is cited by one answer as its own
abbrev pub AreDonesCaused : Report → Type 0
AreDonesCaused r = (n group : ℕ) → StandsInTree r n (Done group) → causes.IsDoneOnce r n

-- the same of each Made
abbrev pub AreMadesCaused : Report → Type 0
AreMadesCaused r = (n group : ℕ) → StandsInTree r n (Made group) → causes.IsMadeOnce r n
