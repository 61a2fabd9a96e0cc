-- SPDX-License-Identifier: GPL-2.0-only
-- The entries of tenants, and the replies that cite them.
use Rattle.std.specs.Prelude.{◌≡◌, ℕ, ◌<◌, List, slice_get, Some}
use Rattle.shr_base.specs.declared.places.Place.{Place}
use Rattle.shr_base.specs.declared.places.Serial.{Serial}
use Rattle.shr_base.specs.declared.journals.Entry.{Entry}
use Rattle.shr_model.specs.Tenants.{by_of}
use Rattle.shr_laws.specs.declared.report.Report.{Report}
use Rattle.shr_laws.specs.Parts.{at, cited_at, journals_of, EachEntry}

-- an entry of a place is cited by the reply to its command, if it is a tenant's
abbrev pub IsCited : Report → Place → ℕ → Entry → Type 0
IsCited r place n e = (by : Serial) → by_of e ≡ Some by → cited_at r by ≡ Some (at place n)

-- each entry of a tenant is
abbrev pub AreEntriesCited : Report → Type 0
AreEntriesCited r = EachEntry r (λ place n e. IsCited r place n e)

-- along a journal the commands of each worker rise
abbrev pub AreCommandsRising : List Entry → Type 0
AreCommandsRising entries = (n m : ℕ) (d e : Entry) (by later : Serial) → n < m → slice_get entries n ≡ Some d → slice_get entries m ≡ Some e
    → by_of d ≡ Some by → by_of e ≡ Some later → by.worker ≡ later.worker → by.command < later.command

-- along each journal they do
abbrev pub AreJournalsRising : Report → Type 0
AreJournalsRising r = (place : Place) → AreCommandsRising (journals_of r place)
