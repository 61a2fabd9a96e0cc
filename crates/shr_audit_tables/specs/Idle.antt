-- SPDX-License-Identifier: GPL-2.0-only
-- Ids that are idle at the end, and what their lists have left.
use Rattle.std.specs.Prelude.{◌≡◌, ℕ, ◌%◌, ◌≤◌, List, [], slice_get, Some}
use Rattle.shr_base.specs.declared.places.Place.{Place}
use Rattle.shr_base.specs.declared.journals.PoolEntry.{PoolEntry}
use Rattle.shr_model.specs.Families.{items_of}
use Rattle.shr_model.specs.Pool.{phase_of}
use Rattle.shr_laws.specs.declared.report.Report.{Report}
use Rattle.shr_laws.specs.Parts.{journals_of}
use Rattle.shr_audit_tables.specs.declared.registrations.IdState.{IdState}

-- a journal of registrations speaks of no id past the last
abbrev pub NonePast : ℕ → List PoolEntry → Type 0
NonePast ids es = (id : ℕ) → ids ≤ id → phase_of id es ≡ 0

-- the id is idle, as each is that is past the last
abbrev pub IsIdleIn : List IdState → ℕ → Type 0
IsIdleIn states id = (x : IdState) → slice_get states id ≡ Some x → x.phase % 3 ≡ 0

-- a list has nothing left
abbrev pub IsEmptyAt : List ℕ → Report → Place → Type 0
IsEmptyAt parents r place = items_of parents (journals_of r) place ≡ []

-- if its id is idle, it has not
abbrev pub IsEmptyIfIdle : List ℕ → Report → List IdState → Place → Type 0
IsEmptyIfIdle parents r states place = IsIdleIn states place.id → IsEmptyAt parents r place

-- the lists of idle ids are empty
abbrev pub AreIdleEmpty : List ℕ → Report → Type 0
AreIdleEmpty parents r = (place : Place) → phase_of place.id r.pool.items % 3 ≡ 0 → IsEmptyAt parents r place
