-- SPDX-License-Identifier: GPL-2.0-only
-- The groups whose lists an `offline` may have spliced and told of none.
use Rattle.std.specs.Prelude.{◌≡◌, ℕ, ◌<◌, ◌↔◌, true, false, Bool, List, length, get_or, slice_set, Option, Some, None}
use Rattle.shr_base.specs.declared.places.Serial.{Serial}
use Rattle.shr_base.specs.declared.scripts.Script.{Script}
use Rattle.shr_laws.specs.declared.report.Report.{Report}
use Rattle.shr_laws.specs.Causes.{IsOffline, MayHaveSpliced}
use Rattle.shr_laws.specs.Parts.{serial_of}

-- a group is in the table
abbrev pub IsIn : List Bool → ℕ → Type 0
IsIn table group = get_or table group false ≡ true

-- one group more, if there is one
abbrev pub with_spliced_group : Option ℕ → List Bool → List Bool
with_spliced_group None table = table
with_spliced_group (Some group) table = slice_set table group true

-- each group in the table is one that a command may have spliced
abbrev pub AreOnlySpliced : Script → Report → List Bool → Type 0
AreOnlySpliced s r table = (group : ℕ) → IsIn table group → (by : Serial) × IsOffline s r by group MayHaveSpliced

-- the group that the command with this number may have spliced is in the table
abbrev pub HasSpliced : Script → Report → List Bool → ℕ → ℕ → Type 0
HasSpliced s r table worker k = (group : ℕ) → group < length table → IsOffline s r (serial_of worker k) group MayHaveSpliced → IsIn table group

-- groups were added, none but such ones
pub record AddsSpliced (s : Script) (r : Report) (old new : List Bool) : Type 0 where
  pub count : length new ≡ length old
  pub kept : (group : ℕ) → group < length old → IsIn old group → IsIn new group
  pub only : AreOnlySpliced s r old → AreOnlySpliced s r new

-- those of a worker were
pub record NotesWorkerSpliced (s : Script) (r : Report) (worker : ℕ) (old new : List Bool) : Type 0 where
  pub adds : AddsSpliced s r old new
  pub noted : (k : ℕ) → HasSpliced s r new worker k

-- the table has all
pub record HasSplicedGroups (s : Script) (r : Report) (table : List Bool) : Type 0 where
  pub count : length table ≡ 65536
  pub each : (group : ℕ) → group < 65536 → IsIn table group ↔ ((by : Serial) × IsOffline s r by group MayHaveSpliced)
