-- SPDX-License-Identifier: GPL-2.0-only
-- Reading a source to its end.
use Rattle.std.specs.Prelude.{ℕ, ◌<◌, ◌≤◌, List, length, Option}
use Rattle.std.specs.Io.KnownBytes.{Consumes}
use Rattle.shr_outside.specs.Outside.{Rose}
use Rattle.shr_tool.specs.declared.reading.Input.{Input}
use Rattle.shr_tool.specs.declared.reading.Input.TheVariants.{All, Failed, TooLong, Memory}
use Rattle.shr_tool.specs.Done.{ReadAll}

-- the most bytes of a script with a report behind it
abbrev pub audit_limit : ℕ
audit_limit = 67108864

-- the bytes that were taken are within the limit
pub record TookFew (limit : ℕ) (left left_after : Option (List ℕ)) : Type 0 where
  pub bytes : List ℕ
  pub taken : Consumes left left_after bytes
  pub within : length bytes ≤ limit

-- the first byte past the limit was taken
pub record TookTooMany (limit : ℕ) (left left_after : Option (List ℕ)) : Type 0 where
  pub bytes : List ℕ
  pub taken : Consumes left left_after bytes
  pub above : limit < length bytes

-- the source failed, and no byte past the limit was taken
pub record IsReadFault (limit : ℕ) (left left_after : Option (List ℕ)) (faults faults_after : ℕ) : Type 0 where
  pub rose : Rose faults faults_after
  pub few : TookFew limit left left_after

-- what reading gave, and what the source was asked for
abbrev pub ReadsInput : ℕ → Option (List ℕ) → Option (List ℕ) → ℕ → ℕ → Input → Type 0
ReadsInput limit left left_after faults faults_after (All bytes) = ReadAll limit left left_after bytes.items
ReadsInput limit left left_after faults faults_after Failed = IsReadFault limit left left_after faults faults_after
ReadsInput limit left left_after faults faults_after TooLong = TookTooMany limit left left_after
ReadsInput limit left left_after faults faults_after Memory = TookFew limit left left_after
