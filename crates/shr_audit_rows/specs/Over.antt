-- SPDX-License-Identifier: GPL-2.0-only
-- What an Over says of the last charge, against the charges of its command.
use Rattle.std.specs.Prelude.{◌≡◌, ℕ, pos, ◌≤◌}
use Rattle.std.specs.Option.{IsSomeAnd}
use Rattle.shr_base.specs.declared.places.Serial.{Serial}
use Rattle.shr_base.specs.declared.scripts.Script.{Script}
use Rattle.shr_laws.specs.Parts.{limit_of}
use Rattle.shr_audit_rows.specs.declared.tried.Refused.{Refused}
use Rattle.shr_audit_rows.specs.declared.tried.Tried.{Tried}

-- a group's limit isn't above a usage
abbrev pub IsFullAt : Script → ℕ → ℕ → Type 0
IsFullAt s group usage = IsSomeAnd (limit_of s group) (λ limit. limit ≤ usage)

-- the charge of a command is the one that an Over says
pub record IsSaidOf (by : Serial) (refused : Refused) (t : Tried) : Type 0 where
  pub index : t.index ≡ refused.operation
  pub operation : t.last.operation ≡ refused.operation
  pub group : t.last.group ≡ refused.group
  pub found : t.last.found ≡ pos refused.usage
  pub worker : t.last.by.worker ≡ by.worker
  pub command : t.last.by.command ≡ by.command

-- there are 14 of them
abbrev pub AreFourteen : Tried → Type 0
AreFourteen t = t.ups ≡ 14
