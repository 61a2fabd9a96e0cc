-- SPDX-License-Identifier: GPL-2.0-only
-- The workers that may have begun the offlining of a group above another.
use Rattle.std.specs.Prelude.{◌≡◌, ◌≢◌, ℕ, ◌<◌, Bool, true, false, ◌==◌, cond, List, length, slice_index_or}
use Rattle.shr_base.specs.declared.places.Serial.{Serial}
use Rattle.shr_base.specs.declared.scripts.Script.{Script}
use Rattle.shr_model.specs.Groups.{IsAtOrAbove}
use Rattle.shr_laws.specs.declared.report.Report.{Report}
use Rattle.shr_laws.specs.Causes.{IsOffline, MayHaveBegun}
use Rattle.shr_laws.specs.Parts.{parents_of}
use Rattle.shr_audit_reasons.specs.declared.cites.Cited.{Cited}
use Rattle.shr_audit_reasons.specs.declared.cites.Cited.TheVariants.{Never, Once, Often}
use Rattle.shr_audit_causes.specs.declared.above.Whose.{Whose}
use Rattle.shr_audit_causes.specs.declared.above.Whose.TheVariants.{Nobody, One, Several}

-- it is so of two workers
pub record AreTwo (P : ℕ → Type 0) : Type 0 where
  pub one : ℕ
  pub other : ℕ
  pub apart : one ≢ other
  pub first : P one
  pub second : P other

-- it is so of none, of just this one, or of more
abbrev pub IsWhose : (ℕ → Type 0) → Whose → Type 0
IsWhose P Nobody = (worker : ℕ) → P worker → ⊥
IsWhose P (One v) = P v × ((worker : ℕ) → P worker → worker ≡ v)
IsWhose P Several = AreTwo P

-- the workers of the commands that are noted
abbrev pub whose_of : Cited → Whose
whose_of Never = Nobody
whose_of (Once worker command) = One worker
whose_of (Often worker command others) = cond others Several (One worker)

-- those of which the one or the other is so
abbrev pub either : Whose → Whose → Whose
either Nobody b = b
either Several b = Several
either (One v) Nobody = One v
either (One v) Several = Several
either (One v) (One w) = cond (v == w) (One v) Several

-- it is so of no other worker
abbrev pub is_only : Whose → ℕ → Bool
is_only Nobody worker = true
is_only (One v) worker = v == worker
is_only Several worker = false

-- a worker may have begun the offlining of this group
pub record BeganAt (s : Script) (r : Report) (group worker : ℕ) : Type 0 where
  pub by : Serial
  pub own : by.worker ≡ worker
  pub began : IsOffline s r by group MayHaveBegun

-- of a group above this one
pub record BeganAbove (s : Script) (r : Report) (group worker : ℕ) : Type 0 where
  pub at : ℕ
  pub other : at ≢ group
  pub above : IsAtOrAbove (parents_of s) at group
  pub began : BeganAt s r at worker

-- the table has these workers by the group
pub record AreAbove (s : Script) (r : Report) (table : List Whose) : Type 0 where
  pub count : length table ≡ 65536
  pub each : (group : ℕ) → group < 65536 → IsWhose (BeganAbove s r group) (slice_index_or table group Nobody)
