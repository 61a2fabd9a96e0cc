-- SPDX-License-Identifier: GPL-2.0-only
-- The charges of commands in groups. No clause of the law cites this.
use Rattle.std.specs.Prelude.{◌≡◌, ℕ, ◌+◌, ◌*◌, ◌^◌, ◌<◌, ◌==◌, nat_eq, nat_lt, cond, min, true, List, length, drop, filter, get_or, slice_get, Option, Some, None}
use Rattle.std.specs.declared.hash.FoldHasher.{FoldHasher}
use Rattle.std.specs.declared.hash.BuildHasherDefault.{BuildHasherDefault}
use Rattle.std.specs.HashMap.{get, HashMap}
use Rattle.shr_base.specs.declared.journals.UseStep.{UseStep}
use Rattle.shr_base.specs.declared.places.Serial.{Serial}
use Rattle.shr_model.specs.Charges.{is_by, ops_by, ups}
use Rattle.shr_laws.specs.Parts.{serial_of}
use Rattle.shr_audit_rows.specs.declared.tried.Tried.{Tried}

-- a command in a group by one number
abbrev pub tried_key : ℕ → ℕ → ℕ → ℕ
tried_key group worker command = 281474976710656 * group + 4294967296 * worker + command

-- the numbers have the ranges of their types
pub record IsTriedKeyed (g w n : ℕ) : Type 0 where
  pub group : g < 2 ^ 16
  pub worker : w < 2 ^ 16
  pub command : n < 2 ^ 32

-- the operations of a group
abbrev pub tried_uses : List UseStep → ℕ → List UseStep
tried_uses uses group = filter (λ (o : UseStep). o.group == group) uses

-- a table of charges by commands in groups
abbrev pub TriedMap : Type 0
TriedMap = HashMap ℕ Tried (BuildHasherDefault FoldHasher)

-- no command has any
abbrev pub IsUntried : TriedMap → Type 0
IsUntried tried = (key : ℕ) → get nat_eq tried key ≡ None

-- the charges of a command among the operations of a group: so many, up to 15, and the last is this one
pub record IsTriedBy (ops : List UseStep) (by : Serial) (t : Tried) : Type 0 where
  pub count : t.ups ≡ min 15 (ups (ops_by by ops))
  pub at : slice_get ops t.index ≡ Some t.last
  pub up : t.last.up ≡ true
  pub own : is_by by t.last ≡ true
  pub last : ups (ops_by by (drop (t.index + 1) ops)) ≡ 0

-- the same, or there is none
abbrev pub TriesIn : List UseStep → Serial → Option Tried → Type 0
TriesIn ops by None = ups (ops_by by ops) ≡ 0
TriesIn ops by (Some t) = IsTriedBy ops by t

-- the table has the charges of each command in each group, and how many operations there are in each
pub record AreTries (uses : List UseStep) (tried : TriedMap) (counts : List ℕ) : Type 0 where
  pub sized : length counts ≡ 65536
  pub counted : (group : ℕ) → group < 65536 → get_or counts group 0 ≡ length (tried_uses uses group)
  pub each : (group worker command : ℕ) → IsTriedKeyed group worker command → TriesIn (tried_uses uses group) (serial_of worker command) (get nat_eq tried (tried_key group worker command))

-- one charge more, 15 where there are more
abbrev pub ups_with : Option Tried → ℕ
ups_with None = 1
ups_with (Some t) = cond (nat_lt t.ups 15) (t.ups + 1) 15

-- the last charge of its command in its group is this one, which stands there
abbrev pub last_with : Option Tried → UseStep → ℕ → Tried
last_with before step index = record { ups = ups_with before; index = index; last = step }

-- the key of an operation
abbrev pub step_key : UseStep → ℕ
step_key step = tried_key step.group step.by.worker step.by.command

-- it was noted
pub record IsLastNoted (step : UseStep) (index : ℕ) (old new : TriedMap) : Type 0 where
  pub keyed : IsTriedKeyed step.group step.by.worker step.by.command
  pub put : (key : ℕ) → get nat_eq new key ≡ cond (nat_eq (step_key step) key) (Some (last_with (get nat_eq old (step_key step)) step index)) (get nat_eq old key)
