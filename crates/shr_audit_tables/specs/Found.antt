-- SPDX-License-Identifier: GPL-2.0-only
-- What commands found, in the form in which it is tested.
use Rattle.std.specs.Prelude.{◌≡◌, ℕ, ◌≤◌, true, Option, Some, None}
use Rattle.shr_base.specs.declared.replies.Answered.{Answered}
use Rattle.shr_base.specs.declared.replies.Found.{Found}
use Rattle.shr_base.specs.declared.scripts.Command.{Command}
use Rattle.shr_base.specs.declared.scripts.Script.{Script}
use Rattle.shr_model.specs.Commands.{decl_named}
use Rattle.shr_model.specs.Pool.{is_before}
use Rattle.shr_audit_case.specs.declared.steps.Registration.{Registration}
use Rattle.shr_laws.specs.declared.report.Report.{Report}
use Rattle.shr_laws.specs.Lookups.{IsFoundRight}
use Rattle.shr_laws.specs.Parts.{EachAnswer, command_at, serial_of}

-- if a command that names a declaration found a cache, it was live with this declaration
abbrev pub IsFindRight : Report → Command → Answered → Type 0
IsFindRight r c a = (decl : ℕ) (f : Found) → decl_named c ≡ Some decl → a.found ≡ Some f → IsFoundRight r decl f

-- the same of the command with this number of a worker, if there is one
abbrev pub IsFindAt : Script → Report → ℕ → ℕ → Answered → Type 0
IsFindAt s r worker n a = (c : Command) → command_at s (serial_of worker n) ≡ Some c → IsFindRight r c a

-- the same of each
abbrev pub AreFoundRight : Script → Report → Type 0
AreFoundRight s r = EachAnswer s r (λ by c a. IsFindRight r c a)

-- a lookup of a declaration with this number lies in the registration
abbrev pub IsLiveRight : Option Registration → ℕ → ℕ → Type 0
IsLiveRight None decl number = ⊥
IsLiveRight (Some x) decl number = (x.decl ≡ decl) × ((x.from ≤ number) × (is_before number x.to ≡ true))
