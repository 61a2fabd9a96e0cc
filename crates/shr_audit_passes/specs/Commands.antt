-- SPDX-License-Identifier: GPL-2.0-only
-- Walks in the order of their commands, and what these are answered.
use Rattle.std.specs.Prelude.{◌≡◌, ◌==◌, ℕ, ◌≤◌, List, filter, slice_get, Some}
use Rattle.shr_base.specs.declared.ends.WorkerPart.{WorkerPart}
use Rattle.shr_base.specs.declared.replies.Answered.{Answered}
use Rattle.shr_base.specs.declared.scripts.Command.{Command}
use Rattle.shr_base.specs.declared.scripts.Script.{Script}
use Rattle.shr_base.specs.Walks.{WalkRecord}
use Rattle.shr_laws.specs.Parts.{command_at, serial_of}
use Rattle.shr_laws.specs.WalksLawful.{IsToldBy}
use Rattle.shr_audit_formed.specs.Each.{Adjacent}

-- as the walks of a worker stand in a well formed report
abbrev pub StandByCommand : List WalkRecord → Type 0
StandByCommand walks = Adjacent (λ x y. x.by.command ≤ y.by.command) walks

-- the walks of a command of a worker
abbrev pub walks_with : List WalkRecord → ℕ → List WalkRecord
walks_with walks n = filter (λ (w : WalkRecord). w.by.command == n) walks

-- the command with this number is answered as its walks say
abbrev pub IsAnswerTold : Script → ℕ → List WalkRecord → ℕ → Answered → Type 0
IsAnswerTold s worker walks n a = (c : Command) → command_at s (serial_of worker n) ≡ Some c → IsToldBy s (walks_with walks n) c a.reply

-- each command of a worker is
abbrev pub IsPartTold : Script → ℕ → WorkerPart → Type 0
IsPartTold s worker part = (n : ℕ) (a : Answered) → slice_get part.answers.items n ≡ Some a → IsAnswerTold s worker part.walks.items n a
