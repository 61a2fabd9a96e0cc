-- SPDX-License-Identifier: GPL-2.0-only
-- The isolations of a command, in the part of its worker. No public clause cites this.
use Rattle.std.specs.Prelude.{◌≡◌, ◌==◌, ℕ, ◌≤◌, List, filter, slice_get, Some}
use Rattle.shr_base.specs.declared.ends.WorkerPart.{WorkerPart}
use Rattle.shr_base.specs.declared.replies.Answered.{Answered}
use Rattle.shr_base.specs.declared.scripts.Command.{Command}
use Rattle.shr_base.specs.declared.scripts.Script.{Script}
use Rattle.shr_base.specs.declared.walks.Isolation.{Isolation}
use Rattle.shr_audit_formed.specs.Each.{Adjacent}
use Rattle.shr_laws.specs.Isolated.{isolations_told}
use Rattle.shr_laws.specs.Parts.{commands_of, serial_of}

-- as the isolations of a worker stand in a well formed report
abbrev pub IsolationsByCommand : List Isolation → Type 0
IsolationsByCommand isolations = Adjacent (λ x y. x.by.command ≤ y.by.command) isolations

-- the isolations of a command of a worker
abbrev pub isolations_with : List Isolation → ℕ → List Isolation
isolations_with isolations n = filter (λ (i : Isolation). i.by.command == n) isolations

-- the answer with this number tells of the isolations of its command, if that is one of the script
abbrev pub TellsIsolations : Script → ℕ → List Isolation → ℕ → Answered → Type 0
TellsIsolations s worker isolations n a = (c : Command) → slice_get (commands_of s worker) n ≡ Some c → isolations_with isolations n ≡ isolations_told (serial_of worker n) c a

-- and so does each answer of a worker
abbrev pub PartTellsIsolations : Script → ℕ → WorkerPart → Type 0
PartTellsIsolations s worker part = (n : ℕ) (a : Answered) → slice_get part.answers.items n ≡ Some a → TellsIsolations s worker part.isolations.items n a
