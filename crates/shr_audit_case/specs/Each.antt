-- SPDX-License-Identifier: GPL-2.0-only
-- What is said of each answer, walk and entry of a report, as a loop over what is printed sees it.
use Rattle.std.specs.Prelude.{◌≡◌, ℕ, List, slice_get, Some}
use Rattle.shr_base.specs.declared.places.Serial.{Serial}
use Rattle.shr_base.specs.declared.replies.Answered.{Answered}
use Rattle.shr_base.specs.declared.scripts.Command.{Command}
use Rattle.shr_base.specs.declared.scripts.Script.{Script}
use Rattle.shr_base.specs.declared.ends.PlaceEnd.{PlaceEnd}
use Rattle.shr_base.specs.declared.ends.WorkerPart.{WorkerPart}
use Rattle.shr_laws.specs.declared.report.Report.{Report}
use Rattle.shr_laws.specs.Parts.{command_at, serial_of}
use Rattle.shr_audit_case.specs.Places.{IsFirst}

-- P of each item that the parts of the workers have in a field, with the numbers of its worker and its own
abbrev pub InParts : {X : Type 0} → (WorkerPart → List X) → Report → (ℕ → ℕ → X → Type 0) → Type 0
InParts {X} items r P = (worker : ℕ) (part : WorkerPart) → slice_get r.workers.items worker ≡ Some part
    → (n : ℕ) (x : X) → slice_get (items part) n ≡ Some x → P worker n x

-- P of each answer to a command of the script
abbrev pub AnswersInParts : Script → Report → (Serial → Command → Answered → Type 0) → Type 0
AnswersInParts s r P = InParts (λ (part : WorkerPart). part.answers.items) r (λ worker n a. (c : Command) → command_at s (serial_of worker n) ≡ Some c → P (serial_of worker n) c a)

-- P of each list that is the first one printed for its place
abbrev pub EachFirst : List PlaceEnd → (PlaceEnd → Type 0) → Type 0
EachFirst ends P = (k : ℕ) (end : PlaceEnd) → slice_get ends k ≡ Some end → IsFirst ends k end.place → P end
