-- SPDX-License-Identifier: GPL-2.0-only
-- What reading a script gives.
use Rattle.std.specs.Prelude.{◌≡◌, ℕ, List, Result, Ok, Err}
use Rattle.shr_model.specs.Pieces.{pieces}
use Rattle.shr_base.specs.declared.scripts.Script.{Script}
use Rattle.shr_script.specs.declared.read.ReadError.{ReadError}
use Rattle.shr_script.specs.declared.read.ReadError.TheVariants as errors
use Rattle.shr_script.specs.declared.stopped.Stopped.{Stopped}
use Rattle.shr_script.specs.declared.stopped.Stopped.TheVariants as stops
use Rattle.shr_script.specs.declared.draft.Draft.{Draft}
use Rattle.shr_script.specs.declared.said.Said.{Said}
use Rattle.shr_script.specs.Said.{said_state}
use Rattle.shr_script.specs.Lines.{State, start}
use Rattle.shr_script.specs.Faults.{IsFault, Fault}
use Rattle.shr_script.specs.Content.{Content, content_of}
use Rattle.shr_script.specs.Drafted.{Drafted, drafted, empty, run_from}

-- how a call that stopped at a line is answered
abbrev pub error_at : ℕ → Stopped → ReadError
error_at line (stops.Bad code) = errors.Fault line code
error_at line stops.Memory = errors.Memory

-- What was returned is what the run gives, unless memory ran out.
abbrev pub Runs : Result (Said × Draft) ReadError → Result (State × Drafted) Fault → Type 0
Runs (Ok x) run = run ≡ Ok (said_state x.0, drafted x.1)
Runs (Err (errors.Fault line code)) run = run ≡ Err (line, code)
Runs (Err errors.Memory) run = Unit {0}

-- what the bytes have said and drafted at their end, or their first fault
abbrev pub run_of : List ℕ → Result (State × Drafted) Fault
run_of bytes = run_from start empty 1 (pieces 10 bytes)

-- the script is read, unless memory ran out
abbrev pub ReadsScript : Result Script ReadError → Content → Type 0
ReadsScript (Ok s) t = content_of s ≡ t
ReadsScript (Err (errors.Fault line code)) t = ⊥
ReadsScript (Err errors.Memory) t = Unit {0}

-- a fault is that of the first bad line
abbrev pub IsCause : ReadError → List ℕ → Type 0
IsCause (errors.Fault line code) bytes = IsFault bytes line code
IsCause errors.Memory bytes = Unit {0}

-- the fault is returned, unless memory ran out
abbrev pub TellsFault : Result Script ReadError → Fault → Type 0
TellsFault (Ok s) f = ⊥
TellsFault (Err (errors.Fault line code)) f = (line, code) ≡ f
TellsFault (Err errors.Memory) f = Unit {0}

-- this cannot be
abbrev pub Refuted : Type 0
Refuted = ⊥
