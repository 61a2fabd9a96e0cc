-- SPDX-License-Identifier: GPL-2.0-only
-- What is printed to a sink by the page, and what is left to be printed.
use Rattle.std.specs.Prelude.{◌≡◌, ℕ, ◌≤◌, Bool, true, false, List, [], ◌++◌, Option}
use Rattle.std.specs.Io.KnownBytes.{Appends}
use Rattle.shr_outside.specs.Writing.{Writes}
use Rattle.shr_outside.specs.declared.paper.Paper.{Paper}

-- what is to be printed: what the sink told and counted before, and the whole text
pub record Task : Type 0 where
  pub written : Option (List ℕ)
  pub faults : ℕ
  pub text : List ℕ

-- all of the text was written but this rest
pub record WroteAllBut (written written_after : Option (List ℕ)) (text rest : List ℕ) : Type 0 where
  pub sent : List ℕ
  pub whole : text ≡ sent ++ rest
  pub appended : Appends written written_after sent

-- The sink has all of the task's text but this rest; or it failed, and has a front of it.
abbrev pub HasAllBut : Task → List ℕ → Option (List ℕ) → ℕ → Bool → Type 0
HasAllBut task rest written faults false = WroteAllBut task.written written task.text rest × (task.faults ≤ faults)
HasAllBut task rest written faults true = Writes task.written written task.faults faults task.text false × (task.faults ≤ faults)

-- a sink that had all but these bytes, and what is behind them, has them, or it failed
abbrev pub Sends : Option (List ℕ) → Option (List ℕ) → ℕ → ℕ → List ℕ → Bool → Bool → Type 0
Sends written written_after faults faults_after bytes failed failed_after =
    (task : Task) (left : List ℕ) → HasAllBut task (bytes ++ left) written faults failed → HasAllBut task left written_after faults_after failed_after

module _ {K : Type 0} (written : K → Option (List ℕ)) (faults : K → ℕ) where
  -- of the task's text this is left, behind what stands on the page
  unfoldable pub IsLeft : Task → List ℕ → Paper K → Type 0
  IsLeft task left paper = HasAllBut task (paper.page ++ left) (written paper.sink.now) (faults paper.sink.now) paper.failed

  -- of these bytes the others are left, and what was left behind them is left behind these
  abbrev pub PrintsTo : Paper K → Paper K → List ℕ → List ℕ → Type 0
  PrintsTo old new bytes rest = (new.sink.ghost_name ≡ old.sink.ghost_name) × ((task : Task) (left : List ℕ) → IsLeft task (bytes ++ left) old → IsLeft task (rest ++ left) new)

  -- it prints these bytes, where they are what is left first, and leaves what is behind them
  abbrev pub Prints : Paper K → Paper K → List ℕ → Type 0
  Prints old new bytes = (new.sink.ghost_name ≡ old.sink.ghost_name) × ((task : Task) (left : List ℕ) → IsLeft task (bytes ++ left) old → IsLeft task left new)

  -- where nothing is left, the sink has the text, or it failed and has a front of it
  abbrev pub Ends : Paper K → K → Bool → Type 0
  Ends paper sink done = (task : Task) → IsLeft task [] paper → Writes task.written (written sink) task.faults (faults sink) task.text done × (task.faults ≤ faults sink)
