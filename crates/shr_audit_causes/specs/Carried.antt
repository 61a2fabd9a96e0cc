-- SPDX-License-Identifier: GPL-2.0-only
-- How much each command of a worker carried.
use Rattle.std.specs.Prelude.{◌≡◌, ℕ, ◌<◌, ◌%◌, ◌^◌, List, length, filter, get_or, sum_by}
use Rattle.shr_base.specs.declared.walks.Carry.{Carry}
use Rattle.shr_model.specs.Commands.{is_serial}
use Rattle.shr_laws.specs.declared.report.Report.{Report}
use Rattle.shr_laws.specs.Parts.{answers_of, carries_of, serial_of}

-- what a command carried, of these carries
abbrev pub carried_by : ℕ → ℕ → List Carry → ℕ
carried_by worker k carries = sum_by (λ (c : Carry). c.amount) (filter (λ (c : Carry). is_serial (serial_of worker k) c.by) carries)

-- the table has it modulo 2^64
abbrev pub HasCarriedSums : ℕ → List Carry → List ℕ → Type 0
HasCarriedSums worker carries table = (k : ℕ) → k < length table → get_or table k 0 ≡ carried_by worker k carries % 2 ^ 64

-- for each command of a worker that has an answer, of all carries
pub record IsCarriedOf (r : Report) (worker : ℕ) (table : List ℕ) : Type 0 where
  pub count : length table ≡ length (answers_of r worker)
  pub each : HasCarriedSums worker (carries_of r worker) table
