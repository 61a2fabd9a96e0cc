-- SPDX-License-Identifier: GPL-2.0-only
use Rattle.shr_tool.proofs.Splits.{IsReading}
use Rattle.shr_tool.proofs.auditing.script_length.Given as goal

abbrev pub invariant-loop-at : goal.invariant-loop-at
invariant-loop-at l = IsReading l.bytes l.start l.at
