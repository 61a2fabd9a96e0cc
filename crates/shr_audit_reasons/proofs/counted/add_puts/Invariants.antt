-- SPDX-License-Identifier: GPL-2.0-only
use Rattle.shr_audit_reasons.proofs.SpentCommon.{ℕ, ◌+◌, length, take, filter, is_put, IsCapped}
use Rattle.shr_audit_reasons.proofs.counted.add_puts.Given as goal

abbrev pub invariant-loop-command : goal.invariant-loop-command
invariant-loop-command l = (count : ℕ) → IsCapped l.before count → IsCapped l.puts (count + length (filter is_put (take l.command-index l.commands)))
