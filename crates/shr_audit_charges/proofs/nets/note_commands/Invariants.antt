-- SPDX-License-Identifier: GPL-2.0-only
use Rattle.shr_audit_charges.proofs.Common.{◌≡◌, ◌++◌, take, commands_keys}
use Rattle.shr_audit_charges.proofs.nets.note_commands.Given as goal

abbrev pub invariant-loop-number : goal.invariant-loop-number
invariant-loop-number l = l.keys.items ≡ l.fn.keys.items ++ commands_keys l.parents l.report l.worker 0 (take l.number l.commands)
