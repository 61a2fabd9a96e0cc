-- SPDX-License-Identifier: GPL-2.0-only
use Rattle.shr_audit_charges.proofs.Common.{◌≡◌, ◌++◌, take, workers_keys}
use Rattle.shr_audit_charges.proofs.nets.note_workers.Given as goal

abbrev pub invariant-loop-worker : goal.invariant-loop-worker
invariant-loop-worker l = l.keys.items ≡ l.fn.keys.items ++ workers_keys l.parents l.report 0 (take l.worker l.workers)
