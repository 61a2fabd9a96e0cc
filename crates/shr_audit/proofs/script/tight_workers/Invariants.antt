-- SPDX-License-Identifier: GPL-2.0-only
use Rattle.shr_audit.proofs.Common.{◌≡◌, map, tight_worker}
use Rattle.shr_audit.proofs.script.tight_workers.Given as goal

abbrev pub invariant-loop-worker : goal.invariant-loop-worker
invariant-loop-worker l = l.tight.items ≡ map tight_worker l.yielded
