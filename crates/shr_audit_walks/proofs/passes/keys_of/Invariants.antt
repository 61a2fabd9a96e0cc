-- SPDX-License-Identifier: GPL-2.0-only
use Rattle.shr_audit_walks.proofs.ScansCommon.{◌≡◌, ◌++◌, ℕ, [], take, flat_map, enumerate_from, WorkerPart, keys_of_part}
use Rattle.shr_audit_walks.proofs.passes.keys_of.Given as goal

abbrev pub invariant-loop-worker : goal.invariant-loop-worker
invariant-loop-worker l = l.keys.items ≡ [] ++ flat_map (λ (x : ℕ × WorkerPart). keys_of_part x.0 x.1.walks.items) (take l.worker (enumerate_from 0 l.parts))
