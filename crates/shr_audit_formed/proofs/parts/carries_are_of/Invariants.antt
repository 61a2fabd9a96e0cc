-- SPDX-License-Identifier: GPL-2.0-only
use Rattle.shr_audit_formed.proofs.Common.{◌≡◌, ◌<◌, ℕ, Some, slice_get, Carry, IsWorkerCommand}
use Rattle.shr_audit_formed.proofs.parts.carries_are_of.Given as goal

abbrev pub invariant-loop-carry : goal.invariant-loop-carry
invariant-loop-carry l = (n : ℕ) (x : Carry) → n < l.carry-index → slice_get l.carries n ≡ Some x → IsWorkerCommand l.worker l.answers x.by
