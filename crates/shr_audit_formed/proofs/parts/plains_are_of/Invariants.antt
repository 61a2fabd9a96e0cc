-- SPDX-License-Identifier: GPL-2.0-only
use Rattle.shr_audit_formed.proofs.Common.{◌≡◌, ◌<◌, ℕ, Some, slice_get, PlainWalk, IsWorkerCommand}
use Rattle.shr_audit_formed.proofs.parts.plains_are_of.Given as goal

abbrev pub invariant-loop-plain : goal.invariant-loop-plain
invariant-loop-plain l = (n : ℕ) (x : PlainWalk) → n < l.plain-index → slice_get l.plains n ≡ Some x → IsWorkerCommand l.worker l.answers x.by
