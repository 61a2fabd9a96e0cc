-- SPDX-License-Identifier: GPL-2.0-only
use Rattle.shr_audit_formed.proofs.Common.{◌≡◌, ◌<◌, ℕ, Some, slice_get, Isolation, IsWorkerCommand}
use Rattle.shr_audit_formed.proofs.parts.isolations_are_of.Given as goal

abbrev pub invariant-loop-isolation : goal.invariant-loop-isolation
invariant-loop-isolation l = (n : ℕ) (x : Isolation) → n < l.isolation-index → slice_get l.isolations n ≡ Some x → IsWorkerCommand l.worker l.answers x.by
