-- SPDX-License-Identifier: GPL-2.0-only
use Rattle.shr_audit_pools.proofs.DueCommon.{◌≡◌, ◌<◌, ℕ, Some, slice_get, WorkerPart, EachItem, IsDue}
use Rattle.shr_audit_pools.proofs.due.are_walks_of_commands.Given as goal

abbrev pub invariant-loop-part : goal.invariant-loop-part
invariant-loop-part l = (n : ℕ) (part : WorkerPart) → n < l.part-index → slice_get l.part-items n ≡ Some part → EachItem (IsDue l.script l.report) part.plain.items
