-- SPDX-License-Identifier: GPL-2.0-only
use Rattle.shr_audit_tables.proofs.Common.{◌≡◌, ◌<◌, ℕ, Some, slice_get, WorkerPart, IsCarryRight, EachItem}
use Rattle.shr_audit_tables.proofs.deferred.are_all_right.Given as goal

abbrev pub invariant-loop-part : goal.invariant-loop-part
invariant-loop-part l = (n : ℕ) (x : WorkerPart) → n < l.part-index → slice_get l.parts n ≡ Some x → EachItem (IsCarryRight l.script l.report) x.carries.items
