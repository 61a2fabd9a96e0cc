-- SPDX-License-Identifier: GPL-2.0-only
use Rattle.shr_audit_reasons.proofs.Common.{◌≡◌, ◌<◌, ℕ, Some, slice_get, TreeEntry, IsBeginCited}
use Rattle.shr_audit_reasons.proofs.trees.are_begins_cited.Given as goal

abbrev pub invariant-loop-n : goal.invariant-loop-n
invariant-loop-n l = (m : ℕ) (e : TreeEntry) → m < l.n → slice_get l.tree m ≡ Some e → IsBeginCited l.table e
