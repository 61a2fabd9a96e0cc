-- SPDX-License-Identifier: GPL-2.0-only
use Rattle.shr_audit_reasons.proofs.Common.{◌≡◌, ◌<◌, ℕ, Some, slice_get, TreeEntry, IsMadeNotedOnce}
use Rattle.shr_audit_reasons.proofs.trees.are_mades_once.Given as goal

abbrev pub invariant-loop-n : goal.invariant-loop-n
invariant-loop-n l = (m : ℕ) (e : TreeEntry) → m < l.n → slice_get l.tree m ≡ Some e → IsMadeNotedOnce l.table m e
