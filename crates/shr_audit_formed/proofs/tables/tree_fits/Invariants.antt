-- SPDX-License-Identifier: GPL-2.0-only
use Rattle.shr_audit_formed.proofs.Common.{◌≡◌, ◌<◌, ℕ, Some, slice_get, IsTreeNumbered}
use Rattle.shr_base.specs.declared.journals.TreeEntry.{TreeEntry}
use Rattle.shr_audit_formed.proofs.tables.tree_fits.Given as goal

abbrev pub invariant-loop-entry : goal.invariant-loop-entry
invariant-loop-entry l = (n : ℕ) (x : TreeEntry) → n < l.entry-index → slice_get l.entries n ≡ Some x → IsTreeNumbered x
