-- SPDX-License-Identifier: GPL-2.0-only
use Rattle.shr_audit_formed.proofs.Common.{◌≡◌, ◌<◌, ℕ, Some, slice_get, HasWords}
use Rattle.shr_base.specs.declared.journals.Entry.{Entry}
use Rattle.shr_audit_formed.proofs.lists.have_words.Given as goal

abbrev pub invariant-loop-entry : goal.invariant-loop-entry
invariant-loop-entry l = (n : ℕ) (x : Entry) → n < l.entry-index → slice_get l.entries n ≡ Some x → HasWords x
