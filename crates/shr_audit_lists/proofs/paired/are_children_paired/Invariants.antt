-- SPDX-License-Identifier: GPL-2.0-only
use Rattle.shr_audit_lists.proofs.Common.{◌≡◌, ◌<◌, ℕ, true, is_child, at_group, IsPairedAt, journals_of}
use Rattle.shr_audit_lists.proofs.paired.are_children_paired.Given as goal

abbrev pub invariant-loop-child : goal.invariant-loop-child
invariant-loop-child l = (c : ℕ) → c < l.child → is_child l.parents l.place.group c ≡ true → IsPairedAt l.parents (journals_of l.report) (at_group l.place c)
