-- SPDX-License-Identifier: GPL-2.0-only
use Rattle.shr_audit_lists.proofs.Common.{◌≡◌, length, AreBegun}
use Rattle.shr_audit_lists.proofs.begun.begun_groups.Given as goal

abbrev pub invariant-loop-group : goal.invariant-loop-group
invariant-loop-group l = (length l.begun.items ≡ l._group) × AreBegun l.parents l.tree l.begun.items
