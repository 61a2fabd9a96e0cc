-- SPDX-License-Identifier: GPL-2.0-only
use Rattle.shr_audit_lists.proofs.Common.{◌≡◌, [], length, AreMovesTold}
use Rattle.shr_audit_lists.proofs.standing.none_moved.Given as goal

abbrev pub invariant-loop-group : goal.invariant-loop-group
invariant-loop-group l = (length l.moved.items ≡ l._group) × AreMovesTold [] l.moved.items
