-- SPDX-License-Identifier: GPL-2.0-only
use Rattle.shr_audit_sweep.proofs.Common.{◌≡◌, ◌*◌, ◌++◌, List, length, take, WalkRecord, AreMarked}
use Rattle.shr_audit_sweep.proofs.marks.mark_walks.Given as goal

abbrev pub invariant-loop-walk : goal.invariant-loop-walk
invariant-loop-walk l = record {
  size : length l.marks.items ≡ l.groups * l.nodes;
  marked : (before : List WalkRecord) → AreMarked l.groups l.nodes before l.fn.marks.items → AreMarked l.groups l.nodes (before ++ take l.walk-index l.walks) l.marks.items;
}
