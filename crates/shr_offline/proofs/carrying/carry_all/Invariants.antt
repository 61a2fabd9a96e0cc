-- SPDX-License-Identifier: GPL-2.0-only
use Rattle.shr_offline.proofs.Common.{◌≡◌, ◌+◌, ◌≤◌, shape_of, count_of_places, AreCarried}
use Rattle.shr_offline.proofs.carrying.carry_all.Given as goal

abbrev pub invariant-loop-number : goal.invariant-loop-number
invariant-loop-number l = record {
  spare : count_of_places (shape_of l.shared.core) ≤ l.carries.spare + l.number;
  carried : AreCarried (shape_of l.shared.core) l.fn.by l.fn.group l.number l.sum l.fn.seat l.seat l.fn.carries.items l.carries.items;
  by : l.by ≡ l.fn.by;
}
