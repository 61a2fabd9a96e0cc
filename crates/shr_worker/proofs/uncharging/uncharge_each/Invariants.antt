-- SPDX-License-Identifier: GPL-2.0-only
use Rattle.shr_worker.proofs.Common.{◌≡◌, ◌≤◌, length, take, AllUncharged}
use Rattle.shr_worker.proofs.uncharging.uncharge_each.Given as goal

abbrev pub invariant-loop-object : goal.invariant-loop-object
invariant-loop-object l = record {
  within : l.object-index ≤ length l.objects;
  uncharged : AllUncharged l.initial.seat.charge.shape.parents.items l.by (take l.object-index l.objects) l.initial.seat l.seat l.initial.uses.items l.uses.items;
  objects : l.objects ≡ l.fn.objects;
  by : l.by ≡ l.fn.by;
}
