-- SPDX-License-Identifier: GPL-2.0-only
use Rattle.shr_audit_fresh.proofs.Common.{◌≡◌, length, take, AreFloors}
use Rattle.shr_audit_fresh.proofs.floors.walk_floors.Given as goal

abbrev pub invariant-loop-walk : goal.invariant-loop-walk
invariant-loop-walk l = (length l.floors.items ≡ l.size) × AreFloors l.worker (take l.walk-index l.walk-items) l.floors.items
