-- SPDX-License-Identifier: GPL-2.0-only
use Rattle.shr_core.specs.Seats.{view_of}
use Rattle.shr_registry.proofs.Searches.{loads_then}
use Rattle.shr_registry.proofs.searching.live_id.Goals.{else-own-shape-via-then-own-shape+else-is_live_as, else-own-shape-via-else-own-shape}
use Rattle.shr_registry.proofs.searching.live_id.Goals as goal

pub returns-clause-loads : goal.returns-clause-loads
returns-clause-loads c =
    let v = view_of c.args.seat.now in
    let last = view_of c.other_live_id.new.seat in
    elim c.else-own-shape.branch [
      | else-own-shape-via-then-own-shape+else-is_live_as w ↦ loads_then v (view_of w.is_live_as.new.seat) last w.is_live_as.ensures.loads (rw w.seat-is at c.other_live_id.ensures.loads)
      | else-own-shape-via-else-own-shape w ↦ rw w.seat-is at c.other_live_id.ensures.loads
    ]
