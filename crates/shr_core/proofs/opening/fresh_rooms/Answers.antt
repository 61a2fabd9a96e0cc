-- SPDX-License-Identifier: GPL-2.0-only
use Rattle.shr_core.proofs.Common.{[], ◌∷◌, length, ap, sym, subst, arith, length-append, AreFreshRooms, Each-push, IsFreshRoom}
use Rattle.shr_core.proofs.opening.fresh_rooms.Goals as goal

pub loop-preserved : goal.loop-preserved
loop-preserved c = let e = c.in_ok-push.ensures.items in let inv = c.loop.invariant in
    (omega (arith, inv.0, ap (λ x. length x) e, length-append c.loop.rooms.items (c.fresh.result ∷ [])), subst (AreFreshRooms c.args.most_items c.args.most_entries) (sym e) (Each-push (IsFreshRoom c.args.most_items c.args.most_entries) c.loop.rooms.items c.fresh.result c.fresh.ensures inv.1))
