-- SPDX-License-Identifier: GPL-2.0-only
use Rattle.shr_plain.proofs.Common.{◌≡◌, ◌≢◌, ◌*◌, eqb, subst, sym, Allows, Sizes, IsPools, TakesUnitsRoom}
use prog.Atomic.{either}
use Rattle.shr_plain.proofs.Holding.{pools_locks, tried}
use Rattle.shr_plain.proofs.table.Pools.try_take.Goals as goal

pub lock_as-requires-clause-step : goal.lock_as-requires-clause-step
lock_as-requires-clause-step c = let d = c.args.self.now in let t = d.table.shared in let m = c.args.seat.now.me in let id = c.args.seat.now.id in let s = c.requires.seat in
    subst (λ (k : Sizes). Allows (IsPools k) t.table_id.slots id m (8 * c.args.room) (λ y. either (eqb y 0) 1 y) (λ n r. (n ≡ 0 → TakesUnitsRoom c.args.room m r) × (n ≢ 0 → r ≡ m))) (sym d.keyed)
    (pools_locks d.sizes t.table_id.slots id m s.seat.here c.args.room c.requires.room s.bare (s.out c.args.room))

pub returns : goal.returns
returns c = record { taken = tried c.args.room c.lock_as.result c.args.seat.now c.lock_as.new.seat c.lock_as.ensures.told }
