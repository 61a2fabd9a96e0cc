-- SPDX-License-Identifier: GPL-2.0-only
use Rattle.shr_plain.proofs.Common.{◌+◌, ◌*◌, ◌%◌, ◌/◌, ◌^◌, subst, sym, Allows, Sizes, IsPools, Counts}
use Rattle.shr_plain.proofs.Holding.{pools_loads}
use Rattle.shr_plain.proofs.table.Pools.count.Goals as goal

pub load_as-word-requires-clause-step : goal.load_as-word-requires-clause-step
load_as-word-requires-clause-step c = let d = c.args.self.now in let t = d.table.shared in let m = c.args.seat.now.me in let id = c.args.seat.now.id in
    subst (λ (k : Sizes). Allows (IsPools k) t.table_id.slots id m (8 * c.args.room + 1) (λ y. y) (λ n r. Counts c.args.room m r (n % 2 ^ 32) (n / 2 ^ 32))) (sym d.keyed)
    (pools_loads d.sizes t.table_id.slots id m c.requires.seat.seat.here c.args.room c.requires.room)
