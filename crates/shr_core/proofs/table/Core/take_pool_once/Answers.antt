-- SPDX-License-Identifier: GPL-2.0-only
use Rattle.shr_core.proofs.Common.{ℕ, ◌+◌, ◌*◌, eqb, arith, places_in, took, turns_content, PoolTold}
use prog.Atomic.{either}
use Rattle.shr_core.proofs.RoomSteps.{pool_taken}
use Rattle.shr_core.proofs.Laying.{pool_row}
use Rattle.shr_core.proofs.Calls.{may}
use Rattle.shr_core.proofs.table.Core.take_pool_once.Goals as goal

pub exchange_as-requires : goal.exchange_as-requires
exchange_as-requires c = let core = c.args.self.now in let token = c.args.token.now in let p : ℕ = places_in core.setting.shape.ids in let row : ℕ = c.args.row in let is = c.requires.row.0 in
    may core token _ (8 * row + 1) (λ y. either (eqb y 0) 1 y) (took token.me token.me.0 p row turns_content (PoolTold core.setting.shape token.me.0)) c.requires.seat.table c.lock_word.ensures (omega (arith, is, pool_row core.setting.shape))
    (pool_taken core.setting _ _ token.me row is core.nodes core.limits.3 c.requires.seat.present)
