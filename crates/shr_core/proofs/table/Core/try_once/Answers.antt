-- SPDX-License-Identifier: GPL-2.0-only
use Rattle.shr_core.proofs.Common.{ℕ, ◌+◌, ◌*◌, eqb, arith, with_try, took, place_content, PlaceTold}
use prog.Atomic.{either}
use Rattle.shr_core.proofs.RoomSteps.{tried}
use Rattle.shr_core.proofs.Laying.{inside_low}
use Rattle.shr_core.proofs.Calls.{may}
use Rattle.shr_core.proofs.table.Core.try_once.Goals as goal

pub exchange_as-requires : goal.exchange_as-requires
exchange_as-requires c = let core = c.args.self.now in let token = c.args.token.now in let r : ℕ = c.args.room in let row : ℕ = c.args.row in let room = c.requires.room in let is = c.requires.row.0 in
    may core token _ (8 * row + 1) (λ y. either (eqb y 0) 1 y) (took token.me (with_try token.me.0 r) r row place_content (PlaceTold core.setting.shape token.me.0 r)) c.requires.seat.table c.lock_word.ensures (omega (arith, is, inside_low core.setting.shape r room))
    (tried core.setting _ _ token.me r row room is c.requires.seat.present)
