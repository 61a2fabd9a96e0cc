-- SPDX-License-Identifier: GPL-2.0-only
use Rattle.shr_charge.proofs.Common.{refl}
use Rattle.shr_charge.proofs.SeatLaws.{token_is}
use Rattle.shr_charge.proofs.table.Charge.store_as.Goals as goal

pub returns-clause-same : goal.returns-clause-same
returns-clause-same g c = token_is c.args.token.now c.store.new.seat _ c.store.ensures.0 c.store.ensures.1 refl
