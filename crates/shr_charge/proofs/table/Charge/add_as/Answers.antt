-- SPDX-License-Identifier: GPL-2.0-only
use Rattle.shr_charge.proofs.Common.{refl}
use Rattle.shr_charge.proofs.SeatLaws.{token_is}
use Rattle.shr_charge.proofs.table.Charge.add_as.Goals as goal

pub returns-clause-same : goal.returns-clause-same
returns-clause-same g c = token_is c.args.token.now c.fetch_add.new.seat _ c.fetch_add.ensures.0 c.fetch_add.ensures.1 refl
