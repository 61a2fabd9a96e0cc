-- SPDX-License-Identifier: GPL-2.0-only
use Rattle.shr_audit_pools.proofs.Stocked.{reclaims_more, reclaims_whole}
use Rattle.shr_audit_pools.proofs.stock.all_reclaims.Goals as goal

pub loop-number-preserved : goal.loop-number-preserved
loop-number-preserved c =
    reclaims_more c.args.entries.now c.loop-number.number _ c.loop-number.reclaims.items c.note_reclaim.new.reclaims.items c.loop-number-test.true c.loop-number.invariant c.in_ok-note_reclaim.ensures

pub returns : goal.returns
returns c = reclaims_whole c.args.entries.now c.loop-number.number c.loop-number.reclaims.items c.loop-number-test.false c.loop-number.invariant
