-- SPDX-License-Identifier: GPL-2.0-only
use Rattle.std.proofs.Common.{arith}
use Rattle.shr_base.specs.declared.walks.PassRecord.{PassRecord}
use Rattle.shr_model.proofs.PassLaws.{follows}
use Rattle.shr_arith.specs.Passes.{ending_of}
use Rattle.shr_arith.proofs.passes.shrink.Goals as goal

-- the record of the pass as one with a history of nothing
pub returns-clause-pass : goal.returns-clause-pass
returns-clause-pass g c =
    let planned = c.plan-plan.ensures in
    let tally = c.scan_due-tally.result in
    let did = c.scan_due-tally.ensures in
    let pass : PassRecord = record {
      len = c.count-len.result;
      version = 0;
      nr = c.args.deferred;
      asks = tally.calls;
      closed = 0;
      scanned = tally.asked;
      freed = tally.freed;
      next = c.next_deferred-next.result;
      ending = ending_of tally.stopped;
    } in
    let is = follows c.args.pressure.priority c.args.pressure.seeks c.args.pressure.batch c.plan-plan.result.batch c.plan-plan.result.total c.plan-plan.result.delta pass planned.batch planned.total planned.delta did.made did.asked c.next_deferred-next.ensures (omega arith) in
    record { made = is.made; asked = is.scanned; freed = did.freed; next = is.next }
