-- SPDX-License-Identifier: GPL-2.0-only
use Rattle.shr_audit_formed.specs.Formed.{IsPartFormed}
use Rattle.shr_audit_formed.proofs.Eachs.{more_at, all_at}
use Rattle.shr_audit_formed.proofs.formed.are_parts_well.Goals as goal

pub loop-worker-preserved : goal.loop-worker-preserved
loop-worker-preserved c = more_at IsPartFormed c.args.parts.now c.loop-worker.worker c.index-parts-worker.result c.loop-worker-test.true c.index-parts-worker.is c.loop-worker.invariant (c.is_part_well.ensures.0 c.if-not-is_part_well.false)

pub returns : goal.returns
returns c = all_at IsPartFormed c.args.parts.now c.loop-worker.worker c.loop-worker-test.false c.loop-worker.invariant
