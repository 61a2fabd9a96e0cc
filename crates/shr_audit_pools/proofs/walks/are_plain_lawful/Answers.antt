-- SPDX-License-Identifier: GPL-2.0-only
use Rattle.shr_audit_pools.proofs.Common.{all_at, more_at, IsPlainLawful}
use Rattle.shr_audit_pools.proofs.walks.are_plain_lawful.Goals as goal

pub loop-n-preserved : goal.loop-n-preserved
loop-n-preserved c = more_at (IsPlainLawful c.args.script.now c.args.report.now c.args.worker) c.args.walks.now c.loop-n.n c.index-walks-n.result c.loop-n-test.true c.index-walks-n.is c.loop-n.invariant (c.is_plain_lawful.ensures.0 c.if-not-is_plain_lawful.false)

pub returns : goal.returns
returns c = all_at (IsPlainLawful c.args.script.now c.args.report.now c.args.worker) c.args.walks.now c.loop-n.n c.loop-n-test.false c.loop-n.invariant
