-- SPDX-License-Identifier: GPL-2.0-only
use Rattle.shr_audit_replies.proofs.Common.{IsCited, more_at, all_at}
use Rattle.shr_audit_replies.proofs.cited.are_cited.Goals as goal

pub loop-n-preserved : goal.loop-n-preserved
loop-n-preserved c = more_at (IsCited c.args.report.now c.args.place) c.args.entries.now c.loop-n.n c.index-entries-n.result c.loop-n-test.true c.index-entries-n.is c.loop-n.invariant (c.is_cited.ensures.0 c.if-not-is_cited.false)

pub returns : goal.returns
returns c = all_at (IsCited c.args.report.now c.args.place) c.args.entries.now c.loop-n.n c.loop-n-test.false c.loop-n.invariant
