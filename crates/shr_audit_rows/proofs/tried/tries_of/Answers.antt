-- SPDX-License-Identifier: GPL-2.0-only
use Rattle.shr_audit_rows.proofs.Common.{take, arith, length-take}
use Rattle.shr_audit_rows.proofs.TriedLaws.{tries_all, tries_more, uses_few}
use Rattle.shr_audit_rows.proofs.tried.tries_of.Goals as goal

pub loop-n-preserved : goal.loop-n-preserved
loop-n-preserved c = tries_more c.as_slice-uses.result.now c.loop-n.n _ _ _ c.loop-n-test.true (c.in_ok-note.ensures (take c.loop-n.n c.as_slice-uses.result.now) c.loop-n.invariant)

pub returns : goal.returns
returns c = tries_all c.as_slice-uses.result.now c.args.report.now.uses.items c.loop-n.n c.loop-n.tries.tried c.loop-n.tries.counts.items c.as_slice-uses.ensures c.loop-n-test.false c.loop-n.invariant

pub note-requires-clause-room : goal.note-requires-clause-room
note-requires-clause-room c = λ group lt.
    let uses = c.as_slice-uses.result.now in
    let e = c.loop-n.invariant.counted group lt in
    let few = uses_few (take c.loop-n.n uses) group in
    let long = length-take c.loop-n.n uses in
    omega (arith, e, few, long)
