-- SPDX-License-Identifier: GPL-2.0-only
use Rattle.shr_audit_walks.proofs.LaterCommon.{subst, WalkRecord, clearings_of, Clears}
use Rattle.shr_audit_walks.proofs.Clearing.{clears_all, clears_more}
use Rattle.shr_audit_walks.proofs.cleared.note_walks.Goals as goal

pub loop-n-preserved : goal.loop-n-preserved
loop-n-preserved c = clears_more clearings_of c.args.walks.now c.args.cleared.now c.loop-n.cleared c.note_walk.new.cleared c.loop-n.n c.index-walks-n.result c.loop-n-test.true c.loop-n.invariant
    (subst (λ (w : WalkRecord). Clears c.loop-n.cleared c.note_walk.new.cleared (clearings_of w)) c.index-walks-n.is c.in_ok-note_walk.ensures)

pub returns : goal.returns
returns c = clears_all clearings_of c.args.walks.now c.args.cleared.now c.loop-n.cleared c.loop-n.cleared c.loop-n.n c.loop-n-test.false c.loop-n.invariant
