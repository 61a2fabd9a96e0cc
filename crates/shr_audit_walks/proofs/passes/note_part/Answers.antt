-- SPDX-License-Identifier: GPL-2.0-only
use Rattle.shr_audit_walks.proofs.ScansCommon.{ℕ, WalkRecord, keys_in}
use Rattle.shr_audit_walks.proofs.Added.{numbered_all, numbered_more}
use Rattle.shr_audit_walks.proofs.passes.note_part.Goals as goal

pub loop-n-preserved : goal.loop-n-preserved
loop-n-preserved c =
    numbered_more (λ (x : ℕ × WalkRecord). keys_in c.args.worker x.0 x.1) c.args.walks.now c.loop-n.n c.index-walks-n.result c.args.keys.now.items c.loop-n.keys.items c.note_walk.new.keys.items
    c.loop-n-test.true c.index-walks-n.is c.loop-n.invariant c.in_ok-note_walk.ensures

pub returns : goal.returns
returns c =
    numbered_all (λ (x : ℕ × WalkRecord). keys_in c.args.worker x.0 x.1) c.args.walks.now c.loop-n.n c.args.keys.now.items c.loop-n.keys.items c.loop-n-test.false c.loop-n.invariant
