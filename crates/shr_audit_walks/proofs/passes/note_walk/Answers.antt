-- SPDX-License-Identifier: GPL-2.0-only
use Rattle.shr_audit_walks.proofs.ScansCommon.{List, ◌++◌, ap, ◌∙◌, flat_map, Attempt, keys_at, flat_all}
use Rattle.shr_audit_walks.proofs.passes.note_walk.Goals as goal
use Rattle.shr_model.proofs.Lists.{flat_more}

pub loop-attempt-preserved : goal.loop-attempt-preserved
loop-attempt-preserved c =
    flat_more (keys_at c.args.worker c.args.n c.args.walk.now) c.attempts-attempt-items.result.now c.loop-attempt.attempt-index c.attempt-item.result c.args.keys.now.items c.loop-attempt.keys.items c.note_attempt.new.keys.items
    c.loop-attempt-test.true c.attempt-item.is c.loop-attempt.invariant c.in_ok-note_attempt.ensures

pub returns : goal.returns
returns c =
    flat_all (keys_at c.args.worker c.args.n c.args.walk.now) c.attempts-attempt-items.result.now c.loop-attempt.attempt-index c.args.keys.now.items c.loop-attempt.keys.items c.loop-attempt-test.false c.loop-attempt.invariant
    ∙ ap (λ (xs : List Attempt). c.args.keys.now.items ++ flat_map (keys_at c.args.worker c.args.n c.args.walk.now) xs) c.attempts-attempt-items.ensures
