-- SPDX-License-Identifier: GPL-2.0-only
use Rattle.shr_audit_tables.proofs.Common.{◌++◌, List, ap, ◌∙◌, flat_map, Attempt, attempt_draws, walk_draws, flat_all}
use Rattle.shr_audit_tables.proofs.draws.note_walks.Goals as goal
use Rattle.shr_model.proofs.Lists.{flat_more}

pub loop-walk-preserved : goal.loop-walk-preserved
loop-walk-preserved c =
    let added = c.in_ok-note_attempts.ensures ∙ ap (λ (xs : List Attempt). c.loop-walk.keys.items ++ flat_map attempt_draws xs) c.attempts.ensures in
    flat_more walk_draws c.args.walks.now c.loop-walk.walk-index c.walk-item.result c.args.keys.now.items c.loop-walk.keys.items c.note_attempts.new.keys.items c.loop-walk-test.true c.walk-item.is c.loop-walk.invariant added

pub returns : goal.returns
returns c = flat_all walk_draws c.args.walks.now c.loop-walk.walk-index c.args.keys.now.items c.loop-walk.keys.items c.loop-walk-test.false c.loop-walk.invariant
