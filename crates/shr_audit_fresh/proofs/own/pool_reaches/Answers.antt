-- SPDX-License-Identifier: GPL-2.0-only
use Rattle.shr_audit_fresh.proofs.Common.{List, Option, ℕ, subst, option_to_list, Decides, pool_told, Reaches}
use Rattle.shr_audit_fresh.proofs.FloorLaws.{reach_both, reach_fails}
use Rattle.shr_audit_fresh.proofs.own.pool_reaches.Goals as goal

pub returns-then-not-reaches : goal.returns-then-not-reaches
returns-then-not-reaches c =
    let a = c.args.answer.now in
    reach_fails c.args.floor _ (pool_told a.reply) c.reaches.result
    (subst (λ (o : Option ℕ). Decides c.reaches.result (Reaches c.args.floor (option_to_list o))) c.pool_found.ensures c.reaches.ensures) c.if-not-reaches.true

pub returns : goal.returns
returns c =
    let a = c.args.answer.now in
    reach_both c.args.floor _ (pool_told a.reply) c.reaches-told.result
    (subst (λ (o : Option ℕ). Reaches c.args.floor (option_to_list o)) c.pool_found.ensures (c.reaches.ensures.0 c.if-not-reaches.false))
    (subst (λ (ms : List ℕ). Decides c.reaches-told.result (Reaches c.args.floor ms)) c.pool_told.ensures c.reaches-told.ensures)
