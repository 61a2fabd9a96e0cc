-- SPDX-License-Identifier: GPL-2.0-only
use Rattle.shr_audit_fresh.proofs.Common.{List, subst, flat_map, Decides, Answered, fails, pool_seen, tree_seen, answers_of, AreNotFalling, AreNumbersFresh, IsOnSeen, IsOwnBelow}
use Rattle.shr_audit_fresh.proofs.law.are_numbers_fresh.Goals as goal

pub returns-then-not-is_pool_rising : goal.returns-then-not-is_pool_rising
returns-then-not-is_pool_rising c =
    let s = c.args.script.now in
    let r = c.args.report.now in
    let w = c.args.worker in
    fails (AreNotFalling (flat_map pool_seen (answers_of r w))) (AreNumbersFresh s r w) c.is_pool_rising.result
    (subst (λ (xs : List Answered). Decides c.is_pool_rising.result (AreNotFalling (flat_map pool_seen xs))) c.answers_of-answers.ensures c.is_pool_rising.ensures) c.if-not-is_pool_rising.true (λ h. h.pool)

pub returns-then-not-is_own_below : goal.returns-then-not-is_own_below
returns-then-not-is_own_below c = fails (IsOwnBelow c.args.report.now c.args.worker) (AreNumbersFresh c.args.script.now c.args.report.now c.args.worker) c.is_own_below.result c.is_own_below.ensures c.if-not-is_own_below.true (λ h. h.pool_own)

pub returns-then-not-is_on_seen : goal.returns-then-not-is_on_seen
returns-then-not-is_on_seen c = fails (IsOnSeen c.args.script.now c.args.report.now c.args.worker) (AreNumbersFresh c.args.script.now c.args.report.now c.args.worker) c.is_on_seen.result c.is_on_seen.ensures c.if-not-is_on_seen.true (λ h. h.pool_on)

pub returns-then-not-is_tree_rising : goal.returns-then-not-is_tree_rising
returns-then-not-is_tree_rising c =
    let s = c.args.script.now in
    let r = c.args.report.now in
    let w = c.args.worker in
    fails (AreNotFalling (flat_map tree_seen (answers_of r w))) (AreNumbersFresh s r w) c.is_tree_rising.result
    (subst (λ (xs : List Answered). Decides c.is_tree_rising.result (AreNotFalling (flat_map tree_seen xs))) c.answers_of-answers.ensures c.is_tree_rising.ensures) c.if-not-is_tree_rising.true (λ h. h.tree)

pub returns : goal.returns
returns c =
    let s = c.args.script.now in
    let r = c.args.report.now in
    let w = c.args.worker in
    let b = c.in_ok-shown.shown in
    let d = c.in_ok-shown.ensures in (
      λ t. record {
        pool = subst (λ (xs : List Answered). AreNotFalling (flat_map pool_seen xs)) c.answers_of-answers.ensures (c.is_pool_rising.ensures.0 c.if-not-is_pool_rising.false);
        pool_own = c.is_own_below.ensures.0 c.if-not-is_own_below.false;
        pool_on = c.is_on_seen.ensures.0 c.if-not-is_on_seen.false;
        tree = subst (λ (xs : List Answered). AreNotFalling (flat_map tree_seen xs)) c.answers_of-answers.ensures (c.is_tree_rising.ensures.0 c.if-not-is_tree_rising.false);
        tree_shown = d.0 t;
      },
      λ h. d.1 h.tree_shown,
    )
