-- SPDX-License-Identifier: GPL-2.0-only
use Rattle.std.proofs.Common.{refl, arith}
use Rattle.shr_audit_charges.proofs.OwnLaw.{start, step_back, not_back, few_next, all_right}
use Rattle.shr_audit_charges.proofs.own.are_own_right.Goals as goal

pub loop-left-init : goal.loop-left-init
loop-left-init c = let s = start c.args.limits.now c.args.uses.now c.new-later.result c.new-later.ensures.empty in record { within = omega arith; followed = s.0; kept = s.1 }

pub returns-then-not-may_stand : goal.returns-then-not-may_stand
returns-then-not-may_stand c = (
  λ t. absurd cc,
  λ law. absurd (
      let may = not_back c.args.limits.now c.args.uses.now c.loop-left.left _ c.loop-left.later c.own_key-key.result c.limit_at-limit.result c.next_in-next.result c.loop-left-test.true c.loop-left.invariant.within c.loop-left.invariant.kept c.own_key-key.ensures.key c.own_key-key.ensures.keyed c.limit_at-limit.ensures c.next_in-next.ensures law in
      let t = c.may_stand.ensures.1 may in let f = c.if-not-may_stand.true in cc
      ),
)

pub own_with-own-requires-clause-few : goal.own_with-own-requires-clause-few
own_with-own-requires-clause-few c = few_next c.args.limits.now c.args.uses.now c.loop-left.left _ c.loop-left.later c.own_key-key.result c.next_in-next.result c.loop-left.invariant.followed c.loop-left.invariant.kept c.own_key-key.ensures.key c.own_key-key.ensures.keyed c.next_in-next.ensures

pub loop-left-preserved : goal.loop-left-preserved
loop-left-preserved c =
    let s = step_back c.args.limits.now c.args.uses.now c.loop-left.left _ c.loop-left.later c.insert.new.self c.own_key-key.result c.limit_at-limit.result c.next_in-next.result c.own_with-own.result c.loop-left-test.true c.loop-left.invariant.within c.loop-left.invariant.followed c.loop-left.invariant.kept
    c.own_key-key.ensures.key c.own_key-key.ensures.keyed c.limit_at-limit.ensures c.next_in-next.ensures (c.may_stand.ensures.0 c.if-not-may_stand.false) c.own_with-own.ensures c.in_ok-insert.ensures.updates in
    record { within = omega (arith, c.loop-left.invariant.within); followed = s.0; kept = s.1 }

pub returns : goal.returns
returns c = (λ t. all_right c.args.limits.now c.args.uses.now c.loop-left.left c.loop-left-test.false c.loop-left.invariant.followed, λ h. refl)
