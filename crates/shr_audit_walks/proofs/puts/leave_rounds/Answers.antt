-- SPDX-License-Identifier: GPL-2.0-only
use Rattle.shr_audit_walks.proofs.RoundsCommon.{◌≡◌, ◌<◌, ℕ, Option, subst, arith, eq-eqb, nat_tests, AreDue}
use Rattle.shr_audit_walks.proofs.Due.{not_all, not_named, too_many}
use Rattle.shr_audit_walks.proofs.puts.leave_rounds.Goals as goal

pub returns-then-not-take_out-clause-none : goal.returns-then-not-take_out-clause-none
returns-then-not-take_out-clause-none c = λ e rounds d.
    not_named c.in-Some.group c.args.groups.now.items rounds c.if-not-take_out.ensures (subst (λ (o : Option ℕ). AreDue o c.args.groups.now.items rounds) c.in-Some.is d)

pub returns-else-not-take_out-clause-none : goal.returns-else-not-take_out-clause-none
returns-else-not-take_out-clause-none c = λ e rounds d.
    not_all c.in-Some.group c.args.groups.now.items c.take_out.new.groups.items rounds c.if-not-take_out.ensures
    (λ long. absurd (let at : c.len.result ≡ 13 = omega (arith, long, c.len.ensures, c.take_out.new.groups.ok.0) in let t = eq-eqb c.len.result 13 at in cc))
    (subst (λ (o : Option ℕ). AreDue o c.args.groups.now.items rounds) c.in-Some.is d)

pub returns-in-None-clause-none : goal.returns-in-None-clause-none
returns-in-None-clause-none c = λ e rounds d.
    let above : 13 < c.len-in-None.result = grind (arith, nat_tests) in
    too_many c.args.groups.now.items rounds (omega (arith, above, c.len-in-None.ensures, c.args.groups.now.ok.0)) (subst (λ (o : Option ℕ). AreDue o c.args.groups.now.items rounds) c.in-None.is d)
