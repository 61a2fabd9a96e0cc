-- SPDX-License-Identifier: GPL-2.0-only
use Rattle.shr_audit_replies.proofs.LendingCommon.{◌≡◌, ℕ, List, length, Option, Some, refl, subst, ◌∙◌, arith, slice_get, Decides, slice_get_read, all_at, fails, more_at, AreMetLent, IsLent, IsMetLent}
use Rattle.shr_audit_replies.proofs.Lending.{ahead_first, ahead_next, first_met}
use Rattle.shr_audit_replies.proofs.lent.are_lent.Goals as goal

pub loop-n-init : goal.loop-n-init
loop-n-init c = λ moved is. (ahead_first moved c.args.entries.now c.args.found.now is, λ m e lt. absurd (omega (arith, lt)))

pub returns-then-not-is_lent : goal.returns-then-not-is_lent
returns-then-not-is_lent c = λ moved is.
    let es = c.args.entries.now in
    let n = c.loop-n.n in
    let e = c.index-entries-n.result in
    let there : slice_get es n ≡ Some e = slice_get_read es (length es) n e refl c.loop-n-test.true c.index-entries-n.is in
    let here : Decides c.is_lent.result (IsMetLent c.args.report.now c.args.place moved es n e) = subst (λ (o : Option (List ℕ)). Decides c.is_lent.result (IsLent c.args.report.now c.args.place n e o))
    (first_met moved es n e c.loop-n.rest.now c.loop-n-test.true c.index-entries-n.is (c.loop-n.invariant moved is).0) c.is_lent.ensures in
    fails (IsMetLent c.args.report.now c.args.place moved es n e) (AreMetLent c.args.report.now c.args.place moved es) c.is_lent.result here c.if-not-is_lent.true (λ all. all n e there)

pub loop-n-preserved : goal.loop-n-preserved
loop-n-preserved c = λ moved is.
    let es = c.args.entries.now in
    let n = c.loop-n.n in
    let e = c.index-entries-n.result in
    let ahead = (c.loop-n.invariant moved is).0 in
    let here : Decides c.is_lent.result (IsMetLent c.args.report.now c.args.place moved es n e) = subst (λ (o : Option (List ℕ)). Decides c.is_lent.result (IsLent c.args.report.now c.args.place n e o))
    (first_met moved es n e c.loop-n.rest.now c.loop-n-test.true c.index-entries-n.is ahead) c.is_lent.ensures in (
      c.values_behind-rest.ensures ∙ ahead_next moved es n e c.loop-n.rest.now c.loop-n-test.true c.index-entries-n.is ahead,
      more_at (IsMetLent c.args.report.now c.args.place moved es) es n e c.loop-n-test.true c.index-entries-n.is (c.loop-n.invariant moved is).1 (here.0 c.if-not-is_lent.false),
    )

pub returns : goal.returns
returns c = λ moved is. all_at (IsMetLent c.args.report.now c.args.place moved c.args.entries.now) c.args.entries.now c.loop-n.n c.loop-n-test.false (c.loop-n.invariant moved is).1
