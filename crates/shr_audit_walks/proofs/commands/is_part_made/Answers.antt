-- SPDX-License-Identifier: GPL-2.0-only
use Rattle.shr_audit_walks.proofs.RoundsCommon.{◌≡◌, ℕ, List, Some, slice_get, get_or, refl, sym, ap, subst, ◌∙◌, arith, Decides, slice_get_within, Answered, Command, WalkRecord, clash, serial_of, Dues, IsAnswerMade, here_at}
use Rattle.shr_audit_walks.proofs.Commanding.{both_more}
use Rattle.shr_audit_walks.proofs.commands.is_part_made.Goals as goal

abbrev made : Dues → ℕ → List WalkRecord → ℕ → Answered → Command → Type 0
made dues worker walks n a c = IsAnswerMade dues (serial_of worker n) walks c a.reply

pub loop-n-preserved : goal.loop-n-preserved
loop-n-preserved c =
    let P = made c.args.dues.now c.args.worker c.as_slice-walks.result.now in
    let k = c.loop-n.n in
    let a = c.index-answers-n.result in
    let d = c.index-commands-n.result in
    let t = c.loop-n-test.true in
    let end = c.min-n-end.ensures in
    let one : Decides c.in_ok-is_answer_made.field-0 (P k a d) = subst (λ (x : Answered). Decides c.in_ok-is_answer_made.field-0 (P k x d)) (sym c.index-answers-n.is) c.in_ok-is_answer_made.ensures in
    both_more P c.as_slice-answers.result.now c.args.commands.now k a d (omega (arith, t, end)) c.index-answers-n.is c.index-commands-n.is c.loop-n.invariant (one.0 c.if-not-branch.false)

pub returns-then-not-branch : goal.returns-then-not-branch
returns-then-not-branch c =
    let P = made c.args.dues.now c.args.worker c.args.part.now.walks.items in
    let k = c.loop-n.n in
    let a = c.index-answers-n.result in
    let d = c.index-commands-n.result in
    let t = c.loop-n-test.true in
    let end = c.min-n-end.ensures in
    let b = c.in_ok-is_answer_made.field-0 in
    let one : Decides b (P k a d) = subst (λ (x : Answered). Decides b (P k x d)) (sym c.index-answers-n.is) (subst (λ (ws : List WalkRecord). Decides b (made c.args.dues.now c.args.worker ws k (get_or c.as_slice-answers.result.now k a) d)) c.as_slice-walks.ensures c.in_ok-is_answer_made.ensures) in
    let at = here_at c.as_slice-answers.result.now c.args.part.now.answers.items k a c.as_slice-answers.ensures (omega (arith, t, end)) c.index-answers-n.is in
    let here = here_at c.args.commands.now c.args.commands.now k d refl (omega (arith, t, end)) c.index-commands-n.is in
    (λ u. absurd cc, λ h. absurd (clash b (one.1 (h k a at d here)) c.if-not-branch.true))

pub returns : goal.returns
returns c = (
  λ t n a at d here.
      let end = c.min-n-end.ensures in
      let over = c.loop-n-test.false in
      let seen : slice_get c.as_slice-answers.result.now n ≡ Some a = ap (λ (xs : List Answered). slice_get xs n) c.as_slice-answers.ensures ∙ at in
      let in_answers = slice_get_within c.as_slice-answers.result.now n a seen in
      let in_commands = slice_get_within c.args.commands.now n d here in
      subst (λ (ws : List WalkRecord). made c.args.dues.now c.args.worker ws n a d) c.as_slice-walks.ensures (c.loop-n.invariant n a d (omega (arith, end, over, in_answers, in_commands)) seen here),
  λ h. refl,
)
