-- SPDX-License-Identifier: GPL-2.0-only
use Rattle.shr_audit_replies.proofs.Common.{◌≡◌, ℕ, Some, Answered, Command, Script, Report, command_at, serial_of, more_at, all_at, IsAnswered}
use Rattle.shr_audit_replies.proofs.answered.is_worker_answered.Goals as goal

abbrev part : Script → Report → ℕ → ℕ → Answered → Type 0
part s r worker n a = (c : Command) → command_at s (serial_of worker n) ≡ Some c → IsAnswered s r (serial_of worker n) c a

pub loop-number-preserved : goal.loop-number-preserved
loop-number-preserved c = more_at (part c.args.script.now c.args.report.now c.args.worker) c.args.answers.now c.loop-number.number c.index-answers-number.result c.loop-number-test.true c.index-answers-number.is c.loop-number.invariant (c.is_answered.ensures.0 c.if-not-is_answered.false)

pub returns : goal.returns
returns c = all_at (part c.args.script.now c.args.report.now c.args.worker) c.args.answers.now c.loop-number.number c.loop-number-test.false c.loop-number.invariant
