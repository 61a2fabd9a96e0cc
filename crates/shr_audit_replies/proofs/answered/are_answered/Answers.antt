-- SPDX-License-Identifier: GPL-2.0-only
use Rattle.shr_audit_replies.proofs.Common.{◌≡◌, ℕ, List, Some, slice_get, subst, Decides, WorkerPart, Answered, Command, command_at, serial_of, IsAnswered}
use Rattle.shr_audit_case.proofs.Eachs.{each_answer_of}
use Rattle.shr_audit_replies.proofs.answered.are_answered.Goals as goal

pub returns : goal.returns
returns c =
    let s = c.args.script.now in
    let r = c.args.report.now in
    let b = c.are_workers_answered-all.result in
    each_answer_of s r (λ by d a. IsAnswered s r by d a) b
    (subst (λ (parts : List WorkerPart). Decides b ((worker : ℕ) (part : WorkerPart) → slice_get parts worker ≡ Some part → (n : ℕ) (a : Answered) → slice_get part.answers.items n ≡ Some a
    → (d : Command) → command_at s (serial_of worker n) ≡ Some d → IsAnswered s r (serial_of worker n) d a)) c.as_slice.ensures c.are_workers_answered-all.ensures)
