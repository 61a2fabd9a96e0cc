-- SPDX-License-Identifier: GPL-2.0-only
use Rattle.shr_audit_replies.proofs.Common.{◌≤◌, ℕ, length, Option, refl, sym, ap, ◌∙◌, inl, inr, arith, slice_get, slice_get_cases, none-some, WorkerPart, Script, Report, commands_of, IsLastSwept, below_more, slice_get_past, answers_in}
use Rattle.shr_audit_replies.proofs.heads.are_last_swept.Goals as goal

-- past the last part there is no answer
past : (s : Script) (r : Report) (worker : ℕ) → length r.workers.items ≤ worker → IsLastSwept s r worker
past s r worker le a there = absurd (none-some a (ap (λ (o : Option WorkerPart). slice_get (answers_in o) (length (commands_of s worker))) (sym (slice_get_past r.workers.items worker le)) ∙ there))

pub loop-worker-preserved : goal.loop-worker-preserved
loop-worker-preserved c = below_more _ _ c.loop-worker.invariant (c.is_last_swept.ensures.0 c.if-not-is_last_swept.false)

pub returns : goal.returns
returns c = (
  λ t worker. elim ((slice_get_cases c.args.report.now.workers.items worker).1) [
    | inl there ↦ c.loop-worker.invariant worker (let lt = there.1 in omega (arith, lt))
    | inr over ↦ past c.args.script.now c.args.report.now worker over.0
  ],
  λ h. refl,
)
