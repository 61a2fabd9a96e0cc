-- SPDX-License-Identifier: GPL-2.0-only
use Rattle.shr_audit_tables.proofs.LookupsCommon.{◌≡◌, ℕ, List, Some, slice_get, length, subst, sym, Decides, WorkerPart, Answered, IsFindAt, IsFindRight}
use Rattle.shr_base.specs.declared.journals.PoolEntry.{PoolEntry}
use Rattle.shr_audit_case.proofs.Eachs.{each_answer_of}
use Rattle.shr_model.specs.Pool.{IsPoolJournal}
use Rattle.shr_audit_case.specs.Live.{AreLives}
use Rattle.shr_audit_tables.proofs.found.are_found_right.Goals as goal

pub are_parts_right-right-requires : goal.are_parts_right-right-requires
are_parts_right-right-requires c =
    subst (λ (es : List PoolEntry). AreLives es c.in_ok-lives.lives) c.as_slice.ensures
    (c.in_ok-lives.ensures c.args.script.now.ids (length c.args.script.now.caches.items) (subst (λ (es : List PoolEntry). IsPoolJournal c.args.script.now.ids (length c.args.script.now.caches.items) es) (sym c.as_slice.ensures) c.requires))

pub returns : goal.returns
returns c =
    let s = c.args.script.now in
    let r = c.args.report.now in
    let b = c.are_parts_right-right.result in
    each_answer_of s r (λ by d a. IsFindRight r d a) b
    (subst (λ (parts : List WorkerPart). Decides b ((worker : ℕ) (part : WorkerPart) → slice_get parts worker ≡ Some part → (n : ℕ) (a : Answered) → slice_get part.answers.items n ≡ Some a
    → IsFindAt s r worker n a)) c.as_slice-2.ensures c.are_parts_right-right.ensures)
