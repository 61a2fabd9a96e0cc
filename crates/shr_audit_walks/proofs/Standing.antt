-- SPDX-License-Identifier: GPL-2.0-only
-- The walks of a worker, in the order of its commands.
use Rattle.shr_audit_walks.proofs.LaterCommon.{◌≡◌, ℕ, ◌+◌, ◌<◌, ◌≤◌, List, length, get_or, Some, sym, ap, subst, ◌∙◌, arith, slice_get, WorkerPart, Answered, WalkRecord, Report, found_at, IsWorkerCommand, each_weaker}
use Rattle.shr_laws.specs.WellFormed.{IsWellFormed}
use Rattle.shr_audit_formed.proofs.WellParts.{parts_of}
use Rattle.shr_audit_walks.specs.LaterWalks.{AreOfAnswers}

-- those of a well formed report are
pub part_stands : (r : Report) (worker : ℕ) (part : WorkerPart) → IsWellFormed r → slice_get r.workers.items worker ≡ Some part → AreOfAnswers (length part.answers.items) part.walks.items
part_stands r worker part well at =
    let walks = (parts_of r well worker part at).1.0.1 in
    record { order = walks.1; answered = each_weaker (λ (w : WalkRecord). IsWorkerCommand worker (length part.answers.items) w.by) (λ (w : WalkRecord). w.by.command < length part.answers.items) part.walks.items (λ w h. h.1) walks.0 }

pub stands_here : (r : Report) (parts : List WorkerPart) (worker : ℕ) (part : WorkerPart) → IsWellFormed r → parts ≡ r.workers.items → worker < length parts → part ≡ get_or parts worker part → AreOfAnswers (length part.answers.items) part.walks.items
stands_here r parts worker part well same lt is = part_stands r worker part well (ap (λ (xs : List WorkerPart). slice_get xs worker) (sym same) ∙ found_at parts worker part lt is)

-- the same of what was taken of a part
pub slices_stand : (part : WorkerPart) (answers : List Answered) (walks : List WalkRecord) → answers ≡ part.answers.items → walks ≡ part.walks.items → AreOfAnswers (length part.answers.items) part.walks.items → AreOfAnswers (length answers) walks
slices_stand part answers walks a w h = subst (λ (xs : List WalkRecord). AreOfAnswers (length answers) xs) (sym w) (subst (λ (xs : List Answered). AreOfAnswers (length xs) part.walks.items) (sym a) h)

-- ---- walk by walk

module _ (answers : ℕ) (walks : List WalkRecord) (stand : AreOfAnswers answers walks) (n : ℕ) (w : WalkRecord) (lt : n < length walks) (is : w ≡ get_or walks n w) where
  pub in_range : w.by.command ≤ answers
  in_range = let l = stand.answered n w (found_at walks n w lt is) in omega (arith, l)

  pub next_low : (v : WalkRecord) → slice_get walks (n + 1) ≡ Some v → w.by.command ≤ v.by.command
  next_low v at = stand.order n w v (found_at walks n w lt is) at
