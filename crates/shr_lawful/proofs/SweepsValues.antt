-- SPDX-License-Identifier: GPL-2.0-only
-- Values that meet the definitions of a sweep's walks, and values that don't.
use Rattle.shr_lawful.proofs.Common.{◌≡◌, ℕ, false, [], ◌∷◌, refl, ap, arith, WalkRecord, End, SweepJob, IsOfPops, sweep_job}
use Rattle.shr_base.specs.declared.replies.Reply.TheVariants as reply
use Rattle.shr_base.specs.declared.walks.WalkAnswer.TheVariants.{Walked}
use Rattle.shr_pool.specs.declared.items.SweepItem.TheVariants.{Walk}
use Rattle.shr_laws.proofs.SecondReport.{kept}

abbrev walk : ℕ → WalkRecord
walk group = record { by = record { worker = 0; command = 0 }; group = group; node = 0; priority = 12; nofs = false; maps = kept []; attempts = kept []; answer = Walked 0 }

-- two jobs were popped and walked, and then the mark
both : IsOfPops (Walk (sweep_job 0 0) ∷ Walk (sweep_job 1 0) ∷ End ∷ []) (walk 0 ∷ walk 1 ∷ []) (reply.Swept 2 0)
both = record { rest = End ∷ []; first = refl; all = λ out. refl }

-- the second walk had no memory for its record
cut : IsOfPops (Walk (sweep_job 0 0) ∷ Walk (sweep_job 1 0) ∷ []) (walk 0 ∷ []) (reply.WalkMemory 0)
cut = record { rest = Walk (sweep_job 1 0) ∷ []; first = refl; all = λ out. absurd out }

-- a job that was popped was dropped, though it is told that no job is left
dropped : IsOfPops (Walk (sweep_job 0 0) ∷ Walk (sweep_job 1 0) ∷ End ∷ []) (walk 0 ∷ []) (reply.Swept 1 0) → ⊥
dropped h = let rest = h.all tt in let first = h.first in absurd (cc)

-- another group was walked than that of the job
other : IsOfPops (Walk (sweep_job 0 0) ∷ End ∷ []) (walk 1 ∷ []) (reply.Swept 1 0) → ⊥
other h = let first = h.first in let same : sweep_job 0 0 ≡ sweep_job 1 0 = cc in let no : 0 ≡ 1 = ap (λ (j : SweepJob). j.group) same in absurd (omega (arith, no))

-- no mark was popped
unmarked : IsOfPops (Walk (sweep_job 0 0) ∷ []) (walk 0 ∷ []) (reply.Swept 1 0) → ⊥
unmarked h = let rest = h.all tt in let first = h.first in absurd (cc)
