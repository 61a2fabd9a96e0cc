-- SPDX-License-Identifier: GPL-2.0-only
-- The second whole report's cuts are told, and reports of a run, changed in one place, whose aren't.
use Rattle.shr_laws.proofs.Common.{◌≡◌, ℕ, ◌≤◌, true, false, List, [], ◌∷◌, length, refl, arith, Answered, WalkAnswer, WalkRecord, Report, AllPairs, is_cut}
use Rattle.shr_base.specs.declared.replies.Reply.TheVariants as reply
use Rattle.shr_base.specs.declared.walks.WalkAnswer.TheVariants as walk
use Rattle.shr_laws.specs.Cuts.{AreCutsTold}
use Rattle.shr_laws.proofs.SecondCases.{each_answer}
use Rattle.shr_laws.proofs.SecondReport as second
use Rattle.shr_laws.proofs.SecondReport.{kept, script, report, part, place, put, held, unheld}

-- the second report

alone : (ws : List WalkRecord) (n : ℕ) → length ws ≡ n → n ≤ 1 → AllPairs (λ (v w : WalkRecord). is_cut v.answer ≡ false) ws
alone ws n long few i j d lt lj = absurd (omega (arith, long, few, lt, lj))

uncut : false ≡ true → ⊥
uncut e = cc

pub are_told : AreCutsTold script report
are_told = record {
  last = each_answer _ (alone [] 0 refl (omega arith), (alone [] 0 refl (omega arith), (alone (second.first_walk ∷ []) 1 refl (omega arith), (alone (second.second_walk ∷ []) 1 refl (omega arith), tt))));
  told = each_answer _ ((λ e. absurd (uncut e)), ((λ e. absurd (uncut e)), ((λ e. absurd (uncut e)), ((λ e. absurd (uncut e)), tt))));
}

-- reports whose aren't

abbrev with : List Answered → List WalkRecord → Report
with answers walks = record report { workers = kept (record part { answers = kept answers; walks = kept walks } ∷ []) }

-- a walk of the first command with this answer
abbrev answered : WalkAnswer → WalkRecord
answered a = record (second.walk 0 1 []) { answer = a }

-- a walk went on after one that memory had cut short
goes_on : AreCutsTold script (with (unheld reply.Memory ∷ []) (answered (walk.Memory 0) ∷ answered (walk.Walked 0) ∷ [])) → ⊥
goes_on h = let e : true ≡ false = h.last (second.by 0) put (unheld reply.Memory) refl refl 0 1 (answered (walk.Walked 0)) (omega arith) (omega arith) in cc

-- memory cut a walk of a put's rounds short, and the put was added
added_still : AreCutsTold script (with (held (reply.Added (record { place = place; entry = 0 })) 0 ∷ []) (answered (walk.Memory 0) ∷ [])) → ⊥
added_still h = h.told (second.by 0) put (held (reply.Added (record { place = place; entry = 0 })) 0) refl refl refl
