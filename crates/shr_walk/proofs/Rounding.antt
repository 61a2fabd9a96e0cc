-- SPDX-License-Identifier: GPL-2.0-only
-- Rounds one after another.
use Rattle.shr_walk.proofs.ChargingCommon.{◌≡◌, ℕ, suc, ◌-◌, List, [], ◌∷◌, ◌++◌, length, refl, sym, subst, arith, Serial, ChargeAnswer, Shared, WorkerState, Round, AreRounds, IsRound}

module _ (x : Shared) (by : Serial) (group : ℕ) where
  -- one round more
  pub rounds_more : (priority : ℕ) (first : ChargeAnswer) (ks : List Round) (last : ChargeAnswer) (s t : WorkerState) (k : Round)
      → AreRounds x by group priority first ks last s t → IsRound x by group (priority - length ks) last k t → AreRounds x by group priority first (ks ++ k ∷ []) k.answer s k.tried
  rounds_more priority first [] last s t k same one = (
    subst (λ (r : WorkerState). IsRound x by group priority first k r) (sym same.1) (subst (λ (a : ChargeAnswer). IsRound x by group priority a k t) (sym same.0) (let p : priority - 0 ≡ priority = omega arith in subst (λ (n : ℕ). IsRound x by group n last k t) p one)),
    (refl, refl),
  )
  rounds_more priority first (j ∷ ks) last s t k rounds one = let p : priority - suc (length ks) ≡ priority - 1 - length ks = omega arith in
      (rounds.0, rounds_more (priority - 1) j.answer ks last j.tried t k rounds.1 (subst (λ (n : ℕ). IsRound x by group n last k t) p one))
