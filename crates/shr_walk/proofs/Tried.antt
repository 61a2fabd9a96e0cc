-- SPDX-License-Identifier: GPL-2.0-only
-- Tries and rounds as the loop goes on.
use Rattle.shr_walk.proofs.ChargingCommon.{◌≡◌, ℕ, ◌+◌, ◌-◌, ◌<◌, List, [], ◌∷◌, ◌++◌, length, refl, sym, subst, inl, inr, arith, length-append, Memory, Serial, Result, Ok, Err, ChargeAnswer, Shared, WorkerState, Does, no_work, does_none, Visit, Round, TriesInRounds, WalksAll, WalksFirst, due_in, IsChargeTried, Refusal, IsErr, admission_of, refused}
use Rattle.shr_walk.specs.Admitting.{AdmissionGives, AreRoundsCut}
use Rattle.shr_walk.proofs.Calling.{Calls, calls_then, visited_calls, tried_calls}
use Rattle.shr_walk.proofs.Rounding.{rounds_more}

-- so many rounds are left, one was made after each refusal, and the last try had this answer
pub record HasTried (x : Shared) (by : Serial) (group left : ℕ) (answer : ChargeAnswer) (s t : WorkerState) : Type 0 where
  pub rounds : List Round
  pub tried : TriesInRounds x by group rounds answer s t
  pub many : length rounds + left ≡ 13
  pub calls : Calls (length rounds + 1) s t

module _ (x : Shared) (by : Serial) (group : ℕ) where
  pub tried_first : (a : ChargeAnswer) (s t : WorkerState) → IsChargeTried x by group a s t → HasTried x by group 13 a s t
  tried_first a s t h = record { rounds = []; tried = record { first = a; tried = t; try = h; follow = (refl, refl) }; many = refl; calls = tried_calls x by group a s t h }

  module _ (left : ℕ) (r : Refusal) (walks : List Visit) (s t u : WorkerState) (some : 0 < left) (h : HasTried x by group left (refused r) s t) where
    priority_here : length h.rounds + (left - 1) ≡ 12
    priority_here = let m = h.many in omega (arith, m, some)

    -- a round more, and another try
    pub tried_more : (a : ChargeAnswer) (w : WorkerState) → WalksAll x by (due_in x (left - 1) r.group) walks t u → IsChargeTried x by group a u w → HasTried x by group (left - 1) a s w
    tried_more a w walked try = let k : Round = record { priority = left - 1; over = r; walks = walks; walked = u; answer = a; tried = w } in
        let p : left - 1 ≡ 12 - length h.rounds = omega (arith, priority_here) in
        let long = length-append h.rounds (k ∷ []) in
        record {
          rounds = h.rounds ++ k ∷ [];
          tried = record { first = h.tried.first; tried = h.tried.tried; try = h.tried.try; follow = rounds_more x by group 12 h.tried.first h.rounds (refused r) h.tried.tried t k h.tried.follow record { priority_is = p; refused_so = refl; walks = walked; try = try } };
          many = let m = h.many in omega (arith, long, m, some);
          calls = subst (λ (n : ℕ). Calls (n + 1) s w) (sym long) (calls_then (length h.rounds + 1) 1 s t w h.calls (calls_then 0 1 t u w (visited_calls x by walks t u walked.visited) (tried_calls x by group a u w try)));
        }

    -- memory lacked in the walks of a round, or in the try after them
    pub tried_cut : WalksFirst x by (due_in x (left - 1) r.group) walks t u → AreRoundsCut x by group s u
    tried_cut cut = record { rounds = h.rounds; over = r; begun = t; tried = h.tried; priority = left - 1; due = priority_here; walks = walks; cut = cut }

  -- for an error of the steps
  pub short_gives : (r : Result ChargeAnswer Memory) (s t : WorkerState) → IsErr r → AreRoundsCut x by group s t → AdmissionGives x by group (admission_of r) s t
  short_gives (Ok a) s t is_err h = absurd (cc)
  short_gives (Err e) s t is_err h = inr h

  -- and for one before the first try
  pub none_gives : (r : Result ChargeAnswer Memory) (s t : WorkerState) → IsErr r → t ≡ s → AdmissionGives x by group (admission_of r) s t
  none_gives (Ok a) s t is_err same = absurd (cc)
  none_gives (Err e) s t is_err same = inl (subst (λ (u : WorkerState). Does s u no_work) (sym same) (does_none s))
