-- SPDX-License-Identifier: GPL-2.0-only
-- The tasks that are run one after another: those that are left, and what the others gave.
use Rattle.shr_run.proofs.Common.{◌≡◌, ℕ, suc, ◌+◌, ◌<◌, ◌≤◌, List, [], ◌∷◌, ◌++◌, length, length-append, refl, sym, ap, subst, ◌∙◌, arith, append_assoc, append-nil, inl, inr, slice_get, Some, none-some, slice_get_within, Starting, WorkerResult, HaveRun}
use Rattle.std.proofs.Math.Nat.{eq-or-lt_of_le}
use Rattle.shr_run.specs.Tasks.{HasRun}
use Rattle.shr_worker.proofs.Worked.{get_front, get_last}

-- the tasks in front of those that are left were run, with these results
pub record HasRunFront (left all : List Starting) (results : List WorkerResult) : Type 0 where
  pub done : List Starting
  pub parts : done ++ left ≡ all
  pub count : length done ≡ length results
  pub run : HaveRun done results

pub front_none : (all : List Starting) (results : List WorkerResult) → results ≡ [] → HasRunFront all all results
front_none all results none = record {
  done = [];
  parts = refl;
  count = sym (ap (λ (l : List WorkerResult). length l) none);
  run = λ i t w at. absurd (none-some t at);
}

-- two lists, with one element more at the end of each
one_more : (done : List Starting) (results : List WorkerResult) (t : Starting) (w : WorkerResult) → length done ≡ length results
    → HasRun t w → HaveRun done results → HaveRun (done ++ t ∷ []) (results ++ w ∷ [])
one_more done results t w count one all i u v at there = elim (eq-or-lt_of_le within) as (λ _. HasRun u v) [
  | inl last ↦ subst (HasRun u) (same_result last) (subst (λ (z : Starting). HasRun z w) (same_task last) one)
  | inr early ↦ all i u v (sym (get_front done t i early) ∙ at) (sym (get_front results w i (omega (arith, early, count))) ∙ there)
] where
  within : i ≤ length done
  within = let lt = slice_get_within (done ++ t ∷ []) i u at in omega (arith, lt, length-append done (t ∷ []))

  same_task : i ≡ length done → t ≡ u
  same_task last = let e : Some t ≡ Some u = sym (get_last done t) ∙ (ap (slice_get (done ++ t ∷ [])) (sym last) ∙ at) in cc

  same_result : i ≡ length done → w ≡ v
  same_result last = let e : Some w ≡ Some v = sym (get_last results w) ∙ (ap (slice_get (results ++ w ∷ [])) (sym (last ∙ count)) ∙ there) in cc

pub front_more : (left rest all : List Starting) (results more : List WorkerResult) (t : Starting) (w : WorkerResult) → left ≡ t ∷ rest → more ≡ results ++ w ∷ []
    → HasRun t w → HasRunFront left all results → HasRunFront rest all more
front_more left rest all results more t w next is one f = record {
  done = f.done ++ t ∷ [];
  parts = append_assoc f.done (t ∷ []) rest ∙ (ap (λ l. f.done ++ l) (sym next) ∙ f.parts);
  count = let long = ap (λ (l : List WorkerResult). length l) is in let tasks = length-append f.done (t ∷ []) in let parts = length-append results (w ∷ []) in let count = f.count in omega (arith, long, tasks, parts, count);
  run = subst (HaveRun (f.done ++ t ∷ [])) (sym is) (one_more f.done results t w f.count one f.run);
}

-- none is left
pub front_all : (left all : List Starting) (results : List WorkerResult) → length left ≡ 0 → HasRunFront left all results → HaveRun all results × (length results ≡ length all)
front_all [] all results none f = let whole = sym (append-nil f.done) ∙ f.parts in
    (subst (λ (l : List Starting). HaveRun l results) whole f.run, sym f.count ∙ ap (λ (l : List Starting). length l) whole)
front_all (t ∷ left) all results none f = absurd (omega (arith, none))
