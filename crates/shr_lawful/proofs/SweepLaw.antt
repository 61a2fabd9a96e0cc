-- SPDX-License-Identifier: GPL-2.0-only
-- The sweep of a run is lawful.
use Rattle.shr_lawful.proofs.Common.{◌≡◌, ℕ, zero, suc, ◌+◌, ◌<◌, ◌≤◌, Bool, cond, List, [], ◌∷◌, ◌++◌, length, map, sym, refl, ap, subst, ◌∙◌, arith, slice_get, Option, Some, flat_map, count_by, ◌&&◌, ◌==◌, range_with_len, IsSomeAnd, sum_by-cons, sum_by-append, none-some, same_Some, Answered, Reply, Script, Sweep, WorkerScript, WalkRecord, SweepItem, End, of_job, only_job, Report, parents_of, commands_of, sweeps_in, sweeps_of, reply_at, sweep_serial, IsSwept, total, total-append, IsRun, Step, IsOfPops, job_walked, all_popped, sweep_walks, times_swept, IsSweptOut, IsSweepRight, IsSweepLawful, sweep_job, is_end, ends}
use Rattle.shr_model.proofs.Lists.{there_at}
use Rattle.shr_pool.specs.declared.items.SweepItem.TheVariants.{Walk}
use Rattle.shr_lawful.proofs.Gathering.{reply_is}
use Rattle.shr_lawful.proofs.SweepSteps.{SweepStep, sweep_step}
use Rattle.shr_lawful.proofs.Listed.{weight_in, number_in}
use Rattle.shr_lawful.proofs.WalksLaw.{walks_are}

-- a job of a group on a node
abbrev is_job : ℕ → ℕ → WalkRecord → Bool
is_job group node w = (w.group == group) && (w.node == node)

-- the walks of a job weigh as much as the job among those that were walked
jobs_weigh : (group node : ℕ) (ws : List WalkRecord) (rest : List SweepItem) → total (of_job (only_job (sweep_job group node))) (map Walk (map job_walked ws) ++ rest) ≡ count_by (is_job group node) ws + total (of_job (only_job (sweep_job group node))) rest
jobs_weigh group node [] rest = omega arith
jobs_weigh group node (w ∷ ws) rest = let e = sum_by-cons (λ (v : WalkRecord). cond (is_job group node v) 1 0) w ws in omega (arith, e, jobs_weigh group node ws rest)

-- sums over all numbers of a list, term by term
module _ {A : Type 0} (p : A → Bool) (walks : ℕ → List A) (h : SweepItem → ℕ) (popped : ℕ → List SweepItem) where
  sums_most : (ns : List ℕ) → ((m n : ℕ) → slice_get ns m ≡ Some n → count_by p (walks n) ≤ total h (popped n)) → count_by p (flat_map walks ns) ≤ total h (flat_map popped ns)
  sums_most [] each = omega arith
  sums_most (n ∷ ns) each = let first = each 0 n refl in let more = sums_most ns (λ m k e. each (suc m) k e) in
      omega (arith, first, more, sum_by-append (λ (x : A). cond (p x) 1 0) (walks n) (flat_map walks ns), total-append h (popped n) (flat_map popped ns))

  sums_same : (ns : List ℕ) → ((m n : ℕ) → slice_get ns m ≡ Some n → count_by p (walks n) ≡ total h (popped n)) → count_by p (flat_map walks ns) ≡ total h (flat_map popped ns)
  sums_same [] each = refl
  sums_same (n ∷ ns) each = let first = each 0 n refl in let more = sums_same ns (λ m k e. each (suc m) k e) in
      omega (arith, first, more, sum_by-append (λ (x : A). cond (p x) 1 0) (walks n) (flat_map walks ns), total-append h (popped n) (flat_map popped ns))

-- a number among those below another is below it
below_in : (n m i : ℕ) → slice_get (range_with_len 0 n) m ≡ Some i → i < n
below_in n m i e = let lt = number 0 n m i e in omega (arith, lt) where
  number : (a k m i : ℕ) → slice_get (range_with_len a k) m ≡ Some i → i < a + k
  number a zero m i e = absurd (none-some i e)
  number a (suc k) zero i e = let same = same_Some a i e in omega (arith, same)
  number a (suc k) (suc m) i e = let lt = number (a + 1) k m i e in omega (arith, lt)

module _ (s : Script) (r : Report) (workers : List (List Step)) (run : IsRun s r workers) (z : Sweep) (asked : s.sweep ≡ Some z) where
  abbrev popped : ℕ → List SweepItem
  popped = run.sweep.popped

  -- a worker of the script has its part
  one_sweep : (worker : ℕ) → worker < length s.workers.items → sweeps_of s worker ≡ 1
  one_sweep worker lt = ap (λ (o : Option Sweep). sweeps_in o (slice_get s.workers.items worker)) asked ∙ of_worker (there_at s.workers.items worker lt) where
    of_worker : (w : WorkerScript) × (slice_get s.workers.items worker ≡ Some w) → sweeps_in (Some z) (slice_get s.workers.items worker) ≡ 1
    of_worker w = ap (sweeps_in (Some z)) w.1

  part : (worker : ℕ) → worker < length s.workers.items → SweepStep s r workers worker
  part worker lt = sweep_step s r workers run.steps worker (let many = run.steps.commands worker in let one = one_sweep worker lt in omega (arith, many, one))

  -- its walks are those of the report
  walks_of_part : (worker : ℕ) (t : SweepStep s r workers worker) → sweep_walks s r worker ≡ t.step.work.walks
  walks_of_part worker t = walks_are s r workers run worker (length (commands_of s worker)) t.step t.at

  swept : (worker : ℕ) (t : SweepStep s r workers worker) → IsSwept s z (sweep_walks s r worker) t.step.answered
  swept worker t = subst (λ (l : List WalkRecord). IsSwept s z l t.step.answered) (sym (walks_of_part worker t))
      (subst (λ (y : Sweep). IsSwept s y t.step.work.walks t.step.answered) (same_Some t.did.sweep z (sym t.did.asked ∙ asked)) t.did.swept)

  -- and of the jobs that its pass popped
  pops : (worker : ℕ) (t : SweepStep s r workers worker) → IsOfPops (popped worker) t.step.work.walks t.step.answered.reply
  pops worker t = run.sweep.walked worker (length (commands_of s worker)) t.step t.at t.command

  weighs : (worker group node : ℕ) (t : SweepStep s r workers worker) → total (of_job (only_job (sweep_job group node))) (popped worker) ≡ count_by (is_job group node) (sweep_walks s r worker) + total (of_job (only_job (sweep_job group node))) (pops worker t).rest
  weighs worker group node t = ap (total (of_job (only_job (sweep_job group node)))) (pops worker t).first
      ∙ (jobs_weigh group node t.step.work.walks (pops worker t).rest ∙ ap (λ (l : List WalkRecord). count_by (is_job group node) l + total (of_job (only_job (sweep_job group node))) (pops worker t).rest) (sym (walks_of_part worker t)))

  abbrev numbers : List ℕ
  numbers = range_with_len 0 (length s.workers.items)

  once : (group node : ℕ) → times_swept s r group node ≤ 1
  once group node =
      let all = run.sweep.once z asked in
      let most = sums_most (is_job group node) (sweep_walks s r) (of_job (only_job (sweep_job group node))) popped numbers
      (λ m worker e. let w = weighs worker group node (part worker (below_in (length s.workers.items) m worker e)) in omega (arith, w)) in
      let same = ap (total (of_job (only_job (sweep_job group node)))) all.same in
      let one = all.once.once (sweep_job group node) in
      omega (arith, most, same, one)

  module _ (out : (worker : ℕ) → worker < length s.workers.items → IsSomeAnd (reply_at r (sweep_serial s worker)) IsSweptOut) where
    -- each worker popped its mark behind its jobs
    behind : (worker : ℕ) → worker < length s.workers.items → (t : SweepStep s r workers worker) → (pops worker t).rest ≡ End ∷ []
    behind worker lt t = (pops worker t).all (subst (λ (o : Option Reply). IsSomeAnd o IsSweptOut) (reply_is s r workers run worker (length (commands_of s worker)) t.step t.at) (out worker lt))

    marked : 0 < ends (all_popped popped (length s.workers.items))
    marked =
        let some = run.sweep.some z asked in
        let t = part 0 some in
        let own = ap ends ((pops 0 t).first ∙ ap (λ (l : List SweepItem). map Walk (map job_walked t.step.work.walks) ++ l) (behind 0 some t)) in
        let both = total-append is_end (map Walk (map job_walked t.step.work.walks)) (End ∷ []) in
        let in_all = weight_in is_end popped numbers 0 0 (number_in (length s.workers.items) 0 some) in
        omega (arith, own, both, in_all)

    all_swept : (group node : ℕ) → group < length (parents_of s) → node < s.nodes → times_swept s r group node ≡ 1
    all_swept group node low on =
        let all = run.sweep.once z asked in
        let same = ap (total (of_job (only_job (sweep_job group node)))) all.same in
        let each = sums_same (is_job group node) (sweep_walks s r) (of_job (only_job (sweep_job group node))) popped numbers
        (λ m worker e.
        let lt = below_in (length s.workers.items) m worker e in
        let t = part worker lt in
        let w = weighs worker group node t in
        let none = ap (total (of_job (only_job (sweep_job group node)))) (behind worker lt t) in
        omega (arith, w, none)) in
        let mark : 0 < ends all.view.popped = subst (λ (l : List SweepItem). 0 < ends l) (sym all.same) marked in
        let one = all.once.all mark (sweep_job group node) (record { node = on; group = low }) in
        omega (arith, each, same, one)

  right : IsSweepRight s r z
  right = record {
    answers = λ worker lt. let t = part worker lt in subst (λ (o : Option Answered). IsSomeAnd o (IsSwept s z (sweep_walks s r worker))) (sym t.is.answered) (swept worker t);
    once = once;
    all = λ out group node low on. all_swept out group node low on;
  }

pub sweep_lawful : (s : Script) (r : Report) (workers : List (List Step)) → IsRun s r workers → IsSweepLawful s r
sweep_lawful s r workers run z asked = right s r workers run z asked
