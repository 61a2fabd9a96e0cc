-- SPDX-License-Identifier: GPL-2.0-only
-- How the journal of registrations begins, and who made its later entries, of a run whose workers are done.
use Rattle.shr_assemble.proofs.Common.{◌≡◌, ℕ, ◌+◌, ◌<◌, ◌≤◌, ⊎_elim, Bool, cond, List, length, length-append, sym, ap, subst, ◌∙◌, arith, slice_get, Some, nat_lt, nat_le, ◌&&◌, cases_lt, le-leb, slice_get_within, some, get_elem?, PoolEntry, Registered, IsPoolJournal, total, Begins, total-append, total_zero, only_no, Turn, hit_turn, IsTurn, Shared, Ends, Report, decls_on, WorkerLog, AreEndsOf, firsts_at_start, new_worker, IsMadeOf, Step, IsAmong, AreStepsChained, steps_of, all_turns, at_some, some_at, not_le}
use Rattle.shr_model.proofs.Lists.{there_at}
use Rattle.shr_lawful.proofs.Gathering.{first_grows, below_one, HasStep, has_step, mine_at, among_left, each_among}
use Rattle.shr_assemble.proofs.EndsAfter.{are_steps}
use Rattle.shr_assemble.proofs.EndsGathered.{last, turns_are}
use Rattle.shr_assemble.proofs.EndsPool as ends_pool
use Rattle.shr_assemble.proofs.EndsSteps.{workers, is_crew}
use Rattle.shr_assemble.proofs.FirstIds.{first_id}
use Rattle.shr_assemble.proofs.Joined.{joined_pool}
use Rattle.shr_assemble.proofs.OpenedTurns.{decls_are, AreMade, made_opened}
use Rattle.shr_assemble.proofs.RisingTurns.{AreAll, next_numbers, as_many, none_higher}
use Rattle.shr_assemble.proofs.Rows.{DidEach}

module _ (x : Shared) (did : DidEach x) (logs : List WorkerLog) (e : Ends) (ends : AreEndsOf x logs e) (r : Report) (made : IsMadeOf x.script logs e r) where
  abbrev team : List (List Step)
  team = workers x did logs e ends r made

  abbrev known : ℕ
  known = length ends.opened.turns.known

  abbrev firsts : List Turn
  firsts = ends.opened.turns.made

  -- the entries of the opening
  opening : AreMade (decls_on x.script) ends.opened
  opening = subst (λ (l : List ℕ). AreMade l ends.opened) (sym (decls_are x.script.caches.items 0)) (made_opened x.script.caches.items (length x.script.caches.items) ends.opened ends.entered)

  chained : (worker k : ℕ) (y : Step) → slice_get (steps_of team worker) k ≡ Some y → AreStepsChained (new_worker ends.opened worker).seats (steps_of team worker)
  chained worker k y at =
      let crew = is_crew x did logs e ends r made in let workers_are = crew.workers_are in let lasts_are = crew.lasts_are in
      let mine = mine_at team worker k y at in
      let within = slice_get_within team worker (steps_of team worker) mine in
      let log = there_at logs worker (omega (arith, within, workers_are)) in
      let t = there_at ends.lasts worker (omega (arith, within, workers_are, lasts_are)) in
      (crew.each worker log.0 t.0 (steps_of team worker) log.1 t.1 mine).chained

  -- no worker made one that the first seats knew before
  not_before : (n : ℕ) → n < known → total (hit_turn n) (all_turns team) ≡ 0
  not_before n lt = total_zero (hit_turn n) (all_turns team) (λ j t at.
      let of : HasStep (λ (y : Step). y.work.core.turns) team t = has_step (λ (y : Step). y.work.core.turns) team t (j, at) in
      let late = ((are_steps x did logs e ends r made).each of.worker of.k of.step of.at).did.pool.later of.has.0 t of.has.1 in
      let grown = (first_grows (new_worker ends.opened of.worker).seats (steps_of team of.worker) of.k of.step (chained of.worker of.k of.step of.at) of.at).pool in
      let long = ap (λ (l : List PoolEntry). length l) grown.1 in let parts = length-append ends.opened.turns.known grown.0 in
      only_no n t.number (λ same. omega (arith, late, long, parts, lt, same)))

  all_known : known ≤ length e.core.pool.items
  all_known = let b = subst (λ (l : List PoolEntry). Begins l e.core.pool.items) (joined_pool (firsts_at_start ends.opened ends.standing) ends.lasts) ends.core.pool in
      let long = ap (λ (l : List PoolEntry). length l) b.1 in let parts = length-append ends.opened.turns.known b.0 in omega (arith, long, parts)

  -- each entry was made once, at the opening or by a step
  both : (n : ℕ) → total (hit_turn n) firsts + total (hit_turn n) (all_turns team) ≡ cond (nat_lt n (length e.core.pool.items)) 1 0
  both n = sym (total-append (hit_turn n) firsts (all_turns team)) ∙ (ap (λ (l : List Turn). total (hit_turn n) l) (sym (turns_are x did logs e ends r made)) ∙ ends.core.turned_once n)

  all_there : AreAll 0 known firsts
  all_there n le lt = let few = all_known in omega (arith, both n, not_before n lt, below_one n (length e.core.pool.items) (omega (arith, lt, few)))

  many : length (decls_on x.script) ≡ known
  many = let same = opening.many in let all = as_many 0 known firsts opening.up all_there in omega (arith, same, all)

  record IsFirst (n decl : ℕ) : Type 0 where
    id : ℕ
    at : slice_get e.core.pool.items n ≡ Some (Registered decl id 0)

  -- the entry of a declaration that is on
  entry_at : (n decl : ℕ) → slice_get (decls_on x.script) n ≡ Some decl → IsFirst n decl
  entry_at n decl at =
      let lt = slice_get_within (decls_on x.script) n decl at in let same = opening.many in
      let t = there_at firsts n (omega (arith, lt, same)) in
      let number : t.0.number ≡ n = (let e = next_numbers 0 known firsts opening.up all_there n t.0 t.1 in omega (arith, e)) in
      let entry = opening.entry n decl t.0 at t.1 in
      let among : IsAmong t.0 (last x did logs e ends r made).core.turns.made = subst (IsAmong t.0) (sym (turns_are x did logs e ends r made)) (among_left firsts (all_turns team) t.0 (n, some_at firsts n t.0 t.1)) in
      let stands : IsTurn e.core.pool.items t.0 = each_among (IsTurn e.core.pool.items) (last x did logs e ends r made).core.turns.made t.0 ends.core.turned among in
      record {
        id = entry.0;
        at = at_some e.core.pool.items n (Registered decl entry.0 0) (ap (get_elem? e.core.pool.items) (sym number) ∙ (stands ∙ ap some entry.1));
      }

  first_at : (n : ℕ) → n < known → (decl : ℕ) × (id : ℕ) × (slice_get e.core.pool.items n ≡ Some (Registered decl id 0))
  first_at n lt = let same = many in let d = there_at (decls_on x.script) n (omega (arith, lt, same)) in let t = entry_at n d.0 d.1 in (d.0, t.id, t.at)

  journal : IsPoolJournal x.script.ids (length x.script.caches.items) e.core.pool.items
  journal = subst (λ (es : List PoolEntry). IsPoolJournal x.script.ids (length x.script.caches.items) es) made.pool (ends_pool.journal x did logs e ends r made)

  -- the journal begins with the registrations of the caches that are on, in order
  pub opened : (n decl : ℕ) → slice_get (decls_on x.script) n ≡ Some decl → slice_get r.pool.items n ≡ Some (Registered decl n 0)
  opened n decl at =
      let t = entry_at n decl at in let lt = slice_get_within (decls_on x.script) n decl at in let same = many in
      let own = first_id x.script.ids (length x.script.caches.items) e.core.pool.items journal known first_at n decl t.id (omega (arith, lt, same)) t.at in
      ap (λ (l : List PoolEntry). slice_get l n) made.pool ∙ (t.at ∙ ap (λ (i : ℕ). Some (Registered decl i 0)) own)

  -- each later entry was made by one step
  pub once : (n : ℕ) → total (hit_turn n) (all_turns (workers x did logs e ends r made)) ≡ cond (nat_le (length (decls_on x.script)) n && nat_lt n (length r.pool.items)) 1 0
  once n = let same = many in ⊎_elim
      (λ lt. not_before n (omega (arith, lt, same)) ∙ sym (ap (λ (b : Bool). cond {A = ℕ} (b && nat_lt n (length r.pool.items)) 1 0) (not_le (length (decls_on x.script)) n lt)))
      (λ le. let none = none_higher n 0 known firsts opening.up (omega (arith, le, same)) in
      let mine : total (hit_turn n) (all_turns team) ≡ cond (nat_lt n (length e.core.pool.items)) 1 0 = omega (arith, none, both n) in
      mine ∙ (ap (λ (l : List PoolEntry). cond {A = ℕ} (nat_lt n (length l)) 1 0) (sym made.pool)
      ∙ sym (ap (λ (b : Bool). cond {A = ℕ} (b && nat_lt n (length r.pool.items)) 1 0) (le-leb (length (decls_on x.script)) n le))))
      (cases_lt n (length (decls_on x.script)))
