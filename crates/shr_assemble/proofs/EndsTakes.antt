-- SPDX-License-Identifier: GPL-2.0-only
-- The moves of each worker in the line of all moves of the deferred words, of a run whose workers are done.
use Rattle.shr_assemble.proofs.Common.{◌≡◌, ℕ, zero, suc, ◌+◌, ◌≤◌, List, [], ◌∷◌, length, sym, refl, ap, subst, ◌∙◌, arith, flat_map, slice_get, Some, same_Some, none-some, slice_get_within, dite, dec_lt, by_seat, part, Moves, Shared, WorkerState, CrewState, Ends, Report, WorkerLog, Firsts, with_workers, firsts_at_start, AreEndsOf, new_worker, IsMadeOf, Step, steps_in, steps_of, no_moves, strand_at, slice_get_past}
use Rattle.shr_model.proofs.Lists.{there_at}
use Rattle.shr_assemble.proofs.EndsSteps.{workers, is_crew}
use Rattle.shr_assemble.proofs.Joined.{joined_list}
use Rattle.shr_assemble.proofs.Rows.{DidEach, along}

abbrev own : CrewState → List Moves
own w = w.seats.moves ∷ []

at_own : (ws : List CrewState) (i : ℕ) (w : CrewState) → slice_get ws i ≡ Some w → strand_at (flat_map own ws) i ≡ w.seats.moves
at_own [] i w e = absurd (none-some w e)
at_own (x ∷ ws) zero w e = ap (λ (y : CrewState). y.seats.moves) (same_Some x w e)
at_own (x ∷ ws) (suc i) w e = at_own ws i w e

past_own : (ws : List CrewState) (i : ℕ) → length ws ≤ i → strand_at (flat_map own ws) i ≡ []
past_own [] i le = refl
past_own (x ∷ ws) zero le = absurd (omega (arith, le))
past_own (x ∷ ws) (suc i) le = past_own ws i (omega (arith, le))

module _ (x : Shared) (did : DidEach x) (logs : List WorkerLog) (e : Ends) (ends : AreEndsOf x logs e) (r : Report) (made : IsMadeOf x.script logs e r) where
  abbrev start : Firsts
  start = firsts_at_start ends.opened ends.standing

  abbrev mine : List (List Step)
  mine = workers x did logs e ends r made

  abbrev moves_of : List Step → Moves
  moves_of steps = flat_map (λ (y : Step). y.work.moves) steps

  strands_are : (with_workers (firsts_at_start ends.opened ends.standing) ends.lasts).strands ≡ no_moves ∷ flat_map own ends.lasts
  strands_are = joined_list {A = Moves} (λ g. g.strands) own (λ g w. refl) start ends.lasts

  -- what a worker's seat moved is what its steps did
  moved : (i : ℕ) (last : CrewState) (steps : List Step) → slice_get ends.lasts i ≡ Some last → slice_get mine i ≡ Some steps → last.seats.moves ≡ moves_of steps
  moved i last steps at_last at_steps =
      let crew = is_crew x did logs e ends r made in
      let same = crew.lasts_are in
      let log = there_at logs i (let lt = slice_get_within ends.lasts i last at_last in omega (arith, lt, same)) in
      let row = crew.each i log.0 last steps log.1 at_last at_steps in
      ap (λ (w : WorkerState). w.moves) (sym row.ends) ∙ along (λ (w : WorkerState). w.moves) (λ (y : Step). y.work.moves) (λ y d. d.moves) (new_worker ends.opened i).seats steps row.chained

  strand : (i : ℕ) → strand_at (flat_map own ends.lasts) i ≡ moves_of (steps_of mine i)
  strand i =
      let crew = is_crew x did logs e ends r made in
      let lasts = crew.lasts_are in let many = crew.workers_are in
      dite (dec_lt i (length ends.lasts))
      (λ low. let last = there_at ends.lasts i low in let steps = there_at mine i (omega (arith, low, lasts, many)) in
      at_own ends.lasts i last.0 last.1 ∙ (moved i last.0 steps.0 last.1 steps.1 ∙ ap (λ o. moves_of (steps_in o)) (sym steps.1)))
      (λ no. past_own ends.lasts i (omega (arith, no)) ∙ ap (λ o. moves_of (steps_in o)) (sym (slice_get_past mine i (omega (arith, no, lasts, many)))))

  pub parts : (worker : ℕ) → part (1 + worker) ends.history.line ≡ by_seat (1 + worker) (flat_map (λ (y : Step). y.work.moves) (steps_of (workers x did logs e ends r made) worker))
  parts worker = subst (λ (k : ℕ). part k ends.history.line ≡ by_seat k (moves_of (steps_of mine worker))) (let next : suc worker ≡ 1 + worker = omega arith in next)
      (ends.history.parts (suc worker) ∙ ap (by_seat (suc worker)) (ap (λ (l : List Moves). strand_at l (suc worker)) strands_are ∙ strand worker))

  -- the first seat moved nothing
  pub others : part 0 ends.history.line ≡ []
  others = ends.history.parts 0 ∙ ap (λ (l : List Moves). by_seat 0 (strand_at l 0)) strands_are
