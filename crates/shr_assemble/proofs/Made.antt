-- SPDX-License-Identifier: GPL-2.0-only
-- The report that is put together is made of the ends of the tables and of the workers' logs.
use Rattle.shr_assemble.proofs.Common.{◌≡◌, ℕ, zero, suc, ◌<◌, ◌≤◌, ◌⊎◌, inl, inr, ⊎_elim, List, [], ◌∷◌, length, map, take, refl, sym, ap, subst, ◌∙◌, arith, slice_get, flat_map, option_map, Option, Some, None, IsPermutation, cases_order, IsPermutation-sym, slice_get_within, same_Some, WorkerPart, UseStep, Answered, Shared, CrewState, IsWorkOf, Serial, Ends, Report, WorkerLog, Noted, new_worker, HelpsWith, log_answers, log_walks, log_carries, log_plain, log_isolations, IsMadeOf, printed_part, ArePrintedParts, AreUsesSorted, AreEnds, IsPutTogether, Sweep, SweepItem, worker_commands, command_serial}
use Rattle.std.proofs.lemmas.Option.{slice_get-map}
use Rattle.shr_assemble.proofs.Filling.{none_left}
use Rattle.shr_model.proofs.Lists.{there_at}
use Rattle.shr_laws.specs.Parts as parts
use Rattle.shr_laws.specs.UnitParts as units
use Rattle.shr_assemble.proofs.Printing.{get_taken}

-- nothing stands past a beginning
get_past : {A : Type 0} (xs : List A) (n i : ℕ) → n ≤ i → slice_get (take n xs) i ≡ None
get_past [] zero i le = refl
get_past [] (suc n) i le = refl
get_past (x ∷ xs) zero i le = refl
get_past (x ∷ xs) (suc n) zero le = absurd (omega (arith, le))
get_past (x ∷ xs) (suc n) (suc i) le = get_past xs n i (omega (arith, le))

-- one that answered no command is in its first state
still : (x : Shared) (number : ℕ) (answers : List Answered) (first last : CrewState) → answers ≡ [] → IsWorkOf x number answers first last → last ≡ first
still x number answers first last none w = same_Some last first (sym w.ends ∙ (ap (λ (l : List Answered). slice_get w.states (length l)) none ∙ w.starts))

-- and one that answered no sweep helped with none
unhelped : (x : Shared) (o : Option Sweep) (by : Serial) (told : List Answered) (popped : List SweepItem) (s t : CrewState) → told ≡ [] → HelpsWith x o by told popped s t → t ≡ s
unhelped x None by told popped s t none h = h.1
unhelped x (Some z) by told popped s t none h = absurd (let some = sym h.told_is ∙ none in cc)

module _ (e : Ends) (logs : List WorkerLog) (n : Noted) (r : Report) (are : AreEnds logs e) (printed : ArePrintedParts (map printed_part logs) n.parts.items) (together : IsPutTogether e n r) where
  part_at : (worker : ℕ) → worker < printed.many → slice_get r.workers.items worker ≡ option_map printed_part (slice_get logs worker)
  part_at worker lt = ap (λ (l : List WorkerPart). slice_get l worker) (together.parts ∙ printed.front) ∙ (get_taken (map printed_part logs) printed.many worker lt ∙ slice_get-map printed_part logs worker)

  no_part : (worker : ℕ) → printed.many ≤ worker → slice_get r.workers.items worker ≡ None
  no_part worker le = ap (λ (l : List WorkerPart). slice_get l worker) (together.parts ∙ printed.front) ∙ get_past (map printed_part logs) printed.many worker le

  -- a worker past the last one with an answer noted nothing
  silent : (worker : ℕ) (log : WorkerLog) → printed.many ≤ worker → slice_get logs worker ≡ Some log → log.answers.items ≡ []
  silent worker log le at = printed.last.after worker (printed_part log) le (slice_get-map printed_part logs worker ∙ ap (option_map printed_part) at)

  idle : (worker : ℕ) (log : WorkerLog) → printed.many ≤ worker → slice_get logs worker ≡ Some log → (log.walks.items ≡ []) × (log.carries.items ≡ []) × (log.plain.items ≡ []) × (log.isolations.items ≡ [])
  idle worker log le at =
      let t = there_at are.ends.lasts worker (let lt = slice_get_within logs worker log at in let same = are.ends.last_states in omega (arith, lt, same)) in
      let w = are.ends.worked worker log t.0 at t.1 in
      let silence = none_left w.own w.told (sym w.answers ∙ silent worker log le at) in
      let same : t.0 ≡ new_worker are.ends.opened worker = unhelped are.shared are.shared.script.sweep (command_serial worker (length (worker_commands are.shared.script worker))) w.told (are.ends.popped worker) w.done t.0 silence.1 w.helped ∙ still are.shared worker w.own (new_worker are.ends.opened worker) w.done silence.0 w.work in
      (w.walks ∙ ap (λ (s : CrewState). s.seats.walks) same, w.carries ∙ ap (λ (s : CrewState). s.seats.carries) same, w.plain ∙ ap (λ (s : CrewState). s.plain.walks) same, w.isolations ∙ ap (λ (s : CrewState). s.isolations) same)

  cases_of : (worker : ℕ) → (worker < printed.many) ⊎ (printed.many ≤ worker)
  cases_of worker = ⊎_elim (λ same. inr (omega (arith, same))) (⊎_elim (λ lt. inl lt) (λ gt. inr (omega (arith, gt)))) (cases_order worker printed.many)

  -- what is printed of a worker is what its log has, where one that isn't printed has nothing in its log
  of_each : {A : Type 0} (in_part : Option WorkerPart → List A) (in_log : Option WorkerLog → List A) → in_part None ≡ [] → in_log None ≡ [] → ((log : WorkerLog) → in_part (Some (printed_part log)) ≡ in_log (Some log))
      → ((worker : ℕ) (log : WorkerLog) → printed.many ≤ worker → slice_get logs worker ≡ Some log → in_log (Some log) ≡ []) → (worker : ℕ) → in_part (slice_get r.workers.items worker) ≡ in_log (slice_get logs worker)
  of_each in_part in_log unprinted unlogged same nothing worker = ⊎_elim
      (λ lt. ap in_part (part_at worker lt) ∙ printed_of (slice_get logs worker))
      (λ le. ap in_part (no_part worker le) ∙ (unprinted ∙ sym (none_of (slice_get logs worker) le refl))) (cases_of worker) where
        printed_of : (o : Option WorkerLog) → in_part (option_map printed_part o) ≡ in_log o
        printed_of None = unprinted ∙ sym unlogged
        printed_of (Some log) = same log

        none_of : (o : Option WorkerLog) → printed.many ≤ worker → slice_get logs worker ≡ o → in_log o ≡ []
        none_of None le at = unlogged
        none_of (Some log) le at = nothing worker log le at

  pub made_of : IsPermutation (flat_map (λ (log : WorkerLog). log.uses.items) logs) n.uses.items → AreUsesSorted n.uses.items → IsMadeOf e.script logs e r
  made_of same sorted = assumption (
    of_each parts.answers_in log_answers refl refl (λ log. refl) silent,
    of_each parts.walks_in log_walks refl refl (λ log. refl) (λ worker log le at. (idle worker log le at).0),
    of_each parts.carries_in log_carries refl refl (λ log. refl) (λ worker log le at. (idle worker log le at).1),
    of_each units.plain_in log_plain refl refl (λ log. refl) (λ worker log le at. (idle worker log le at).2),
    of_each parts.isolations_in log_isolations refl refl (λ log. refl) (λ worker log le at. (idle worker log le at).3),
    subst (λ (l : List UseStep). IsPermutation l (flat_map (λ (log : WorkerLog). log.uses.items) logs)) (sym together.uses) (IsPermutation-sym (flat_map (λ (log : WorkerLog). log.uses.items) logs) n.uses.items same),
    subst AreUsesSorted (sym together.uses) sorted,
    together,
  )
