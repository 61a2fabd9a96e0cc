-- SPDX-License-Identifier: GPL-2.0-only
-- What the first seats have in the end is what the steps of all workers have, and the opening.
use Rattle.shr_assemble.proofs.Common.{◌≡◌, ℕ, List, ◌++◌, sym, refl, ap, subst, ◌∙◌, arith, flat_map, IsPermutation, None, slice_get_within, PlaceAmount, UseStep, Made, Tried, Turn, Uses, Moves, takes_of, gives_of, takes_both, gives_both, Shared, WorkerState, CrewState, Ends, Report, WorkerLog, Firsts, with_workers, firsts_at_start, AreEndsOf, new_worker, IsMadeOf, Step, all_made, all_attempts, all_cleared, all_sets, all_turns, all_entries, all_ops, all_takes, all_gives, AreRunJournals, ◌%◌, ◌<◌, ◌≤◌, ◌≢◌, ⊎_elim, true, [], ◌∷◌, length, eq-eqb, find, bit_at, eqb-true, Entry, PoolEntry, Object, Place, lists_moved_at, items_from, place_number, unit_of, bit_of, phase_of, is_live, items_none, times, units_in, place_id, group_of, map_number, map_of, items_now, groups_in, place_back, has_bit, parents_of, journals_of, items_left, IsThere, AreBitsLawful, shows_bit}
use Rattle.shr_model.proofs.Lists.{there_at}
use Rattle.shr_assemble.proofs.ScriptGroups.{sized_of}
use Rattle.shr_charge.specs.Views as charge
use Rattle.shr_assemble.proofs.Crews.{all_of, flat_pairs}
use Rattle.shr_assemble.proofs.EndsJournals as ends_journals
use Rattle.shr_assemble.proofs.EndsSteps.{workers, is_crew}
use Rattle.shr_assemble.proofs.Joined.{joined_made, joined_cleared, joined_sets, joined_attempts, joined_turns, joined_ops, joined_entries, joined_takes, joined_gives, joined_half, joined_owed}
use Rattle.shr_assemble.proofs.Opening.{IsFresh, fresh_opened}
use Rattle.shr_assemble.proofs.Rows.{DidEach, along}
use Rattle.shr_core.specs.Layout as layout
use Rattle.shr_assemble.proofs.BitWords.{found_nodes}
use Rattle.shr_assemble.proofs.EndsJournals.{there, items_same, same_parents}
use Rattle.shr_assemble.proofs.EndsPlaces.{below_or}

module _ (x : Shared) (did : DidEach x) (logs : List WorkerLog) (e : Ends) (ends : AreEndsOf x logs e) (r : Report) (made : IsMadeOf x.script logs e r) where
  abbrev start : Firsts
  start = firsts_at_start ends.opened ends.standing

  abbrev pub last : Firsts
  last = with_workers (firsts_at_start ends.opened ends.standing) ends.lasts

  abbrev mine : List (List Step)
  mine = workers x did logs e ends r made

  fresh : IsFresh ends.opened
  fresh = fresh_opened x.script.caches.items _ ends.opened ends.entered

  pub made_are : last.core.traces.made ≡ all_made (workers x did logs e ends r made)
  made_are = joined_made start ends.lasts ∙ (ap (λ (l : List Made). l ++ flat_map (λ (w : CrewState). w.seats.core.traces.made) ends.lasts) fresh.made
      ∙ all_of {A = Made} (λ (w : WorkerState). w.core.traces.made) (λ (y : Step). y.work.core.made) (λ y d. d.core.made) x ends.opened ends.popped logs ends.lasts mine (λ i. refl) (is_crew x did logs e ends r made))

  pub cleared_are : last.core.marks.cleared ≡ all_cleared (workers x did logs e ends r made)
  cleared_are = joined_cleared start ends.lasts ∙ (ap (λ (l : List ℕ). l ++ flat_map (λ (w : CrewState). w.seats.core.marks.cleared) ends.lasts) fresh.cleared
      ∙ all_of {A = ℕ} (λ (w : WorkerState). w.core.marks.cleared) (λ (y : Step). y.work.core.cleared) (λ y d. d.core.cleared) x ends.opened ends.popped logs ends.lasts mine (λ i. refl) (is_crew x did logs e ends r made))

  pub sets_are : last.core.marks.sets ≡ all_sets (workers x did logs e ends r made)
  sets_are = joined_sets start ends.lasts ∙ (ap (λ (l : List ℕ). l ++ flat_map (λ (w : CrewState). w.seats.core.marks.sets) ends.lasts) fresh.sets
      ∙ all_of {A = ℕ} (λ (w : WorkerState). w.core.marks.sets) (λ (y : Step). y.work.core.sets) (λ y d. d.core.sets) x ends.opened ends.popped logs ends.lasts mine (λ i. refl) (is_crew x did logs e ends r made))

  pub attempts_are : last.core.claims.attempts ≡ all_attempts (workers x did logs e ends r made)
  attempts_are = joined_attempts start ends.lasts ∙ (ap (λ (l : List Tried). l ++ flat_map (λ (w : CrewState). w.seats.core.claims.attempts) ends.lasts) fresh.attempts
      ∙ all_of {A = Tried} (λ (w : WorkerState). w.core.claims.attempts) (λ (y : Step). y.work.core.attempts) (λ y d. d.core.attempts) x ends.opened ends.popped logs ends.lasts mine (λ i. refl) (is_crew x did logs e ends r made))

  pub turns_are : last.core.turns.made ≡ ends.opened.turns.made ++ all_turns (workers x did logs e ends r made)
  turns_are = joined_turns start ends.lasts ∙ ap (λ (l : List Turn). ends.opened.turns.made ++ l)
      (all_of {A = Turn} (λ (w : WorkerState). w.core.turns.made) (λ (y : Step). y.work.core.turns) (λ y d. d.core.turned) x ends.opened ends.popped logs ends.lasts mine (λ i. refl) (is_crew x did logs e ends r made))

  pub ops_are : last.uses.ops ≡ all_ops (workers x did logs e ends r made)
  ops_are = joined_ops start ends.lasts
      ∙ all_of {A = UseStep} (λ (w : WorkerState). w.uses.ops) (λ (y : Step). y.work.ops) (λ y d. ap (λ (u : Uses). u.ops) d.uses) x ends.opened ends.popped logs ends.lasts mine (λ i. refl) (is_crew x did logs e ends r made)

  pub entries_are : last.tree.made ≡ all_entries (workers x did logs e ends r made)
  entries_are = joined_entries start ends.lasts
      ∙ all_of {A = charge.TreeMade} (λ (w : WorkerState). w.tree.made) (λ (y : Step). y.work.tree) (λ y d. d.tree) x ends.opened ends.popped logs ends.lasts mine (λ i. refl) (is_crew x did logs e ends r made)

  pub takes_are : takes_of last.moves ≡ all_takes (workers x did logs e ends r made)
  takes_are = joined_takes start ends.lasts
      ∙ all_of {A = PlaceAmount} (λ (w : WorkerState). takes_of w.moves) (λ (y : Step). takes_of y.work.moves) (λ y d. ap (λ (m : Moves). takes_of m) d.moves ∙ takes_both y.before.moves y.work.moves) x ends.opened ends.popped logs ends.lasts mine (λ i. refl) (is_crew x did logs e ends r made)

  pub gives_are : gives_of last.moves ≡ all_gives (workers x did logs e ends r made)
  gives_are = joined_gives start ends.lasts
      ∙ all_of {A = PlaceAmount} (λ (w : WorkerState). gives_of w.moves) (λ (y : Step). gives_of y.work.moves) (λ y d. ap (λ (m : Moves). gives_of m) d.moves ∙ gives_both y.before.moves y.work.moves) x ends.opened ends.popped logs ends.lasts mine (λ i. refl) (is_crew x did logs e ends r made)

  half_is : last.core.holding.half ≡ None
  half_is = joined_half start ends.lasts ∙ ap (λ h. h.half) ends.idle.rooms

  -- the journals of the lists are those of a run
  pub journals : AreRunJournals x.script r (workers x did logs e ends r made)
  journals = ends_journals.journals x ends.shared r last.core e.core ends.core made.places half_is (workers x did logs e ends r made) made_are

  -- the operations that were noted are those of the steps
  pub noted_are : flat_map (λ (log : WorkerLog). log.uses.items) logs ≡ all_ops (workers x did logs e ends r made)
  noted_are = let crew = is_crew x did logs e ends r made in
      flat_pairs (λ (log : WorkerLog). log.uses.items) (λ (steps : List Step). flat_map (λ (y : Step). y.work.ops) steps) logs mine crew.workers_are
      (λ i log steps at_log at_steps.
      let t = there_at ends.lasts i (let lt = slice_get_within logs i log at_log in let same = ends.last_states in omega (arith, lt, same)) in
      let row = crew.each i log t.0 steps at_log t.1 at_steps in
      (ends.worked i log t.0 at_log t.1).uses ∙ (ap (λ (w : WorkerState). w.noted) (sym row.ends) ∙ along (λ (w : WorkerState). w.noted) (λ (y : Step). y.work.ops) (λ y d. d.noted) (new_worker ends.opened i).seats steps row.chained))

  pub same : IsPermutation r.uses.items (all_ops (workers x did logs e ends r made))
  same = subst (IsPermutation r.uses.items) noted_are made.uses

pub none_of : (es : List Entry) → length es ≤ 0 → es ≡ []
none_of [] h = refl
none_of (e ∷ es) h = absurd (omega arith)

some_of : (os : List Object) → (os ≡ [] → ⊥) → 0 < length os
some_of [] h = absurd (h refl)
some_of (o ∷ os) h = omega arith

module _ (x : Shared) (did : DidEach x) (logs : List WorkerLog) (e : Ends) (ends : AreEndsOf x logs e) (r : Report) (made : IsMadeOf x.script logs e r) where
  -- a place with items is there
  with_items : (place : Place) → items_left x.script r place ≢ [] → IsThere x.script place
  with_items place some = ⊎_elim
      (λ has. there x ends.shared r (last x did logs e ends r made).core e.core ends.core made.places place has)
      (λ le. let none = none_of (journals_of r place) le in
      absurd (some (ap (λ (l : List Entry). items_from (lists_moved_at (parents_of x.script) (journals_of r) place) [] l) none ∙ items_none (parents_of x.script) (journals_of r) place 0 none)))
      (below_or 0 (length (journals_of r place)))

  -- its bit is 1 in the table
  is_one : (place : Place) → IsThere x.script place → 0 < place.group → items_left x.script r place ≢ [] → is_live place.id r.pool.items ≡ true → bit_at (ends.core.bits (map_of (place_number place))) (layout.place_bit (place_number place)) ≡ 1
  is_one place is below some live =
      let sized = sized_of x ends.shared in let node = is.node in let group = is.group in let id = is.id in let nodes = sized.nodes in let groups = sized.groups in let ids = ends.shared.ids in
      let back = place_back place (omega (arith, node, nodes)) (omega (arith, group, groups)) in
      let same_id : place_id (place_number place) ≡ place.id = ap (λ p. p.id) back in
      let same_group : group_of (place_number place) ≡ place.group = ap (λ p. p.group) back in
      let items : items_now ends.core.now ends.core.after (place_number place) ≡ items_left x.script r place =
      items_same x ends.shared r (last x did logs e ends r made).core e.core ends.core made.places (place_number place) ∙ ap (items_left x.script r) back in
      let is_phase : phase_of place.id r.pool.items % 3 ≡ 1 = eqb-true (phase_of place.id r.pool.items % 3) 1 live in
      ends.core.flagged (place_number place) (omega (arith, id, node, group, nodes, groups, ids)) (omega (arith, below, same_group))
      (ap (λ (i : ℕ). phase_of i e.core.pool.items % 3) same_id ∙ (ap (λ (es : List PoolEntry). phase_of place.id es % 3) (sym made.pool) ∙ is_phase))
      (some_of _ (λ q. some (sym items ∙ q)))
      (ap (times (place_number place)) (joined_owed (firsts_at_start ends.opened ends.standing) ends.lasts) ∙ (fresh_opened x.script.caches.items _ ends.opened ends.entered).owed (place_number place))

  -- no bit is missing
  pub bits : AreBitsLawful x.script r
  bits = record {
    set = λ place below some live.
        let is = with_items place some in
        let sized = sized_of x ends.shared in let node = is.node in let group = is.group in let id = is.id in let nodes = sized.nodes in let groups = sized.groups in let ids = ends.shared.ids in let same_nodes = ends.shared.nodes in
        let lower : 0 < place.group = omega (arith, below) in
        let map_is : map_of (place_number place) ≡ map_number place.node place.group (unit_of place.id) = omega (arith, node, group, nodes, groups) in
        let bit : layout.place_bit (place_number place) ≡ bit_of place.id = omega (arith, node, group, nodes, groups) in
        let near : place.group < groups_in x.core.setting.shape = subst (λ (l : List ℕ). place.group < length l) (sym (same_parents x ends.shared r (last x did logs e ends r made).core e.core ends.core made.places)) group in
        ap (λ ms. shows_bit (bit_of place.id) (find (has_bit place) ms)) (made.maps ∙ ends.core.maps)
        ∙ (ap (shows_bit (bit_of place.id)) (found_nodes ends.core.bits place (units_in x.core.setting.shape.ids) (groups_in x.core.setting.shape) x.core.setting.shape.nodes (omega (arith, id, ids)) lower near (omega (arith, node, same_nodes)))
        ∙ eq-eqb (bit_at (ends.core.bits (map_number place.node place.group (unit_of place.id))) (bit_of place.id)) 1
        (ap (λ (m : ℕ). bit_at (ends.core.bits m) (bit_of place.id)) (sym map_is) ∙ (ap (bit_at (ends.core.bits (map_of (place_number place)))) (sym bit) ∙ is_one place is lower some live)));
  }
