-- SPDX-License-Identifier: GPL-2.0-only
-- What the workers did at the pools of units, of a run whose workers are done.
use Rattle.shr_assemble.proofs.Common.{◌≡◌, ℕ, ◌<◌, ◌≤◌, ⊎_elim, List, [], ◌∷◌, ◌++◌, map, length, sym, refl, ap, subst, ◌∙◌, arith, find, filter, flat_map, slice_get, Option, Some, None, option_map, AllByRecursion, range_with_len, same_Some, none-some, slice_get_past, slice_get_within, PlaceAmount, Place, Answered, Command, amount_of, sum_at, deferred_word, is_place, Sizes, IsPlaceOf, row_of, row_count, Each, Begins, row_low, begins_all, Each-none, is_some_amount, takes_of, gives_of, takes_both, gives_both, pool_sizes, PlainState, Shared, CrewState, Ends, Report, amount_in, parents_of, journals_of, commands_in, commands_of, answers_of, serial_of, command_at, answer_at, id_found, IsOther, DidUnitsOf, UnitsStep, WorkerLog, Firsts, AreEndsOf, with_workers, firsts_at_start, IsMadeOf, log_answers, log_plain, AreRunSteps, Step, IsReplyTo, no_state, place_of_row, took_at, gave_at, plain_of, units_steps_in, units_steps_of, AreChained, last_units_state, units_made_in, IsUnitsStep, IsSeenIn, IsRoomOf, AreUnits}
use Rattle.shr_model.proofs.Lists.{there_at}
use Rattle.shr_base.specs.declared.journals.PlainEntry.{PlainEntry}
use Rattle.shr_deferred.specs.Left.{amounts}
use Rattle.shr_seats.specs.RoomRule.{IsEntryMade, CountsPrefix, times_made}
use Rattle.shr_seats.specs.RoomViews.{RoomMade, RoomCount, RoomView, part_at, heard_of}
use Rattle.shr_seats.proofs.RoomParts.{part_joined}
use Rattle.shr_plain.specs.Ending.{units_end_value}
use Rattle.shr_plain.specs.Rule.{units}
use Rattle.shr_worker.specs.Chain as chain
use Rattle.shr_lawful.specs.Steps as seats
use Rattle.shr_lawful.proofs.Gathering.{does_at, among_right}
use Rattle.shr_assemble.proofs.Crews.{flat_pairs}
use Rattle.shr_assemble.proofs.EndsAfter.{are_steps}
use Rattle.shr_assemble.proofs.EndsSteps.{found_zero, found_word, shown_some, same_in}
use Rattle.shr_assemble.proofs.EndsPlaces.{below_or}
use Rattle.shr_assemble.proofs.EndsSteps as ends_steps
use Rattle.shr_assemble.proofs.Joined.{joined_list}
use Rattle.shr_assemble.proofs.Lasts.{each_last}
use Rattle.shr_assemble.proofs.Rows.{DidEach, within_at}
use Rattle.shr_lawful.proofs.SweepSteps.{last_answer}
use Rattle.shr_assemble.proofs.UnitsDid.{IsElsewhere, other_reply, did_units}
use Rattle.shr_assemble.proofs.UnitsRows.{IsDeed, IsUnitsCrew, units_crew}
use Rattle.shr_lawful.proofs.Listed.{has_range, range_has}
use Rattle.shr_assemble.proofs.WordPlaces.{inside_word}
use Rattle.shr_lawful.proofs.UnitPooling.{place_back}

-- ---- what the first seats have in the end
module _ (f : Firsts) (ws : List CrewState) where
  units_made : (i : ℕ) → (part_at (with_workers f ws).plain.rooms i).made ≡ (part_at f.plain.rooms i).made ++ flat_map (λ (w : CrewState). (part_at w.plain.rooms i).made) ws
  units_made i = joined_list {A = RoomMade PlainEntry} (λ g. (part_at g.plain.rooms i).made) (λ (w : CrewState). (part_at w.plain.rooms i).made) (λ g w. ap (λ (v : RoomView PlainEntry). v.made) (part_joined g.plain.rooms w.plain.rooms i)) f ws

  units_seen : (i : ℕ) → (part_at (with_workers f ws).plain.rooms i).seen ≡ (part_at f.plain.rooms i).seen ++ flat_map (λ (w : CrewState). (part_at w.plain.rooms i).seen) ws
  units_seen i = joined_list {A = RoomCount} (λ g. (part_at g.plain.rooms i).seen) (λ (w : CrewState). (part_at w.plain.rooms i).seen) (λ g w. ap (λ (v : RoomView PlainEntry). v.seen) (part_joined g.plain.rooms w.plain.rooms i)) f ws

  units_heard : (i : ℕ) → (part_at (with_workers f ws).plain.rooms i).heard ≡ (part_at f.plain.rooms i).heard ++ flat_map (λ (w : CrewState). heard_of (part_at w.plain.rooms i).known ++ (part_at w.plain.rooms i).heard) ws
  units_heard i = joined_list {A = List PlainEntry} (λ g. (part_at g.plain.rooms i).heard) (λ (w : CrewState). heard_of (part_at w.plain.rooms i).known ++ (part_at w.plain.rooms i).heard) (λ g w. ap (λ (v : RoomView PlainEntry). v.heard) (part_joined g.plain.rooms w.plain.rooms i)) f ws

  units_takes : takes_of (with_workers f ws).plain.moves ≡ takes_of f.plain.moves ++ flat_map (λ (w : CrewState). takes_of w.plain.moves) ws
  units_takes = joined_list {A = PlaceAmount} (λ g. takes_of g.plain.moves) (λ (w : CrewState). takes_of w.plain.moves) (λ g w. takes_both g.plain.moves w.plain.moves) f ws

  units_gives : gives_of (with_workers f ws).plain.moves ≡ gives_of f.plain.moves ++ flat_map (λ (w : CrewState). gives_of w.plain.moves) ws
  units_gives = joined_list {A = PlaceAmount} (λ g. gives_of g.plain.moves) (λ (w : CrewState). gives_of w.plain.moves) (λ g w. gives_both g.plain.moves w.plain.moves) f ws

-- a prefix that a worker knew begins the journal
known_begins : (known : List PlainEntry) (heard : List (List PlainEntry)) (journal : List PlainEntry) → Each (λ h. Begins h journal) (heard_of known ++ heard) → Begins known journal
known_begins [] heard journal h = (journal, refl)
known_begins (e ∷ es) heard journal h = h 0 (e ∷ es) refl

module _ (x : Shared) (did : DidEach x) (logs : List WorkerLog) (e : Ends) (ends : AreEndsOf x logs e) (r : Report) (made : IsMadeOf x.script logs e r) where
  abbrev crew : (workers : List (List UnitsStep)) × IsUnitsCrew x ends.opened logs ends.lasts workers
  crew = units_crew x ends.opened ends.popped logs ends.lasts ends.last_states ends.worked

  abbrev pub team : List (List UnitsStep)
  team = crew.0

  abbrev start : Firsts
  start = firsts_at_start ends.opened ends.standing

  abbrev all : PlainState
  all = (with_workers (firsts_at_start ends.opened ends.standing) ends.lasts).plain

  abbrev z : Sizes
  z = pool_sizes x.script

  -- ---- the steps of one worker
  record IsOf (worker : ℕ) (mine : List UnitsStep) : Type 0 where
    commands : length (commands_of x.script worker) ≡ length mine
    chained : AreChained no_state mine
    walks : plain_of r worker ≡ (last_units_state mine).walks
    each : (k : ℕ) (y : UnitsStep) → slice_get mine k ≡ Some y → IsDeed x.script (serial_of worker) (commands_of x.script worker) (answers_of r worker) k y

  none_of : (worker : ℕ) → length logs ≤ worker → IsOf worker []
  none_of worker le =
      let script = ends.workers in
      let no_log = slice_get_past logs worker le in
      let no_script = slice_get_past x.script.workers.items worker (omega (arith, le, script)) in
      record {
        commands = ap (λ o. length (commands_in o)) no_script;
        chained = tt;
        walks = made.plain worker ∙ ap log_plain no_log;
        each = λ k y h. absurd (none-some y h);
      }

  some_of : (worker : ℕ) (log : WorkerLog) (last : CrewState) (mine : List UnitsStep) → slice_get logs worker ≡ Some log → slice_get ends.lasts worker ≡ Some last → slice_get team worker ≡ Some mine → IsOf worker mine
  some_of worker log last mine at_log at_last at_mine =
      let row = crew.1.each worker log last mine at_log at_last at_mine in
      let worked = ends.worked worker log last at_log at_last in
      let answers : answers_of r worker ≡ log.answers.items = made.answers worker ∙ ap log_answers at_log in
      let commands : chain.worker_commands x.script worker ≡ commands_of x.script worker = same_in (slice_get x.script.workers.items worker) in
      record {
        commands = ap (λ l. length l) (sym commands) ∙ row.commands;
        chained = row.chained;
        walks = made.plain worker ∙ (ap log_plain at_log ∙ (worked.plain ∙ ap (λ (t : PlainState). t.walks) (sym row.ends)));
        each = λ k y h. let d = row.each k y h in record {
          by_is = d.by_is;
          command = ap (λ l. slice_get l k) (sym commands) ∙ d.command;
          answered = d.answered;
          answer = ap (λ l. slice_get l k) answers ∙ d.answer;
          reply = d.reply;
          gives = d.gives;
        };
      }

  is_of : (worker : ℕ) → IsOf worker (units_steps_of team worker)
  is_of worker = ⊎_elim
      (λ lt. let workers_are = crew.1.workers_are in let lasts_are = ends.last_states in
      let log = there_at logs worker lt in let last = there_at ends.lasts worker (omega (arith, lt, lasts_are)) in let mine = there_at team worker (omega (arith, lt, workers_are)) in
      subst (IsOf worker) (ap units_steps_in (sym mine.1)) (some_of worker log.0 last.0 mine.0 log.1 last.1 mine.1))
      (λ le. let workers_are = crew.1.workers_are in subst (IsOf worker) (ap units_steps_in (sym (slice_get_past team worker (omega (arith, le, workers_are))))) (none_of worker le))
      (below_or worker (length logs))

  -- ---- its replies are those of its commands at the tables of the caches too
  abbrev seat_team : List (List Step)
  seat_team = ends_steps.workers x did logs e ends r made

  pub steps : AreRunSteps x.script r seat_team
  steps = are_steps x did logs e ends r made

  seat_step : (worker k : ℕ) (c : Command) → command_at x.script (serial_of worker k) ≡ Some c → (y : Step) × (slice_get (seats.steps_of seat_team worker) k ≡ Some y)
  seat_step worker k c command =
      let same = steps.commands worker in
      let within = slice_get_within (commands_of x.script worker) k c command in
      there_at (seats.steps_of seat_team worker) k (omega (arith, within, same))

  elsewhere : (worker k : ℕ) (c : Command) (a : Answered) → command_at x.script (serial_of worker k) ≡ Some c → answer_at r (serial_of worker k) ≡ Some a → IsElsewhere c → IsOther a.reply
  elsewhere worker k c a command answer is =
      let t = seat_step worker k c command in
      let y = t.0 in
      let own = steps.each worker k y t.1 in
      let same_command : y.command ≡ Some c = sym own.command ∙ command in
      let same_answer : y.answered ≡ a = same_Some y.answered a (sym own.answered ∙ answer) in
      let row = own.did.entries.reply (journals_of r) (λ j m h.
      let of = among_right y.before.core.traces.made y.work.core.made m (j, h) in
      ((steps.shown worker k y t.1).made of.0 m (subst (λ l. seats.IsAmong m l) (sym (does_at (steps.first worker) (seats.steps_of seat_team worker) k y (steps.chained worker) t.1).core.made) of).1).1) in
      subst (λ (b : Answered). IsOther b.reply) same_answer
      (other_reply (parents_of x.script) (journals_of r) y.by c (id_found y.answered) y.answered.reply is (subst (λ (o : Option Command). IsReplyTo (parents_of x.script) (journals_of r) y.by o (id_found y.answered) y.answered.reply) same_command row))

  is_step : (worker k : ℕ) (y : UnitsStep) → slice_get (units_steps_of team worker) k ≡ Some y → IsUnitsStep x.script r worker k y
  is_step worker k y at =
      let d = (is_of worker).each k y at in
      let within = within_at x ends.shared worker k y.command (ap (λ l. slice_get l k) (same_in (slice_get x.script.workers.items worker)) ∙ d.command) in
      record {
        by = d.by_is;
        command = d.command;
        reply = ap (option_map (λ (a : Answered). a.reply)) d.answer ∙ ap Some (sym d.reply);
        did = subst (λ v. DidUnitsOf x.script y.by y.command v y.before y.after) (sym d.reply)
            (did_units x.script y.by y.before y.after y.command d.answered within (elsewhere worker k y.command d.answered d.command d.answer) d.gives);
      }

  -- ---- the last states of the workers are those of their steps
  last_is : (i : ℕ) (last : CrewState) (mine : List UnitsStep) → slice_get ends.lasts i ≡ Some last → slice_get team i ≡ Some mine → last_units_state mine ≡ last.plain
  last_is i last mine at_last at_mine = let log = there_at logs i (let lt = slice_get_within ends.lasts i last at_last in let same = ends.last_states in omega (arith, lt, same)) in (crew.1.each i log.0 last mine log.1 at_last at_mine).ends

  flat_same : {A : Type 0} (g : PlainState → List A) → flat_map (λ (w : CrewState). g w.plain) ends.lasts ≡ flat_map (λ (mine : List UnitsStep). g (last_units_state mine)) team
  flat_same g = flat_pairs (λ (w : CrewState). g w.plain) (λ (mine : List UnitsStep). g (last_units_state mine)) ends.lasts team (crew.1.workers_are ∙ sym ends.last_states) (λ i last mine at_last at_mine. ap g (sym (last_is i last mine at_last at_mine)))

  made_are : (i : ℕ) → (part_at all.rooms i).made ≡ units_made_in team i
  made_are i = units_made start ends.lasts i ∙ flat_same (λ (t : PlainState). (part_at t.rooms i).made)

  -- what the first seat has of a room holds of each worker's
  seen_in : (i : ℕ) → i < row_count z → (worker : ℕ) → IsSeenIn (ends.pools.journal i) (part_at (last_units_state (units_steps_of team worker)).rooms i)
  seen_in i low worker = by_worker (slice_get team worker) refl where
    by_worker : (o : Option (List UnitsStep)) → slice_get team worker ≡ o → IsSeenIn (ends.pools.journal i) (part_at (last_units_state (units_steps_in o)).rooms i)
    by_worker None at = record { known = (ends.pools.journal i, refl); made = Each-none (IsEntryMade (ends.pools.journal i)); seen = Each-none (CountsPrefix units (ends.pools.journal i)) }
    by_worker (Some mine) at =
        let last = there_at ends.lasts worker (let lt = slice_get_within team worker mine at in let a = crew.1.workers_are in let b = ends.last_states in omega (arith, lt, a, b)) in
        subst (λ (t : PlainState). IsSeenIn (ends.pools.journal i) (part_at t.rooms i)) (sym (last_is worker last.0 mine last.1 at)) (of_last last.0 last.1) where
          of_last : (w : CrewState) → slice_get ends.lasts worker ≡ Some w → IsSeenIn (ends.pools.journal i) (part_at w.plain.rooms i)
          of_last w at_w = record {
            known = known_begins (part_at w.plain.rooms i).known (part_at w.plain.rooms i).heard (ends.pools.journal i)
                (each_last (λ h. Begins h (ends.pools.journal i)) (λ (v : CrewState). heard_of (part_at v.plain.rooms i).known ++ (part_at v.plain.rooms i).heard) ends.lasts (part_at all.rooms i).heard [] (units_heard start ends.lasts i) (ends.pools.rooms i low).seen.heard worker w at_w _ (begins_all _));
            made = each_last (IsEntryMade (ends.pools.journal i)) (λ (v : CrewState). (part_at v.plain.rooms i).made) ends.lasts (part_at all.rooms i).made [] (units_made start ends.lasts i) (ends.pools.rooms i low).seen.made worker w at_w _ (begins_all _);
            seen = each_last (CountsPrefix units (ends.pools.journal i)) (λ (v : CrewState). (part_at v.plain.rooms i).seen) ends.lasts (part_at all.rooms i).seen [] (units_seen start ends.lasts i) (ends.pools.rooms i low).seen.seen worker w at_w _ (begins_all _);
          }

  room_of : (i : ℕ) → i < row_count z → IsRoomOf team i (ends.pools.journal i)
  room_of i low = let left = ends.pools.rooms i low in record {
    legal = left.legal;
    short = left.fits.short;
    seen = seen_in i low;
    once = λ n. ap (times_made n) (sym (made_are i)) ∙ left.once n;
  }

  -- ---- deferred words
  abbrev word : Place → ℕ
  word p = deferred_word (gave_at p all.moves) (took_at p all.moves)

  abbrev numbers : List ℕ
  numbers = range_with_len 0 (row_count (pool_sizes x.script))

  printed_are : r.pool_deferred.items ≡ filter is_some_amount (map (λ i. amount_of (place_of_row (pool_sizes x.script) i) (word (place_of_row (pool_sizes x.script) i))) (range_with_len 0 (row_count (pool_sizes x.script))))
  unfolding amounts
  printed_are = made.pool_deferred ∙ ends.pools.deferred

  gives_are : gives_of all.moves ≡ flat_map (λ (mine : List UnitsStep). gives_of (last_units_state mine).moves) team
  gives_are = units_gives start ends.lasts ∙ flat_same (λ (t : PlainState). gives_of t.moves)

  takes_are : takes_of all.moves ≡ flat_map (λ (mine : List UnitsStep). takes_of (last_units_state mine).moves) team
  takes_are = units_takes start ends.lasts ∙ flat_same (λ (t : PlainState). takes_of t.moves)

  -- the run at the pools
  pub units_are : AreUnits x.script r team
  units_are = record {
    each = is_step;
    commands = λ worker. (is_of worker).commands;
    answers = λ worker. let seats = steps.commands worker in let same = steps.answers worker in let own = (is_of worker).commands in omega (arith, seats, same, own);
    last = last_answer x.script r seat_team steps;
    chained = λ worker. (is_of worker).chained;
    walks = λ worker. (is_of worker).walks;
    journal = ends.pools.journal;
    rooms = room_of;
    units = ap (map units_end_value) made.units ∙ ends.pools.units;
    words = λ p there.
        ap (λ (l : List PlaceAmount). amount_in (find (λ (y : PlaceAmount). is_place y.place p) l)) printed_are
        ∙ (found_word (place_of_row z) word p numbers (row_of z p) (has_range (row_count z) (row_of z p) (row_low z p there)) (place_back z p there)
        ∙ (ap (λ (l : List PlaceAmount). deferred_word (sum_at p l) (took_at p all.moves)) gives_are
        ∙ ap (λ (l : List PlaceAmount). deferred_word (sum_at p (flat_map (λ (mine : List UnitsStep). gives_of (last_units_state mine).moves) team)) (sum_at p l)) takes_are));
    elsewhere = λ p away.
        ap (λ (l : List PlaceAmount). amount_in (find (λ (y : PlaceAmount). is_place y.place p) l)) printed_are
        ∙ found_zero (place_of_row z) word p numbers (λ i has at. absurd (away (subst (IsPlaceOf z) at (inside_word z i (range_has (row_count z) i has)))));
    shown = subst (AllByRecursion (λ (y : PlaceAmount). 0 < y.amount)) (sym printed_are) (shown_some (place_of_row z) word numbers);
  }
