-- SPDX-License-Identifier: GPL-2.0-only
-- What is left of a run, from its steps.
use Rattle.shr_run.proofs.Common.{◌≡◌, ℕ, zero, suc, ◌<◌, ◌≤◌, List, [], ◌∷◌, length, map, refl, sym, ap, subst, ◌∙◌, arith, slice_get, Option, Some, None, option_map, All, IsTrue, append-nil, length-map, slice_get_within, slice_get-map, same_Some, View, view_of, ArePoolsOf, PlainSeated, Shared, IsShared, Ends, AreReady, AreEntered, CrewSeats, FirstCrew, Tables, Held, held_by, held_in, AreFirstIn, HasLeft, HaveLeft, AreParted, command_serial, Starting, WorkerResult, Sweep, WorkerScript, SweepItem, there_at, all_slice, WorkerLog, Firsts, with_workers, HasHelped, all_popped, AreEnds, IsAtEnd, AreJoinedAll, firsts_of, last_of, log_of, IsWorkerDone, AreSplitOff, AreTasks, ◌^◌, IsFromStart, CrewState, listed_commands, worker_commands, IsWorkOf, firsts_at_start, new_worker, HelpsWith, HasWorked, ArePoppedOnce, SweepsIf, HaveRun}
use Rattle.shr_core.specs.Gained.{IsIdle}
use Rattle.shr_core.specs.Leaving.{IsLeft}
use Rattle.shr_core.specs.Parts.{Holding}
use Rattle.shr_core.specs.Rule.{opener}
use Rattle.shr_core.specs.Seats.{first_view}
use Rattle.shr_charge.specs.Ends.{IsEndOf}
use Rattle.shr_charge.specs.Seat.{first_uses, first_tree, first_standing}
use Rattle.shr_deferred.specs.Left.{left_over}
use Rattle.shr_deferred.specs.History.{HasHistory}
use Rattle.shr_deferred.specs.Rule.{strands_in}
use Rattle.shr_deferred.specs.Seat.{first_deferred}
use Rattle.shr_deferred.specs.declared.view.View.{View as Deferring}
use Rattle.shr_plain.specs.Ending.{IsPoolsEnd}
use Rattle.shr_plain.specs.Seat.{IsLastSeat, first_plain, first_plain_standing}
use Rattle.shr_seats.specs.Lines.{acts_of}
use Rattle.shr_seats.specs.Shapes.{hierarchy_of}
use Rattle.shr_seats.specs.Standing.{IsWhole}
use Rattle.shr_seats.specs.declared.rows.Sizes.{Sizes}
use Rattle.shr_walk.specs.State.{IsRested}
use Rattle.shr_worker.proofs.Within.{commands_few}
use Rattle.shr_worker.specs.Tasks.{IsTask}
use Rattle.shr_run.specs.Tasks.{HasRun}
use Rattle.shr_base.specs.declared.ends.MapEnd.{MapEnd}
use Rattle.shr_base.specs.declared.places.Serial.{Serial}

-- the worker that left a log
from_log : (o : Option WorkerResult) (log : WorkerLog) → option_map log_of o ≡ Some log → (w : WorkerResult) × (o ≡ Some w) × (log ≡ log_of w)
from_log None log e = absurd (cc)
from_log (Some w) log e = (w, refl, sym (same_Some (log_of w) log e))

-- and the one that left a state
from_last : (o : Option WorkerResult) (last : CrewState) → option_map last_of o ≡ Some last → (w : WorkerResult) × (o ≡ Some w) × (last ≡ last_of w)
from_last None last e = absurd (cc)
from_last (Some w) last e = (w, refl, sym (same_Some (last_of w) last e))

-- each fact at a place is one of all
pub all_from_slices : {A : Type 0} (P : A → Type 0) (xs : List A) → ((i : ℕ) (x : A) → slice_get xs i ≡ Some x → P x) → All P xs
all_from_slices P [] each k d lt = absurd (omega (arith, lt))
all_from_slices P (x ∷ xs) each zero d lt = each 0 x refl
all_from_slices P (x ∷ xs) each (suc k) d lt = all_from_slices P xs (λ i y at. each (suc i) y at) k d (omega (arith, lt))

-- a worker has at most 20,000 commands
few_commands : (x : Shared) → IsShared x → (n : ℕ) → length (worker_commands x.script n) ≤ 20000
few_commands x shared n = of_worker (slice_get x.script.workers.items n) refl
  where
    of_worker : (o : Option WorkerScript) → o ≡ slice_get x.script.workers.items n → length (listed_commands o) ≤ 20000
    of_worker None e = omega arith
    of_worker (Some w) e = commands_few x shared n w e

-- seats at rest, and one of the pools
at_end : (x : Tables) (w : WorkerResult) → IsRested x.shared w.seats → w.plain.pools ≡ x.pools → IsAtEnd (held_in x) w
at_end x w r pools = record {
  tables = let core = r.core in let charge = r.charge in let deferred = r.deferred in λ i. record { core = core i; charge = charge i; deferred = deferred i; pools = pools i };
  rest = record { rooms = ap (λ (h : Holding). h.hands) r.idle.rooms; owed = r.owed; held = r.idle.held; owner = r.idle.owner };
}

-- what a worker ran is by the tables
ran_at : (x : Shared) (s : Starting) (w : WorkerResult) → s.shared ≡ x → HasRun s w → HasRun (record { shared = x; task = s.task }) w
ran_at x s w same ran = subst (λ (y : Shared). HasRun (record { shared = y; task = s.task }) w) same ran

-- each task is one, and each result's seats hold nothing and owe nothing
module _ (x : Tables) (opened : View) (tasks : List Starting) (are : AreTasks x opened tasks) where
  pub all_tasks : All (λ (s : Starting). IsTask s.shared s.task) tasks
  all_tasks = all_from_slices (λ (s : Starting). IsTask s.shared s.task) tasks (λ i s at. let is = are i s at in subst (λ (y : Shared). IsTask y s.task) (sym is.shared) is.task_is)

  -- each result's worker is done with its commands
  pub all_done : IsShared x.shared → (results : List WorkerResult) → length results ≡ length tasks → HaveRun tasks results → All (IsWorkerDone x.shared) results
  all_done shared results same have = all_from_slices (IsWorkerDone x.shared) results (λ i w at.
      let t = there_at tasks i (let lt = slice_get_within results i w at in omega (arith, lt, same)) in let ran = ran_at x.shared t.0 w (are i t.0 t.1).shared (have i t.0 w t.1 at) in record {
        fit = record { shared = shared; rested = ran.rested };
        few = λ whole. let all = ran.all whole in let most = few_commands x.shared shared t.0.task.number in omega (arith, all, most);
      })

  pub all_at_end : (results : List WorkerResult) → length results ≡ length tasks → HaveRun tasks results → All (IsAtEnd (held_in x)) results
  all_at_end results same have = all_from_slices (IsAtEnd (held_in x)) results (λ i w at.
      let t = there_at tasks i (let lt = slice_get_within results i w at in omega (arith, lt, same)) in let is = are i t.0 t.1 in let ran = ran_at x.shared t.0 w is.shared (have i t.0 w t.1 at) in
      at_end x w ran.rested (ran.pools ∙ is.pools))

-- what the passes of the helpers popped, and that no job was popped twice
abbrev popped_if : (x : Shared) (o : Option Sweep) (results swept : List WorkerResult) → SweepsIf x o results swept → ℕ → List SweepItem
popped_if x None results swept h = λ i. []
popped_if x (Some z) results swept h = h.popped

once_if : (x : Shared) (o : Option Sweep) (results swept : List WorkerResult) (h : SweepsIf x o results swept) (n : ℕ) → length results ≡ n → (z : Sweep) → o ≡ Some z → ArePoppedOnce x.script (all_popped (popped_if x o results swept h) n)
once_if x None results swept h n same z e = absurd (cc)
once_if x (Some y) results swept h n same z e = subst (λ k. ArePoppedOnce x.script (all_popped h.popped k)) same h.once

many_if : (x : Shared) (o : Option Sweep) (results swept : List WorkerResult) → SweepsIf x o results swept → length swept ≡ length results
many_if x None results swept h = ap (λ (l : List WorkerResult). length l) h
many_if x (Some z) results swept h = h.same

-- what the tables' end asks for
pub record MayEnd (x : Tables) (f : FirstCrew) : Type 0 where
  pub first : AreFirstIn (held_in x) f
  pub core : IsWhole (first_view f.seats.core).standing
  pub charge : IsWhole (first_standing f.seats.charge)
  pub deferred : IsWhole (first_deferred f.seats.deferred).standing
  pub pools : IsLastSeat (first_plain_standing f.plain)

module _ (tables : Tables) (opened : View) (split joined : CrewSeats) (tasks : List Starting) (results swept : List WorkerResult) where
  abbrev x : Shared
  x = tables.shared

  abbrev lasts : List CrewState
  lasts = map last_of swept

  module _ (many : length tasks ≡ length tables.shared.script.workers.items) (are : AreTasks tables opened tasks) (same : length results ≡ length tasks) (have : HaveRun tasks results) (sweeps : SweepsIf tables.shared tables.shared.script.sweep results swept) where
    -- the seats of each worker hold nothing and owe nothing
    pub swept_at_end : (first : CrewSeats) → held_by first ≡ held_in tables → All (IsAtEnd (held_by first)) swept
    swept_at_end first of = subst (λ (h : Held). All (IsAtEnd h) swept) (sym of) (by_sweep x.script.sweep sweeps)
      where
        before : All (IsAtEnd (held_in tables)) results
        before = all_at_end tables opened tasks are results same have

        by_sweep : (o : Option Sweep) → SweepsIf x o results swept → All (IsAtEnd (held_in tables)) swept
        by_sweep None h = subst (All (IsAtEnd (held_in tables))) (sym h) before
        by_sweep (Some z) h = all_from_slices (IsAtEnd (held_in tables)) swept (λ i w at.
            let v = there_at results i (let lt = slice_get_within swept i w at in let more = h.same in omega (arith, lt, more)) in
            let one = h.each i v.0 w v.1 at in let own = all_slice (IsAtEnd (held_in tables)) results i v.0 before v.1 in
            at_end tables w one.rested (ap (λ (p : PlainSeated). p.pools) one.plain ∙ ap (λ (h : Held). h.pools) own.tables))

    module _ (whole : All (λ (w : WorkerResult). IsTrue w.whole) swept) where
      abbrev popped : ℕ → List SweepItem
      popped = popped_if x x.script.sweep results swept sweeps

      -- a worker's commands
      own_work : (i : ℕ) (v : WorkerResult) → slice_get results i ≡ Some v → IsTrue v.whole → (v.number ≡ i) × (length v.answers.items ≡ length (worker_commands x.script i)) × IsWorkOf x i v.answers.items (new_worker opened i) (last_of v)
      own_work i v at done =
          let t = there_at tasks i (let lt = slice_get_within results i v at in omega (arith, lt, same)) in
          let task = are i t.0 t.1 in let ran = ran_at x t.0 v task.shared (have i t.0 v t.1 at) in (
            ran.number ∙ task.numbered,
            subst (λ n. length v.answers.items ≡ length (worker_commands x.script n)) task.numbered (ran.all done),
            subst (λ n. IsWorkOf x n v.answers.items (new_worker opened i) (last_of v)) task.numbered (subst (λ (s : CrewState). IsWorkOf x t.0.task.number v.answers.items s (last_of v)) task.new (ran.work done)),
          )

      -- each worker answered all its commands, and then the sweep
      has_worked : (i : ℕ) (w : WorkerResult) → slice_get swept i ≡ Some w → HasWorked x opened i (log_of w) (popped i) (last_of w)
      has_worked i w at = by_sweep x.script.sweep refl sweeps
        where
          done : IsTrue w.whole
          done = all_slice (λ (v : WorkerResult). IsTrue v.whole) swept i w whole at

          by_sweep : (o : Option Sweep) → x.script.sweep ≡ o → (h : SweepsIf x o results swept) → HasWorked x opened i (log_of w) (popped_if x o results swept h i) (last_of w)
          by_sweep None e h =
              let own = own_work i w (ap (λ (l : List WorkerResult). slice_get l i) (sym h) ∙ at) done in record {
                own = w.answers.items;
                told = [];
                answers = sym (append-nil w.answers.items);
                all = own.1;
                done = last_of w;
                work = own.2;
                helped = subst (λ (o : Option Sweep). HelpsWith x o (command_serial i (length (worker_commands x.script i))) [] [] (last_of w) (last_of w)) (sym e) (refl, refl);
                walks = refl;
                carries = refl;
                uses = refl;
                plain = refl;
                isolations = refl;
              }
          by_sweep (Some z) e h =
              let v = there_at results i (let lt = slice_get_within swept i w at in let more = h.same in omega (arith, lt, more)) in
              let own = own_work i v.0 v.1 (all_slice (λ (u : WorkerResult). IsTrue u.whole) results i v.0 h.whole v.1) in
              let part = (h.each i v.0 w v.1 at).helped done in
              let serial : command_serial v.0.number (length v.0.answers.items) ≡ command_serial i (length (worker_commands x.script i)) = λ j. command_serial (own.0 j) (own.1 j) in record {
                own = v.0.answers.items;
                told = part.0;
                answers = part.1;
                all = own.1;
                done = last_of v.0;
                work = own.2;
                helped = subst (λ (o : Option Sweep). HelpsWith x o (command_serial i (length (worker_commands x.script i))) part.0 (h.popped i) (last_of v.0) (last_of w)) (sym e) (subst (λ (b : Serial). HasHelped x z b part.0 (h.popped i) (last_of v.0) (last_of w)) serial part.2);
                walks = refl;
                carries = refl;
                uses = refl;
                plain = refl;
                isolations = refl;
              }

      worked : (i : ℕ) (log : WorkerLog) (last : CrewState) → slice_get (map log_of swept) i ≡ Some log → slice_get lasts i ≡ Some last → HasWorked x opened i log (popped i) last
      worked i log last at_log at_last =
          let w = from_log (slice_get swept i) log (sym (slice_get-map log_of swept i) ∙ at_log) in
          let v = from_last (slice_get swept i) last (sym (slice_get-map last_of swept i) ∙ at_last) in
          let one = same_Some w.0 v.0 (sym w.1 ∙ v.1) in
          subst (λ (l : WorkerLog). HasWorked x opened i l (popped i) last) (sym w.2)
          (subst (λ (s : CrewState). HasWorked x opened i (log_of w.0) (popped i) s) (ap last_of one ∙ sym v.2) (has_worked i w.0 w.1))

      module _ (split_off : AreSplitOff tables opened (length tables.shared.script.workers.items) split) (joins : AreJoinedAll split swept joined) where
        begun : firsts_of split ≡ firsts_at_start opened (view_of split.seats.cache.core).standing
        begun = let core = split_off.core in let uses = split_off.uses in let tree = split_off.tree in let moves = split_off.moves in let strands = split_off.strands in let plain = split_off.state in λ i. record { core = core i; uses = uses i; tree = tree i; moves = moves i; strands = strands i; plain = plain i }

        ended : firsts_of joined ≡ with_workers (firsts_at_start opened (view_of split.seats.cache.core).standing) lasts
        ended = joins.firsts ∙ ap (λ (f : Firsts). with_workers f lasts) begun

        -- all that were split off were joined
        parted : AreParted joined (length x.script.workers.items) (length x.script.workers.items)
        parted = subst (AreParted joined (length x.script.workers.items)) (let a = same in let b = many in let c = many_if x x.script.sweep results swept sweeps in omega (arith, a, b, c)) (joins.parted (length x.script.workers.items) 0 split_off.parted)

        all_logs : length (map log_of swept) ≡ length x.script.workers.items
        all_logs = let a = length-map swept log_of in let c = many_if x x.script.sweep results swept sweeps in omega (arith, a, c, same, many)

        -- the first seats as they left the tables
        module _ (left : FirstCrew) (caches : HaveLeft joined.seats left.seats) (pooled : HasLeft joined.plain left.plain) where
          -- the tables can be ended with them
          pub may_end : MayEnd tables left
          may_end = record {
            first = subst (λ (h : Held). AreFirstIn h left) (joins.tables ∙ split_off.tables) (record { caches = caches.first; plain = pooled.first });
            core = subst IsWhole (sym (ap (λ (v : View). v.standing) caches.core)) (parted.core_joins ∙ sym parted.core_splits);
            charge = subst IsWhole (sym caches.charged) (parted.charge_joins ∙ sym parted.charge_splits);
            deferred = subst IsWhole (sym (ap (λ (v : Deferring). v.standing) caches.deferred)) (parted.deferred_joins ∙ sym parted.deferred_splits);
            pools = subst IsLastSeat (sym pooled.standing) (record { units = parted.unit_joins ∙ sym parted.unit_splits; deferred = parted.pooled_joins ∙ sym parted.pooled_splits });
          }

          abbrev firsts_left : Firsts
          firsts_left = record { core = first_view left.seats.core; uses = first_uses left.seats.charge; tree = first_tree left.seats.charge; moves = acts_of (first_deferred left.seats.deferred).did; strands = strands_in (first_deferred left.seats.deferred); plain = first_plain left.plain }

          ended_left : firsts_left ≡ with_workers (firsts_at_start opened (view_of split.seats.cache.core).standing) lasts
          ended_left = let core = caches.core in let uses = caches.uses in let tree = caches.tree in let deferred = caches.deferred in let plain = pooled.state in
              let same_firsts : firsts_left ≡ firsts_of joined = λ i. record { core = core i; uses = uses i; tree = tree i; moves = acts_of (deferred i).did; strands = strands_in (deferred i); plain = plain i } in
              same_firsts ∙ ended

          pub ends_of : IsShared x → IsFromStart x → ArePoolsOf x.script tables.pools → (first : FirstCrew) → AreReady x first.seats → opened ≡ first_view first.seats.core
              → (e : Ends) → e.script ≡ x.script → IsLeft x.core.setting (first_view left.seats.core) e.core → e.deferred.items ≡ left_over x.deferred.sizes (acts_of (first_deferred left.seats.deferred).did) → HasHistory x.deferred.sizes (strands_in (first_deferred left.seats.deferred)) e.deferred.items
              → IsEndOf (hierarchy_of x.charge.shape) (first_uses left.seats.charge) (first_tree left.seats.charge) e.charge → All (λ (m : MapEnd). m.bits < 2 ^ 64) e.core.maps.items
              → IsPoolsEnd tables.pools.sizes (first_plain left.plain) e.pools → AreEnds (map log_of swept) e
          ends_of shared from_start pools first ready begins e script core deferred history charge words units = record {
            shared = x;
            ends = record {
              shared = shared;
              from_start = from_start;
              script = script;
              opened = opened;
              entered = subst (AreEntered x.script.caches.items (length x.script.caches.items) opener) (sym begins) ready.entered;
              idle = subst IsIdle (sym begins) ready.idle;
              standing = (view_of split.seats.cache.core).standing;
              lasts = lasts;
              workers = all_logs;
              last_states = let a = length-map swept log_of in let b = length-map swept last_of in omega (arith, a, b);
              popped = popped;
              worked = worked;
              swept = λ z e. once_if x x.script.sweep results swept sweeps (length (map log_of swept)) (let a = length-map swept log_of in let c = many_if x x.script.sweep results swept sweeps in omega (arith, a, c)) z e;
              core = subst (λ (f : Firsts). IsLeft x.core.setting f.core e.core) ended_left core;
              words = words;
              deferred = deferred ∙ ap (λ (f : Firsts). left_over x.deferred.sizes f.moves) ended_left;
              history = subst (λ (f : Firsts). HasHistory x.deferred.sizes f.strands e.deferred.items) ended_left history;
              charge = subst (λ (f : Firsts). IsEndOf (hierarchy_of x.charge.shape) f.uses f.tree e.charge) ended_left charge;
              pools = subst (λ (z : Sizes). IsPoolsEnd z (with_workers (firsts_at_start opened (view_of split.seats.cache.core).standing) lasts).plain e.pools) pools.sizes (subst (λ (f : Firsts). IsPoolsEnd tables.pools.sizes f.plain e.pools) ended_left units);
            };
          }
