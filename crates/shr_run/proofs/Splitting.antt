-- SPDX-License-Identifier: GPL-2.0-only
-- Seats for one worker more.
use Rattle.shr_run.proofs.Common.{◌≡◌, ℕ, zero, suc, ◌+◌, ◌<◌, ◌≤◌, Bool, true, false, List, [], ◌∷◌, ◌++◌, length, length-append, refl, sym, ap, subst, ◌∙◌, arith, slice_get, Some, length-map, slice_get_within, Standing, at_first, View, view_of, ArePoolsOf, content_of, within_of_valid, Shared, IsShared, seats_at, Starting, Tables, CrewSeats, FirstCrew, Held, AreReady, AreFirst, AreSplitOff, IsTaskOf, AreTasks, inl, inr, EntersIf, AreEntered, IsPlainReady, is_on, AreSplit, AreNew}
use Rattle.std.proofs.Math.Nat.{eq-or-lt_of_le}
use Rattle.shr_base.specs.declared.scripts.CacheDecl.{CacheDecl}
use Rattle.shr_core.specs.Parts.{Holding}
use Rattle.shr_core.specs.Steps.{with_one_split, split_off}
use Rattle.shr_deferred.specs.declared.view.View.{View as Deferring}
use Rattle.shr_deferred.specs.Rule.{strands_in}
use Rattle.shr_plain.specs.Seat.{PlainState, first_plain_seated}
use Rattle.shr_seats.specs.Lines.{acts_of}
use Rattle.shr_tables.proofs.Entering.{stands}
use Rattle.shr_worker.proofs.Worked.{get_front, get_last}

-- a script has at most 64 workers
pub workers_few : (x : Shared) → IsShared x → length x.script.workers.items ≤ 64
workers_few x h = let w = (within_of_valid (content_of x.script) h.script).workers in let same = length-map x.script.workers.items (λ w. w.commands.items) in omega (arith, w, same)

-- the first seats at their tables, before any split
module _ (x : Tables) (f : FirstCrew) (r : AreReady x.shared f.seats) (p : IsPlainReady x.pools f.plain) where
  abbrev seated : CrewSeats
  seated = record { seats = seats_at x.shared f.seats; plain = first_plain_seated x.pools f.plain }

  z : (view_of seated.seats.cache.core).standing ≡ at_first
  z = stands x.shared.script.caches.items (length x.shared.script.caches.items) (view_of seated.seats.cache.core) r.entered

  seated_none : AreSplitOff x (view_of seated.seats.cache.core) 0 seated
  seated_none = record {
    tables = refl;
    first_seats = record {
      caches = record {
        core = ap (λ (s : Standing). s.first) z;
        rooms = ap (λ (h : Holding). h.hands) r.idle.rooms;
        charge = ap (λ (s : Standing). s.first) r.charged;
        deferred = ap (λ (v : Deferring). v.standing.first) r.deferred;
      };
      plain = record { units = ap (λ (s : Standing × Standing). s.0.first) p.standing; deferred = ap (λ (s : Standing × Standing). s.1.first) p.standing };
    };
    parted = record {
      core_splits = ap (λ (s : Standing). s.splits) z;
      core_joins = ap (λ (s : Standing). s.joins) z;
      charge_splits = ap (λ (s : Standing). s.splits) r.charged;
      charge_joins = ap (λ (s : Standing). s.joins) r.charged;
      deferred_splits = ap (λ (v : Deferring). v.standing.splits) r.deferred;
      deferred_joins = ap (λ (v : Deferring). v.standing.joins) r.deferred;
      unit_splits = ap (λ (s : Standing × Standing). s.0.splits) p.standing;
      unit_joins = ap (λ (s : Standing × Standing). s.0.joins) p.standing;
      pooled_splits = ap (λ (s : Standing × Standing). s.1.splits) p.standing;
      pooled_joins = ap (λ (s : Standing × Standing). s.1.joins) p.standing;
    };
    core = refl;
    uses = r.uses;
    tree = r.tree;
    moves = ap (λ (v : Deferring). acts_of v.did) r.deferred;
    strands = ap strands_in r.deferred;
    state = p.state;
  }

  pub split_none : (s : CrewSeats) → s.seats ≡ seats_at x.shared f.seats → s.plain ≡ first_plain_seated x.pools f.plain → AreSplitOff x (view_of s.seats.cache.core) 0 s
  split_none s seats plain = subst (λ (t : CrewSeats). AreSplitOff x (view_of t.seats.cache.core) 0 t) (sym (λ i. record { seats = seats i; plain = plain i })) seated_none

module _ (x : Tables) (opened : View) (n : ℕ) (old new seats : CrewSeats) (before : AreSplitOff x opened n old) (split : AreSplit old new) (fresh : AreNew old seats) where
  first_more : AreFirst new
  first_more = let first = before.first_seats in record {
    caches = record {
      core = ap (λ (v : View). v.standing.first) split.core ∙ first.caches.core;
      rooms = ap (λ (v : View). v.holding.hands) split.core ∙ first.caches.rooms;
      charge = ap (λ (z : Standing). z.first) split.charged ∙ first.caches.charge;
      deferred = ap (λ (z : Standing). z.first) split.deferred ∙ first.caches.deferred;
    };
    plain = record { units = ap (λ (z : Standing × Standing). z.0.first) split.standing ∙ first.plain.units; deferred = ap (λ (z : Standing × Standing). z.1.first) split.standing ∙ first.plain.deferred };
  }

  -- after one split more
  pub split_more : AreSplitOff x opened (n + 1) new
  split_more = let p = before.parted in record {
    tables = split.tables ∙ before.tables;
    first_seats = first_more;
    parted = record {
      core_splits = ap (λ (v : View). v.standing.splits) split.core ∙ ap (λ k. k + 1) p.core_splits;
      core_joins = ap (λ (v : View). v.standing.joins) split.core ∙ p.core_joins;
      charge_splits = ap (λ (z : Standing). z.splits) split.charged ∙ ap (λ k. k + 1) p.charge_splits;
      charge_joins = ap (λ (z : Standing). z.joins) split.charged ∙ p.charge_joins;
      deferred_splits = ap (λ (z : Standing). z.splits) split.deferred ∙ ap (λ k. k + 1) p.deferred_splits;
      deferred_joins = ap (λ (z : Standing). z.joins) split.deferred ∙ p.deferred_joins;
      unit_splits = ap (λ (z : Standing × Standing). z.0.splits) split.standing ∙ ap (λ k. k + 1) p.unit_splits;
      unit_joins = ap (λ (z : Standing × Standing). z.0.joins) split.standing ∙ p.unit_joins;
      pooled_splits = ap (λ (z : Standing × Standing). z.1.splits) split.standing ∙ ap (λ k. k + 1) p.pooled_splits;
      pooled_joins = ap (λ (z : Standing × Standing). z.1.joins) split.standing ∙ p.pooled_joins;
    };
    core = split.core ∙ (ap with_one_split before.core ∙ ap (λ (z : Standing). record opened { standing = z }) (sym (ap (λ (v : View). v.standing) split.core)));
    uses = split.uses ∙ before.uses;
    tree = split.tree ∙ before.tree;
    moves = split.moves ∙ before.moves;
    strands = split.strands ∙ before.strands;
    state = split.state ∙ before.state;
  }

  same_core : view_of seats.seats.cache.core ≡ record (split_off opened) { seat = 1 + n }
  same_core = fresh.core ∙ (ap split_off before.core ∙ ap (λ (k : ℕ). record (split_off opened) { seat = 1 + k }) before.parted.core_splits)

  -- the seats that were split off are those of a new worker
  pub new_task : IsShared x.shared → ArePoolsOf x.shared.script x.pools → n < length x.shared.script.workers.items → IsTaskOf x opened n (record { shared = x.shared; task = record { number = n; seats = seats.seats; plain = seats.plain } })
  new_task shared pools lt = let tables = fresh.tables ∙ before.tables in record {
    shared = refl;
    numbered = refl;
    task_is = record {
      number = lt;
      fit = record {
        shared = shared;
        rested = record {
          core = ap (λ (h : Held). h.core) tables;
          idle = record { rooms = ap (λ (v : View). v.holding) fresh.core; held = ap (λ (v : View). v.claims.held) fresh.core; owner = ap (λ (v : View). v.claims.owner) fresh.core };
          owed = ap (λ (v : View). v.marks.owed) fresh.core;
          charge = ap (λ (h : Held). h.charge) tables;
          deferred = ap (λ (h : Held). h.deferred) tables;
        };
      };
      uses = fresh.noted;
      walks = fresh.walks;
      carries = fresh.carries;
      pools = subst (ArePoolsOf x.shared.script) (sym (ap (λ (h : Held). h.pools) tables)) pools;
      plain_walks = ap (λ (z : PlainState). z.walks) fresh.state;
    };
    pools = ap (λ (h : Held). h.pools) tables;
    new = let core = same_core in let uses = fresh.uses in let tree = fresh.tree in let moves = fresh.moves in let noted = fresh.noted in let walks = fresh.walks in let carries = fresh.carries in let state = fresh.state in
        λ i. record { seats = record { core = core i; uses = uses i; tree = tree i; moves = moves i; noted = noted i; walks = walks i; carries = carries i }; plain = state i; isolations = [] };
  }

-- one task more
pub tasks_more : (x : Tables) (opened : View) (tasks : List Starting) (t : Starting) → AreTasks x opened tasks → IsTaskOf x opened (length tasks) t → AreTasks x opened (tasks ++ t ∷ [])
tasks_more x opened tasks t all one i u at = elim (eq-or-lt_of_le within) as (λ _. IsTaskOf x opened i u) [
  | inl last ↦ subst (λ (n : ℕ). IsTaskOf x opened n u) (sym last) (subst (IsTaskOf x opened (length tasks)) (let e : Some t ≡ Some u = sym (get_last tasks t) ∙ (ap (slice_get (tasks ++ t ∷ [])) (sym last) ∙ at) in cc) one)
  | inr early ↦ all i u (sym (get_front tasks t i early) ∙ at)
] where
  within : i ≤ length tasks
  within = let lt = slice_get_within (tasks ++ t ∷ []) i u at in omega (arith, lt, length-append tasks (t ∷ []))
