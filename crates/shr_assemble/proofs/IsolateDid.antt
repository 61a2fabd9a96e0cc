-- SPDX-License-Identifier: GPL-2.0-only
-- What an isolation did.
use Rattle.shr_assemble.proofs.Common.{◌≡◌, inr, ℕ, ◌+◌, ◌<◌, false, List, [], ◌∷◌, ◌++◌, length, map, sym, refl, ap, subst, ◌∙◌, arith, slice_get, Option, Some, None, AllPairs, sum_by, option_and_then, AllByRecursion, append-nil, append_cancel_left, All-from_recursion, AllPairs-cons, sum_by-cons, same_Some, none-some, Entry, Add, Scan, Object, Place, Serial, Target, Answered, Found, IsolateEnd, Reply, Command, Isolate, Isolation, decl_named, place_number, first_isolation, Each-none, Begins, View, Adds, place_at, Made, Turns, shape_of, with_put, AreDowns, AreRising, calls_with, both_uses, KnowsClosed, IsScanOf, objects_freed, paths_of, WornSeen, WorkerState, Work, no_work, then_work, Shared, does_none, adds_put, OnCache, visitor_of, placed, placed_scan, Visitor, IsIsolationWithin, content_of, within_of_valid, parents_of, IsThere, is_past_group, isolations_told, Step, BringsWork, added_below, Did, MayMakeEntry, DidIsolation, DidIsolations, by_slices, some_at, Isolates, IsolateGives, IsolatedAs, IsolatedFrom, RefusedBy, found_place, cond}
use Rattle.shr_base.specs.declared.replies.Reply.TheVariants as reply
use Rattle.shr_charge.specs.declared.answers.GroupState.TheVariants.{Online}
use Rattle.shr_drop.proofs.ByLaw.{found_lawful}
use Rattle.shr_assemble.proofs.QuietTenant.{brings_of, brings_then, IsTenant, group_in, refused_did, without, found_lookups, back_is}
use Rattle.shr_assemble.proofs.Filling.{IsSet}
use Rattle.shr_lawful.proofs.Listed.{PairsRec}
use Rattle.shr_assemble.proofs.QuietSteps.{step_of, HasDid, calm_walks, still_moves, still_pool, still_tree, meets_none, never_met, AreTables, tree_is, loading, gaining, does_load, does_gain, finding, calling, found_entry, found_by}
use Rattle.shr_assemble.proofs.QuietCharges.{uncharged_charges, nothing_did}
use Rattle.shr_assemble.proofs.VisitsDid.{Visits, IsVisit, isolated_visits}
use Rattle.shr_assemble.proofs.WalkingCharges.{made_below}
use Rattle.shr_assemble.proofs.WornSeen.{seen_worn}

-- what is so of each two by recursion
all_pairs : {A : Type 0} (R : A → A → Type 0) (xs : List A) → PairsRec R xs → AllPairs R xs
all_pairs R [] h = λ i j d lt within. absurd (omega (arith, within))
all_pairs R (x ∷ xs) h = AllPairs-cons R x xs (All-from_recursion (R x) xs h.0) (all_pairs R xs h.1)

-- a scan adds no object
none_added : (parents : List ℕ) (g : ℕ) (v : Visitor) (made : List Made) → AllByRecursion (IsVisit v) made → sum_by (λ (m : Made). added_below parents g m.entry) made ≡ 0
none_added parents g v [] h = refl
none_added parents g v (m ∷ made) h = omega (arith, sum_by-cons (λ (n : Made). added_below parents g n.entry) m made, one m.entry h.0.1, none_added parents g v made h.1) where
  one : (e : Entry) → IsScanOf v.by.worker v.walk v.policy e → added_below parents g e ≡ 0
  one (Scan worker n asked policy visits freed stopped) k = refl
  one e k = absurd k

module _ (x : Shared) (tables : AreTables x) (by : Serial) (to : Target) (budget : ℕ) (within : IsIsolationWithin (content_of x.script) to budget) where
  abbrev command : Command
  command = Isolate to budget

  tenant : IsTenant x.script by command to.group to.decl
  tenant =
      let asks : (g : ℕ) → None ≡ Some g → to.group ≡ g = λ g e. absurd (none-some g e) in
      let shows : (r : Reply) (g : ℕ) → cond (is_past_group r) None None ≡ Some g → to.group ≡ g = λ r g e. absurd (never_met (is_past_group r) g e) in
      assumption (asks, shows, none-some {A = ℕ})

  there : to.group < length (parents_of x.script)
  there = group_in x to.group within.in_group

  module _ (f : Found) (visits freed : ℕ) (e : IsolateEnd) (s t : WorkerState) (before after : List Isolation) (h : Isolates x by to.group to.node to.decl budget f visits freed e s t before after) where
    abbrev place : Place
    place = found_place f to.node to.group

    abbrev visitor : Visitor
    visitor = visitor_of by (length before) place h.d

    abbrev answered : Answered
    answered = record { reply = reply.Isolated visits freed e; found = Some f }

    abbrev isolation : Isolation
    isolation = record { by = by; place = place; budget = budget; visits = visits; freed = freed; ending = e }

    visited : Visits x visitor h.held h.visited
    visited = isolated_visits x visitor budget visits freed e h.held h.visited h.visiting

    -- the state in which nothing was uncharged
    abbrev called : WorkerState
    called = record h.held { core = with_put h.visited.core }

    abbrev call : View → View → Type 0
    call v w = Unit {0}

    abbrev on_cache : OnCache x to.group to.decl f call s called
    on_cache = record { loaded = h.loaded; held = h.held; online = h.online; holds = h.holds; calls = record { called = h.visited.core; made = tt; rest = refl } }

    -- the visits, with the uncharges
    abbrev visiting : Work
    visiting = record no_work { core = calling visited.made []; ops = visited.ops; uncharges = length (objects_freed visited.made) }

    abbrev work : Work
    work = then_work (loading to.group Online) (then_work (gaining (finding to.decl f h.holds.answers.gains.words)) visiting)

    abbrev step : Step
    step = step_of by command answered s t work

    end_is : t ≡ record called { uses = both_uses h.held.uses (calls_with visited.ops 0 (length (objects_freed visited.made))); noted = h.held.noted ++ visited.ops }
    end_is = h.back ∙ ap (λ (v : WorkerState). record v { core = with_put h.visited.core }) visited.rest

    third : BringsWork h.held t visiting
    third = let n = does_none h.held in record {
      core = subst (λ (u : WorkerState). Adds h.held.core u.core (calling visited.made [])) (sym end_is) (adds_put h.held.core h.visited.core (calling visited.made []) visited.gains.adds);
      uses = ap (λ (u : WorkerState). u.uses) end_is;
      noted = ap (λ (u : WorkerState). u.noted) end_is;
      words = ap (λ (u : WorkerState). u.tree.loaded) end_is ∙ n.words;
      tree = ap (λ (u : WorkerState). u.tree.made) end_is ∙ n.tree;
      gives = ap (λ (u : WorkerState). u.tree.gives) end_is ∙ n.gives;
      known = subst (λ (u : WorkerState). Begins h.held.tree.known u.tree.known) (sym end_is) n.known;
      heard = ap (λ (u : WorkerState). u.tree.heard) end_is;
      hand = (ap (λ (u : WorkerState). u.tree.in_hand) end_is, ap (λ (u : WorkerState). u.tree.hand) end_is);
      rise = λ r. subst (λ (u : WorkerState). AreRising u.uses.ops) (sym h.back) (visited.rise r);
      moves = ap (λ (u : WorkerState). u.moves) end_is ∙ n.moves;
      walks = ap (λ (u : WorkerState). u.walks) end_is ∙ n.walks;
      carries = ap (λ (u : WorkerState). u.carries) end_is ∙ n.carries;
    }

    does : BringsWork s t work
    does = brings_then s h.loaded t (loading to.group Online) (then_work (gaining (finding to.decl f h.holds.answers.gains.words)) visiting) (brings_of (does_load x to.group Online s h.loaded h.online))
        (brings_then h.loaded h.held t (gaining (finding to.decl f h.holds.answers.gains.words)) visiting (brings_of (does_gain h.loaded h.held (finding to.decl f h.holds.answers.gains.words) h.holds.answers.gains.adds h.holds.rest)) third)

    turns_is : t.core.turns ≡ called.core.turns
    turns_is = ap (λ (u : WorkerState). u.core.turns) end_is

    place_there : IsThere x.script place
    place_there = record { id = subst (λ (n : ℕ). f.id < n) tables.shared.ids h.holds.answers.live.near; node = within.on_node; group = there }

    -- each entry is of the isolation
    may_make : (m : Made) (d : Entry) → m.place ≡ place_number place → IsScanOf by.worker (first_isolation + length before) h.d.policy d → MayMakeEntry x.script step m d
    may_make m (Scan worker n asked policy visits freed stopped) here k = let number = k.1 in inr (record {
      own = k.0;
      high = omega (arith, number);
      isolation = isolation;
      told = refl;
      place = ap place_at here ∙ back_is x tables place place_there;
    })
    may_make m (Add b birth added key value) here k = absurd k
    may_make m o here k = absurd k

    each_visit : AllByRecursion (IsVisit visitor) visited.made
    each_visit = by_slices (IsVisit visitor) visited.made (λ j m at. visited.scans j m (some_at visited.made j m at))

    born : AllByRecursion (λ (o : Object). o.birth < length (parents_of x.script)) (objects_freed visited.made)
    born = by_slices (λ (o : Object). o.birth < length (parents_of x.script)) (objects_freed visited.made)
        (λ j o at. subst (λ (ps : List ℕ). o.birth < length ps) (tree_is x tables.shared) (visited.born j o (some_at (objects_freed visited.made) j o at)))

    all_did : Did x.script step
    all_did = record {
      entries = record {
        each = λ j m at. let k = visited.scans j m at in may_make m m.entry k.0 k.1;
        reply = λ family stands. tt;
        sets = Each-none (IsSet visited.made []);
        cited = λ c no. absurd (none-some c no);
      };
      lookups = found_lookups x.script step to.decl f refl refl refl (found_by x to.group to.decl f call s called on_cache visited.made [] visited.gains step turns_is (0, refl));
      walks = calm_walks x.script step tt (record { walks = refl; seen = refl; maps = refl; cleared = refl });
      charges = uncharged_charges x.script step (objects_freed visited.made) (within_of_valid (content_of x.script) tables.shared.script).tree (record {
        born = born;
        downs = subst (λ (l : List ℕ). AreDowns by (paths_of l (objects_freed visited.made)) visited.ops) (tree_is x tables.shared) visited.downs;
        charges = refl;
        uncharges = omega arith;
        freed = λ g. sym (made_below (parents_of x.script) g visited.made);
        added = λ g. none_added (parents_of x.script) g visitor visited.made each_visit;
        charged = λ g. refl;
      });
      moves = still_moves x.script step (record { walks = refl; takes = refl; gives = refl; carries = refl });
      pool = still_pool x.script step does.core.pool (record { turns = refl; made = refl }) (found_entry x to.group to.decl f call s called on_cache visited.made [] visited.gains ∙ ap (λ (y : Turns). length y.known) (sym turns_is));
      tree = still_tree x.script step refl (λ g asks above. absurd (none-some g asks)) (meets_none x.script step (λ g no. absurd (cc)) (λ g no. never_met (is_past_group (reply.Isolated visits freed e)) g no));
      cause = tt;
    }

    -- and what it did by the law
    by_law : (z : Step) → z.by ≡ by → z.command ≡ Some command → z.after ≡ t → z.work.core.made ≡ visited.made → DidIsolation x.script z (length before) isolation
    by_law z own is end made =
        let l = found_lawful x by to.group to.node to.decl budget f visits freed e s t before after h in
        let gained : t.core.traces.made ≡ s.core.traces.made ++ visited.made = does.core.made in
        let same : l.isolates.scanned.made ≡ visited.made = append_cancel_left s.core.traces.made l.isolates.scanned.made visited.made (sym l.isolates.scanned.gained ∙ gained) in record {
          there = place_there;
          d = l.d;
          cache = ap (λ (c : Option Command). option_and_then (slice_get x.script.caches.items) (option_and_then decl_named c)) is ∙ l.declared;
          scans = l.isolates.scans;
          made = ap (map placed) (made ∙ sym same) ∙ (l.isolates.scanned.entries ∙ ap (λ (b : Serial). map (placed_scan (visitor_of b (length before) place l.d)) l.isolates.scans) (sym own));
          rise = subst (AllPairs (λ (m n : Made). m.number < n.number)) (sym made) (all_pairs (λ (m n : Made). m.number < n.number) visited.made visited.numbers);
          lawful = l.isolates.lawful;
          closed = λ ends. subst (λ (u : WorkerState). KnowsClosed u.core (place_number place)) (sym end) (l.isolates.closed ends);
          worn = λ why ends. seen_worn x.script (shape_of x.core) tables.most_items tables.most_entries z place place_there why (subst (WornSeen (shape_of x.core) place why) (sym end) (l.isolates.worn why ends));
        }

  -- an isolation by its answer: what it did, what it recorded, and that it is as the law asks
  pub record IsolateDone (a : Answered) (s t : WorkerState) (before after : List Isolation) : Type 0 where
    pub did : HasDid x.script by command a s t
    pub recorded : after ≡ before ++ isolations_told by command a
    pub by_law : DidIsolations x.script (step_of by command a s t did.work) (length before)

  found_done : (f : Found) (r : Reply) (s t : WorkerState) (before after : List Isolation) → IsolatedFrom x by to.group to.node to.decl budget f r s t before after → IsolateDone (record { reply = r; found = Some f }) s t before after
  found_done f (reply.Isolated visits freed e) s t before after h = record {
    did = record { work = work f visits freed e s t before after h; does = does f visits freed e s t before after h; did = all_did f visits freed e s t before after h };
    recorded = h.recorded;
    by_law = λ i told. subst (DidIsolation x.script (step f visits freed e s t before after h) (length before)) (same_Some (isolation f visits freed e s t before after h) i (ap (λ (l : List Isolation). slice_get l 0) told))
        (by_law f visits freed e s t before after h (step f visits freed e s t before after h) refl refl refl refl);
  }
  found_done f r s t before after h = absurd h

  -- nothing was recorded by one that was refused
  unfound_done : (r : Reply) (s t : WorkerState) (before after : List Isolation) → HasDid x.script by command (without r) s t → after ≡ before → IsolateDone (without r) s t before after
  unfound_done r s t before after did same = record {
    did = did;
    recorded = same ∙ sym (append-nil before);
    by_law = λ i told. absurd (none-some i (ap (λ (l : List Isolation). slice_get l 0) told));
  }

  refused_done : (r : Reply) (s t : WorkerState) (before after : List Isolation) → RefusedBy x to.group to.decl r s t before after → IsolateDone (without r) s t before after
  refused_done reply.Memory s t before after h = unfound_done reply.Memory s t before after
      (nothing_did x.script by command reply.Memory s t h.rest tt (λ family. tt) refl (λ g. refl) refl refl (λ g asks above. absurd (none-some g asks))
      (meets_none x.script (step_of by command (without reply.Memory) s t no_work) (λ g no. absurd (cc)) (λ g no. never_met false g no)) tt)
      h.records
  refused_done r s t before after h = unfound_done r s t before after (refused_did x tables by command to.group to.decl tenant r s t h.refused) h.records

  by_found : (found : Option Found) (r : Reply) (s t : WorkerState) (before after : List Isolation) → IsolatedAs x by to.group to.node to.decl budget found r s t before after → IsolateDone (record { reply = r; found = found }) s t before after
  by_found None r s t before after h = refused_done r s t before after h
  by_found (Some f) r s t before after h = found_done f r s t before after h

  pub isolate_done : (a : Answered) (s t : WorkerState) (before after : List Isolation) → IsolateGives x by to.group to.node to.decl budget a s t before after → IsolateDone a s t before after
  isolate_done a s t before after h = by_found a.found a.reply s t before after h
