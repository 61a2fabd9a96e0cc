-- SPDX-License-Identifier: GPL-2.0-only
-- One walk: from its record and its work to what the report asks of it.
use Rattle.shr_assemble.proofs.Common.{◌≡◌, ℕ, zero, suc, ◌+◌, ◌<◌, ◌≤◌, ◌⊎◌, ⊎_elim, true, false, List, [], ◌∷◌, length, map, sym, refl, ap, subst, ◌∙◌, arith, slice_get, Option, Some, filter_map, sum_by, ◌&&◌, append-nil, same_Some, none-some, Kept, Entry, Scan, Policy, Answered, Spent, CacheDecl, Command, Attempt, MapSeen, PassRecord, WalkAnswer, WalkRecord, number_of, is_held, pass_of, sum_at, place_number, passes_at, Moves, takes_of, gives_of, Each, place_at, Made, shape_of, place_back, parents_of, IsThere, AreScansOf, AreFresh, IsScanOf, scan_at, AreScannedBy, WornSeen, PassSeen, IsWalkSeen, IsRecordOf, record_of, parts_of, number_in, WorkerState, Work, Does, Shared, Walk, IsAmong, DidPass, DidAttempt, HasMetCache, lookup_numbered, KnowsOnline, IsRecord, DidWalk, IsWornBy, told_step, Rise, place_of_walk, AreLater, AreStopped, IsWalkNumber}
use Rattle.std.specs.Option.{is_some}
use Rattle.shr_base.specs.declared.walks.WalkAnswer.TheVariants as answered
use Rattle.shr_charge.specs.Views as charge
use Rattle.shr_charge.specs.declared.answers.GroupState.TheVariants as state
use Rattle.shr_walk.specs.Attempts.{Found}
use Rattle.shr_walk.specs.Attempts as attempts
use Rattle.shr_assemble.proofs.WornSeen.{seen_worn}
use Rattle.shr_assemble.proofs.WalkingWell.{IsTableOf, seen_id, seen_pass}
use Rattle.shr_assemble.proofs.WalkingParts.{PartAt, part_at, part_scans, tries_one, found_cases, found_held}
use Rattle.shr_assemble.proofs.WalkingRecord.{same_numbers, outcome_kind, stopped}
use Rattle.shr_assemble.proofs.WalkingLists.{passes_near, flat_same, all_taken, all_given, all_steps, IsOfAttempt, of_attempts, pass_there}
use Rattle.shr_assemble.proofs.WalkingSteps.{OnlyScan, IsScanOne, step_of, Walked}

-- the work of a walk with the words that it loaded and its record
abbrev pub whole : Work → List charge.LoadedState → WalkRecord → Work
whole w words r = record w { words = words; walks = r ∷ [] }

-- what a walk of this record and work was, between two states
pub record OneWalk (x : Shared) (walk : Walk) (maps : Kept MapSeen) (tries : Kept Attempt) (answer : WalkAnswer) (words : List charge.LoadedState) (w : Work) (s t : WorkerState) : Type 0 where
  pub number : walk.number ≡ length s.walks
  pub low : IsWalkNumber walk.number
  pub node : walk.node < x.script.nodes
  pub group : walk.group < length (parents_of x.script)
  pub does : Does s t (whole w words (record_of walk maps tries answer))
  pub is : IsRecordOf x walk maps.items tries.items w
  pub fresh : AreFresh s.core w.core.seen
  pub record_is : IsRecord x.script (record_of walk maps tries answer)
  pub rise : Rise (map (λ (y : Attempt). y.id) tries.items)
  pub seen : IsWalkSeen x walk maps.items tries.items s t w
  pub word : (entry : ℕ) → answer ≡ answered.Offline entry → IsAmong (record { group = walk.group; state = state.Offline entry }) words
  pub online : 0 < walk.group → ((entry : ℕ) → answer ≡ answered.Offline entry → ⊥) → KnowsOnline s.tree walk.group

only_scan : (walk : Walk) (start : ℕ) (r : WalkRecord) (m : Made) (policy : Policy) (e : Entry) → walk.number ≡ start → 0 < length (passes_at (place_at m.place) r) → IsScanOf walk.by.worker walk.number policy e → OnlyScan walk.by start (r ∷ []) m e
only_scan walk start r m policy (Scan w n asked p visits freed stopped) number passes h = let k = h.1 in record { own = h.0; index = 0; number = omega (arith, k, number); walk = r; there = refl; passes = passes }
only_scan walk start r m policy e number passes h = absurd h

module _ (x : Shared) (table : IsTableOf x) (walk : Walk) (c : Option Command) (a : Answered) (maps : Kept MapSeen) (tries : Kept Attempt) (answer : WalkAnswer) (words : List charge.LoadedState) (w : Work) (s t : WorkerState) (one : OneWalk x walk maps tries answer words w s t) where
  abbrev r_of : WalkRecord
  r_of = record_of walk maps tries answer

  place_there : (k : ℕ) (y : Attempt) → slice_get tries.items k ≡ Some y → IsThere x.script (place_of_walk walk y.id)
  place_there k y at = record { id = seen_id x table walk maps.items tries.items s t w one.seen k y at; node = one.node; group = one.group }

  worn_by : (k : ℕ) (y : Attempt) → slice_get tries.items k ≡ Some y → (z : Spent) → WornSeen (shape_of x.core) (place_of_walk walk y.id) z t → IsWornBy x.script (step_of x.script walk.by c a s t (whole w words r_of)) z
  worn_by k y at z h = seen_worn x.script (shape_of x.core) table.most_items table.most_entries (step_of x.script walk.by c a s t (whole w words r_of)) (place_of_walk walk y.id) (place_there k y at) z h

  did_attempt : (k : ℕ) (y : Attempt) → slice_get tries.items k ≡ Some y → DidAttempt x.script (step_of x.script walk.by c a s t (whole w words r_of)) walk.number r_of y
  did_attempt k y at = record {
    id = seen_id x table walk maps.items tries.items s t w one.seen k y at;
    tried = λ number e. (part.is.held, tried_one number e, ⊎_elim (λ none. none.1 ∙ ap is_some (sym none.0.not_held)) (λ some. some.1 ∙ ap is_some (sym some.0.is_held)) found);
    held = λ number e held. was_held number e (found_held x walk y.id y.outcome part.is.first part.is.more part.is.held part.part.made part.part.ops part.is.found held);
    worn = λ seen e. let f = subst (λ o. Found x walk y.id o part.is.first part.is.more part.is.held part.part.made part.part.ops) e part.is.found in
        let at_least = f.1 in (part.is.first, part.loaded _ (subst (λ l. IsAmong (record { id = y.id; word = part.is.first }) l) (sym part.is.loaded) (0, refl)), f.0, omega (arith, at_least));
  } where
    part : PartAt x walk y (parts_of w)
    part = part_at x walk tries.items (parts_of w) one.is.parts one.rise k y at

    found : (attempts.MadeNone part.is.more part.is.held part.part.made part.part.ops × (is_held y.outcome ≡ false)) ⊎ (attempts.WasHeld x walk (place_of_walk walk y.id) y.outcome part.is.more part.is.held part.part.made part.part.ops × (is_held y.outcome ≡ true))
    found = found_cases x walk y.id y.outcome part.is.first part.is.more part.is.held part.part.made part.part.ops part.is.found

    tried_one : (number : ℕ) → number_of y.outcome ≡ Some number → IsAmong (record { id = y.id; number = number; held = part.is.held }) w.core.attempts
    tried_one number e = part.tried _ (subst (λ l. IsAmong (record { id = y.id; number = number; held = part.is.held }) l) (sym (part.is.tried ∙ tries_one y.id y.outcome part.is.held number e)) (0, refl))

    did_pass : (d : CacheDecl) (p : PassRecord) → pass_of y.outcome ≡ Some p → attempts.IsVisitMade x walk (place_of_walk walk y.id) d y.outcome part.part.made part.part.ops → DidPass x.script (step_of x.script walk.by c a s t (whole w words r_of)) walk.number r_of (place_of_walk walk y.id) d p
    did_pass d p e by =
        let scanned : AreScannedBy walk.priority d.seeks d.batch (Some p) (filter_map (scan_at (place_number (place_of_walk walk y.id)) walk.by.worker walk.number) part.part.made) = subst (λ ps. AreScannedBy walk.priority d.seeks d.batch ps (filter_map (scan_at (place_number (place_of_walk walk y.id)) walk.by.worker walk.number) part.part.made)) e by.scanned in
        let later : Each (λ (m : Made). p.version ≤ m.number) part.part.made = subst (λ ps. AreLater ps part.part.made) e by.later in
        let stops = subst (λ ps. AreStopped (d.fs && walk.nofs) walk.priority d.seeks d.batch ps) e by.stopped in
        let told : PassSeen x (place_of_walk walk y.id) t p = seen_pass x table walk maps.items tries.items s t w one.seen k y p at e in record {
          scans = subst (AreScansOf walk.priority d p) (sym (part.scans walk.by.worker walk.number)) (part_scans (place_number (place_of_walk walk y.id)) walk.by.worker walk.number walk.priority d p part.part.made by.scans scanned.0 later);
          stops = stopped r_of d p scanned.1 stops;
          closed = told.closed;
          worn = λ z ended. worn_by k y at z (told.worn z ended);
        }

    was_held : (number : ℕ) → number_of y.outcome ≡ Some number → attempts.WasHeld x walk (place_of_walk walk y.id) y.outcome part.is.more part.is.held part.part.made part.part.ops → HasMetCache x.script (step_of x.script walk.by c a s t (whole w words r_of)) walk.number r_of y number
    was_held number e h = record {
      decl = h.decl;
      tried = subst (λ o. IsAmong (record { id = y.id; number = number; held = o }) w.core.attempts) h.is_held (tried_one number e);
      cache = h.d;
      declared = h.declared;
      kind = outcome_kind x walk (place_of_walk walk y.id) h.d y.outcome part.part.made part.part.ops h.by;
      pass = λ p passed. did_pass h.d p passed h.by;
    }

  did_walk : DidWalk x.script (step_of x.script walk.by c a s t (whole w words r_of)) walk.number r_of
  did_walk = record {
    low = one.low;
    by = refl;
    node = one.node;
    group = one.group;
    record_is = one.record_is;
    attempts = did_attempt;
    word = one.word;
    online = one.online;
  }

  is_scan : (m : Made) → IsOfAttempt walk tries.items m → IsScanOne walk.by (length s.walks) (r_of ∷ []) m
  is_scan m o =
      let node = one.node in let group = one.group in let nodes = table.sized.nodes in let groups = table.sized.groups in
      let here : place_at m.place ≡ place_of_walk walk o.attempt.id = ap place_at o.place ∙ place_back (place_of_walk walk o.attempt.id) (omega (arith, node, nodes)) (omega (arith, group, groups)) in
      only_scan walk (length s.walks) r_of m o.policy m.entry one.number (pass_there (place_at m.place) (λ (q : PassRecord). q.nr) walk tries.items o.k o.attempt o.pass o.at o.passed here) o.scan

  pub one_walk : Walked x.script walk.by c a s t (whole w words r_of)
  one_walk = record {
    does = one.does;
    each = only;
    seen = append-nil _ ∙ one.is.counts;
    maps = append-nil _ ∙ one.is.maps_are;
    cleared = append-nil _ ∙ one.is.cleared;
    sets = append-nil _ ∙ one.is.sets;
    numbers = sym (append-nil _ ∙ (flat_same (λ (y : Attempt). lookup_numbered y.id (number_of y.outcome)) (λ (y : Attempt). number_in y.id y.outcome) tries.items (λ y. same_numbers y.id (number_of y.outcome)) ∙ one.is.numbers));
    fresh = one.fresh;
    set = one.seen.set;
    scans = λ j m e. is_scan m (of_attempts x walk tries.items (parts_of w) one.is.parts j m e);
    taken = λ p. ap (λ (m : Moves). sum_at p (takes_of m)) (sym one.is.moves) ∙ (all_taken p walk tries.items ∙ ap (sum_by (λ (q : PassRecord). q.nr)) (sym (append-nil (passes_near p (λ (q : PassRecord). q.nr) walk tries.items))));
    given = λ p. ap (λ (m : Moves). sum_at p (gives_of m)) (sym one.is.moves) ∙ (all_given p walk tries.items ∙ ap (sum_by (λ (q : PassRecord). q.next)) (sym (append-nil (passes_near p (λ (q : PassRecord). q.next) walk tries.items))));
    steps = ap (map told_step) (sym one.is.moves) ∙ (all_steps walk tries.items ∙ sym (append-nil _));
    turns = one.is.turns;
    tree = one.is.tree;
    carries = one.is.carries;
  } where
    only : (i : ℕ) (r : WalkRecord) → slice_get (r_of ∷ []) i ≡ Some r → DidWalk x.script (step_of x.script walk.by c a s t (whole w words r_of)) (length s.walks + i) r
    only zero r e = subst (λ (q : WalkRecord). DidWalk x.script (step_of x.script walk.by c a s t (whole w words r_of)) (length s.walks + 0) q) (same_Some r_of r e)
        (subst (λ n. DidWalk x.script (step_of x.script walk.by c a s t (whole w words r_of)) n r_of) (let n = one.number in let e' : walk.number ≡ length s.walks + 0 = omega (arith, n) in e') did_walk)
    only (suc i) r e = absurd (none-some r e)
