-- SPDX-License-Identifier: GPL-2.0-only
-- A walk of a group or of the root, by its answer, gave what the report asks of it.
use Rattle.shr_assemble.proofs.Common.{◌≡◌, ℕ, ◌+◌, ◌<◌, ◌⊎◌, inl, inr, ⊎_elim, Bool, true, false, List, [], ◌∷◌, ◌++◌, length, map, sym, refl, ap, subst, ◌∙◌, arith, AllByRecursion, append-nil, map-append, All-nil, All-append, flat_map-append, dite, ℕ_discrete, Kept, UseStep, Object, Serial, Answered, Command, Attempt, MapSeen, WalkAnswer, WalkRecord, path_of, freed_by, job, job_of, Rise, Gained, nothing, Made, shape_of, AreDowns, IsDown, parents_of, OneGives, objects_freed, paths_of, WorkerState, Work, no_work, then_work, Does, IsRecordOf, WalkParts, AreParts, record_of, parts_of, Shared, Walk, does_then, fresh_none, fresh_then, IsWalkSeen, hierarchy_of, GroupState, KnowsOnline, IsAmong, Option, then_gained, IsWalkNumber, IsRecord, use_group, GoesOn, WalkMade, WalkGives, RootMade, RootGives, walk_work, units_in, does_none, IsWalkOver}
use Rattle.shr_base.specs.declared.walks.WalkAnswer.TheVariants as answered
use Rattle.shr_charge.specs.Views as charge
use Rattle.shr_walk.specs.Keeping as keeping
use Rattle.shr_walk.proofs.Recording.{record_none}
use Rattle.shr_walk.proofs.ShownLaws.{seen_none, seen_earlier, seen_later}
use Rattle.shr_charge.specs.declared.answers.GroupState.TheVariants as state
use Rattle.shr_assemble.proofs.QuietSteps.{knows_online}
use Rattle.shr_assemble.proofs.WalkingWell.{maps_rise, range_rise, tries_rise, IsTableOf, seen_born, told_as, went_on, record_below, record_root, record_offline}
use Rattle.shr_assemble.proofs.WalkingParts.{found_cases}
use Rattle.shr_assemble.proofs.WalkingOne.{whole, OneWalk, one_walk}
use Rattle.shr_assemble.proofs.WalkingSteps.{Walked, walked_still}

-- what these entries freed was uncharged, group by group
abbrev pub Freed : Shared → Serial → List Made → List UseStep → Type 0
Freed x by made ops = AreDowns by (paths_of (keeping.shared_parents x) (objects_freed made)) ops

pub freed_none : (x : Shared) (by : Serial) → Freed x by [] []
freed_none x by = record { at = refl; each = All-nil (IsDown by) }

pub freed_then : (x : Shared) (by : Serial) (m n : List Made) (o p : List UseStep) → Freed x by m o → Freed x by n p → Freed x by (m ++ n) (o ++ p)
freed_then x by m n o p a b = record {
  at = map-append use_group o p ∙ (ap (λ l. l ++ map use_group p) a.at ∙ (ap (λ l. paths_of (keeping.shared_parents x) (objects_freed m) ++ l) b.at
      ∙ (sym (flat_map-append (λ (y : Object). path_of (keeping.shared_parents x) y.birth) (objects_freed m) (objects_freed n)) ∙ ap (paths_of (keeping.shared_parents x)) (sym (flat_map-append (λ (y : Made). freed_by y.items y.entry) m n)))));
  each = All-append (IsDown by) o p a.each b.each;
}

parts_freed : (x : Shared) (walk : Walk) (l : List Attempt) (p : WalkParts) → AreParts x walk l p → Freed x walk.by p.made p.ops
parts_freed x walk [] p h = subst (λ (y : WalkParts). Freed x walk.by y.made y.ops) (sym h) (freed_none x walk.by)
parts_freed x walk (a ∷ l) p (q, s, e, i, rest) = subst (λ (y : WalkParts). Freed x walk.by y.made y.ops) (sym e) (freed_then x walk.by q.made s.made q.ops s.ops
    (⊎_elim
    (λ none. subst (λ (z : List Made). Freed x walk.by z q.ops) (sym none.0.no_entry) (subst (λ (z : List UseStep). Freed x walk.by [] z) (sym none.0.no_use) (freed_none x walk.by)))
    (λ some. some.0.by.downs)
    (found_cases x walk a.id a.outcome i.first i.more i.held q.made q.ops i.found))
    (parts_freed x walk l s rest))

-- a walk goes on where the group isn't offline
pub walks_on : (found : GroupState) → GoesOn found → (entry : ℕ) → found ≡ state.Offline entry → ⊥
walks_on state.Online on entry is = absurd (cc)
walks_on state.NotMade on entry is = absurd (cc)
walks_on (state.Offline e) on entry is = on

-- a group below the root that was walked wasn't known to be offline
pub one_online : (x : Shared) (walk : Walk) (answer : WalkAnswer) (s t : WorkerState) → OneGives x walk answer s t → (freed : ℕ) → answer ≡ answered.Walked freed → 0 < walk.group → KnowsOnline s.tree walk.group
one_online x walk answer s t g freed e lt =
    let made : WalkMade x walk true (answered.Walked freed) freed s t = subst (λ (z : WalkAnswer). WalkGives x walk z s t) e (g.below lt) in knows_online (hierarchy_of (shape_of x.core)) s.tree walk.group made.state (walks_on made.state made.goes_on) made.shows

-- the walk left one record, which tells its answer
pub record IsNoted (walk : Walk) (answer : WalkAnswer) (walks : List WalkRecord) : Type 0 where
  pub noted : WalkRecord
  pub walks_are : walks ≡ noted ∷ []
  pub job_is : job_of noted ≡ job walk.group walk.node walk.priority walk.nofs
  pub answer_is : noted.answer ≡ answer

-- what a walk gave: it left no record only where there was no memory for one
pub record Gave (x : Shared) (walk : Walk) (c : Option Command) (a : Answered) (answer : WalkAnswer) (s t : WorkerState) : Type 0 where
  pub work : Work
  pub walked : Walked x.script walk.by c a s t work
  pub told : ((work.walks ≡ []) × (answer ≡ answered.Memory 0)) ⊎ IsNoted walk answer work.walks
  pub freed : Freed x walk.by work.core.made work.ops
  pub born : AllByRecursion (λ (o : Object). o.birth < length (parents_of x.script)) (objects_freed work.core.made)
  pub charges : work.charges ≡ 0
  pub uncharges : work.uncharges ≡ length (objects_freed work.core.made)

-- the parts of a walk's work, put together
same_core : (g : Gained) → then_gained (then_gained nothing g) nothing ≡ g
same_core g = let made = append-nil g.made in let seen = append-nil g.seen in let tries = append-nil g.tries in let maps = append-nil g.maps in let sets = append-nil g.sets in
    let cleared = append-nil g.cleared in let attempts = append-nil g.attempts in let loaded = append-nil g.loaded in let turns = append-nil g.turns in let gives : 0 + g.gives + 0 ≡ g.gives = omega arith in
    λ i. record { made = made i; seen = seen i; tries = tries i; maps = maps i; sets = sets i; cleared = cleared i; attempts = attempts i; loaded = loaded i; turns = turns i; gives = gives i }

same_whole : (words : List charge.LoadedState) (w : Work) (r : WalkRecord) → w.words ≡ [] → w.walks ≡ [] → then_work (then_work (record no_work { words = words }) w) (walk_work r) ≡ whole w words r
same_whole words w r none no_walk =
    let core = same_core w.core in let ops = append-nil w.ops in let charges : 0 + w.charges + 0 ≡ w.charges = omega arith in let uncharges : 0 + w.uncharges + 0 ≡ w.uncharges = omega arith in
    let loaded : (words ++ w.words) ++ [] ≡ words = append-nil (words ++ w.words) ∙ (ap (λ l. words ++ l) none ∙ append-nil words) in
    let tree = append-nil w.tree in let gives : 0 + w.gives + 0 ≡ w.gives = omega arith in let moves = append-nil w.moves in
    let walks : w.walks ++ r ∷ [] ≡ r ∷ [] = ap (λ l. l ++ r ∷ []) no_walk in let carries = append-nil w.carries in
    λ i. record { core = core i; ops = ops i; charges = charges i; uncharges = uncharges i; words = loaded i; tree = tree i; gives = gives i; moves = moves i; walks = walks i; carries = carries i }

module _ (x : Shared) (table : IsTableOf x) (walk : Walk) (c : Option Command) (a : Answered) (s t : WorkerState) (number : walk.number ≡ length s.walks) (node : walk.node < x.script.nodes) (group : walk.group < length (parents_of x.script)) where
  gave_one : (maps : Kept MapSeen) (tries : Kept Attempt) (answer : WalkAnswer) (words : List charge.LoadedState) (w : Work) → OneWalk x walk maps tries answer words w s t → Gave x walk c a answer s t
  gave_one maps tries answer words w one = record {
    work = whole w words (record_of walk maps tries answer);
    walked = one_walk x table walk c a maps tries answer words w s t one;
    told = inr record { noted = record_of walk maps tries answer; walks_are = refl; job_is = refl; answer_is = refl };
    freed = parts_freed x walk tries.items (parts_of w) one.is.parts;
    born = seen_born x table walk maps.items tries.items s t w one.seen;
    charges = one.is.charges;
    uncharges = one.is.uncharges;
  }

  -- without memory for a record the walk did nothing
  gave_none : Does s t no_work → Gave x walk c a (answered.Memory 0) s t
  gave_none d = record {
    work = no_work;
    walked = walked_still x.script walk.by c a [] 0 0 [] s t d;
    told = inl (refl, refl);
    freed = freed_none x walk.by;
    born = tt;
    charges = refl;
    uncharges = refl;
  }

  -- a walk that went on: it loaded a word or none, made its maps and its attempts, and left its record
  gave_on : (whole : Bool) (units ids : List ℕ) (freed : ℕ) (words : List charge.LoadedState) (begun ended : WorkerState) (maps : Kept MapSeen) (tries : Kept Attempt) → IsWalkNumber walk.number → Does s begun (record no_work { words = words })
      → IsWalkOver x walk whole units ids maps.items tries.items begun ended → Does ended t (walk_work (record_of walk maps tries (told_as whole freed))) → Rise (map (λ (y : Attempt). y.id) tries.items) → IsRecord x.script (record_of walk maps tries (told_as whole freed))
      → (0 < walk.group → KnowsOnline s.tree walk.group) → Gave x walk c a (told_as whole freed) s t
  gave_on whole units ids freed words begun ended maps tries low first over last rise record_is online =
      let r = record_of walk maps tries (told_as whole freed) in gave_one maps tries (told_as whole freed) words over.w record {
        number = number;
        low = low;
        node = node;
        group = group;
        does = subst (Does s t) (same_whole words over.w r over.is.words over.is.walks) (does_then s ended t (then_work (record no_work { words = words }) over.w) (walk_work r) (does_then s begun ended (record no_work { words = words }) over.w first over.does) last);
        is = over.is;
        fresh = fresh_then s.core begun.core nothing over.w.core.seen first.core (fresh_none s.core) over.fresh;
        record_is = record_is;
        rise = rise;
        seen = seen_earlier x walk maps.items tries.items s begun t _ over.w first (seen_later x walk maps.items tries.items begun ended t _ over.w last over.seen);
        word = λ entry e. absurd (went_on whole freed entry e);
        online = λ below apart. online below;
      }

  gave_made : (whole : Bool) (freed : ℕ) → 0 < walk.group → WalkMade x walk whole (told_as whole freed) freed s t → Gave x walk c a (told_as whole freed) s t
  gave_made whole freed below g =
      let m = g.made in let rise = maps_rise m.maps.items (units_in (shape_of x.core).ids) m.walked.loaded in
      gave_on whole _ _ freed (record { group = walk.group; state = g.state } ∷ []) g.begun m.ended m.maps m.attempts m.numbered g.loaded m.walked m.recorded (tries_rise x table walk whole _ _ m.maps m.attempts g.begun m.ended m.walked rise)
      (record_below x table walk whole _ _ m.maps m.attempts g.begun m.ended m.walked rise freed m.sum_freed m.first below refl refl) (λ lt. knows_online (hierarchy_of (shape_of x.core)) s.tree walk.group g.state (walks_on g.state g.goes_on) g.shows)

  gave_walk : (answer : WalkAnswer) → WalkGives x walk answer s t → 0 < walk.group → Gave x walk c a answer s t
  gave_walk (answered.Walked freed) g below = gave_made true freed below g
  gave_walk (answered.Offline entry) g below = gave_one g.maps g.attempts (answered.Offline entry) (record { group = walk.group; state = state.Offline entry } ∷ []) no_work record {
    number = number;
    low = g.numbered;
    node = node;
    group = group;
    does = g.does;
    is = subst (λ (m : List MapSeen). IsRecordOf x walk m g.attempts.items no_work) (sym g.no_map) (subst (λ (l : List Attempt). IsRecordOf x walk [] l no_work) (sym g.no_attempt) (record_none x walk));
    fresh = fresh_none s.core;
    record_is = record_offline x walk g.maps g.attempts entry below g.no_map g.no_attempt;
    rise = subst (λ (l : List Attempt). Rise (map (λ (y : Attempt). y.id) l)) (sym g.no_attempt) tt;
    seen = subst (λ (m : List MapSeen). IsWalkSeen x walk m g.attempts.items s t no_work) (sym g.no_map) (subst (λ (l : List Attempt). IsWalkSeen x walk [] l s t no_work) (sym g.no_attempt) (seen_later x walk [] [] s s t _ no_work g.does (seen_none x walk s)));
    word = λ e is. subst (λ n. IsAmong {A = charge.LoadedState} (record { group = walk.group; state = state.Offline n }) (record { group = walk.group; state = state.Offline entry } ∷ [])) (let z : entry ≡ e = cc in z) (0, refl);
    online = λ lt on. absurd (on entry refl);
  }
  gave_walk (answered.Memory freed) (inl none) below = subst (λ n. Gave x walk c a (answered.Memory n) s t) (sym none.0) (gave_none none.1)
  gave_walk (answered.Memory freed) (inr g) below = gave_made false freed below g

  gave_rooted : (whole : Bool) (freed : ℕ) → walk.group ≡ 0 → RootMade x walk whole (told_as whole freed) freed s t → Gave x walk c a (told_as whole freed) s t
  gave_rooted whole freed root m =
      let rise = range_rise (shape_of x.core).ids in gave_on whole _ _ freed [] s m.ended m.maps m.attempts m.numbered (does_none s) m.walked m.recorded (tries_rise x table walk whole _ _ m.maps m.attempts s m.ended m.walked rise)
      (record_root x table walk whole _ _ m.maps m.attempts s m.ended m.walked rise freed m.sum_freed m.first root refl refl) (λ lt. absurd (omega (arith, root, lt)))

  gave_root : (answer : WalkAnswer) → RootGives x walk answer s t → walk.group ≡ 0 → Gave x walk c a answer s t
  gave_root (answered.Walked freed) g root = gave_rooted true freed root g
  gave_root (answered.Offline entry) g root = absurd g
  gave_root (answered.Memory freed) (inl none) root = subst (λ n. Gave x walk c a (answered.Memory n) s t) (sym none.0) (gave_none none.1)
  gave_root (answered.Memory freed) (inr g) root = gave_rooted false freed root g

  pub gave : (answer : WalkAnswer) → OneGives x walk answer s t → Gave x walk c a answer s t
  gave answer g = dite (ℕ_discrete walk.group 0) (λ root. gave_root answer (g.root root) root) (λ ne. let lt : 0 < walk.group = omega (arith, ne) in gave_walk answer (g.below lt) lt)
