-- SPDX-License-Identifier: GPL-2.0-only
-- What a walk of the pools did in each room.
use Rattle.shr_lawful.proofs.UnitsCommon.{◌≡◌, ℕ, ◌+◌, ◌<◌, ◌≤◌, ◌≢◌, ◌⊎◌, ⊎_elim, Bool, true, false, cond, List, [], ◌∷◌, ◌++◌, length, sym, refl, ap, subst, ◌∙◌, arith, slice_get, Option, Some, None, option_map, option_to_list, option_and_then, nat_le, ◌==◌, append-nil, none-some, slice_get_within, PlainEntry, Place, Serial, Reply, Script, PassRecord, PlainAnswer, PlainTry, Empty, Skip, Ran, PlainWalk, is_place, is_place_same, is_place_itself, row_of, Begins, IsAcross, Count, MatchPass, count_of, RoomMade, RoomCount, RoomView, part_at, IsRecent, units_kind, PlainState, IsPoolOf, setting_of, home_place, Answers, answer_of, PlainJob, pass_in, pool_place, try_at, version_in, settings_of, pool_sizes, home_of, home_room, DidPoolWalk, IsReclaimOf}
use Rattle.shr_base.specs.declared.journals.PlainEntry.TheVariants as entry
use Rattle.shr_base.specs.declared.walks.PlainAnswer.TheVariants as answer
use Rattle.shr_pass.specs.declared.answers.Count.TheVariants as counted
use Rattle.shr_lawful.proofs.UnitLists.{IsIn, in_none, in_one, each_in}
use Rattle.shr_lawful.proofs.UnitPooling.{pool_place_is, home_there, same_place, home_low, is_home}
use Rattle.shr_lawful.proofs.UnitRooms.{Gains, MayMake}
use Rattle.shr_lawful.proofs.UnitTries.{TriedAt, tried_at, touched, untouched}

-- the version that a count says
abbrev version_of : Count → ℕ
version_of (counted.Empty version) = version
version_of (counted.Skip len version) = version
version_of (counted.Many len version) = version

kind_version : (floor : ℕ) (c : RoomCount) → version_of (units_kind floor c) ≡ c.version
kind_version floor c = by_tests (c.len == 0) (nat_le c.len floor) where
  by_tests : (a b : Bool) → version_of (cond a (counted.Empty c.version) (cond b (counted.Skip c.len c.version) (counted.Many c.len c.version))) ≡ c.version
  by_tests true b = refl
  by_tests false true = refl
  by_tests false false = refl

try_version : (x : PlainTry) → version_of (count_of (answer_of x)) ≡ version_in x
try_version (Empty version) = refl
try_version (Skip len version) = refl
try_version (Ran p) = refl

-- a walk has no more tries than there are pools
pub few_tries : (pools : ℕ) (tries : List PlainTry) (a : PlainAnswer) → Answers pools tries a → length tries ≤ pools
few_tries pools tries (answer.Walked freed) h = let e = h.0 in omega (arith, e)
few_tries pools tries (answer.Memory freed) h = h.0

module _ (s : Script) (by : Serial) (job : PlainJob) (t u : PlainState) (did : DidPoolWalk s by job t u) where
  abbrev pub walk : PlainWalk
  walk = did.gives.walk

  pub across : (pool : ℕ) → IsAcross (pool_sizes s) (home_place (settings_of s) pool job.node)
  across pool = record { node = home_low (setting_of (settings_of s) pool).flat job.node s.nodes did.node; group = omega arith }

  pub few : length walk.tries.items ≤ length (settings_of s)
  few = few_tries (length (settings_of s)) walk.tries.items did.answer did.gives.answers

  pub inside : (k : ℕ) (x : PlainTry) → slice_get walk.tries.items k ≡ Some x → IsPoolOf (settings_of s) (pool_sizes s) k job.node
  inside k x at = record { pool = let lt = slice_get_within walk.tries.items k x at in omega (arith, lt, few); node = did.node }

  -- a try by its pool: its room had before and after it what the walk found and left there
  pub tried : (k : ℕ) (x : PlainTry) → slice_get walk.tries.items k ≡ Some x → TriedAt (settings_of s) (pool_sizes s) by (length t.walks) job.node job.priority across k x t did.gives.tried
  tried k x at = subst (λ (n : ℕ). TriedAt (settings_of s) (pool_sizes s) by (length t.walks) job.node job.priority across n x t did.gives.tried) (let m : 0 + k ≡ k = omega arith in m)
      (tried_at (settings_of s) (pool_sizes s) by (length t.walks) job.node job.priority across 0 walk.tries.items t did.gives.tried did.gives.tries k x at)

  pub rooms_are : (i : ℕ) → part_at u.rooms i ≡ part_at did.gives.tried.rooms i
  rooms_are i = ap (λ (v : PlainState). part_at v.rooms i) did.gives.state

  pub walks_are : u.walks ≡ t.walks ++ walk ∷ []
  walks_are = ap (λ (v : PlainState). v.walks) did.gives.state

  -- the place where a walk's try at a place is
  pub try_place : (k : ℕ) → home_of s k job.node ≡ pool_place s k walk.node
  try_place k = pool_place_is s k job.node ∙ ap (pool_place s k) (sym did.gives.node_is)

  -- the try at the place of a pool is the pool's
  pub try_here : (k : ℕ) (o : Option PlainTry) → slice_get walk.tries.items k ≡ o → try_at s (home_of s k job.node) walk ≡ o
  try_here k o at = ap (λ (b : Bool). cond b (slice_get walk.tries.items k) None) (ap (is_place (home_of s k job.node)) (sym (try_place k)) ∙ is_place_itself (home_of s k job.node)) ∙ at

  -- a try at a place is that of its pool
  pub try_there : (p : Place) (x : PlainTry) → try_at s p walk ≡ Some x → (p ≡ home_of s p.id job.node) × (slice_get walk.tries.items p.id ≡ Some x)
  try_there p x h = by_test (is_place p (pool_place s p.id walk.node)) refl h where
    by_test : (b : Bool) → is_place p (pool_place s p.id walk.node) ≡ b → cond b (slice_get walk.tries.items p.id) None ≡ Some x → (p ≡ home_of s p.id job.node) × (slice_get walk.tries.items p.id ≡ Some x)
    by_test true e at = (is_place_same p (pool_place s p.id walk.node) e ∙ sym (try_place p.id), at)
    by_test false e at = absurd (none-some x at)

  -- a room that no try was in
  none_gains : (x : Reply) (i : ℕ) → ((j : ℕ) → j < length walk.tries.items → i ≢ row_of (pool_sizes s) (home_place (settings_of s) (0 + j) job.node)) → Gains s i by x t u
  none_gains x i none = record {
    more = [];
    made = ap (λ (v : RoomView PlainEntry). v.made) same ∙ sym (append-nil (part_at t.rooms i).made);
    may = λ m h. absurd (in_none m h);
    counts = [];
    few = omega arith;
    seen = ap (λ (v : RoomView PlainEntry). v.seen) same ∙ sym (append-nil (part_at t.rooms i).seen);
    fresh = λ c h. absurd (in_none c h);
    known = ([], ap (λ (v : RoomView PlainEntry). v.known) same ∙ sym (append-nil (part_at t.rooms i).known));
    walks = record { list = walk ∷ []; are = walks_are };
    one = omega arith;
    versions = λ p there room. ap (λ (o : Option PlainTry). option_to_list (option_map version_in o) ++ []) (no_try p room (try_at s p walk) refl);
  }
    where
      same : part_at u.rooms i ≡ part_at t.rooms i
      same = rooms_are i ∙ untouched (settings_of s) (pool_sizes s) by (length t.walks) job.node job.priority across 0 walk.tries.items t did.gives.tried did.gives.tries i none

      no_try : (p : Place) → i ≡ row_of (pool_sizes s) p → (o : Option PlainTry) → try_at s p walk ≡ o → try_at s p walk ≡ None
      no_try p room None e = e
      no_try p room (Some y) e = let h = try_there p y e in absurd (none p.id (slice_get_within walk.tries.items p.id y h.1) (room ∙ (ap (row_of (pool_sizes s)) h.0 ∙ ap (λ (k : ℕ). row_of (pool_sizes s) (home_place (settings_of s) k job.node)) (let m : p.id ≡ 0 + p.id = omega arith in m))))

  -- the room of a try
  module _ (x : Reply) (k : ℕ) (y : PlainTry) (at : slice_get walk.tries.items k ≡ Some y) where
    abbrev r : TriedAt (settings_of s) (pool_sizes s) by (length t.walks) job.node job.priority across k y t did.gives.tried
    r = tried k y at

    abbrev i : ℕ
    i = home_room s k job.node

    pub after_is : part_at u.rooms i ≡ part_at r.last.rooms i
    after_is = rooms_are i ∙ sym r.after

    -- the pass of a try that made an entry
    passed : (z : PlainTry) (more : List (RoomMade PlainEntry)) (Q : PassRecord → Type 0) → MatchPass (answer_of z) (more ≡ []) Q → (m : RoomMade PlainEntry) → IsIn m more → (p : PassRecord) × (pass_in z ≡ Some p)
    passed (Empty version) more Q h m is = absurd (in_none m (subst (IsIn m) h is))
    passed (Skip len version) more Q h m is = absurd (in_none m (subst (IsIn m) h is))
    passed (Ran p) more Q h m is = (p, refl)

    may_make : (m : RoomMade PlainEntry) → IsIn m r.gives.more → (e : PlainEntry) → IsReclaimOf by.worker (length t.walks) e → MayMake s i by x t u m e
    may_make m is (entry.Release own n) of = absurd of
    may_make m is (entry.Grab own got) of = absurd of
    may_make m is (entry.Reclaim worker n asked freed) of = let p = passed y r.gives.more _ r.gives.scans m is in record {
      own = of.0;
      number = of.1;
      made = walk;
      walks = walks_are;
      place = home_of s k job.node;
      home = is_home s k job.node (inside k y at);
      room = refl;
      pass = p.0;
      passed = ap (option_and_then pass_in) (try_here k (Some y) at) ∙ p.1;
    }

    pub count_version : r.gives.count.version ≡ version_in y
    count_version = sym (kind_version (setting_of (settings_of s) k).floor r.gives.count) ∙ (ap version_of r.gives.kind ∙ try_version y)

    try_gains : Gains s i by x t u
    try_gains = record {
      more = r.gives.more;
      made = ap (λ (v : RoomView PlainEntry). v.made) after_is ∙ (r.gives.made ∙ ap (λ (v : RoomView PlainEntry). v.made ++ r.gives.more) r.before);
      may = λ m h. may_make m h m.entry (each_in (λ (n : RoomMade PlainEntry). IsReclaimOf by.worker (length t.walks) n.entry) r.gives.more m r.gives.reclaims h);
      counts = r.gives.count ∷ [];
      few = omega arith;
      seen = ap (λ (v : RoomView PlainEntry). v.seen) after_is ∙ (r.gives.seen ∙ ap (λ (v : RoomView PlainEntry). v.seen ++ r.gives.count ∷ []) r.before);
      fresh = λ c h. subst (λ (d : RoomCount). IsRecent (part_at t.rooms i) d.version) (in_one c r.gives.count h) (subst (λ (v : RoomView PlainEntry). IsRecent v r.gives.count.version) r.before r.gives.fresh);
      known = subst (λ (v : RoomView PlainEntry). Begins (part_at t.rooms i).known v.known) (sym after_is) (subst (λ (v : RoomView PlainEntry). Begins v.known (part_at r.last.rooms i).known) r.before r.gives.known);
      walks = record { list = walk ∷ []; are = walks_are };
      one = omega arith;
      versions = λ p there room. ap (λ (o : Option PlainTry). option_to_list (option_map version_in o) ++ [])
          (ap (λ (q : Place). try_at s q walk) (same_place (pool_sizes s) p (home_of s k job.node) there (home_there s k job.node (inside k y at)) (sym room)) ∙ try_here k (Some y) at)
          ∙ ap (λ (v : ℕ). v ∷ []) (sym count_version);
    }

  pub walk_gains : (x : Reply) (i : ℕ) → Gains s i by x t u
  walk_gains x i = ⊎_elim (λ h. subst (λ (j : ℕ). Gains s j by x t u) (sym (h.3 ∙ ap (λ (n : ℕ). home_room s n job.node) (let m : 0 + h.0 ≡ h.0 = omega arith in m))) (try_gains x h.0 h.1 h.2)) (λ none. none_gains x i none)
      (touched (settings_of s) (pool_sizes s) by (length t.walks) job.node job.priority across 0 walk.tries.items i)
