-- SPDX-License-Identifier: GPL-2.0-only
-- What a step did and saw in one room.
use Rattle.shr_lawful.proofs.UnitsCommon.{◌≡◌, ℕ, ◌+◌, ◌<◌, ◌≤◌, ◌≢◌, ◌⊎◌, true, false, List, [], ◌∷◌, ◌++◌, length, map, sym, refl, ap, subst, ◌∙◌, arith, append_assoc, Some, flat_map, append-nil, dite, ℕ_discrete, PlainEntry, Place, Serial, Reply, Script, PassRecord, PlainWalk, IsPlaceOf, row_of, Begins, begins_all, RoomMade, RoomCount, RoomView, part_at, with_known, with_entry, IsRecent, GrabAnswer, ReleaseAnswer, Sees, Makes, ReleaseGives, GrabGives, units, PlainState, IsPoolOf, at, units_cited, pass_at, plain_versions, settings_of, pool_sizes, home_of, home_room, units_release_reply, units_grab_reply, DidRelease, DidGrab, IsTold}
use Rattle.shr_base.specs.declared.journals.PlainEntry.TheVariants as entry
use Rattle.shr_seats.proofs.RoomParts as parts
use Rattle.shr_plain.specs.declared.answers.GrabAnswer.TheVariants as grab
use Rattle.shr_plain.specs.declared.answers.ReleaseAnswer.TheVariants as release
use Rattle.shr_lawful.proofs.UnitLists.{IsIn, in_none, in_one}
use Rattle.shr_lawful.proofs.UnitPooling.{IsHome, is_home}

-- the walks of the pools that a step made
pub record Walks (t u : PlainState) : Type 0 where
  pub list : List PlainWalk
  pub are : u.walks ≡ t.walks ++ list

-- the entry is told by the reply of its command, at this room's place
pub record IsCited (s : Script) (i : ℕ) (by own : Serial) (x : Reply) (m : RoomMade PlainEntry) : Type 0 where
  pub place : Place
  pub home : IsHome s place
  pub room : i ≡ row_of (pool_sizes s) place
  pub mine : by ≡ own
  pub cited : units_cited x ≡ Some (at place m.number)

-- the entry is of a pass of the walk that was made, at this room's place
pub record IsReclaimed (s : Script) (i : ℕ) (by : Serial) (t u : PlainState) (worker walk : ℕ) : Type 0 where
  pub own : worker ≡ by.worker
  pub number : walk ≡ length t.walks
  pub made : PlainWalk
  pub walks : u.walks ≡ t.walks ++ made ∷ []
  pub place : Place
  pub home : IsHome s place
  pub room : i ≡ row_of (pool_sizes s) place
  pub pass : PassRecord
  pub passed : pass_at s place made ≡ Some pass

abbrev pub MayMake : Script → ℕ → Serial → Reply → PlainState → PlainState → RoomMade PlainEntry → PlainEntry → Type 0
MayMake s i by x t u m (entry.Release own n) = IsCited s i own by x m
MayMake s i by x t u m (entry.Grab own got) = IsCited s i own by x m
MayMake s i by x t u m (entry.Reclaim worker walk asked freed) = IsReclaimed s i by t u worker walk

-- what a step gained in a room
pub record Gains (s : Script) (i : ℕ) (by : Serial) (x : Reply) (t u : PlainState) : Type 0 where
  pub more : List (RoomMade PlainEntry)
  pub made : (part_at u.rooms i).made ≡ (part_at t.rooms i).made ++ more
  pub may : (m : RoomMade PlainEntry) → IsIn m more → MayMake s i by x t u m m.entry
  pub counts : List RoomCount
  pub few : length counts ≤ 1
  pub seen : (part_at u.rooms i).seen ≡ (part_at t.rooms i).seen ++ counts
  pub fresh : (c : RoomCount) → IsIn c counts → IsRecent (part_at t.rooms i) c.version
  pub known : Begins (part_at t.rooms i).known (part_at u.rooms i).known
  -- the counts are those of its walks at the room's place
  pub walks : Walks t u
  pub one : length walks.list ≤ 1
  pub versions : (p : Place) → IsPlaceOf (pool_sizes s) p → i ≡ row_of (pool_sizes s) p → flat_map (plain_versions s p) walks.list ≡ map (λ (c : RoomCount). c.version) counts

module _ (s : Script) (i : ℕ) (by : Serial) (x : Reply) (t u : PlainState) where
  -- nothing was done in the room
  pub same_gains : part_at u.rooms i ≡ part_at t.rooms i → u.walks ≡ t.walks → Gains s i by x t u
  same_gains same walks = record {
    more = [];
    made = ap (λ (v : RoomView PlainEntry). v.made) same ∙ sym (append-nil (part_at t.rooms i).made);
    may = λ m h. absurd (in_none m h);
    counts = [];
    few = omega arith;
    seen = ap (λ (v : RoomView PlainEntry). v.seen) same ∙ sym (append-nil (part_at t.rooms i).seen);
    fresh = λ c h. absurd (in_none c h);
    known = subst (λ (v : RoomView PlainEntry). Begins (part_at t.rooms i).known v.known) (sym same) (begins_all (part_at t.rooms i).known);
    walks = record { list = []; are = walks ∙ sym (append-nil t.walks) };
    one = omega arith;
    versions = λ p there room. refl;
  }

  -- its journal was seen
  pub known_gains : (journal : List PlainEntry) → IsTold units (part_at t.rooms i) journal → part_at u.rooms i ≡ with_known (part_at t.rooms i) journal → u.walks ≡ t.walks → Gains s i by x t u
  known_gains journal told same walks = record {
    more = [];
    made = ap (λ (v : RoomView PlainEntry). v.made) same ∙ sym (append-nil (part_at t.rooms i).made);
    may = λ m h. absurd (in_none m h);
    counts = [];
    few = omega arith;
    seen = ap (λ (v : RoomView PlainEntry). v.seen) same ∙ sym (append-nil (part_at t.rooms i).seen);
    fresh = λ c h. absurd (in_none c h);
    known = subst (λ (v : RoomView PlainEntry). Begins (part_at t.rooms i).known v.known) (sym same) told.seen.known;
    walks = record { list = []; are = walks ∙ sym (append-nil t.walks) };
    one = omega arith;
    versions = λ p there room. refl;
  }

  -- an entry was made
  pub entry_gains : (journal : List PlainEntry) (e : PlainEntry) → IsTold units (part_at t.rooms i) journal → part_at u.rooms i ≡ with_entry (part_at t.rooms i) journal e → u.walks ≡ t.walks
      → MayMake s i by x t u (record { number = length journal; entry = e }) e → Gains s i by x t u
  entry_gains journal e told same walks may = record {
    more = record { number = length journal; entry = e } ∷ [];
    made = ap (λ (v : RoomView PlainEntry). v.made) same;
    may = λ m h. subst (λ (n : RoomMade PlainEntry). MayMake s i by x t u n n.entry) (in_one m (record { number = length journal; entry = e }) h) may;
    counts = [];
    few = omega arith;
    seen = ap (λ (v : RoomView PlainEntry). v.seen) same ∙ sym (append-nil (part_at t.rooms i).seen);
    fresh = λ c h. absurd (in_none c h);
    known = subst (λ (v : RoomView PlainEntry). Begins (part_at t.rooms i).known v.known) (sym same) (longer told.seen.known);
    walks = record { list = []; are = walks ∙ sym (append-nil t.walks) };
    one = omega arith;
    versions = λ p there room. refl;
  }
    where
      longer : Begins (part_at t.rooms i).known journal → Begins (part_at t.rooms i).known (journal ++ e ∷ [])
      longer b = (b.0 ++ e ∷ [], ap (λ (l : List PlainEntry). l ++ e ∷ []) b.1 ∙ append_assoc (part_at t.rooms i).known b.0 (e ∷ []))

-- a call that saw the journal of a room, and one that made an entry there
module _ (s : Script) (by : Serial) (x : Reply) (here : ℕ) (t u : PlainState) where
  pub sees_gains : (journal : List PlainEntry) → Sees here t u journal → (i : ℕ) → Gains s i by x t u
  sees_gains journal sees i = dite (ℕ_discrete i here)
      (λ e. subst (λ (k : ℕ). Gains s k by x t u) (sym e) (known_gains s here by x t u journal sees.told (ap (λ (v : PlainState). part_at v.rooms here) sees.state ∙ parts.here t.rooms here (with_known (part_at t.rooms here) journal)) (ap (λ (v : PlainState). v.walks) sees.state)))
      (λ ne. same_gains s i by x t u (ap (λ (v : PlainState). part_at v.rooms i) sees.state ∙ parts.there t.rooms here i (with_known (part_at t.rooms here) journal) ne) (ap (λ (v : PlainState). v.walks) sees.state))

  pub makes_gains : (journal : List PlainEntry) (e : PlainEntry) → Makes here t u journal e → MayMake s here by x t u (record { number = length journal; entry = e }) e → (i : ℕ) → Gains s i by x t u
  makes_gains journal e makes may i = dite (ℕ_discrete i here)
      (λ at. subst (λ (k : ℕ). Gains s k by x t u) (sym at) (entry_gains s here by x t u journal e makes.told (ap (λ (v : PlainState). part_at v.rooms here) makes.state ∙ parts.here t.rooms here (with_entry (part_at t.rooms here) journal e)) (ap (λ (v : PlainState). v.walks) makes.state) may))
      (λ ne. same_gains s i by x t u (ap (λ (v : PlainState). part_at v.rooms i) makes.state ∙ parts.there t.rooms here i (with_entry (part_at t.rooms here) journal e) ne) (ap (λ (v : PlainState). v.walks) makes.state))

module _ (s : Script) (by : Serial) (x : Reply) (t u : PlainState) where
  cited : (node pool : ℕ) → IsPoolOf (settings_of s) (pool_sizes s) pool node → (m : RoomMade PlainEntry) → units_cited x ≡ Some (at (home_of s pool node) m.number) → IsCited s (home_room s pool node) by by x m
  cited node pool there m e = record { place = home_of s pool node; home = is_home s pool node there; room = refl; mine = refl; cited = e }

  pub release_gains : (node pool n : ℕ) → DidRelease s by node pool n x t u → (i : ℕ) → Gains s i by x t u
  release_gains node pool n did i = by_answer did.answer did.told did.gives
    where
      by_answer : (a : ReleaseAnswer) → x ≡ units_release_reply (home_of s pool node) a → ReleaseGives (home_of s pool node) (home_room s pool node) by n a t u → Gains s i by x t u
      by_answer (release.Full entries free) told g = sees_gains s by x (home_room s pool node) t u g.0 g.1 i
      by_answer (release.Worn spent) told g = sees_gains s by x (home_room s pool node) t u g.0 g.1 i
      by_answer release.Memory told g = sees_gains s by x (home_room s pool node) t u g.0 g.1 i
      by_answer (release.Released number) told g = makes_gains s by x (home_room s pool node) t u g.0 (entry.Release by n) g.1
          (cited node pool did.there (record { number = length g.0; entry = entry.Release by n }) (ap units_cited told ∙ ap (λ (k : ℕ). Some (at (home_of s pool node) k)) g.2)) i

  pub grab_gains : (node pool : ℕ) → DidGrab s by node pool x t u → (i : ℕ) → Gains s i by x t u
  grab_gains node pool did i = by_answer did.answer did.told did.gives
    where
      by_answer : (a : GrabAnswer) → x ≡ units_grab_reply (home_of s pool node) a → GrabGives (home_of s pool node) (home_room s pool node) by a t u → Gains s i by x t u
      by_answer (grab.Worn spent) told g = sees_gains s by x (home_room s pool node) t u g.0 g.1 i
      by_answer grab.Memory told g = sees_gains s by x (home_room s pool node) t u g.0 g.1 i
      by_answer (grab.Grabbed number) told g = makes_gains s by x (home_room s pool node) t u g.0 (entry.Grab by true) g.1
          (cited node pool did.there (record { number = length g.0; entry = entry.Grab by true }) (ap units_cited told ∙ ap (λ (k : ℕ). Some (at (home_of s pool node) k)) g.3)) i
      by_answer (grab.Bare number) told g = makes_gains s by x (home_room s pool node) t u g.0 (entry.Grab by false) g.1
          (cited node pool did.there (record { number = length g.0; entry = entry.Grab by false }) (ap units_cited told ∙ ap (λ (k : ℕ). Some (at (home_of s pool node) k)) g.3)) i

  -- such a call walks no pool, and moves no deferred word
  abbrev pub IsStill : Type 0
  IsStill = (u.walks ≡ t.walks) × (u.moves ≡ t.moves)

  still_by : (rooms : List (RoomView PlainEntry)) → u ≡ record t { rooms = rooms } → IsStill
  still_by rooms e = (ap (λ (v : PlainState). v.walks) e, ap (λ (v : PlainState). v.moves) e)

  pub release_still : (node pool n : ℕ) → DidRelease s by node pool n x t u → IsStill
  release_still node pool n did = by_answer did.answer did.gives
    where
      by_answer : (a : ReleaseAnswer) → ReleaseGives (home_of s pool node) (home_room s pool node) by n a t u → IsStill
      by_answer (release.Full entries free) g = still_by _ g.1.state
      by_answer (release.Worn spent) g = still_by _ g.1.state
      by_answer release.Memory g = still_by _ g.1.state
      by_answer (release.Released number) g = still_by _ g.1.state

  pub grab_still : (node pool : ℕ) → DidGrab s by node pool x t u → IsStill
  grab_still node pool did = by_answer did.answer did.gives
    where
      by_answer : (a : GrabAnswer) → GrabGives (home_of s pool node) (home_room s pool node) by a t u → IsStill
      by_answer (grab.Worn spent) g = still_by _ g.1.state
      by_answer grab.Memory g = still_by _ g.1.state
      by_answer (grab.Grabbed number) g = still_by _ g.1.state
      by_answer (grab.Bare number) g = still_by _ g.1.state
