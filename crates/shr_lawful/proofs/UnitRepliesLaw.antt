-- SPDX-License-Identifier: GPL-2.0-only
-- The journals of pools that are printed, and the replies that cite them, of a run.
use Rattle.shr_lawful.proofs.UnitsCommon.{◌≡◌, ℕ, ◌+◌, ◌<◌, ◌≤◌, ◌⊎◌, ⊎_elim, true, false, List, [], ◌∷◌, ◌++◌, length, take, sym, refl, ap, subst, ◌∙◌, arith, length-append, slice_get, Option, Some, option_map, option_and_then, IsSomeAnd, AllByRecursion, take-append_seam, same_Some, none-some, UnitsEnd, PlainEntry, At, Place, Serial, Answered, Reply, Command, Release, Grab, Script, PassRecord, PlainWalk, free_of, IsPlaceOf, row_of, row_count, place_of_row, Begins, row_low, RoomMade, RoomView, part_at, GrabAnswer, ReleaseAnswer, Sees, Makes, ReleaseGives, GrabGives, units_end_value, PlainState, no_state, IsPoolOf, Report, at, EachAnswer, pool_place, units_journal, units_cited, units_cited_at, plain_at, pass_at, units_place, settings_of, pool_sizes, home_of, home_room, units_release_reply, units_grab_reply, IsOther, UnitsStep, units_steps_of, AreUnits, ⊤, IsPlainJournal, plain_by_of, EachUnits, AreUnitsRight, CitesUnits, IsTooFull, IsPoolReply, IsOfPlain}
use Rattle.shr_base.specs.declared.journals.PlainEntry.TheVariants as entry
use Rattle.shr_base.specs.declared.replies.Reply.TheVariants as reply
use Rattle.shr_plain.specs.declared.answers.GrabAnswer.TheVariants as grab
use Rattle.shr_plain.specs.declared.answers.ReleaseAnswer.TheVariants as release
use Rattle.shr_lawful.proofs.UnitStepKinds.{Kind, released, grabbed, walked, idle}
use Rattle.shr_lawful.proofs.UnitLists.{IsIn, in_right, by_slices, slice_begins, slice_seam}
use Rattle.shr_lawful.proofs.UnitPooling.{IsHome, home_there, pool_place_is, same_place, place_back, there_or_not}
use Rattle.shr_lawful.proofs.UnitAlong.{after_begins}
use Rattle.shr_lawful.proofs.UnitRooms.{MayMake, IsCited, IsReclaimed}
use Rattle.shr_lawful.proofs.UnitMaking.{made_at, walks_at, kind_at, longer_walks, made_is, known_is, stands, Stepped, stepped, Maker, maker, may_make}
use Rattle.shr_lawful.proofs.UnitPrinting.{IsBelow, printed, units_nowhere}
use Rattle.shr_lawful.proofs.UnitCiting.{sees_part, makes_part, journal_at}

-- a reply that says nothing of a pool has nothing to be asked
other_reply : (s : Script) (r : Report) (by : Serial) (c : Command) (x : Reply) → IsOther x → IsPoolReply s r by c x
other_reply s r by (Release node pool n) (reply.Released p k e) is = absurd is
other_reply s r by (Release node pool n) (reply.Full p k e f) is = absurd is
other_reply s r by (Release node pool n) x is = tt
other_reply s r by (Grab node pool) (reply.Grabbed p k e) is = absurd is
other_reply s r by (Grab node pool) (reply.Bare p k e) is = absurd is
other_reply s r by (Grab node pool) x is = tt
other_reply s r by c x is = tt

-- a journal with an entry has a first one
some_entry : (es : List PlainEntry) → 0 < length es → (e : PlainEntry) × (slice_get es 0 ≡ Some e)
some_entry [] lt = absurd (omega (arith, lt))
some_entry (e ∷ es) lt = (e, refl)

-- the place where an entry was made
home_made : (s : Script) (i : ℕ) (by : Serial) (x : Reply) (t u : PlainState) (m : RoomMade PlainEntry) (e : PlainEntry) → MayMake s i by x t u m e → (p : Place) × IsHome s p × (i ≡ row_of (pool_sizes s) p)
home_made s i by x t u m (entry.Release own n) h = (h.place, h.home, h.room)
home_made s i by x t u m (entry.Grab own got) h = (h.place, h.home, h.room)
home_made s i by x t u m (entry.Reclaim worker walk asked freed) h = (h.place, h.home, h.room)

module _ (s : Script) (r : Report) (workers : List (List UnitsStep)) (run : AreUnits s r workers) where
  -- ---- what is printed
  right : (j : ℕ) (u : UnitsEnd) → slice_get r.units.items j ≡ Some u → AreUnitsRight s u
  right j u at =
      let b : IsBelow (pool_sizes s) refl run.journal (row_count (pool_sizes s)) (units_end_value u) = printed (pool_sizes s) refl run.journal r run.units j u at in
      let first = some_entry (run.journal b.row) b.some_entry in
      let m = maker s r workers run b.row b.near 0 first.0 first.1 in
      let h = home_made s b.row m.step.by m.step.reply m.step.before m.step.after m.made first.0 (may_make s r workers run b.row 0 first.0 m) in
      of_home b h.0 h.1 h.2
    where
      of_home : (b : IsBelow (pool_sizes s) refl run.journal (row_count (pool_sizes s)) (units_end_value u)) → (p : Place) → IsHome s p → b.row ≡ row_of (pool_sizes s) p → AreUnitsRight s u
      of_home b p home row =
          let back : place_of_row (pool_sizes s) b.row ≡ p = ap (place_of_row (pool_sizes s)) row ∙ place_back (pool_sizes s) p home.there in
          let pool : u.pool ≡ p.id = b.pool ∙ ap (λ (q : Place). q.id) back in
          let node : u.node ≡ p.node = b.node ∙ ap (λ (q : Place). q.node) back in
          let here : units_place u ≡ p = λ i. record { id = pool i; node = node i; group = (let g = home.there.group in let z : 0 ≡ p.group = omega (arith, g) in z) i } in
          record {
            pool = let lt = home.pool in omega (arith, lt, pool);
            node = let lt = home.there.node in omega (arith, lt, node);
            home = subst (λ (q : Place). pool_place s q.id q.node ≡ q) (sym here) (sym (pool_place_is s p.id p.node) ∙ home.home);
            entries = subst IsPlainJournal (sym b.entries) (run.rooms b.row b.near).legal;
            free = b.free ∙ ap free_of (sym b.entries);
          }

  pub units : AllByRecursion (AreUnitsRight s) r.units.items
  units = by_slices (AreUnitsRight s) r.units.items right

  -- ---- replies
  cites : (worker k : ℕ) (x : UnitsStep) → slice_get (units_steps_of workers worker) k ≡ Some x → (node pool : ℕ) → IsPoolOf (settings_of s) (pool_sizes s) pool node → (journal : List PlainEntry) (e : PlainEntry) → Makes (home_room s pool node) x.before x.after journal e
      → (n : ℕ) → n ≡ length journal → CitesUnits s r pool node (home_of s pool node).id (home_of s pool node).node n e
  cites worker k x at_x node pool there journal e makes n is =
      let i = home_room s pool node in
      let m : RoomMade PlainEntry = record { number = length journal; entry = e } in
      let among : IsIn (record { number = length journal; entry = e }) (made_at i x.after) = subst (λ (v : RoomView PlainEntry). IsIn (record { number = length journal; entry = e }) v.made) (sym (makes_part i x.before x.after journal e makes))
      (in_right (part_at x.before.rooms i).made (record { number = length journal; entry = e } ∷ []) (record { number = length journal; entry = e }) (0, refl)) in
      record {
        place = pool_place_is s pool node;
        stands = ap (λ l. slice_get l n) (journal_at s r workers run (home_of s pool node) (home_there s pool node there)) ∙ (ap (slice_get (run.journal i)) is
            ∙ stands (run.journal i) m (made_is s r workers run worker i (row_low (pool_sizes s) (home_of s pool node) (home_there s pool node there)) k x at_x m among));
      }

  too_full : (worker k : ℕ) (x : UnitsStep) → slice_get (units_steps_of workers worker) k ≡ Some x → (node pool m : ℕ) → IsPoolOf (settings_of s) (pool_sizes s) pool node → (journal : List PlainEntry) → Sees (home_room s pool node) x.before x.after journal
      → (entries free : ℕ) → entries ≡ length journal → free ≡ free_of journal → 20000 < free + m → IsTooFull s r pool node m (home_of s pool node).id (home_of s pool node).node entries free
  too_full worker k x at_x node pool m there journal sees entries free is counted over =
      let i = home_room s pool node in
      let b : Begins journal (run.journal i) = subst (λ (v : RoomView PlainEntry). Begins v.known (run.journal i)) (sees_part i x.before x.after journal sees) (known_is s r workers run worker i (row_low (pool_sizes s) (home_of s pool node) (home_there s pool node there)) k x at_x) in
      let here = journal_at s r workers run (home_of s pool node) (home_there s pool node there) in
      let long = length-append journal b.0 in
      let whole : length (units_journal r (home_of s pool node)) ≡ length (journal ++ b.0) = ap (λ (l : List PlainEntry). length l) (here ∙ b.1) in
      record {
        place = pool_place_is s pool node;
        there = omega (arith, is, long, whole);
        counted = counted ∙ ap free_of (sym (ap (take entries) (here ∙ b.1) ∙ (ap (λ (n : ℕ). take n (journal ++ b.0)) is ∙ take-append_seam journal b.0)));
        full = over;
      }

  pool_reply : (worker k : ℕ) (x : UnitsStep) → slice_get (units_steps_of workers worker) k ≡ Some x → Kind s x.by x.command x.reply x.before x.after → IsPoolReply s r x.by x.command x.reply
  pool_reply worker k x at_x (released node pool m is due did) = subst (λ (c : Command). IsPoolReply s r x.by c x.reply) (sym is) (subst (IsPoolReply s r x.by (Release node pool m)) (sym did.told) (by_answer did.answer did.gives))
    where
      by_answer : (a : ReleaseAnswer) → ReleaseGives (home_of s pool node) (home_room s pool node) x.by m a x.before x.after → IsPoolReply s r x.by (Release node pool m) (units_release_reply (home_of s pool node) a)
      by_answer (release.Full es f) g = too_full worker k x at_x node pool m did.there g.0 g.1 es f g.2 g.3 g.4
      by_answer (release.Worn spent) g = tt
      by_answer release.Memory g = tt
      by_answer (release.Released n) g = cites worker k x at_x node pool did.there g.0 (entry.Release x.by m) g.1 n g.2
  pool_reply worker k x at_x (grabbed node pool is due did) = subst (λ (c : Command). IsPoolReply s r x.by c x.reply) (sym is) (subst (IsPoolReply s r x.by (Grab node pool)) (sym did.told) (by_answer did.answer did.gives))
    where
      by_answer : (a : GrabAnswer) → GrabGives (home_of s pool node) (home_room s pool node) x.by a x.before x.after → IsPoolReply s r x.by (Grab node pool) (units_grab_reply (home_of s pool node) a)
      by_answer (grab.Worn spent) g = tt
      by_answer grab.Memory g = tt
      by_answer (grab.Grabbed n) g = cites worker k x at_x node pool did.there g.0 (entry.Grab x.by true) g.1 n g.3
      by_answer (grab.Bare n) g = cites worker k x at_x node pool did.there g.0 (entry.Grab x.by false) g.1 n g.3
  pool_reply worker k x at_x (walked job due is did) = other_reply s r x.by x.command x.reply is
  pool_reply worker k x at_x (idle due is same) = other_reply s r x.by x.command x.reply is

  pub replies : EachAnswer s r (λ by c a. IsPoolReply s r by c a.reply)
  replies by c a command answer =
      let t : Stepped s r workers run by c a.reply = stepped s r workers run by c a.reply command (ap (option_map (λ (z : Answered). z.reply)) answer) in
      subst (λ (b : Serial). IsPoolReply s r b c a.reply) t.own (subst (λ (d : Command). IsPoolReply s r t.step.by d a.reply) t.command (subst (IsPoolReply s r t.step.by t.step.command) t.reply
      (pool_reply by.worker by.command t.step t.at (kind_at s r workers run by.worker by.command t.step t.at))))

  -- ---- entries
  of_entry : (p : Place) (n : ℕ) (e : PlainEntry) → slice_get (units_journal r p) n ≡ Some e → IsPlaceOf (pool_sizes s) p × (slice_get (run.journal (row_of (pool_sizes s) p)) n ≡ Some e)
  of_entry p n e h = ⊎_elim (λ there. (there, ap (λ l. slice_get l n) (sym (journal_at s r workers run p there)) ∙ h))
      (λ out. absurd (none-some e (ap (λ l. slice_get l n) (sym (units_nowhere (pool_sizes s) refl run.journal r run.units p out)) ∙ h))) (there_or_not (pool_sizes s) p)

  told : (p : Place) (n : ℕ) → IsPlaceOf (pool_sizes s) p → (e : PlainEntry) (m : Maker s r workers run (row_of (pool_sizes s) p) n e) (own : Serial) → IsCited s (row_of (pool_sizes s) p) own m.step.by m.step.reply m.made → units_cited_at r own ≡ Some (at p n)
  told p n there e m own h =
      let place : h.place ≡ p = same_place (pool_sizes s) h.place p h.home.there there (sym h.room) in
      let is = run.each m.worker m.k m.step m.at in
      ap (λ (b : Serial). units_cited_at r b) (h.mine ∙ is.by) ∙ (ap (option_and_then units_cited) is.reply ∙ (h.cited ∙ ap (λ (a : At). Some a) (λ i. at (place i) (m.number i))))

  pub cited : EachUnits r (λ place n e. (by : Serial) → plain_by_of e ≡ Some by → units_cited_at r by ≡ Some (at place n))
  cited p n e h by own = let t = of_entry p n e h in by_entry t.0 e (maker s r workers run (row_of (pool_sizes s) p) (row_low (pool_sizes s) p t.0) n e t.1) own
    where
      by_entry : IsPlaceOf (pool_sizes s) p → (e : PlainEntry) → Maker s r workers run (row_of (pool_sizes s) p) n e → plain_by_of e ≡ Some by → units_cited_at r by ≡ Some (at p n)
      by_entry there (entry.Release b many) m own = subst (λ (z : Serial). units_cited_at r z ≡ Some (at p n)) (same_Some b by own) (told p n there (entry.Release b many) m b (may_make s r workers run (row_of (pool_sizes s) p) n (entry.Release b many) m))
      by_entry there (entry.Grab b got) m own = subst (λ (z : Serial). units_cited_at r z ≡ Some (at p n)) (same_Some b by own) (told p n there (entry.Grab b got) m b (may_make s r workers run (row_of (pool_sizes s) p) n (entry.Grab b got) m))
      by_entry there (entry.Reclaim worker walk asked freed) m own = absurd (none-some by own)

  -- the walk that a reclaim is of
  walk_there : (worker k : ℕ) (x : UnitsStep) → slice_get (units_steps_of workers worker) k ≡ Some x → (w : PlainWalk) → x.after.walks ≡ x.before.walks ++ w ∷ [] → plain_at r worker (length x.before.walks) ≡ Some w
  walk_there worker k x at_x w are = ap (λ l. slice_get l (length x.before.walks)) (run.walks worker)
      ∙ slice_begins (walks_at x.after) _ (length x.before.walks) w (after_begins walks_at no_state (units_steps_of workers worker) (run.chained worker) (longer_walks s r workers run worker) k x at_x)
      (ap (λ l. slice_get l (length x.before.walks)) are ∙ slice_seam x.before.walks [] w)

  pub no_others : EachUnits r (λ place n e. IsOfPlain s r place e)
  no_others p n e h = let t = of_entry p n e h in by_entry t.0 e (maker s r workers run (row_of (pool_sizes s) p) (row_low (pool_sizes s) p t.0) n e t.1)
    where
      by_entry : IsPlaceOf (pool_sizes s) p → (e : PlainEntry) → Maker s r workers run (row_of (pool_sizes s) p) n e → IsOfPlain s r p e
      by_entry there (entry.Release b many) m = tt
      by_entry there (entry.Grab b got) m = tt
      by_entry there (entry.Reclaim worker walk asked freed) m =
          let h : IsReclaimed s (row_of (pool_sizes s) p) m.step.by m.step.before m.step.after worker walk = may_make s r workers run (row_of (pool_sizes s) p) n (entry.Reclaim worker walk asked freed) m in
          let place : h.place ≡ p = same_place (pool_sizes s) h.place p h.home.there there (sym h.room) in
          let own : worker ≡ m.worker = h.own ∙ ap (λ (b : Serial). b.worker) (run.each m.worker m.k m.step m.at).by in
          let walk_is : plain_at r worker walk ≡ Some h.made = ap (λ (v : ℕ). plain_at r v walk) own ∙ (ap (plain_at r m.worker) h.number ∙ walk_there m.worker m.k m.step m.at h.made h.walks) in
          let passed : pass_at s p h.made ≡ Some h.pass = ap (λ (q : Place). pass_at s q h.made) (sym place) ∙ h.passed in
          subst (λ (o : Option PlainWalk). IsSomeAnd o (λ w. IsSomeAnd (pass_at s p w) (λ q. ⊤))) (sym walk_is) (subst (λ (o : Option PassRecord). IsSomeAnd o (λ q. ⊤)) (sym passed) tt)
