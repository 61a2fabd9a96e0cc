-- SPDX-License-Identifier: GPL-2.0-only
-- The versions that a worker's walks of the pools counted at one place, of a run.
use Rattle.shr_lawful.proofs.UnitsCommon.{◌≡◌, ℕ, zero, suc, ◌+◌, ◌<◌, ◌≤◌, ◌≢◌, ◌⊎◌, ⊎_elim, List, [], ◌∷◌, ◌++◌, length, map, flat_map, get_or, sym, refl, ap, subst, ◌∙◌, arith, slice_get, Option, Some, None, option_map, option_to_list, AllByRecursion, append-nil, map-append, PlainEntry, Place, Serial, Script, PlainTry, PlainWalk, IsPlaceOf, row_of, IsRecent, RoomCount, RoomView, part_at, PlainState, no_state, Report, serial_of, at, AreNotFalling, plain_of, units_cited_at, try_at, EachPlain, version_in, plain_versions, pool_sizes, home_of, UnitsStep, units_steps_of, AreChained, units_state_after, last_units_state, AreUnits}
use Rattle.std.proofs.lemmas.Grind.{flat_map-append}
use Rattle.shr_lawful.proofs.UnitLists.{IsIn, each_in}
use Rattle.shr_lawful.proofs.UnitPooling.{home_there, there_or_not}
use Rattle.shr_lawful.proofs.UnitAlong.{gained, gained_is, all_gained}
use Rattle.shr_lawful.proofs.UnitRooms.{Gains}
use Rattle.shr_lawful.proofs.UnitWalking.{inside, tried, try_there, count_version}
use Rattle.shr_lawful.proofs.UnitMaking.{seen_at, walks_at, gains_at, longer_seen, longer_walks}
use Rattle.shr_lawful.proofs.UnitCiting.{Cited, cited_step, made_before}
use Rattle.shr_lawful.proofs.UnitWalkRecords.{WalkOf, walk_of}
use Rattle.shr_lawful.proofs.UnitDueLaw.{flat_zero}

-- ---- what doesn't fall
abbrev pub NotFalling : List ℕ → Type 0
NotFalling [] = Unit {0}
NotFalling (n ∷ ns) = AllByRecursion (λ m. n ≤ m) ns × NotFalling ns

all_snoc : (m n : ℕ) (ns : List ℕ) → AllByRecursion (λ k. m ≤ k) ns → m ≤ n → AllByRecursion (λ k. m ≤ k) (ns ++ n ∷ [])
all_snoc m n [] h le = (le, tt)
all_snoc m n (k ∷ ns) h le = (h.0, all_snoc m n ns h.1 le)

pub not_falling_snoc : (n : ℕ) (ns : List ℕ) → NotFalling ns → AllByRecursion (λ k. k ≤ n) ns → NotFalling (ns ++ n ∷ [])
not_falling_snoc n [] h b = (tt, tt)
not_falling_snoc n (m ∷ ns) h b = (all_snoc m n ns h.0 b.0, not_falling_snoc n ns h.1 b.1)

pub adjacent : (ns : List ℕ) → NotFalling ns → AreNotFalling ns
adjacent [] h k d lt = absurd (omega (arith, lt))
adjacent (n ∷ []) h k d lt = absurd (omega (arith, lt))
adjacent (n ∷ m ∷ ns) h zero d lt = h.0.0
adjacent (n ∷ m ∷ ns) h (suc k) d lt = subst (λ i. get_or (m ∷ ns) k d ≤ get_or (n ∷ m ∷ ns) i d) (let z : suc (k + 1) ≡ suc k + 1 = omega arith in z) (adjacent (m ∷ ns) h.1 k d (omega (arith, lt)))

abbrev versions : List RoomCount → List ℕ
versions l = map (λ (c : RoomCount). c.version) l

all_below : (n : ℕ) (cs : List RoomCount) → ((c : RoomCount) → IsIn c cs → c.version ≤ n) → AllByRecursion (λ k. k ≤ n) (versions cs)
all_below n [] h = tt
all_below n (c ∷ cs) h = (h c (0, refl), all_below n cs (λ d is. h d (suc is.0, is.1)))

-- one count more, if there is one, after all others
one_more : (cs ds : List RoomCount) → length ds ≤ 1 → NotFalling (versions cs) → ((d : RoomCount) → IsIn d ds → (c : RoomCount) → IsIn c cs → c.version ≤ d.version) → NotFalling (versions (cs ++ ds))
one_more cs [] few h late = subst (λ l. NotFalling (versions l)) (sym (append-nil cs)) h
one_more cs (d ∷ []) few h late = subst NotFalling (sym (map-append (λ (c : RoomCount). c.version) cs (d ∷ []))) (not_falling_snoc d.version (versions cs) h (all_below d.version cs (late d (0, refl))))
one_more cs (d ∷ e ∷ ds) few h late = absurd (omega (arith, few))

-- the counts along a chain
along_counts : (i : ℕ) (t : PlainState) (mine : List UnitsStep) → AreChained t mine
    → ((k : ℕ) (x : UnitsStep) → slice_get mine k ≡ Some x → (ds : List RoomCount) × (length ds ≤ 1) × (seen_at i x.after ≡ seen_at i x.before ++ ds) × ((d : RoomCount) → IsIn d ds → (c : RoomCount) → IsIn c (seen_at i x.before) → c.version ≤ d.version))
    → NotFalling (versions (seen_at i t)) → NotFalling (versions (seen_at i (units_state_after t mine)))
along_counts i t [] c each h = h
along_counts i t (x ∷ xs) c each h = let e = each 0 x refl in
    along_counts i x.after xs c.1 (λ k y d. each (suc k) y d) (subst (λ l. NotFalling (versions l)) (sym e.2) (one_more (seen_at i x.before) e.0 e.1 (subst (λ (u : PlainState). NotFalling (versions (seen_at i u))) (sym c.0) h) e.3))

module _ (s : Script) (r : Report) (workers : List (List UnitsStep)) (run : AreUnits s r workers) where
  -- the versions of the walks at a place are those that were counted there
  same_versions : (p : Place) → IsPlaceOf (pool_sizes s) p → (i : ℕ) → i ≡ row_of (pool_sizes s) p → (mine : List UnitsStep) → ((k : ℕ) (x : UnitsStep) → slice_get mine k ≡ Some x → Gains s i x.by x.reply x.before x.after)
      → flat_map (plain_versions s p) (flat_map (gained walks_at) mine) ≡ versions (flat_map (gained (seen_at i)) mine)
  same_versions p there i room [] each = refl
  same_versions p there i room (x ∷ xs) each = let g = each 0 x refl in
      flat_map-append (plain_versions s p) (gained walks_at x) (flat_map (gained walks_at) xs)
      ∙ (ap (λ l. flat_map (plain_versions s p) l ++ flat_map (plain_versions s p) (flat_map (gained walks_at) xs)) (gained_is walks_at x g.walks.list g.walks.are)
      ∙ (ap (λ l. l ++ flat_map (plain_versions s p) (flat_map (gained walks_at) xs)) (g.versions p there room)
      ∙ (ap (λ l. versions g.counts ++ l) (same_versions p there i room xs (λ k y e. each (suc k) y e))
      ∙ (ap (λ l. versions l ++ versions (flat_map (gained (seen_at i)) xs)) (sym (gained_is (seen_at i) x g.counts g.seen))
      ∙ sym (map-append (λ (c : RoomCount). c.version) (gained (seen_at i) x) (flat_map (gained (seen_at i)) xs))))))

  pub versions_fall_not : (worker : ℕ) (place : Place) → AreNotFalling (flat_map (plain_versions s place) (plain_of r worker))
  versions_fall_not worker p = ⊎_elim within outside (there_or_not (pool_sizes s) p)
    where
      within : IsPlaceOf (pool_sizes s) p → AreNotFalling (flat_map (plain_versions s p) (plain_of r worker))
      within there = let i = row_of (pool_sizes s) p in
          subst AreNotFalling (sym (ap (flat_map (plain_versions s p)) (run.walks worker ∙ all_gained walks_at no_state (units_steps_of workers worker) (run.chained worker) (longer_walks s r workers run worker))
          ∙ (same_versions p there i refl (units_steps_of workers worker) (λ k x e. gains_at s r workers run worker i k x e)
          ∙ ap versions (sym (all_gained (seen_at i) no_state (units_steps_of workers worker) (run.chained worker) (longer_seen s r workers run worker i))))))
          (adjacent (versions (seen_at i (last_units_state (units_steps_of workers worker)))) (along_counts i no_state (units_steps_of workers worker) (run.chained worker) counts tt))
        where
          counts : (k : ℕ) (x : UnitsStep) → slice_get (units_steps_of workers worker) k ≡ Some x → (ds : List RoomCount) × (length ds ≤ 1) × (seen_at (row_of (pool_sizes s) p) x.after ≡ seen_at (row_of (pool_sizes s) p) x.before ++ ds)
              × ((d : RoomCount) → IsIn d ds → (c : RoomCount) → IsIn c (seen_at (row_of (pool_sizes s) p) x.before) → c.version ≤ d.version)
          counts k x e = let g = gains_at s r workers run worker (row_of (pool_sizes s) p) k x e in (g.counts, g.few, g.seen, λ d is c of. each_in (λ (z : RoomCount). z.version ≤ d.version) (seen_at (row_of (pool_sizes s) p) x.before) c (g.fresh d is).seen of)

      outside : (IsPlaceOf (pool_sizes s) p → ⊥) → AreNotFalling (flat_map (plain_versions s p) (plain_of r worker))
      outside out = subst AreNotFalling (sym (flat_zero (plain_versions s p) (plain_of r worker) none)) (λ k d lt. absurd (omega (arith, lt)))
        where
          none : (n : ℕ) (w : PlainWalk) → slice_get (plain_of r worker) n ≡ Some w → plain_versions s p w ≡ []
          none n w at = let of : WalkOf s r workers run worker n w = walk_of s r workers run worker n w at in ap (λ (o : Option PlainTry). option_to_list (option_map version_in o)) (ap (try_at s p) (sym of.own) ∙ no_try of (try_at s p of.did.gives.walk) refl)
            where
              no_try : (of : WalkOf s r workers run worker n w) → (o : Option PlainTry) → try_at s p of.did.gives.walk ≡ o → try_at s p of.did.gives.walk ≡ None
              no_try of None e = e
              no_try of (Some y) e = let h = try_there s of.step.by of.job of.step.before of.step.after of.did p y e in
                  absurd (out (subst (IsPlaceOf (pool_sizes s)) (sym h.0) (home_there s p.id of.job.node (inside s of.step.by of.job of.step.before of.step.after of.did p.id y h.1))))

  -- and they are above every entry that an earlier reply of the worker cites there
  pub later : EachPlain r (λ worker n w. (k entry : ℕ) (place : Place) → k < w.by.command → units_cited_at r (serial_of worker k) ≡ Some (at place entry) → AllByRecursion (λ version. entry < version) (plain_versions s place w))
  later worker n w at_w k entry place lt cited =
      let of : WalkOf s r workers run worker n w = walk_of s r workers run worker n w at_w in
      let by : w.by ≡ serial_of worker of.k = ap (λ (v : PlainWalk). v.by) (sym of.own) ∙ (of.did.gives.by_is ∙ (run.each worker of.k of.step of.at).by) in
      let before : k < of.k = let e = ap (λ (b : Serial). b.command) by in omega (arith, lt, e) in
      let c : Cited s r workers run worker k place entry = cited_step s r workers run worker k place entry cited in
      subst (λ (v : PlainWalk). AllByRecursion (λ version. entry < version) (plain_versions s place v)) of.own (by_try of before c (try_at s place of.did.gives.walk) refl)
    where
      by_try : (of : WalkOf s r workers run worker n w) → k < of.k → Cited s r workers run worker k place entry → (o : Option PlainTry) → try_at s place of.did.gives.walk ≡ o → AllByRecursion (λ version. entry < version) (plain_versions s place of.did.gives.walk)
      by_try of before c None e = subst (λ (o : Option PlainTry). AllByRecursion (λ version. entry < version) (option_to_list (option_map version_in o))) (sym e) tt
      by_try of before c (Some y) e =
          let h = try_there s of.step.by of.job of.step.before of.step.after of.did place y e in
          let t = tried s of.step.by of.job of.step.before of.step.after of.did place.id y h.1 in
          let fresh : IsRecent (part_at of.step.before.rooms (row_of (pool_sizes s) (home_of s place.id of.job.node))) t.gives.count.version = subst (λ (v : RoomView PlainEntry). IsRecent v t.gives.count.version) t.before t.gives.fresh in
          let recent : IsRecent (part_at of.step.before.rooms (row_of (pool_sizes s) place)) t.gives.count.version = subst (λ (q : Place). IsRecent (part_at of.step.before.rooms (row_of (pool_sizes s) q)) t.gives.count.version) (sym h.0) fresh in
          let below = made_before s r workers run worker k of.k place entry before c of.step of.at t.gives.count.version recent in
          let version = count_version s of.step.by of.job of.step.before of.step.after of.did of.step.reply place.id y h.1 in
          subst (λ (o : Option PlainTry). AllByRecursion (λ v. entry < v) (option_to_list (option_map version_in o))) (sym e) (omega (arith, below, version), tt)
