-- SPDX-License-Identifier: GPL-2.0-only
-- Each walk of the pools in the report of a run is lawful.
use Rattle.shr_lawful.proofs.UnitsCommon.{◌≡◌, ℕ, zero, suc, ◌+◌, ◌<◌, ◌≤◌, ◌≢◌, ◌⊎◌, inl, inr, ⊎_elim, Bool, true, false, cond, List, [], ◌∷◌, ◌++◌, length, map, take, sym, refl, ap, subst, ◌∙◌, arith, length-append, eqb, slice_get, Some, sum_by, sum, nat_le, ◌==◌, ◌^◌, AllByRecursion, enumerate_from, take-append_seam, eqb-true, leb-true, same_Some, none-some, slice_get_within, PlainEntry, Place, Serial, Spent, PoolDecl, Script, PassRecord, PlainAnswer, PlainTry, Empty, Skip, Ran, PlainWalk, free_of, IsPlaceOf, row_count, total, Begins, row_low, begins_more, Count, ScanSeen, MatchPass, count_of, CountsPrefix, RoomMade, RoomCount, RoomView, part_at, Setting, IsJournalWorn, units_kind, units_scan_by, scans_of, setting_by, settings_of, pool_sizes, units, setting_of, Answers, answer_of, Report, IsPoolSpent, pass_in, pool_place, units_journal, EachPlain, version_in, ReclaimMade, reclaim_by, reclaims_by, home_of, home_room, DidPoolWalk, UnitsStep, AreUnits, replicate, All, append_cancel_left, sum-map, get_or_from_slice_get, asked_of, scan_freed, AreCut, AreScans, EndsBy, TryHadMemory, try_lacked_memory, EachTry, HasTries, plain_told, len_in, freed_in_try, IsPlainCount, IsKind, IsPlainEnding, IsPlainPass, IsPlainLawful}
use Rattle.shr_base.specs.declared.journals.PlainEntry.TheVariants as entry
use Rattle.shr_base.specs.declared.walks.Ending.{Ending}
use Rattle.shr_base.specs.declared.walks.Ending.TheVariants as ending
use Rattle.shr_base.specs.declared.walks.PlainAnswer.TheVariants.{Walked, Memory}
use Rattle.shr_model.specs.Pass.{batch_of, total_of, ask_size, due, FollowsArithmetic}
use Rattle.shr_pass.specs.declared.answers.Count.TheVariants as counted
use Rattle.shr_plain.specs.Walks as plain
use Rattle.shr_lawful.proofs.UnitLists.{IsIn, in_right, by_slices, total_on, sum_total, length_total, each_in, all_in}
use Rattle.shr_lawful.proofs.UnitPooling.{home_there, settings_length}
use Rattle.shr_lawful.proofs.UnitTries.{TriedAt}
use Rattle.shr_lawful.proofs.UnitWalking.{walk, across, inside, tried, after_is, count_version, try_place}
use Rattle.shr_lawful.proofs.UnitMaking.{gains_at, seen_is, known_is}
use Rattle.shr_lawful.proofs.UnitCiting.{journal_at}
use Rattle.shr_lawful.proofs.UnitWornLaw.{pool_spent}
use Rattle.shr_lawful.proofs.UnitReclaims.{kept_in, kept_has, scan_is, enumerated, reclaim_is}
use Rattle.shr_lawful.proofs.UnitWalkRecords.{WalkOf, walk_of, more, reclaims_weigh, OfStep, of_step}
use Rattle.shr_model.proofs.GroupsLaws.{above_zero}
use Rattle.shr_model.proofs.Booleans.{above_of}

-- ---- the answer of a walk
has_tries : (pools : ℕ) (tries : List PlainTry) (a : PlainAnswer) → Answers pools tries a → HasTries pools a (length tries)
has_tries pools tries (Walked freed) h = h.0
has_tries pools tries (Memory freed) h = h.0

freed_same : (x : PlainTry) → plain.units_freed x ≡ freed_in_try x
freed_same (Empty version) = refl
freed_same (Skip len version) = refl
freed_same (Ran p) = refl

sums_same : (tries : List PlainTry) → sum_by plain.units_freed tries ≡ sum_by freed_in_try tries
sums_same tries = sum_total plain.units_freed tries ∙ (total_on plain.units_freed freed_in_try tries (λ x is. freed_same x) ∙ sym (sum_total freed_in_try tries))

told_freed : (pools : ℕ) (tries : List PlainTry) (a : PlainAnswer) → Answers pools tries a → plain_told a ≡ sum_by freed_in_try tries
told_freed pools tries (Walked freed) h = h.2 ∙ sums_same tries
told_freed pools tries (Memory freed) h = h.2 ∙ sums_same tries

-- a try that ended for want of memory is the last of a walk that memory ended
had_memory : (tries : List PlainTry) (k : ℕ) (x : PlainTry) → All TryHadMemory tries → slice_get tries k ≡ Some x → try_lacked_memory x ≡ true → ⊥
had_memory tries k x all at lacked = let had : try_lacked_memory x ≡ false = subst TryHadMemory (get_or_from_slice_get tries k x x at) (all k x (slice_get_within tries k x at)) in let f : true ≡ false = sym lacked ∙ had in cc

slice_front : {A : Type 0} (xs : List A) (y : A) (k : ℕ) (x : A) → slice_get (xs ++ y ∷ []) k ≡ Some x → (slice_get xs k ≡ Some x) ⊎ (k ≡ length xs)
slice_front [] y zero x e = inr refl
slice_front [] y (suc k) x e = absurd (none-some x e)
slice_front (z ∷ xs) y zero x e = inl e
slice_front (z ∷ xs) y (suc k) x e = ⊎_elim (λ a. inl a) (λ b. inr (omega (arith, b))) (slice_front xs y k x e)

cut_last : (tries : List PlainTry) → AreCut tries → (k : ℕ) (x : PlainTry) → slice_get tries k ≡ Some x → try_lacked_memory x ≡ true → length tries ≡ k + 1
cut_last tries (inl none) k x at lacked = absurd (none-some x (ap (λ l. slice_get l k) (sym none) ∙ at))
cut_last tries (inr c) k x at lacked =
    let long : length tries ≡ length c.0 + 1 = ap (λ (l : List PlainTry). length l) c.2 ∙ length-append c.0 (c.1 ∷ []) in
    ⊎_elim (λ front. absurd (had_memory c.0 k x c.3 front lacked)) (λ last. omega (arith, long, last)) (slice_front c.0 c.1 k x (ap (λ l. slice_get l k) (sym c.2) ∙ at))

no_room : (p : PassRecord) → p.ending ≡ ending.NoRoom → try_lacked_memory (Ran p) ≡ true
no_room p e = ap plain.is_no_room e

last_try : (pools : ℕ) (tries : List PlainTry) (a : PlainAnswer) → Answers pools tries a → (k : ℕ) (p : PassRecord) → slice_get tries k ≡ Some (Ran p) → p.ending ≡ ending.NoRoom → ((freed : ℕ) × (a ≡ Memory freed)) × (length tries ≡ k + 1)
last_try pools tries (Walked freed) h k p at e = absurd (had_memory tries k (Ran p) h.1 at (no_room p e))
last_try pools tries (Memory freed) h k p at e = ((freed, refl), cut_last tries h.1 k (Ran p) at (no_room p e))

-- ---- the count of a try
abbrev len_of : Count → ℕ
len_of (counted.Empty version) = 0
len_of (counted.Skip len version) = len
len_of (counted.Many len version) = len

kind_len : (floor : ℕ) (c : RoomCount) → len_of (units_kind floor c) ≡ c.len
kind_len floor c = by_tests (c.len == 0) (nat_le c.len floor) refl where
  by_tests : (a b : Bool) → (c.len == 0) ≡ a → len_of (cond a (counted.Empty c.version) (cond b (counted.Skip c.len c.version) (counted.Many c.len c.version))) ≡ c.len
  by_tests true b e = sym (eqb-true c.len 0 e)
  by_tests false true e = refl
  by_tests false false e = refl

try_len : (x : PlainTry) → len_of (count_of (answer_of x)) ≡ len_in x
try_len (Empty version) = refl
try_len (Skip len version) = refl
try_len (Ran p) = refl

abbrev kind_number : Count → ℕ
kind_number (counted.Empty version) = 0
kind_number (counted.Skip len version) = 1
kind_number (counted.Many len version) = 2

-- a count of the second kind is from 1 to the floor, one of the third is above it
skip_is : (floor : ℕ) (c : RoomCount) → kind_number (units_kind floor c) ≡ 1 → (0 < c.len) × (c.len ≤ floor)
skip_is floor c = by_tests (c.len == 0) (nat_le c.len floor) refl refl where
  by_tests : (a b : Bool) → (c.len == 0) ≡ a → nat_le c.len floor ≡ b → kind_number (cond a (counted.Empty c.version) (cond b (counted.Skip c.len c.version) (counted.Many c.len c.version))) ≡ 1 → (0 < c.len) × (c.len ≤ floor)
  by_tests true b e f h = absurd (omega (arith, h))
  by_tests false true e f h = (above_zero c.len e, leb-true c.len floor f)
  by_tests false false e f h = absurd (omega (arith, h))

many_is : (floor : ℕ) (c : RoomCount) → kind_number (units_kind floor c) ≡ 2 → floor < c.len
many_is floor c = by_tests (c.len == 0) (nat_le c.len floor) refl refl where
  by_tests : (a b : Bool) → (c.len == 0) ≡ a → nat_le c.len floor ≡ b → kind_number (cond a (counted.Empty c.version) (cond b (counted.Skip c.len c.version) (counted.Many c.len c.version))) ≡ 2 → floor < c.len
  by_tests true b e f h = absurd (omega (arith, h))
  by_tests false true e f h = absurd (omega (arith, h))
  by_tests false false e f h = above_of c.len floor f

setting_at : (ds : List PoolDecl) (k : ℕ) (d : PoolDecl) → slice_get ds k ≡ Some d → setting_of (map setting_by ds) k ≡ setting_by d
setting_at [] k d e = absurd (none-some d e)
setting_at (x ∷ ds) zero d e = ap setting_by (same_Some x d e)
setting_at (x ∷ ds) (suc k) d e = setting_at ds k d e

-- ---- asks of one size
asked_alike : (size : ℕ) (xs : List ScanSeen) → AllByRecursion (λ v. v ≡ size) (map asked_of xs) → AllByRecursion (λ (x : ScanSeen). x.asked ≡ size) xs
asked_alike size [] h = tt
asked_alike size (x ∷ xs) h = (h.0, asked_alike size xs h.1)

pub take_alike : (size m n : ℕ) → AllByRecursion (λ v. v ≡ size) (take m (replicate n size))
take_alike size zero n = tt
take_alike size (suc m) zero = tt
take_alike size (suc m) (suc n) = (refl, take_alike size m n)

constant : (size : ℕ) (xs : List ReclaimMade) (ys : List ScanSeen) → AllByRecursion (λ (x : ReclaimMade). x.asked ≡ size) xs → AllByRecursion (λ (y : ScanSeen). y.asked ≡ size) ys → length xs ≡ length ys → map (λ (x : ReclaimMade). x.asked) xs ≡ map asked_of ys
constant size [] [] a b e = refl
constant size [] (y ∷ ys) a b e = absurd (omega (arith, e))
constant size (x ∷ xs) [] a b e = absurd (omega (arith, e))
constant size (x ∷ xs) (y ∷ ys) a b e = let first : x.asked ≡ y.asked = a.0 ∙ sym b.0 in let rest = constant size xs ys a.1 b.1 (omega (arith, e)) in λ i. first i ∷ rest i

sum_map : (xs : List ScanSeen) → sum (map scan_freed xs) ≡ total (λ (x : ScanSeen). x.freed) xs
sum_map xs = sum-map scan_freed xs ∙ sum_total scan_freed xs

abbrev IsWornEnding : Ending → Type 0
IsWornEnding (ending.Worn x) = Unit {0}
IsWornEnding e = ⊥

abbrev spent_in : Spent → Ending → Spent
spent_in d (ending.Worn x) = x
spent_in d e = d

worn_same : (x y : Spent) → ending.Worn x ≡ ending.Worn y → x ≡ y
worn_same x y e = ap (spent_in x) e

module _ (s : Script) (r : Report) (workers : List (List UnitsStep)) (run : AreUnits s r workers) (worker n : ℕ) (w : PlainWalk) (of : WalkOf s r workers run worker n w) where
  abbrev did : DidPoolWalk s of.step.by of.job of.step.before of.step.after
  did = of.did

  abbrev made : PlainWalk
  made = of.did.gives.walk

  answers : Answers (length s.pools.items) made.tries.items made.answer
  answers = subst (λ (n : ℕ). Answers n made.tries.items made.answer) (settings_length s) (subst (Answers (length (settings_of s)) made.tries.items) (sym did.gives.answer_is) did.gives.answers)

  -- one of its tries, in its room
  module _ (k : ℕ) (d : PoolDecl) (y : PlainTry) (decl : slice_get s.pools.items k ≡ Some d) (at : slice_get made.tries.items k ≡ Some y) where
    abbrev place : Place
    place = home_of s k of.job.node

    abbrev i : ℕ
    i = home_room s k of.job.node

    there : IsPlaceOf (pool_sizes s) (home_of s k of.job.node)
    there = home_there s k of.job.node (inside s of.step.by of.job of.step.before of.step.after did k y at)

    low : home_room s k of.job.node < row_count (pool_sizes s)
    low = row_low (pool_sizes s) (home_of s k of.job.node) there

    abbrev t : TriedAt (settings_of s) (pool_sizes s) of.step.by (length of.step.before.walks) of.job.node of.job.priority (across s of.step.by of.job of.step.before of.step.after did) k y of.step.before did.gives.tried
    t = tried s of.step.by of.job of.step.before of.step.after did k y at

    abbrev count : RoomCount
    count = t.gives.count

    floor_is : (setting_of (settings_of s) k).floor ≡ d.floor
    floor_is = ap (λ (v : Setting). v.floor) (setting_at s.pools.items k d decl)

    kind : units_kind d.floor count ≡ count_of (answer_of y)
    kind = ap (λ (f : ℕ). units_kind f count) (sym floor_is) ∙ t.gives.kind

    here : units_journal r (home_of s k of.job.node) ≡ run.journal (home_room s k of.job.node)
    here = journal_at s r workers run (home_of s k of.job.node) there

    after : part_at of.step.after.rooms (home_room s k of.job.node) ≡ part_at t.last.rooms (home_room s k of.job.node)
    after = after_is s of.step.by of.job of.step.before of.step.after did of.step.reply k y at

    count_seen : CountsPrefix units (run.journal (home_room s k of.job.node)) count
    count_seen = seen_is s r workers run worker (home_room s k of.job.node) low of.k of.step of.at count
        (subst (λ (v : RoomView PlainEntry). IsIn count v.seen) (sym after) (subst (λ l. IsIn count l) (sym t.gives.seen) (in_right (part_at t.first.rooms (home_room s k of.job.node)).seen (count ∷ []) count (0, refl))))

    version : count.version ≡ version_in y
    version = count_version s of.step.by of.job of.step.before of.step.after did of.step.reply k y at

    counts : IsPlainCount r (home_of s k of.job.node) y
    counts =
        let c = count_seen in
        let long = length-append c.0 c.1 in
        let whole : length (units_journal r (home_of s k of.job.node)) ≡ length (c.0 ++ c.1) = ap (λ (l : List PlainEntry). length l) (here ∙ c.2) in
        let first : version_in y ≡ length c.0 = sym version ∙ c.3 in
        record {
          there = omega (arith, first, long, whole);
          len = sym (sym (kind_len d.floor count) ∙ (ap len_of kind ∙ try_len y)) ∙ (c.4 ∙ ap free_of (sym (ap (take (version_in y)) (here ∙ c.2) ∙ (ap (λ (m : ℕ). take m (c.0 ++ c.1)) first ∙ take-append_seam c.0 c.1))));
        }

    kinds : IsKind d y
    kinds = by_try y kind (sym (sym (kind_len d.floor count) ∙ (ap len_of kind ∙ try_len y))) where
      by_try : (z : PlainTry) → units_kind d.floor count ≡ count_of (answer_of z) → len_in z ≡ count.len → IsKind d z
      by_try (Empty v) e len = tt
      by_try (Skip l v) e len = let q = skip_is d.floor count (ap kind_number e) in (let a = q.0 in omega (arith, a, len), let b = q.1 in omega (arith, b, len))
      by_try (Ran p) e len = let q = many_is d.floor count (ap kind_number e) in omega (arith, q, len)

    -- its pass
    module _ (p : PassRecord) (ran : y ≡ Ran p) where
      abbrev list : List (RoomMade PlainEntry)
      list = t.gives.more

      follows : FollowsArithmetic of.job.priority d.seeks d.batch p
      follows = subst (λ (v : Setting). FollowsArithmetic of.job.priority v.seeks v.batch p) (setting_at s.pools.items k d decl)
          (subst (λ (z : PlainTry). MatchPass (answer_of z) (Unit {0}) (FollowsArithmetic of.job.priority (setting_of (settings_of s) k).seeks (setting_of (settings_of s) k).batch)) ran t.gives.follows)

      closed : p.closed ≡ 0
      closed = subst (λ (z : PlainTry). MatchPass (answer_of z) (Unit {0}) (λ q. q.closed ≡ 0)) ran t.gives.closed

      worn : (e : Ending) → EndsBy (home_of s k of.job.node) (part_at t.last.rooms (home_room s k of.job.node)) e → IsPlainEnding r (home_of s k of.job.node) e
      worn ending.Through h = tt
      worn ending.Stop h = h
      worn ending.NoRoom h = tt
      worn (ending.Worn x) h =
          let known : Begins (part_at t.last.rooms (home_room s k of.job.node)).known (run.journal (home_room s k of.job.node)) = subst (λ (v : RoomView PlainEntry). Begins v.known (run.journal (home_room s k of.job.node))) after (known_is s r workers run worker (home_room s k of.job.node) low of.k of.step of.at) in
          let a = ap (λ (l : List PlainEntry). length l) h.known.1 in
          let b = ap (λ (l : List PlainEntry). length l) known.1 in
          let c = length-append h.journal h.known.0 in
          let e = length-append (part_at t.last.rooms (home_room s k of.job.node)).known known.0 in
          let f = h.worn.full in
          let g = (run.rooms (home_room s k of.job.node) low).short in
          let m = ap (λ (l : List PlainEntry). length l) here in
          omega (arith, a, b, c, e, f, g, m)

      -- what it found used up
      spent_of : (e : Ending) → EndsBy (home_of s k of.job.node) (part_at t.last.rooms (home_room s k of.job.node)) e → (x : Spent) → e ≡ ending.Worn x → IsPoolSpent r (home_of s k of.job.node) x
      spent_of ending.Through h x e = absurd (subst IsWornEnding (sym e) tt)
      spent_of ending.Stop h x e = absurd h
      spent_of ending.NoRoom h x e = absurd (subst IsWornEnding (sym e) tt)
      spent_of (ending.Worn y) h x e =
          let known : Begins (part_at t.last.rooms (home_room s k of.job.node)).known (run.journal (home_room s k of.job.node)) = subst (λ (v : RoomView PlainEntry). Begins v.known (run.journal (home_room s k of.job.node))) after (known_is s r workers run worker (home_room s k of.job.node) low of.k of.step of.at) in
          pool_spent s r workers run (home_of s k of.job.node) there h.journal (begins_more h.journal (part_at t.last.rooms (home_room s k of.job.node)).known (run.journal (home_room s k of.job.node)) h.known known) x (subst (IsJournalWorn (home_of s k of.job.node) h.journal) (worn_same y x e) h.worn)

      worn_is : (x : Spent) → p.ending ≡ ending.Worn x → IsPoolSpent r (home_of s k of.job.node) x
      worn_is = spent_of p.ending (subst (λ (z : PlainTry). MatchPass (answer_of z) (Unit {0}) (λ q. EndsBy (home_of s k of.job.node) (part_at t.last.rooms (home_room s k of.job.node)) q.ending)) ran t.gives.ending)

      ended : IsPlainEnding r (home_of s k of.job.node) p.ending
      ended = worn p.ending (subst (λ (z : PlainTry). MatchPass (answer_of z) (Unit {0}) (λ q. EndsBy (home_of s k of.job.node) (part_at t.last.rooms (home_room s k of.job.node)) q.ending)) ran t.gives.ending)

      scans : AreScans of.job.priority (setting_by d) p (scans_of of.step.by.worker (length of.step.before.walks) list)
      scans = subst (λ (v : Setting). AreScans of.job.priority v p (scans_of of.step.by.worker (length of.step.before.walks) list)) (setting_at s.pools.items k d decl)
          (subst (λ (z : PlainTry). MatchPass (answer_of z) (list ≡ []) (λ q. AreScans of.job.priority (setting_of (settings_of s) k) q (scans_of of.step.by.worker (length of.step.before.walks) list))) ran t.gives.scans)

      -- the entries that the step made in the room are the pass's
      more_is : more s r workers run worker n w of (home_room s k of.job.node) ≡ list
      more_is = append_cancel_left (part_at of.step.before.rooms (home_room s k of.job.node)).made (more s r workers run worker n w of (home_room s k of.job.node)) list
          (sym (gains_at s r workers run worker (home_room s k of.job.node) of.k of.step of.at).made ∙ (ap (λ (v : RoomView PlainEntry). v.made) after ∙ (t.gives.made ∙ ap (λ (v : RoomView PlainEntry). v.made ++ list) t.before)))

      own : of.step.by.worker ≡ worker
      own = ap (λ (b : Serial). b.worker) (run.each worker of.k of.step of.at).by

      abbrev found : List ScanSeen
      found = scans_of worker n (more s r workers run worker n w of (home_room s k of.job.node))

      found_are : AreScans of.job.priority (setting_by d) p found
      found_are = subst (λ (l : List (RoomMade PlainEntry)). AreScans of.job.priority (setting_by d) p (scans_of worker n l)) (sym more_is)
          (subst (λ (v : ℕ). AreScans of.job.priority (setting_by d) p (scans_of v n list)) own (subst (λ (v : ℕ). AreScans of.job.priority (setting_by d) p (scans_of of.step.by.worker v list)) (sym of.number) scans))

      abbrev printed : List ReclaimMade
      printed = reclaims_by worker n (run.journal (home_room s k of.job.node))

      abbrev size : ℕ
      size = ask_size (batch_of d.batch) p.len (total_of p.len p.nr of.job.priority d.seeks)

      -- each that is printed is one of them
      from_step : (a : ReclaimMade) → IsIn a printed → OfStep s r workers run worker n w of (home_room s k of.job.node) low a
      from_step a is =
          let kept = kept_in (λ (e : ℕ × PlainEntry). reclaim_by worker n e.0 e.1) (enumerate_from 0 (run.journal (home_room s k of.job.node))) a is in
          let stand = enumerated 0 (run.journal (home_room s k of.job.node)) kept.0 kept.1 kept.2 in
          let e = reclaim_is worker n kept.1.0 kept.1.1 a kept.3 in
          let number : kept.1.0 ≡ kept.0 = let z = stand.1 in omega (arith, z) in
          let h : slice_get (run.journal (home_room s k of.job.node)) kept.1.0 ≡ Some (entry.Reclaim worker n e.0 e.1) = ap (slice_get (run.journal (home_room s k of.job.node))) number ∙ (stand.0 ∙ ap (λ (v : PlainEntry). Some v) e.2) in
          subst (OfStep s r workers run worker n w of (home_room s k of.job.node) low) (sym e.3) (of_step s r workers run worker n w of (home_room s k of.job.node) low kept.1.0 e.0 e.1 h)

      found_size : AllByRecursion (λ (x : ScanSeen). x.asked ≡ size) found
      found_size = asked_alike size found (subst (AllByRecursion (λ v. v ≡ size)) (sym found_are.asked) (take_alike size p.asks (due (batch_of d.batch) p.len (total_of p.len p.nr of.job.priority d.seeks))))

      printed_size : AllByRecursion (λ (x : ReclaimMade). x.asked ≡ size) printed
      printed_size = by_slices (λ (x : ReclaimMade). x.asked ≡ size) printed (λ j a e. one a (from_step a (j, e)))
        where
          one : (a : ReclaimMade) → OfStep s r workers run worker n w of (home_room s k of.job.node) low a → a.asked ≡ size
          one a o = of_scan (record { asked = a.asked; freed = a.freed }) (kept_has (units_scan_by worker n) (more s r workers run worker n w of (home_room s k of.job.node)) o.made (record { asked = a.asked; freed = a.freed }) o.among (scan_is worker n o.made a.asked a.freed o.entry)) refl
            where
              of_scan : (x : ScanSeen) → IsIn x found → x.asked ≡ a.asked → a.asked ≡ size
              of_scan x is e = sym e ∙ all_in (λ (z : ScanSeen). z.asked ≡ size) found x found_size is

      same_length : length printed ≡ length found
      same_length = length_total printed ∙ (reclaims_weigh s r workers run worker n w of (home_room s k of.job.node) low (λ a f. 1) ∙ sym (length_total found))

      late : (a : ReclaimMade) → IsIn a printed → p.version ≤ a.number
      late a is =
          let o = from_step a is in
          let low_version = each_in (λ (m : RoomMade PlainEntry). count.version ≤ m.number) list o.made t.gives.late (subst (λ (l : List (RoomMade PlainEntry)). IsIn o.made l) more_is o.among) in
          let v : count.version ≡ p.version = version ∙ ap version_in ran in
          let number = o.number in omega (arith, low_version, v, number)

      pass_is : IsPlainPass r (home_of s k of.job.node) d of.job.priority p (reclaims_by worker n (units_journal r (home_of s k of.job.node)))
      pass_is = subst (λ (l : List PlainEntry). IsPlainPass r (home_of s k of.job.node) d of.job.priority p (reclaims_by worker n l)) (sym here) (record {
        follows = follows;
        closed = closed;
        ending = ended;
        asked = constant size printed found printed_size found_size same_length ∙ found_are.asked;
        freed = sum_total (λ (x : ReclaimMade). x.freed) printed ∙ (reclaims_weigh s r workers run worker n w of (home_room s k of.job.node) low (λ a f. f) ∙ (sym (sum_map found) ∙ found_are.freed));
        later = by_slices (λ (x : ReclaimMade). p.version ≤ x.number) printed (λ j a e. late a (j, e));
      })

  made_worn : EachTry s made (λ pool place d x. (p : PassRecord) → pass_in x ≡ Some p → (y : Spent) → p.ending ≡ ending.Worn y → IsPoolSpent r place y)
  made_worn pool d x decl at p passed y e = subst (λ (q : Place). IsPoolSpent r q y) (try_place s of.step.by of.job of.step.before of.step.after did pool) (worn_is pool d x decl at p (ran_is x p passed) y e)
    where
      ran_is : (z : PlainTry) (q : PassRecord) → pass_in z ≡ Some q → z ≡ Ran q
      ran_is (Empty version) q h = absurd (none-some q h)
      ran_is (Skip len version) q h = absurd (none-some q h)
      ran_is (Ran v) q h = ap Ran (same_Some v q h)

  -- the walk that was made is lawful
  made_lawful : IsPlainLawful s r worker n made
  made_lawful = record {
    tries = has_tries (length s.pools.items) made.tries.items made.answer answers;
    counts = λ pool d x decl at. subst (λ (q : Place). IsPlainCount r q x) (there_is pool) (counts pool d x decl at);
    kinds = λ pool d x decl at. kinds pool d x decl at;
    passes = λ pool d x decl at p ran. subst (λ (v : ℕ). IsPlainPass r (pool_place s pool made.node) d v p (reclaims_by worker n (units_journal r (pool_place s pool made.node)))) (sym did.gives.priority_is)
        (subst (λ (q : Place). IsPlainPass r q d of.job.priority p (reclaims_by worker n (units_journal r q))) (there_is pool) (pass_is pool d x decl at p ran));
    cut = λ pool d x decl at p ran no. let l = last_try (length s.pools.items) made.tries.items made.answer answers pool p (at ∙ ap (λ (z : PlainTry). Some z) ran) no in record { cut = l.0; last = l.1 };
    freed = told_freed (length s.pools.items) made.tries.items made.answer answers;
  }
    where
      there_is : (pool : ℕ) → home_of s pool of.job.node ≡ pool_place s pool made.node
      there_is pool = try_place s of.step.by of.job of.step.before of.step.after did pool

pub walks_lawful : (s : Script) (r : Report) (workers : List (List UnitsStep)) → AreUnits s r workers → EachPlain r (IsPlainLawful s r)
walks_lawful s r workers run worker n w at = let of = walk_of s r workers run worker n w at in subst (IsPlainLawful s r worker n) of.own (made_lawful s r workers run worker n w of)

-- a pass of a pool is worn only if the pool's journal was used up
pub plain_worn : (s : Script) (r : Report) (workers : List (List UnitsStep)) → AreUnits s r workers
    → EachPlain r (λ worker n w. EachTry s w (λ pool place d x. (p : PassRecord) → pass_in x ≡ Some p → (y : Spent) → p.ending ≡ ending.Worn y → IsPoolSpent r place y))
plain_worn s r workers run worker n w at = let of = walk_of s r workers run worker n w at in
    subst (λ (v : PlainWalk). EachTry s v (λ pool place d x. (p : PassRecord) → pass_in x ≡ Some p → (y : Spent) → p.ending ≡ ending.Worn y → IsPoolSpent r place y)) of.own (made_worn s r workers run worker n w of)
