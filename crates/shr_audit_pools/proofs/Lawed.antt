-- SPDX-License-Identifier: GPL-2.0-only
-- The fields of the law on pools, put together.
use Rattle.shr_audit_pools.proofs.Common.{◌≡◌, ◌≢◌, ◌⊎◌, inl, inr, ℕ, zero, suc, ◌+◌, ◌-◌, ◌<◌, ◌≤◌, Bool, true, false, cond, List, [], ◌∷◌, ◌++◌, length, get_or, take, drop, map, Option, Some, None, refl, sym, ap, subst, ◌∙◌, arith, flat_map, option_and_then, option_map, option_to_list, slice_get, Decides, AllByRecursion, drop_more, get_or_append_left, length-append, take-append-drop, take_all, take_more, IsNonDecreasingBy-from_all_adjacent, all_adjacent_from_non_decreasing, flat_map-append, get_or-append_seam, get_or_from_slice_get, same_Some, slice_get_within, PlaceAmount, UnitsEnd, WorkerPart, At, Place, Answered, Reply, Script, PlainAnswer, PlainTry, PlainWalk, is_place_same, is_place_itself, is_place, Report, HasNumbers, at, AreUnitsRight, HasTries, IsPlainLawful, IsPoolReply, plain_versions, version_in, EachUnits, units_place_at, pool_place, units_cited, IsPlaceUpTo, IsPoolAmountWell, IsWellFormed, units_place, each_in, fails, lists_of, IsEntryRight, AreJournalsRight, AreUpTo, IsPartVersed, cited_or_next, cited_at_reply, ArePoolWordsRight, units_key, IsNonDecreasingBy-push, AreUnitsNumbered, answers_in, reply_at, serial_of, EachAnswer, ArePoolsLawful, EachPlain, plain_by, plain_due, plain_in, plain_job_of, plain_of, units_cited_at, AreNotFalling, AreAllRising, AreAllVersed, HaveFewTries, AreKept}
use Rattle.shr_base.specs.declared.replies.Reply.TheVariants.{Released, Full, Grabbed, Bare}
use Rattle.shr_base.specs.declared.walks.PlainAnswer.TheVariants.{Walked, Memory}
use Rattle.shr_audit_pools.specs.Due.{IsDue}
use Rattle.shr_audit_pools.specs.Law.{AreCitesRight, AreWalksRight}
use Rattle.shr_audit_pools.proofs.Versed.{versions_push}

-- ---- the journals

key_before : (u v : UnitsEnd) → u.node < 256 → v.node < 256 → IsPlaceUpTo (units_place u) (units_place v) → units_place u ≢ units_place v → units_key u < units_key v
key_before u v a b (inl (inl id)) apart = omega (arith, a, b, id)
key_before u v a b (inl (inr (id, inl node))) apart = omega (arith, id, node)
key_before u v a b (inl (inr (id, inr (node, none)))) apart = absurd (omega (arith, none))
key_before u v a b (inr same) apart = absurd (apart same)

pub kept_from : (s : Script) (r : Report) → IsWellFormed r → HasNumbers r → AreJournalsRight s r → AreKept r
kept_from s r well numbers h =
    let numbered = each_in AreUnitsNumbered r.units.items numbers.units in
    record {
      shelved = record {
        rising = λ n u v at there.
            let a = (numbered n u at).node in let b = (numbered (n + 1) v there).node in
            key_before u v (omega (arith, a)) (omega (arith, b)) ((lists_of r well).1.1.1 n u v at there) (λ same. absurd (let e = h.once n (n + 1) u v at there same in omega (arith, e)));
        narrow = λ n u at. let a = (numbered n u at).node in omega (arith, a);
      };
      journals = λ n u at. (each_in (AreUnitsRight s) r.units.items h.units n u at).entries;
      numbered = numbered;
    }

-- ---- what replies cite

none_some : {X : Type 0} (x : X) → ◌≡◌ {A = Option X} None (Some x) → ⊥
none_some x e = cc

same_at : (p q : Place) (n m : ℕ) → ◌≡◌ {A = Option At} (Some (at p n)) (Some (at q m)) → p ≡ q
same_at p q n m e = ap (λ (x : At). x.place) (same_Some (at p n) (at q m) e)

own_place : (pool node : ℕ) (q : Place) → units_place_at pool node ≡ q → q ≡ units_place_at q.id q.node
own_place pool node q e = subst (λ (x : Place). x ≡ units_place_at x.id x.node) e refl

-- a reply cites an entry of a place without a group
placed : (x : Reply) (place : Place) (n : ℕ) → units_cited x ≡ Some (at place n) → place ≡ units_place_at place.id place.node
placed (Released pool node entry) place n e = own_place pool node place (same_at (units_place_at pool node) place entry n e)
placed (Grabbed pool node entry) place n e = own_place pool node place (same_at (units_place_at pool node) place entry n e)
placed (Bare pool node entry) place n e = own_place pool node place (same_at (units_place_at pool node) place entry n e)
placed x place n e = absurd (none_some (at place n) e)

-- what a reply asks for is what it cites, or what it found full
pub record IsFullOf (x : Reply) (y : At) : Type 0 where
  pub free : ℕ
  pub is : x ≡ Full y.place.id y.place.node y.entry free

asked_cases : (x : Reply) (y : At) → cited_or_next x ≡ Some y → (units_cited x ≡ Some y) ⊎ IsFullOf x y
asked_cases (Full pool node entries free) y e =
    let same : at (units_place_at pool node) entries ≡ y = same_Some (at (units_place_at pool node) entries) y e in
    inr (record { free = free; is = ap (λ (z : At). Full z.place.id z.place.node z.entry free) same })
asked_cases x y e = inl e

cited_by : {P : Type 0} (answers : List Answered) (k : ℕ) (y : At) → cited_at_reply answers k ≡ Some y → ((a : Answered) → slice_get answers k ≡ Some a → units_cited a.reply ≡ Some y → P) → P
cited_by {P} answers k y e then = by (slice_get answers k) refl e
  where
    by : (o : Option Answered) → slice_get answers k ≡ o → option_and_then units_cited (option_map (λ (a : Answered). a.reply) o) ≡ Some y → P
    by None here f = absurd (none_some y f)
    by (Some a) here f = then a here f

replied_by : {P : Type 0} (answers : List Answered) (k : ℕ) (x : Reply) → option_map (λ (a : Answered). a.reply) (slice_get answers k) ≡ Some x → ((a : Answered) → slice_get answers k ≡ Some a → a.reply ≡ x → P) → P
replied_by {P} answers k x e then = by (slice_get answers k) refl e
  where
    by : (o : Option Answered) → slice_get answers k ≡ o → option_map (λ (a : Answered). a.reply) o ≡ Some x → P
    by None here f = absurd (none_some x f)
    by (Some a) here f = then a here (same_Some a.reply x f)

cited_from : (answers : List Answered) (k : ℕ) (a : Answered) (y : At) → slice_get answers k ≡ Some a → units_cited a.reply ≡ Some y → cited_at_reply answers k ≡ Some y
cited_from answers k a y here e = ap (λ (o : Option Answered). option_and_then units_cited (option_map (λ (x : Answered). x.reply) o)) here ∙ e

-- the answers of a worker by its part
answers_at : (r : Report) (worker k : ℕ) (part : WorkerPart) → slice_get r.workers.items worker ≡ Some part → units_cited_at r (serial_of worker k) ≡ cited_at_reply part.answers.items k
answers_at r worker k part here = ap (λ (o : Option WorkerPart). cited_at_reply (answers_in o) k) here

reply_here : (r : Report) (worker k : ℕ) (part : WorkerPart) → slice_get r.workers.items worker ≡ Some part → reply_at r (serial_of worker k) ≡ option_map (λ (a : Answered). a.reply) (slice_get part.answers.items k)
reply_here r worker k part here = ap (λ (o : Option WorkerPart). option_map (λ (a : Answered). a.reply) (slice_get (answers_in o) k)) here

-- a worker that cites has a part
with_part : {P : Type 0} (r : Report) (worker k : ℕ) (y : At) → units_cited_at r (serial_of worker k) ≡ Some y → ((part : WorkerPart) → slice_get r.workers.items worker ≡ Some part → cited_at_reply part.answers.items k ≡ Some y → P) → P
with_part {P} r worker k y e then = by (slice_get r.workers.items worker) refl e
  where
    by : (o : Option WorkerPart) → slice_get r.workers.items worker ≡ o → cited_at_reply (answers_in o) k ≡ Some y → P
    by None here f = absurd (none_some y f)
    by (Some part) here f = then part here f

pub cites_decided : (s : Script) (r : Report) (b : Bool) → EachAnswer s r (λ by c a. IsPoolReply s r by c a.reply) → EachUnits r (IsEntryRight s r) → Decides b (AreAllRising r.workers.items) → Decides b (AreCitesRight s r)
cites_decided s r b replies entries d = (
  λ t. record { replies = replies; entries = entries; rise = rise (d.0 t); full = full (d.0 t) },
  λ h. d.1 (rising h),
)
  where
    moved : (answers : List Answered) (k n : ℕ) (place : Place) → place ≡ units_place_at place.id place.node → cited_at_reply answers k ≡ Some (at place n) → cited_at_reply answers k ≡ Some (at (units_place_at place.id place.node) n)
    moved answers k n place own e = e ∙ ap (λ (q : Place). Some (at q n)) own

    rise : AreAllRising r.workers.items → (worker k later : ℕ) (place : Place) (n m : ℕ) → k < later → units_cited_at r (serial_of worker k) ≡ Some (at place n) → units_cited_at r (serial_of worker later) ≡ Some (at place m) → n < m
    rise up worker k later place n m lt first then = with_part r worker later (at place m) then (λ part here cited.
        cited_by part.answers.items later (at place m) cited (λ a at_later own.
        let q = placed a.reply place m own in
        let asked : cited_or_next a.reply ≡ Some (at place m) = asked_cited a.reply (at place m) own in
        up worker part here later a at_later place.id place.node m (asked ∙ ap (λ (x : Place). Some (at x m)) q) k n lt
        (moved part.answers.items k n place q (sym (answers_at r worker k part here) ∙ first))))
      where
        asked_cited : (x : Reply) (y : At) → units_cited x ≡ Some y → cited_or_next x ≡ Some y
        asked_cited (Full pool node entries free) y e = absurd (none_some y e)
        asked_cited x y e = e

    full : AreAllRising r.workers.items → (worker k later : ℕ) (place : Place) (n entries free : ℕ) → k < later → units_cited_at r (serial_of worker k) ≡ Some (at place n) → reply_at r (serial_of worker later) ≡ Some (Full place.id place.node entries free) → n < entries
    full up worker k later place n entries free lt first then = with_part r worker k (at place n) first (λ part here cited.
        replied_by part.answers.items later (Full place.id place.node entries free) (sym (reply_here r worker later part here) ∙ then) (λ a at_later is.
        cited_by part.answers.items k (at place n) cited (λ x at_k own.
        up worker part here later a at_later place.id place.node entries (ap cited_or_next is) k n lt (moved part.answers.items k n place (placed x.reply place n own) cited))))

    rising : AreCitesRight s r → AreAllRising r.workers.items
    rising h worker part here k a at_k pool node n asked j i lt cited = by (asked_cases a.reply (at (units_place_at pool node) n) asked)
      where
        before : units_cited_at r (serial_of worker j) ≡ Some (at (units_place_at pool node) i)
        before = answers_at r worker j part here ∙ cited

        by : (units_cited a.reply ≡ Some (at (units_place_at pool node) n)) ⊎ IsFullOf a.reply (at (units_place_at pool node) n) → i < n
        by (inl own) = h.rise worker j k (units_place_at pool node) i n lt before (answers_at r worker k part here ∙ cited_from part.answers.items k a (at (units_place_at pool node) n) at_k own)
        by (inr f) = h.full worker j k (units_place_at pool node) i n f.free lt before (reply_here r worker k part here ∙ (ap (option_map (λ (x : Answered). x.reply)) at_k ∙ ap (λ (x : Reply). Some x) f.is))

-- ---- versions

falling_parts : (xs ys : List ℕ) (v : ℕ) → AreNotFalling (xs ++ v ∷ ys) → AllByRecursion (λ x. x ≤ v) xs
falling_parts xs ys v h = each xs (λ i lt.
    let all = IsNonDecreasingBy-from_all_adjacent (λ (n : ℕ). n) (xs ++ v ∷ ys) h in
    let count = length-append xs (v ∷ ys) in
    let more : length xs < length (xs ++ v ∷ ys) = whole count in
    let le = all i (length xs) 0 (omega (arith, lt)) more in
    let first = get_or_append_left xs (v ∷ ys) 0 i lt in
    let last = get_or-append_seam xs v ys 0 in omega (arith, le, first, last))
  where
    whole : length (xs ++ v ∷ ys) ≡ length xs + length (v ∷ ys) → length xs < length (xs ++ v ∷ ys)
    whole e = let some : 0 < length (v ∷ ys) = omega arith in omega (arith, e, some)

    each : (zs : List ℕ) → ((i : ℕ) → i < length zs → get_or zs i 0 ≤ v) → AllByRecursion (λ x. x ≤ v) zs
    each [] h = tt
    each (z ∷ zs) h = (h 0 (omega arith), each zs (λ i lt. h (suc i) (omega (arith, lt))))

all_at : (v i : ℕ) (xs : List ℕ) → AllByRecursion (λ x. x ≤ v) xs → i < length xs → (d : ℕ) → get_or xs i d ≤ v
all_at v i [] h lt d = absurd (omega (arith, lt))
all_at v zero (x ∷ xs) h lt d = h.0
all_at v (suc i) (x ∷ xs) h lt d = all_at v i xs h.1 (omega (arith, lt)) d

pushed : (xs : List ℕ) (o : Option ℕ) → AreNotFalling xs → ((v : ℕ) → o ≡ Some v → AllByRecursion (λ x. x ≤ v) xs) → AreNotFalling (xs ++ option_to_list o)
pushed xs None h last = subst AreNotFalling (sym (none xs)) h
  where
    none : (zs : List ℕ) → zs ++ [] ≡ zs
    none [] = refl
    none (z ∷ zs) = ap (λ (ys : List ℕ). z ∷ ys) (none zs)
pushed xs (Some v) h last =
    all_adjacent_from_non_decreasing (λ (n : ℕ). n) (xs ++ v ∷ []) (IsNonDecreasingBy-push (λ (n : ℕ). n) xs v (IsNonDecreasingBy-from_all_adjacent (λ (n : ℕ). n) xs h)
    (λ d some. all_at v (length xs - 1) xs (last v refl) (omega (arith, some)) d))

-- the version of a walk at a place is that of a try there
version_at : (s : Script) (w : PlainWalk) (place : Place) (P : ℕ → Type 0) → ((x : PlainTry) → place ≡ pool_place s place.id w.node → slice_get w.tries.items place.id ≡ Some x → P (version_in x))
    → (b : Bool) → is_place place (pool_place s place.id w.node) ≡ b → (o : Option PlainTry) → slice_get w.tries.items place.id ≡ o → (v : ℕ) → option_map version_in (cond b o None) ≡ Some v → P v
version_at s w place P h true own (Some x) here v e = subst P (same_Some (version_in x) v e) (h x (is_place_same place (pool_place s place.id w.node) own) here)
version_at s w place P h true own None here v e = absurd (none_some v e)
version_at s w place P h false other o here v e = absurd (none_some v e)

option_all : (P : ℕ → Type 0) (o : Option ℕ) → ((v : ℕ) → o ≡ Some v → P v) → AllByRecursion P (option_to_list o)
option_all P None h = tt
option_all P (Some v) h = (h v refl, tt)

-- a try of a walk is the one at its place
own_version : (s : Script) (w : PlainWalk) (pool : ℕ) (x : PlainTry) → slice_get w.tries.items pool ≡ Some x → plain_versions s (pool_place s pool w.node) w ≡ version_in x ∷ []
own_version s w pool x here = ap (λ (b : Bool). option_to_list (option_map version_in (cond b (slice_get w.tries.items pool) None))) (is_place_itself (pool_place s pool w.node)) ∙ ap (λ (o : Option PlainTry). option_to_list (option_map version_in o)) here

split_at : (walks : List PlainWalk) (n : ℕ) (w : PlainWalk) → slice_get walks n ≡ Some w → walks ≡ take n walks ++ w ∷ drop (n + 1) walks
split_at walks n w at_n =
    sym (take-append-drop n walks)
    ∙ (ap (λ (ws : List PlainWalk). take n walks ++ ws) (drop_more walks n w (slice_get_within walks n w at_n))
    ∙ ap (λ (x : PlainWalk). take n walks ++ x ∷ drop (n + 1) walks) (get_or_from_slice_get walks n w w at_n))

taken : (walks : List PlainWalk) (n : ℕ) (w : PlainWalk) → slice_get walks n ≡ Some w → take (n + 1) walks ≡ take n walks ++ w ∷ []
taken walks n w at_n = take_more walks n w (slice_get_within walks n w at_n) ∙ ap (λ (x : PlainWalk). take n walks ++ x ∷ []) (get_or_from_slice_get walks n w w at_n)

all_taken : (ws : List PlainWalk) (n : ℕ) → slice_get ws n ≡ None → take n ws ≡ take (suc n) ws
all_taken [] zero e = refl
all_taken [] (suc n) e = refl
all_taken (x ∷ xs) zero e = absurd (none_some x (sym e))
all_taken (x ∷ xs) (suc n) e = ap (λ (ys : List PlainWalk). x ∷ ys) (all_taken xs n e)

-- the versions of the first so many walks don't fall
not_falling : (s : Script) (part : WorkerPart) → IsPartVersed s part → (place : Place) (n : ℕ) → AreNotFalling (flat_map (plain_versions s place) (take n part.plain.items))
not_falling s part h place zero = subst (λ (ws : List PlainWalk). AreNotFalling (flat_map (plain_versions s place) ws)) (sym (none part.plain.items)) (λ k d lt. absurd (omega (arith, lt)))
  where
    none : (ws : List PlainWalk) → take 0 ws ≡ []
    none [] = refl
    none (x ∷ xs) = refl
not_falling s part h place (suc n) = by (not_falling s part h place n) (slice_get part.plain.items n) refl
  where
    next : take (suc n) part.plain.items ≡ take (n + 1) part.plain.items
    next = ap (λ (k : ℕ). take k part.plain.items) (let e : suc n ≡ n + 1 = omega arith in e)

    by : AreNotFalling (flat_map (plain_versions s place) (take n part.plain.items)) → (o : Option PlainWalk) → slice_get part.plain.items n ≡ o → AreNotFalling (flat_map (plain_versions s place) (take (suc n) part.plain.items))
    by before None past = subst (λ (ws : List PlainWalk). AreNotFalling (flat_map (plain_versions s place) ws)) (all_taken part.plain.items n past) before
    by before (Some w) at_n = subst (λ (ws : List PlainWalk). AreNotFalling (flat_map (plain_versions s place) ws)) (sym (next ∙ taken part.plain.items n w at_n))
        (subst AreNotFalling (sym (versions_push s place (take n part.plain.items) w))
        (pushed (flat_map (plain_versions s place) (take n part.plain.items)) (option_map version_in (cond (is_place place (pool_place s place.id w.node)) (slice_get w.tries.items place.id) None)) before
        (version_at s w place (λ v. AreUpTo s (take n part.plain.items) place v) (λ x own here. subst (λ (q : Place). AreUpTo s (take n part.plain.items) q (version_in x)) (sym own) (h n w at_n place.id x here).1)
        (is_place place (pool_place s place.id w.node)) refl (slice_get w.tries.items place.id) refl)))

falling_all : (s : Script) (part : WorkerPart) → IsPartVersed s part → (place : Place) → AreNotFalling (flat_map (plain_versions s place) part.plain.items)
falling_all s part h place = subst (λ (ws : List PlainWalk). AreNotFalling (flat_map (plain_versions s place) ws)) (take_all (length part.plain.items) part.plain.items (let e : length part.plain.items ≤ length part.plain.items = omega arith in e)) (not_falling s part h place (length part.plain.items))

-- the two fields of a worker
pub record IsPartLater (s : Script) (part : WorkerPart) : Type 0 where
  pub versions : (place : Place) → AreNotFalling (flat_map (plain_versions s place) part.plain.items)
  pub later : (n : ℕ) (w : PlainWalk) → slice_get part.plain.items n ≡ Some w → (k entry : ℕ) (place : Place) → k < w.by.command → cited_at_reply part.answers.items k ≡ Some (at place entry)
      → AllByRecursion (λ version. entry < version) (plain_versions s place w)

later_from : (s : Script) (part : WorkerPart) → IsPartVersed s part → IsPartLater s part
later_from s part h = record {
  versions = falling_all s part h;
  later = λ n w at_n k entry place lt cited.
      option_all (λ v. entry < v) (option_map version_in (cond (is_place place (pool_place s place.id w.node)) (slice_get w.tries.items place.id) None))
      (version_at s w place (λ v. entry < v) (λ x own here. (h n w at_n place.id x here).0 k entry lt (cited ∙ ap (λ (q : Place). Some (at q entry)) own))
      (is_place place (pool_place s place.id w.node)) refl (slice_get w.tries.items place.id) refl);
}

versed_from : (s : Script) (part : WorkerPart) → IsPartLater s part → IsPartVersed s part
versed_from s part h n w at_n pool x here = (
  λ k i lt cited. (subst (AllByRecursion (λ version. i < version)) (own_version s w pool x here) (h.later n w at_n k i (pool_place s pool w.node) lt cited)).0,
  falling_parts (flat_map (plain_versions s (pool_place s pool w.node)) (take n part.plain.items)) (flat_map (plain_versions s (pool_place s pool w.node)) (drop (n + 1) part.plain.items)) (version_in x)
      (subst AreNotFalling whole (h.versions (pool_place s pool w.node))),
)
  where
    whole : flat_map (plain_versions s (pool_place s pool w.node)) part.plain.items ≡ flat_map (plain_versions s (pool_place s pool w.node)) (take n part.plain.items) ++ version_in x ∷ flat_map (plain_versions s (pool_place s pool w.node)) (drop (n + 1) part.plain.items)
    whole =
        ap (flat_map (plain_versions s (pool_place s pool w.node))) (split_at part.plain.items n w at_n)
        ∙ (flat_map-append (plain_versions s (pool_place s pool w.node)) (take n part.plain.items) (w ∷ drop (n + 1) part.plain.items)
        ∙ ap (λ (vs : List ℕ). flat_map (plain_versions s (pool_place s pool w.node)) (take n part.plain.items) ++ (vs ++ flat_map (plain_versions s (pool_place s pool w.node)) (drop (n + 1) part.plain.items))) (own_version s w pool x here))

-- ---- the fields on walks

abbrev Versions : Script → Report → Type 0
Versions s r = (worker : ℕ) (place : Place) → AreNotFalling (flat_map (plain_versions s place) (plain_of r worker))

abbrev Later : Script → Report → Type 0
Later s r = EachPlain r (λ worker n w. (k entry : ℕ) (place : Place) → k < w.by.command → units_cited_at r (serial_of worker k) ≡ Some (at place entry) → AllByRecursion (λ version. entry < version) (plain_versions s place w))

all_versions : (s : Script) (r : Report) → AreAllVersed s r.workers.items → Versions s r
all_versions s r h worker place = by (slice_get r.workers.items worker) refl
  where
    by : (o : Option WorkerPart) → slice_get r.workers.items worker ≡ o → AreNotFalling (flat_map (plain_versions s place) (plain_in o))
    by None here = λ k d lt. absurd (omega (arith, lt))
    by (Some part) here = falling_all s part (h worker part here) place

all_later : (s : Script) (r : Report) → AreAllVersed s r.workers.items → Later s r
all_later s r h worker n w at_n k entry place lt cited = by (slice_get r.workers.items worker) refl at_n
  where
    by : (o : Option WorkerPart) → slice_get r.workers.items worker ≡ o → slice_get (plain_in o) n ≡ Some w → AllByRecursion (λ version. entry < version) (plain_versions s place w)
    by None here e = absurd (none_some w e)
    by (Some part) here e = (later_from s part (h worker part here)).later n w e k entry place lt (sym (answers_at r worker k part here) ∙ cited)

all_versed : (s : Script) (r : Report) → Versions s r → Later s r → AreAllVersed s r.workers.items
all_versed s r versions later worker part here = versed_from s part (record {
  versions = λ place. subst (λ (o : Option WorkerPart). AreNotFalling (flat_map (plain_versions s place) (plain_in o))) here (versions worker place);
  later = λ n w at_n k entry place lt cited. later worker n w (ap (λ (o : Option WorkerPart). slice_get (plain_in o) n) here ∙ at_n) k entry place lt (answers_at r worker k part here ∙ cited);
})

pub few_tries : (s : Script) (r : Report) → length s.pools.items ≤ 256 → EachPlain r (IsPlainLawful s r) → HaveFewTries r.workers.items
few_tries s r few walks worker part here n w at_n = fewer w.answer (walks worker n w (ap (λ (o : Option WorkerPart). slice_get (plain_in o) n) here ∙ at_n)).tries
  where
    fewer : (a : PlainAnswer) → HasTries (length s.pools.items) a (length w.tries.items) → length w.tries.items ≤ 256
    fewer (Walked freed) h = omega (arith, few, h)
    fewer (Memory freed) h = omega (arith, few, h)

pub walks_decided : (s : Script) (r : Report) (b : Bool) → EachPlain r (IsPlainLawful s r) → EachAnswer s r (λ by c a. map plain_job_of (plain_by r by) ≡ plain_due s c a.reply) → EachPlain r (λ worker n w. IsDue s r w)
    → AreAllVersed s r.workers.items → Decides b (ArePoolWordsRight s r) → Decides b (AreWalksRight s r)
walks_decided s r b walks due commands versed d = (
  λ t. record { walks = walks; due = due; commands = commands; versions = all_versions s r versed; later = all_later s r versed; deferred = d.0 t },
  λ h. d.1 h.deferred,
)

pub versed_fails : (s : Script) (r : Report) (a : Bool) → Decides a (AreAllVersed s r.workers.items) → a ≡ false → Decides false (AreWalksRight s r)
versed_fails s r a d f = fails (AreAllVersed s r.workers.items) (AreWalksRight s r) a d f (λ h. all_versed s r h.versions h.later)

-- ---- the law

shown_from : (xs : List PlaceAmount) → AllByRecursion IsPoolAmountWell xs → AllByRecursion (λ (x : PlaceAmount). 0 < x.amount) xs
shown_from [] h = tt
shown_from (x ∷ xs) h = (let some = h.0.amount.some in above x.amount some, shown_from xs h.1)
  where
    above : (n : ℕ) → n ≢ 0 → 0 < n
    above n ne = omega (arith, ne)

pub pools_decided : (s : Script) (r : Report) (b : Bool) → IsWellFormed r → AreJournalsRight s r → Decides b (AreCitesRight s r × AreWalksRight s r) → Decides b (ArePoolsLawful s r)
pools_decided s r b well j d = (
  λ t. (let c = (d.0 t).0 in let w = (d.0 t).1 in record {
    units = j.units;
    once = j.once;
    replies = c.replies;
    cited = λ place n e at_n. (c.entries place n e at_n).cited;
    rise = c.rise;
    full = c.full;
    walks = w.walks;
    due = w.due;
    commands = w.commands;
    versions = w.versions;
    later = w.later;
    no_others = λ place n e at_n. (c.entries place n e at_n).passed;
    deferred = w.deferred;
    shown = shown_from r.pool_deferred.items well.pool_deferred;
  }),
  λ h. d.1 (
    record { replies = h.replies; entries = λ place n e at_n. record { cited = h.cited place n e at_n; passed = h.no_others place n e at_n }; rise = h.rise; full = h.full },
    record { walks = h.walks; due = h.due; commands = h.commands; versions = h.versions; later = h.later; deferred = h.deferred },
  ),
)

pub journals_fail : (s : Script) (r : Report) (a : Bool) → Decides a (AreJournalsRight s r) → a ≡ false → Decides false (ArePoolsLawful s r)
journals_fail s r a d f = fails (AreJournalsRight s r) (ArePoolsLawful s r) a d f (λ h. record { units = h.units; once = h.once })
