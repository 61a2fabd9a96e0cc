-- SPDX-License-Identifier: GPL-2.0-only
-- The least numbers at places, walk by walk.
use Rattle.shr_audit_pools.proofs.Common.{◌≡◌, ◌⊎◌, inl, inr, ℕ, ◌+◌, ◌<◌, ◌≤◌, Bool, true, false, cond, List, [], ◌∷◌, ◌++◌, length, get_or, take, Option, Some, None, refl, sym, ap, subst, ◌∙◌, arith, ◌==◌, ◌&&◌, flat_map, option_map, option_to_list, slice_get, Decides, AllByRecursion, cases_lt, flat_map-append, take_more, same_Some, slice_get-get_or, slice_get_within, WorkerPart, Place, Answered, PoolDecl, Script, PlainTry, PlainWalk, is_place, at, plain_versions, version_in, home_in, units_place_at, pool_place, PoolPlace, AreCitedBelow, AreLowsOf, AreUpTo, HasNoLows, IsPartVersed, IsVersed, Lows, NotesReplies, NotesTries, RaisesLow, cited_at_reply, pool_key, named_place, item_fails, items_whole, here_at, eq-eqb, eqb-true, append-nil, IsWalkHigh}
use Rattle.shr_audit_pools.specs.Due.{PoolWalksByCommand}
use Rattle.shr_audit_pools.proofs.Risen.{blank_lows, key_parts}

-- ---- the tries of a walk

pub tries_none : (s : Script) (w : PlainWalk) (t : Lows) → NotesTries s w 0 t t
tries_none s w t pool node m fits = (λ le. (le, λ x lt. absurd (omega (arith, lt))), λ h. h.0)

pub tries_more : (s : Script) (w : PlainWalk) (i v : ℕ) (x : PlainTry) (p : PoolPlace) (old now new : Lows) → named_place p ≡ pool_place s i w.node → p.node < 256 → slice_get w.tries.items i ≡ Some x → v ≡ version_in x
    → NotesTries s w i old now → RaisesLow (pool_key p.pool p.node) v now new → NotesTries s w (i + 1) old new
tries_more s w i v x p old now new home small here version before raised pool node m fits =
    let r = raised (pool_key pool node) m in
    let b = before pool node m fits in (
      λ le. ((b.0 (r.0 le).0).0, λ y lt there at_home. upper (b.0 (r.0 le).0).1 (r.0 le).1 y lt there at_home (cases_lt pool i)),
      λ h. r.1 (
        b.1 (h.0, λ y lt there at_home. h.1 y (omega (arith, lt)) there at_home),
        λ key.
            let parts = key_parts pool node p.pool p.node fits small key in
            let same : pool ≡ i = parts.0 ∙ own in
            let le = h.1 x (omega (arith, same)) (ap (slice_get w.tries.items) same ∙ here) (sym (parts.1 ∙ homes pool same)) in omega (arith, le, version),
      ),
    )
  where
    own : p.pool ≡ i
    own = ap (λ (q : Place). q.id) home

    homes : (k : ℕ) → k ≡ i → p.node ≡ home_in (slice_get s.pools.items k) w.node
    homes k e = ap (λ (q : Place). q.node) home ∙ ap (λ (j : ℕ). home_in (slice_get s.pools.items j) w.node) (sym e)

    upper : ((y : PlainTry) → pool < i → slice_get w.tries.items pool ≡ Some y → home_in (slice_get s.pools.items pool) w.node ≡ node → version_in y ≤ m) → (pool_key pool node ≡ pool_key p.pool p.node → v ≤ m)
        → (y : PlainTry) → pool < i + 1 → slice_get w.tries.items pool ≡ Some y → home_in (slice_get s.pools.items pool) w.node ≡ node → (pool < i) ⊎ (i ≤ pool) → version_in y ≤ m
    upper older raise y lt there at_home (inl less) = older y less there at_home
    upper older raise y lt there at_home (inr ge) =
        let same : pool ≡ i = omega (arith, lt, ge) in
        let pools : pool ≡ p.pool = same ∙ sym own in
        let nodes : node ≡ p.node = sym at_home ∙ sym (homes pool same) in
        let le = raise (omega (arith, pools, nodes)) in
        let tries : version_in x ≡ version_in y = ap version_in (same_Some x y (sym here ∙ (ap (slice_get w.tries.items) (sym same) ∙ there))) in omega (arith, le, version, tries)

-- ---- the versions of a walk at a place

home_test : (pool node home : ℕ) → is_place (units_place_at pool node) (units_place_at pool home) ≡ (node == home)
home_test pool node home = by (pool == pool) (eq-eqb pool pool refl) (node == home)
  where
    by : (a : Bool) → a ≡ true → (b : Bool) → (a && b && true) ≡ b
    by true e true = refl
    by true e false = refl
    by false e b = absurd cc

versions_from : (s : Script) (w : PlainWalk) (pool node m : ℕ) → ((x : PlainTry) → slice_get w.tries.items pool ≡ Some x → home_in (slice_get s.pools.items pool) w.node ≡ node → version_in x ≤ m)
    → AllByRecursion (λ v. v ≤ m) (plain_versions s (units_place_at pool node) w)
versions_from s w pool node m h = by (is_place (units_place_at pool node) (pool_place s pool w.node)) refl (slice_get w.tries.items pool) refl
  where
    by : (b : Bool) → is_place (units_place_at pool node) (pool_place s pool w.node) ≡ b → (o : Option PlainTry) → slice_get w.tries.items pool ≡ o → AllByRecursion (λ v. v ≤ m) (option_to_list (option_map version_in (cond b o None)))
    by true own (Some x) e = (h x e (sym (eqb-true node (home_in (slice_get s.pools.items pool) w.node) (sym (home_test pool node (home_in (slice_get s.pools.items pool) w.node)) ∙ own))), tt)
    by true own None e = tt
    by false other o e = tt

versions_at : (s : Script) (w : PlainWalk) (pool node m : ℕ) (x : PlainTry) → AllByRecursion (λ v. v ≤ m) (plain_versions s (units_place_at pool node) w) → slice_get w.tries.items pool ≡ Some x → home_in (slice_get s.pools.items pool) w.node ≡ node → version_in x ≤ m
versions_at s w pool node m x all here home =
    let own : is_place (units_place_at pool node) (pool_place s pool w.node) ≡ true = home_test pool node (home_in (slice_get s.pools.items pool) w.node) ∙ eq-eqb node (home_in (slice_get s.pools.items pool) w.node) (sym home) in
    (subst (λ (o : Option PlainTry). AllByRecursion (λ v. v ≤ m) (option_to_list (option_map version_in o))) (ap (λ (b : Bool). cond b (slice_get w.tries.items pool) None) own ∙ here) all).0

-- ---- walks one after another

all_both : (m : ℕ) (xs ys : List ℕ) → AllByRecursion (λ v. v ≤ m) xs → AllByRecursion (λ v. v ≤ m) ys → AllByRecursion (λ v. v ≤ m) (xs ++ ys)
all_both m [] ys a b = b
all_both m (x ∷ xs) ys a b = (a.0, all_both m xs ys a.1 b)

all_first : (m : ℕ) (xs ys : List ℕ) → AllByRecursion (λ v. v ≤ m) (xs ++ ys) → AllByRecursion (λ v. v ≤ m) xs
all_first m [] ys h = tt
all_first m (x ∷ xs) ys h = (h.0, all_first m xs ys h.1)

all_second : (m : ℕ) (xs ys : List ℕ) → AllByRecursion (λ v. v ≤ m) (xs ++ ys) → AllByRecursion (λ v. v ≤ m) ys
all_second m [] ys h = h
all_second m (x ∷ xs) ys h = all_second m xs ys h.1

pub versions_push : (s : Script) (place : Place) (walks : List PlainWalk) (w : PlainWalk) → flat_map (plain_versions s place) (walks ++ w ∷ []) ≡ flat_map (plain_versions s place) walks ++ plain_versions s place w
versions_push s place walks w = flat_map-append (plain_versions s place) walks (w ∷ []) ∙ ap (λ (vs : List ℕ). flat_map (plain_versions s place) walks ++ vs) (append-nil (plain_versions s place w))

pub versed_none : (s : Script) (answers : List Answered) (walks : List PlainWalk) (t : Lows) → HasNoLows t → AreLowsOf s answers 0 (take 0 walks) t
versed_none s answers walks t blank pool node m fits =
    let l = blank_lows answers t blank pool node m fits in
    (λ le. (l.0 le, subst (λ (ws : List PlainWalk). AreUpTo s ws (units_place_at pool node) m) (sym (none walks)) tt), λ h. l.1 h.0)
  where
    none : (ws : List PlainWalk) → take 0 ws ≡ []
    none [] = refl
    none (x ∷ xs) = refl

-- with the replies up to a command
pub versed_replied : (s : Script) (answers : List Answered) (known command : ℕ) (walks : List PlainWalk) (old new : Lows) → known ≤ command → AreLowsOf s answers known walks old → NotesReplies answers known command old new → AreLowsOf s answers command walks new
versed_replied s answers known command walks old new order lows noted pool node m fits =
    let l = lows pool node m fits in
    let n = noted pool node m fits in (
      λ le. (λ k i lt cited. by (l.0 (n.0 le).0).0 (n.0 le).1 k i lt cited (cases_lt k known), (l.0 (n.0 le).0).1),
      λ h. n.1 (l.1 (λ k i lt cited. h.0 k i (omega (arith, lt, order)) cited, h.1), λ k i ge lt cited. h.0 k i lt cited),
    )
  where
    by : AreCitedBelow answers known (units_place_at pool node) m → ((k i : ℕ) → known ≤ k → k < command → cited_at_reply answers k ≡ Some (at (units_place_at pool node) i) → i < m)
        → (k i : ℕ) → k < command → cited_at_reply answers k ≡ Some (at (units_place_at pool node) i) → (k < known) ⊎ (known ≤ k) → i < m
    by older newer k i lt cited (inl less) = older k i less cited
    by older newer k i lt cited (inr ge) = newer k i ge lt cited

-- with the tries of one walk more
pub versed_more : (s : Script) (answers : List Answered) (count : ℕ) (walks : List PlainWalk) (w : PlainWalk) (old new : Lows) → AreLowsOf s answers count walks old → NotesTries s w (length w.tries.items) old new → AreLowsOf s answers count (walks ++ w ∷ []) new
versed_more s answers count walks w old new lows noted pool node m fits =
    let l = lows pool node m fits in
    let n = noted pool node m fits in
    let whole = versions_push s (units_place_at pool node) walks w in (
      λ le. (
        (l.0 (n.0 le).0).0,
        subst (λ (vs : List ℕ). AllByRecursion (λ v. v ≤ m) vs) (sym whole)
            (all_both m (flat_map (plain_versions s (units_place_at pool node)) walks) (plain_versions s (units_place_at pool node) w) (l.0 (n.0 le).0).1
            (versions_from s w pool node m (λ x here home. (n.0 le).1 x (within pool x here) here home))),
      ),
      λ h.
          let all = subst (λ (vs : List ℕ). AllByRecursion (λ v. v ≤ m) vs) whole h.1 in
          n.1 (
            l.1 (h.0, all_first m (flat_map (plain_versions s (units_place_at pool node)) walks) (plain_versions s (units_place_at pool node) w) all),
            λ x lt here home. versions_at s w pool node m x (all_second m (flat_map (plain_versions s (units_place_at pool node)) walks) (plain_versions s (units_place_at pool node) w) all) here home,
          ),
    )
  where
    within : (k : ℕ) (x : PlainTry) → slice_get w.tries.items k ≡ Some x → k < length w.tries.items
    within k x here = slice_get_within w.tries.items k x here

pub versed_next : (s : Script) (answers : List Answered) (count i : ℕ) (walks : List PlainWalk) (w : PlainWalk) (old new : Lows) → i < length walks → w ≡ get_or walks i w → AreLowsOf s answers count (take i walks) old → NotesTries s w (length w.tries.items) old new
    → AreLowsOf s answers count (take (i + 1) walks) new
versed_next s answers count i walks w old new lt is lows noted =
    subst (λ (ws : List PlainWalk). AreLowsOf s answers count ws new) (sym (take_more walks i w lt ∙ ap (λ (x : PlainWalk). take i walks ++ x ∷ []) (sym is))) (versed_more s answers count (take i walks) w old new lows noted)

-- where the numbers are those of what is before, the versions of a walk that is high enough are right
pub versed_decided : (s : Script) (answers : List Answered) (before : List PlainWalk) (w : PlainWalk) (t : Lows) (b : Bool) → w.node < 256 → AreLowsOf s answers w.by.command before t → Decides b (IsWalkHigh s t w) → Decides b (IsVersed s answers before w)
versed_decided s answers before w t b small lows d = (
  λ u pool x here. (lows pool (home_in (slice_get s.pools.items pool) w.node) (version_in x) (home (slice_get s.pools.items pool))).0 (d.0 u pool x here),
  λ h. d.1 (λ pool x here. (lows pool (home_in (slice_get s.pools.items pool) w.node) (version_in x) (home (slice_get s.pools.items pool))).1 (h pool x here)),
)
  where
    by_flat : (f : Bool) → cond f 0 w.node < 256
    by_flat true = omega arith
    by_flat false = small

    home : (o : Option PoolDecl) → home_in o w.node < 256
    home None = small
    home (Some d) = by_flat d.flat

-- ---- as the code goes on

pub tries_step : (s : Script) (w : PlainWalk) (tries : List PlainTry) (i v : ℕ) (d : PlainTry) (p : PoolPlace) (old now new : Lows) → tries ≡ w.tries.items → i < length tries → named_place p ≡ pool_place s i w.node → p.node < 256 → v ≡ version_in (get_or tries i d)
    → NotesTries s w i old now → RaisesLow (pool_key p.pool p.node) v now new → NotesTries s w (i + 1) old new
tries_step s w tries i v d p old now new all lt home small version before raised =
    tries_more s w i v (get_or tries i d) p old now new home small (ap (λ (xs : List PlainTry). slice_get xs i) (sym all) ∙ slice_get-get_or tries i d lt) version before raised

pub tries_all : (s : Script) (w : PlainWalk) (tries : List PlainTry) (i : ℕ) (old new : Lows) → tries ≡ w.tries.items → length tries ≤ i → i ≤ length tries → NotesTries s w i old new → NotesTries s w (length w.tries.items) old new
tries_all s w tries i old new all over under h =
    subst (λ (k : ℕ). NotesTries s w k old new) (let e : i ≡ length tries = omega (arith, over, under) in e ∙ ap length all) h

pub replies_all : (answers : List Answered) (from k to : ℕ) (old new : Lows) → to ≤ k → k ≤ to → NotesReplies answers from k old new → NotesReplies answers from to old new
replies_all answers from k to old new over under h = subst (λ (i : ℕ). NotesReplies answers from i old new) (let e : k ≡ to = omega (arith, over, under) in e) h

-- what is decided of the lists that were read is so of those of the part
of_part : (s : Script) (part : WorkerPart) (walks : List PlainWalk) (answers : List Answered) (n : ℕ) (w : PlainWalk) (b : Bool) → walks ≡ part.plain.items → answers ≡ part.answers.items → Decides b (IsVersed s answers (take n walks) w) → Decides b (IsVersed s part.answers.items (take n part.plain.items) w)
of_part s part walks answers n w b e f d =
    subst (λ (xs : List Answered). Decides b (IsVersed s xs (take n part.plain.items) w)) f (subst (λ (ws : List PlainWalk). Decides b (IsVersed s answers (take n ws) w)) e d)

pub part_fails : (s : Script) (part : WorkerPart) (walks : List PlainWalk) (answers : List Answered) (n : ℕ) (w : PlainWalk) (b : Bool) → walks ≡ part.plain.items → answers ≡ part.answers.items → n < length walks → w ≡ get_or walks n w
    → Decides b (IsVersed s answers (take n walks) w) → b ≡ false → Decides false (IsPartVersed s part)
part_fails s part walks answers n w b e f lt is d isnt =
    item_fails (λ (k : ℕ) (x : PlainWalk). IsVersed s part.answers.items (take k part.plain.items) x) walks part.plain.items n w b e lt is (of_part s part walks answers n w b e f d) isnt

pub part_whole : (s : Script) (part : WorkerPart) (walks : List PlainWalk) (answers : List Answered) (i : ℕ) → walks ≡ part.plain.items → answers ≡ part.answers.items → length walks ≤ i
    → ((n : ℕ) (w : PlainWalk) → n < i → slice_get walks n ≡ Some w → IsVersed s answers (take n walks) w) → Decides true (IsPartVersed s part)
part_whole s part walks answers i e f over before =
    items_whole (λ (k : ℕ) (x : PlainWalk). IsVersed s part.answers.items (take k part.plain.items) x) walks part.plain.items i e over
    (λ n w lt at_n. (of_part s part walks answers n w true e f (λ t. before n w lt at_n, λ h. refl)).0 refl)

-- the next walk isn't of an earlier command
pub later_command : (part : WorkerPart) (walks : List PlainWalk) (n : ℕ) (w : PlainWalk) → walks ≡ part.plain.items → PoolWalksByCommand part.plain.items → n < length walks → w ≡ get_or walks n w → (x : PlainWalk) → slice_get walks (n + 1) ≡ Some x → w.by.command ≤ x.by.command
later_command part walks n w e stand lt is x at_next = stand n w x (here_at walks part.plain.items n w e lt is) (ap (λ (ws : List PlainWalk). slice_get ws (n + 1)) (sym e) ∙ at_next)
