-- SPDX-License-Identifier: GPL-2.0-only
-- Entries noted one after another, and the versions that are above them.
use Rattle.shr_audit_walks.proofs.LaterCommon.{◌≡◌, ◌≢◌, ◌⊎◌, ℕ, ◌+◌, ◌*◌, ◌<◌, ◌≤◌, Bool, true, false, cond, List, [], ◌∷◌, ◌++◌, length, get_or, map, filter, flat_map, Option, Some, None, refl, sym, ap, subst, ◌∙◌, inl, inr, arith, nat_eq, nat_lt, slice_get, Decides, get, AllByRecursion, cases_Bool, and_parts, and_from, eq-eqb, ne_eqb, nat_tests, slice_get-get_or, slice_get_within, each_more, decides_iff, At, Place, Answered, Attempt, WalkRecord, is_place, place_in, is_place_itself, is_place_same, at, cited_by, fits, place_key, AreHighestCited, IsAboveHighest, IsWalkLater, IsOutcomeAbove, NotesReply, zero, suc, ◌↔◌, all_of, each_in, Versions, IsAboveEntry, IsAboveAt, IsBlank, IsWalkAbove, NotesEntry, highest_at, all_front, all_right}
use Rattle.shr_model.specs.Attempts.{Count, counts_of}
use Rattle.shr_model.proofs.BagLaws.{each_append}
use Rattle.shr_audit_formed.proofs.Eachs.{each_copied, each_fail, each_whole}

clash : (b : Bool) → b ≡ true → b ≡ false → ⊥
clash b e f = cc

-- ---- places and their numbers

-- two places that fit and have one number are one
pub same_key : (p q : Place) → fits p ≡ true → fits q ≡ true → place_key p ≡ place_key q → p ≡ q
same_key p q f g e =
    let x = and_parts (nat_lt p.group 65536) (nat_lt p.id 65536) f in
    let y = and_parts (nat_lt q.group 65536) (nat_lt q.id 65536) g in
    numbers p q (below p.group x.0) (below p.id x.1) (below q.group y.0) (below q.id y.1) e
  where
    below : (n : ℕ) → nat_lt n 65536 ≡ true → n < 65536
    below n t = grind (arith, nat_tests)

    numbers : (p q : Place) → p.group < 65536 → p.id < 65536 → q.group < 65536 → q.id < 65536 → 4294967296 * p.node + 65536 * p.group + p.id ≡ 4294967296 * q.node + 65536 * q.group + q.id → p ≡ q
    numbers p q a b c d e =
        let nodes : p.node ≡ q.node = omega arith in
        let groups : p.group ≡ q.group = omega arith in
        let ids : p.id ≡ q.id = omega arith in
        λ i. record { id = ids i; node = nodes i; group = groups i }

-- ---- one entry more

some_same : (a b : At) → ◌≡◌ {A = Option At} (Some a) (Some b) → a ≡ b
some_same a b e = cc

module _ (old new : Versions) (c : At) (fit : fits c.place ≡ true) where
  -- at another place nothing is new
  other : (q : Place) (v : ℕ) → (c.place ≢ q) → (highest_at new q ≡ highest_at old q) → IsAboveHighest new q v ↔ (IsAboveHighest old q v × IsAboveAt (Some c) q v)
  other q v ne same = (
    λ h. (subst (λ (o : Option ℕ). IsAboveEntry o v) same h, λ entry e. absurd (ne (ap (λ (x : At). x.place) (some_same c (at q entry) e)))),
    λ h. subst (λ (o : Option ℕ). IsAboveEntry o v) (sym same) h.0,
  )

  highest_own : (t : Versions) → highest_at t c.place ≡ get nat_eq t (place_key c.place)
  highest_own t = ap (λ (b : Bool). cond b (get nat_eq t (place_key c.place)) None) fit

  -- the entry isn't above the highest one: the table is as it was
  module _ (highest : ℕ) (is : get nat_eq old (place_key c.place) ≡ Some highest) (le : c.entry ≤ highest) where
    pub kept : NotesEntry old old (Some c)
    kept q v = (λ h. (h, λ entry e. below q v entry h (some_same c (at q entry) e)), λ h. h.0)
      where
        below : (q : Place) (v entry : ℕ) → IsAboveHighest old q v → c ≡ at q entry → entry < v
        below q v entry h e =
            let place : c.place ≡ q = ap (λ (x : At). x.place) e in
            let number : c.entry ≡ entry = ap (λ (x : At). x.entry) e in
            let above : IsAboveHighest old c.place v = subst (λ (p : Place). IsAboveHighest old p v) (sym place) h in
            let lt : highest < v = subst (λ (o : Option ℕ). IsAboveEntry o v) (highest_own old ∙ is) above in
            omega arith

  -- it is: it stands in the table
  pub put : IsAboveEntry (get nat_eq old (place_key c.place)) c.entry → ((k : ℕ) → get nat_eq new k ≡ cond (nat_eq (place_key c.place) k) (Some c.entry) (get nat_eq old k)) → NotesEntry old new (Some c)
  put above puts q v = elim (cases_Bool (is_place c.place q)) [
    | inl t ↦ own q (is_place_same c.place q t)
    | inr f ↦ other q v (λ e. clash (is_place c.place q) (subst (λ (p : Place). is_place c.place p ≡ true) e (is_place_itself c.place)) f) (elsewhere q f)
  ]
    where
      elsewhere : (q : Place) → is_place c.place q ≡ false → highest_at new q ≡ highest_at old q
      elsewhere q f = by (fits q) refl
        where
          by : (b : Bool) → fits q ≡ b → cond b (get nat_eq new (place_key q)) None ≡ cond b (get nat_eq old (place_key q)) None
          by false e = refl
          by true e = puts (place_key q) ∙ ap (λ (b : Bool). cond b (Some c.entry) (get nat_eq old (place_key q)))
              (ne_eqb (place_key c.place) (place_key q) (λ same. clash (is_place c.place q) (subst (λ (p : Place). is_place c.place p ≡ true) (same_key c.place q fit e same) (is_place_itself c.place)) f))

      here : highest_at new c.place ≡ Some c.entry
      here = highest_own new ∙ puts (place_key c.place) ∙ ap (λ (b : Bool). cond b (Some c.entry) (get nat_eq old (place_key c.place))) (eq-eqb (place_key c.place) (place_key c.place) refl)

      up : (o : Option ℕ) (v : ℕ) → IsAboveEntry o c.entry → c.entry < v → IsAboveEntry o v
      up None v a lt = tt
      up (Some highest) v a lt = omega arith

      own : (q : Place) → c.place ≡ q → IsAboveHighest new q v ↔ (IsAboveHighest old q v × IsAboveAt (Some c) q v)
      own q e = subst (λ (p : Place). IsAboveHighest new p v ↔ (IsAboveHighest old p v × IsAboveAt (Some c) p v)) e (
        λ h. let lt : c.entry < v = subst (λ (o : Option ℕ). IsAboveEntry o v) here h in (
          subst (λ (o : Option ℕ). IsAboveEntry o v) (sym (highest_own old)) (up (get nat_eq old (place_key c.place)) v above lt),
          λ entry e. let number : c.entry ≡ entry = ap (λ (x : At). x.entry) (some_same c (at c.place entry) e) in omega arith,
        ),
        λ h. subst (λ (o : Option ℕ). IsAboveEntry o v) (sym here) (h.1 c.entry refl),
      )

pub under : (n : ℕ) → n < 65536 → nat_lt n 65536 ≡ true
under n lt = grind (arith, nat_tests)

pub fits_so : (p : Place) → p.group < 65536 → p.id < 65536 → fits p ≡ true
fits_so p group id = and_from (nat_lt p.group 65536) (nat_lt p.id 65536) (under p.group group) (under p.id id)

module _ (t : Versions) (p : Place) (v k : ℕ) (is : k ≡ place_key p) (fit : fits p ≡ true) where
  own_at : highest_at t p ≡ get nat_eq t k
  own_at = ap (λ (b : Bool). cond b (get nat_eq t (place_key p)) None) fit ∙ ap (get nat_eq t) (sym is)

  pub above_none : get nat_eq t k ≡ None → Decides true (IsAboveHighest t p v)
  above_none e = subst (λ (o : Option ℕ). Decides true (IsAboveEntry o v)) (sym (own_at ∙ e)) (λ t. tt, λ h. refl)

  pub above_some : (highest : ℕ) (b : Bool) → get nat_eq t k ≡ Some highest → Decides b (highest < v) → Decides b (IsAboveHighest t p v)
  above_some highest b e d = subst (λ (o : Option ℕ). Decides b (IsAboveEntry o v)) (sym (own_at ∙ e)) d

module _ (old new : Versions) (c : At) (b : Bool) (fit : fits c.place ≡ true) (d : Decides b (IsAboveHighest old c.place c.entry)) where
  pub kept_so : b ≡ false → NotesEntry old old (Some c)
  kept_so f = by (get nat_eq old (place_key c.place)) refl
    where
      away : IsAboveEntry (get nat_eq old (place_key c.place)) c.entry → ⊥
      away h = clash b (d.1 (subst (λ (o : Option ℕ). IsAboveEntry o c.entry) (sym (highest_own old new c fit old)) h)) f

      by : (o : Option ℕ) → get nat_eq old (place_key c.place) ≡ o → NotesEntry old old (Some c)
      by None e = absurd (away (subst (λ (o : Option ℕ). IsAboveEntry o c.entry) (sym e) tt))
      by (Some highest) e = kept old old c fit highest e (at_least highest (λ lt. away (subst (λ (o : Option ℕ). IsAboveEntry o c.entry) (sym e) lt)))
        where
          at_least : (n : ℕ) → (n < c.entry → ⊥) → c.entry ≤ n
          at_least n isnt = grind arith

  pub put_so : (k : ℕ) → k ≡ place_key c.place → b ≡ true → ((q : ℕ) → get nat_eq new q ≡ cond (nat_eq k q) (Some c.entry) (get nat_eq old q)) → NotesEntry old new (Some c)
  put_so k is t puts = put old new c fit (subst (λ (o : Option ℕ). IsAboveEntry o c.entry) (highest_own old new c fit old) (d.0 t)) (λ q. puts q ∙ ap (λ (n : ℕ). cond (nat_eq n q) (Some c.entry) (get nat_eq old q)) is)

-- nothing is cited
pub none_noted : (t : Versions) → NotesEntry t t None
none_noted t q v = (λ h. (h, λ entry e. absurd (let x : ◌≡◌ {A = Option At} None (Some (at q entry)) = e in cc)), λ h. h.0)

-- ---- answer by answer

pub none_yet : (answers : List Answered) (t : Versions) → IsBlank t → AreHighestCited answers 0 t
none_yet answers t blank place v = (λ h k a lt e. absurd (omega arith), λ h. subst (λ (o : Option ℕ). IsAboveEntry o v) (sym (by (fits place))) tt)
  where
    by : (b : Bool) → cond b (get nat_eq t (place_key place)) None ≡ None
    by true = blank (place_key place)
    by false = refl

pub one_more : (answers : List Answered) (n : ℕ) (a : Answered) (old new : Versions) → n < length answers → a ≡ get_or answers n a → AreHighestCited answers n old → NotesReply old new a.reply → AreHighestCited answers (n + 1) new
one_more answers n a old new lt is before notes place v = (
  λ h. let both = (notes place v).0 h in each_more (λ (x : Answered). IsAboveAt (cited_by x.reply) place v) answers n a lt is ((before place v).0 both.0) both.1,
  λ all. (notes place v).1 ((before place v).1 (λ k x below e. all k x (omega arith) e), all n a (omega arith) (slice_get-get_or answers n a lt ∙ ap (λ (x : Answered). Some x) (sym is))),
)

-- ---- the versions of a walk at a place, attempt by attempt

module _ {X : Type 0} (P : ℕ → Type 0) (g : X → List ℕ) (t : X → Bool) where
  abbrev Kept : List X → Type 0
  Kept xs = (k : ℕ) (x : X) → slice_get xs k ≡ Some x → t x ≡ true → AllByRecursion P (g x)

  some_is : (a b : X) → ◌≡◌ {A = Option X} (Some a) (Some b) → a ≡ b
  some_is a b e = cc

  filtered_to : (xs : List X) → Kept xs → AllByRecursion P (flat_map g (filter t xs))
  filtered_to [] each = tt
  filtered_to (x ∷ xs) each = by (filtered_to xs (λ k y e. each (suc k) y e)) (cases_Bool (t x))
    where
      by : AllByRecursion P (flat_map g (filter t xs)) → ((t x ≡ true) ⊎ (t x ≡ false)) → AllByRecursion P (flat_map g (filter t (x ∷ xs)))
      by rest (inl is) = subst (λ (b : Bool). AllByRecursion P (flat_map g (cond b (x ∷ filter t xs) (filter t xs)))) (sym is) (each_append P (g x) (flat_map g (filter t xs)) (each 0 x refl is) rest)
      by rest (inr isnt) = subst (λ (b : Bool). AllByRecursion P (flat_map g (cond b (x ∷ filter t xs) (filter t xs)))) (sym isnt) rest

  filtered_from : (xs : List X) → AllByRecursion P (flat_map g (filter t xs)) → Kept xs
  filtered_from [] all k x e so = absurd (let lt = slice_get_within [] k x e in omega (arith, lt))
  filtered_from (y ∷ ys) all k x e so = by (λ rest j f. filtered_from ys rest j x f so) (cases_Bool (t y)) k e
    where
      by : (AllByRecursion P (flat_map g (filter t ys)) → (j : ℕ) → slice_get ys j ≡ Some x → AllByRecursion P (g x)) → ((t y ≡ true) ⊎ (t y ≡ false)) → (k : ℕ) → slice_get (y ∷ ys) k ≡ Some x → AllByRecursion P (g x)
      by later (inl is) zero e =
          let all_y : AllByRecursion P (g y ++ flat_map g (filter t ys)) = subst (λ (b : Bool). AllByRecursion P (flat_map g (cond b (y ∷ filter t ys) (filter t ys)))) is all in
          subst (λ (z : X). AllByRecursion P (g z)) (some_is y x e) (all_front P (g y) (flat_map g (filter t ys)) all_y)
      by later (inl is) (suc k) e =
          let all_y : AllByRecursion P (g y ++ flat_map g (filter t ys)) = subst (λ (b : Bool). AllByRecursion P (flat_map g (cond b (y ∷ filter t ys) (filter t ys)))) is all in
          later (all_right P (g y) (flat_map g (filter t ys)) all_y) k e
      by later (inr isnt) zero e = absurd (clash (t y) (subst (λ (z : X). t z ≡ true) (sym (some_is y x e)) so) isnt)
      by later (inr isnt) (suc k) e = later (subst (λ (b : Bool). AllByRecursion P (flat_map g (cond b (y ∷ filter t ys) (filter t ys)))) isnt all) k e

abbrev told : Attempt → List ℕ
told a = map (λ (c : Count). c.version) (counts_of a.outcome)

module _ (answers : List Answered) (t : Versions) (w : WalkRecord) (cited : AreHighestCited answers w.by.command t) where
  pub walk_later : IsWalkAbove t w → IsWalkLater answers w
  walk_later above k entry place a lt here cites = filtered_to (λ v. entry < v) told (λ (x : Attempt). is_place place (place_in w x.id)) w.attempts.items
      (λ j x e is. all_of (λ v. entry < v) (told x) (λ i v f. let place_is = is_place_same place (place_in w x.id) is in
      (cited (place_in w x.id) v).0 (each_in (λ u. IsAboveHighest t (place_in w x.id) u) (told x) (above j x e) i v f) k a lt here entry (cites ∙ ap (λ (p : Place). Some (at p entry)) place_is)))

  pub walk_above : IsWalkLater answers w → IsWalkAbove t w
  walk_above later j x e = all_of (λ u. IsAboveHighest t (place_in w x.id) u) (told x) (λ i v f.
      (cited (place_in w x.id) v).1 (λ k a lt here entry cites.
      each_in (λ u. entry < u) (told x) (filtered_from (λ u. entry < u) told (λ (y : Attempt). is_place (place_in w x.id) (place_in w y.id)) w.attempts.items (later k entry (place_in w x.id) a lt here cites) j x e (is_place_itself (place_in w x.id))) i v f))

-- whether a walk is later is whether its versions are above the highest entries
pub later_decided : (answers : List Answered) (t : Versions) (w : WalkRecord) (n : ℕ) (b : Bool) → n ≡ w.by.command → AreHighestCited answers n t → Decides b (IsWalkAbove t w) → Decides b (IsWalkLater answers w)
later_decided answers t w n b e cited d =
    let at_command = subst (λ (k : ℕ). AreHighestCited answers k t) e cited in
    decides_iff b (IsWalkAbove t w) (IsWalkLater answers w) (walk_later answers t w at_command) (walk_above answers t w at_command) d

-- ---- items by an index

-- ---- an attempt

pub one_above : (b : Bool) (P : Type 0) → Decides b P → Decides b (P × Unit {0})
one_above b P d = (λ t. (d.0 t, tt), λ h. d.1 h.0)

pub both_above : (b : Bool) (P Q : Type 0) → Decides b (P × Q) → Decides b (P × (Q × Unit {0}))
both_above b P Q d = (λ t. let h = d.0 t in (h.0, (h.1, tt)), λ h. d.1 (h.0, h.1.0))

module _ (t : Versions) (w : WalkRecord) (tries : List Attempt) (i : ℕ) where
  abbrev AttemptAbove : Attempt → Type 0
  AttemptAbove a = IsOutcomeAbove t (place_in w a.id) a.outcome

  module _ (d : Attempt) (place : Place) (is : place ≡ place_in w (get_or tries i d).id) (b : Bool) (lt : i < length tries) (dec : Decides b (IsOutcomeAbove t place (get_or tries i d).outcome)) where
    own_dec : Decides b (AttemptAbove (get_or tries i d))
    own_dec = subst (λ (p : Place). Decides b (IsOutcomeAbove t p (get_or tries i d).outcome)) is dec

    pub attempt_more : ((k : ℕ) (a : Attempt) → k < i → slice_get tries k ≡ Some a → IsOutcomeAbove t (place_in w a.id) a.outcome) → b ≡ true
        → (k : ℕ) (a : Attempt) → k < i + 1 → slice_get tries k ≡ Some a → IsOutcomeAbove t (place_in w a.id) a.outcome
    attempt_more before so = each_copied AttemptAbove tries i d lt before (own_dec.0 so)

    pub attempt_fails : tries ≡ w.attempts.items → b ≡ false → Decides false (IsWalkAbove t w)
    attempt_fails all isnt = each_fail AttemptAbove tries w.attempts.items i d b all lt own_dec isnt

  pub attempts_all : tries ≡ w.attempts.items → length tries ≤ i → ((k : ℕ) (a : Attempt) → k < i → slice_get tries k ≡ Some a → IsOutcomeAbove t (place_in w a.id) a.outcome) → Decides true (IsWalkAbove t w)
  attempts_all all over before = each_whole AttemptAbove tries w.attempts.items i all over before
