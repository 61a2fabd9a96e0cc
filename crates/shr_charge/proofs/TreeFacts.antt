-- SPDX-License-Identifier: GPL-2.0-only
-- What a legal journal of the tree says of groups above and below one another.
use Rattle.shr_charge.proofs.Common.{◌≡◌, ℕ, zero, suc, ◌+◌, ◌-◌, ◌<◌, ◌≤◌, ◌≢◌, ◌⊎◌, inl, inr, ⊎_elim, Bool, true, false, not, ◌||◌, cond, List, [], ◌∷◌, length, take, drop, sym, refl, ap, subst, ◌∙◌, arith, eq-eqb, slice_get, find, Option, Some, None, position_from, range_with_len, is_none, is_some, IsSome, cases_Bool, cases_lt, eqb-true, none-some, TreeEntry, Begin, Done, Made, Hierarchy, IsHierarchy, parent_of, path_of, is_later, is_begin, is_done, is_making, begin_of, done_of, made_of, is_made, is_undone_child, MayBegin, MayBeDone, MayBeMade, IsTreeJournal, take-append-drop, Contains, same_Some, IsAtOrAbove, is_child}
use mathlib.Core.Logic.{dite}
use native.Mathlib.Decide.{ℕ_discrete}
use Rattle.shr_model.proofs.GroupsLaws.{child_again, child_takes, path_of-below, path_of-root}
use Rattle.shr_model.proofs.Members.{Has_from_Contains, Contains_from_Has}
use Rattle.shr_charge.proofs.Listing.{position-at}
use Rattle.shr_charge.proofs.Entries.{is_made_grows}
use Rattle.shr_model.proofs.Booleans.{both_and}

-- ---- the first entry of a kind

-- an entry that passes has a first one at or before it
pub first_found : (p : TreeEntry → Bool) (i : ℕ) (es : List TreeEntry) (n : ℕ) (e : TreeEntry) → slice_get es n ≡ Some e → p e ≡ true → (m : ℕ) × (position_from p i es ≡ Some m) × (m ≤ i + n)
first_found p i [] n e at passes = absurd (none-some e at)
first_found p i (x ∷ es) zero e at passes = (i, ap (λ b. cond b (Some i) (position_from p (i + 1) es)) (ap p (same_Some x e at) ∙ passes), omega arith)
first_found p i (x ∷ es) (suc n) e at passes = elim (cases_Bool (p x)) [
  | inl here ↦ (i, ap (λ b. cond b (Some i) (position_from p (i + 1) es)) here, omega arith)
  | inr not ↦ let t = first_found p (i + 1) es n e at passes in (t.0, ap (λ b. cond b (Some i) (position_from p (i + 1) es)) not ∙ t.1, omega (arith, t.2))
]

-- the first one passes, and stands there
pub first_at : (p : TreeEntry → Bool) (es : List TreeEntry) (n : ℕ) → position_from p 0 es ≡ Some n → (e : TreeEntry) × (slice_get es n ≡ Some e) × (p e ≡ true)
first_at p es n h = let t = position-at p 0 es n h in (t.0, subst (λ k. slice_get es k ≡ Some t.0) (let z : n - 0 ≡ n = omega arith in z) t.2, t.3)

pub is_begin_of : (g : ℕ) (e : TreeEntry) → is_begin g e ≡ true → e ≡ Begin g
is_begin_of g (Begin h) t = ap Begin (eqb-true h g t)
is_begin_of g (Done h) t = let no : false ≡ true = t in cc
is_begin_of g (Made h) t = let no : false ≡ true = t in cc

pub is_done_of : (g : ℕ) (e : TreeEntry) → is_done g e ≡ true → e ≡ Done g
is_done_of g (Begin h) t = let no : false ≡ true = t in cc
is_done_of g (Done h) t = ap Done (eqb-true h g t)
is_done_of g (Made h) t = let no : false ≡ true = t in cc

pub is_making_of : (g : ℕ) (e : TreeEntry) → is_making g e ≡ true → e ≡ Made g
is_making_of g (Begin h) t = let no : false ≡ true = t in cc
is_making_of g (Done h) t = let no : false ≡ true = t in cc
is_making_of g (Made h) t = ap Made (eqb-true h g t)

pub begin_at : (es : List TreeEntry) (g n : ℕ) → begin_of es g ≡ Some n → slice_get es n ≡ Some (Begin g)
begin_at es g n h = let t = first_at (is_begin g) es n h in t.1 ∙ ap Some (is_begin_of g t.0 t.2)

pub done_at : (es : List TreeEntry) (g n : ℕ) → done_of es g ≡ Some n → slice_get es n ≡ Some (Done g)
done_at es g n h = let t = first_at (is_done g) es n h in t.1 ∙ ap Some (is_done_of g t.0 t.2)

pub made_at : (es : List TreeEntry) (g n : ℕ) → made_of es g ≡ Some n → slice_get es n ≡ Some (Made g)
made_at es g n h = let t = first_at (is_making g) es n h in t.1 ∙ ap Some (is_making_of g t.0 t.2)

pub made_found : (es : List TreeEntry) (g n : ℕ) → slice_get es n ≡ Some (Made g) → (m : ℕ) × (made_of es g ≡ Some m) × (m ≤ 0 + n)
made_found es g n at = first_found (is_making g) 0 es n (Made g) at (eq-eqb g g refl)

pub begin_found : (es : List TreeEntry) (g n : ℕ) → slice_get es n ≡ Some (Begin g) → (m : ℕ) × (begin_of es g ≡ Some m) × (m ≤ 0 + n)
begin_found es g n at = first_found (is_begin g) 0 es n (Begin g) at (eq-eqb g g refl)

pub done_found : (es : List TreeEntry) (g n : ℕ) → slice_get es n ≡ Some (Done g) → (m : ℕ) × (done_of es g ≡ Some m) × (m ≤ 0 + n)
done_found es g n at = first_found (is_done g) 0 es n (Done g) at (eq-eqb g g refl)

-- an entry of the first so many
pub in_take : {A : Type 0} (es : List A) (k n : ℕ) (e : A) → slice_get (take k es) n ≡ Some e → slice_get es n ≡ Some e
in_take es zero n e h = absurd (none-some e h)
in_take [] (suc k) n e h = absurd (none-some e h)
in_take (x ∷ es) (suc k) zero e h = h
in_take (x ∷ es) (suc k) (suc n) e h = in_take es k n e h

pub take_in : {A : Type 0} (es : List A) (k n : ℕ) (e : A) → n < k → slice_get es n ≡ Some e → slice_get (take k es) n ≡ Some e
take_in es zero n e lt h = absurd (omega arith)
take_in [] (suc k) n e lt h = absurd (none-some e h)
take_in (x ∷ es) (suc k) zero e lt h = h
take_in (x ∷ es) (suc k) (suc n) e lt h = take_in es k n e (omega arith) h

-- a number below a bound that passes is not passed over
find_passes : (p : ℕ → Bool) (a n c : ℕ) → a ≤ c → c < a + n → p c ≡ true → find p (range_with_len a n) ≡ None → ⊥
find_passes p a zero c low high passes none = omega arith
find_passes p a (suc n) c low high passes none = elim (cases_Bool (p a)) [
  | inl here ↦ none-some a (sym none ∙ ap (λ b. cond b (Some a) (find p (range_with_len (a + 1) n))) here)
  | inr not ↦ dite (ℕ_discrete a c) (λ same. let t : true ≡ false = sym passes ∙ (ap p (sym same) ∙ not) in let f : ⊥ = cc in f)
      (λ other. find_passes p (a + 1) n c (omega arith) (omega arith) passes (sym (ap (λ b. cond b (Some a) (find p (range_with_len (a + 1) n))) not) ∙ none))
]

some_or_none : {A : Type 0} (o : Option A) → ((x : A) × (o ≡ Some x)) ⊎ (is_none o ≡ true)
some_or_none None = inr refl
some_or_none (Some x) = inl (x, refl)

pub the_some : {A : Type 0} (o : Option A) → IsSome o → (x : A) × (o ≡ Some x)
the_some None h = absurd (let no : false ≡ true = h in cc)
the_some (Some x) h = (x, refl)

-- an element of the first so many stands below that number
pub take_below : {A : Type 0} (xs : List A) (n m : ℕ) (e : A) → slice_get (take n xs) m ≡ Some e → m < n
take_below xs zero m e h = absurd (none-some e h)
take_below [] (suc n) m e h = absurd (none-some e h)
take_below (x ∷ xs) (suc n) zero e h = omega arith
take_below (x ∷ xs) (suc n) (suc m) e h = omega (arith, take_below xs n m e h)

-- a group is made from the start, or by its Made
made_how : (h : Hierarchy) (es : List TreeEntry) (c : ℕ) → is_made h es c ≡ true → (is_later h.later c ≡ false) ⊎ ((m : ℕ) × (slice_get es m ≡ Some (Made c)))
made_how h es c t = ⊎_elim
    (λ (late : is_later h.later c ≡ true). let some : is_some (made_of es c) ≡ true = sym (ap {B = Bool} (λ b. not b || is_some (made_of es c)) late) ∙ t in let m = the_one (made_of es c) some in inr (m.0, made_at es c m.0 m.1))
    (λ f. inl f)
    (cases_Bool (is_later h.later c))
  where
    the_one : (o : Option ℕ) → is_some o ≡ true → (n : ℕ) × (o ≡ Some n)
    the_one None e = absurd (let c : false ≡ true = e in cc)
    the_one (Some n) e = (n, refl)

-- a group that isn't later is made after any entries
made_always : (h : Hierarchy) (es : List TreeEntry) (c : ℕ) → is_later h.later c ≡ false → is_made h es c ≡ true
made_always h es c f = ap {B = Bool} (λ b. not b || is_some (made_of es c)) f

-- and so is one whose Made is among them
made_among : (h : Hierarchy) (es : List TreeEntry) (c m : ℕ) → slice_get es m ≡ Some (Made c) → is_made h es c ≡ true
made_among h es c m at = let t = made_found es c m at in or_true (not (is_later h.later c)) (is_some (made_of es c)) (ap {B = Bool} (λ (x : Option ℕ). is_some x) t.1)
  where
    or_true : (a b : Bool) → b ≡ true → (a || b) ≡ true
    or_true true b t = refl
    or_true false b t = t

other_entry : (c p : ℕ) → Some (Made c) ≡ Some (Begin p) → ⊥
other_entry c p e = let same : Made c ≡ Begin p = same_Some (Made c) (Begin p) e in let no : false ≡ true = ap is_start same in cc
  where
    is_start : TreeEntry → Bool
    is_start (Begin g) = true
    is_start (Done g) = false
    is_start (Made g) = false

-- two places of which neither is before the other are one
same_place : (n m : ℕ) → (n < m → ⊥) → (m < n → ⊥) → n ≡ m
same_place n m not_below not_above = dite (ℕ_discrete n m) (λ e. e) (λ ne. absurd (⊎_elim (λ lt. not_below lt) (λ le. not_above (omega (arith, ne, le))) (cases_lt n m)))

module _ (h : Hierarchy) (groups : IsHierarchy h) (es : List TreeEntry) (legal : IsTreeJournal h es) where
  -- a group's Done comes after its Begin
  pub begun_before : (g n : ℕ) → slice_get es n ≡ Some (Done g) → (m : ℕ) × (slice_get es m ≡ Some (Begin g)) × (m < n)
  begun_before g n at = let may : MayBeDone (take n es) g = legal n (Done g) at in let t = the_some (begin_of (take n es) g) may.begun in let stands = begin_at (take n es) g t.0 t.1 in
      (t.0, in_take es n t.0 (Begin g) stands, take_below es n t.0 (Begin g) stands)

  -- a Begin stands once, and a Done, and a Made
  pub begin_once : (g n m : ℕ) → slice_get es n ≡ Some (Begin g) → slice_get es m ≡ Some (Begin g) → n ≡ m
  begin_once g n m a b = same_place n m (λ lt. late n m a b lt) (λ lt. late m n b a lt)
    where
      late : (n m : ℕ) → slice_get es n ≡ Some (Begin g) → slice_get es m ≡ Some (Begin g) → n < m → ⊥
      late n m a b lt = let may : MayBegin h (take m es) g = legal m (Begin g) b in let t = begin_found (take m es) g n (take_in es m n (Begin g) lt a) in none-some t.0 (sym may.once ∙ t.1)

  pub done_once : (g n m : ℕ) → slice_get es n ≡ Some (Done g) → slice_get es m ≡ Some (Done g) → n ≡ m
  done_once g n m a b = same_place n m (λ lt. late n m a b lt) (λ lt. late m n b a lt)
    where
      late : (n m : ℕ) → slice_get es n ≡ Some (Done g) → slice_get es m ≡ Some (Done g) → n < m → ⊥
      late n m a b lt = let may : MayBeDone (take m es) g = legal m (Done g) b in let t = done_found (take m es) g n (take_in es m n (Done g) lt a) in none-some t.0 (sym may.once ∙ t.1)

  pub made_once : (g n m : ℕ) → slice_get es n ≡ Some (Made g) → slice_get es m ≡ Some (Made g) → n ≡ m
  made_once g n m a b = same_place n m (λ lt. late n m a b lt) (λ lt. late m n b a lt)
    where
      late : (n m : ℕ) → slice_get es n ≡ Some (Made g) → slice_get es m ≡ Some (Made g) → n < m → ⊥
      late n m a b lt = let may : MayBeMade h (take m es) g = legal m (Made g) b in let t = made_found (take m es) g n (take_in es m n (Made g) lt a) in none-some t.0 (sym may.once ∙ t.1)

  -- before the Begin of a group stands the Done of each child that is made by then
  pub children_done : (g c n : ℕ) → slice_get es n ≡ Some (Begin g) → is_child h.parents g c ≡ true → is_made h (take n es) c ≡ true → (m : ℕ) × (slice_get es m ≡ Some (Done c)) × (m < n)
  children_done g c n at child made = elim (some_or_none (done_of (take n es) c)) [
    | inl t ↦ let stands = done_at (take n es) c t.0 t.1 in (t.0, in_take es n t.0 (Done c) stands, take_below es n t.0 (Done c) stands)
    | inr none ↦ absurd (find_passes (is_undone_child h (take n es) g) 0 (length h.parents) c (omega arith) (child_near child) (both_and (is_child h.parents g c) (is_made h (take n es) c) (is_none (done_of (take n es) c)) child made none) may.children)
  ]
    where
      may : MayBegin h (take n es) g
      may = legal n (Begin g) at

      child_near : is_child h.parents g c ≡ true → c < 0 + length h.parents
      child_near k = let there = (child_takes h.parents g c k).there in omega (arith, there)

  -- a group that is made at all is made before its parent begins
  pub made_first : (c n : ℕ) → is_made h es c ≡ true → slice_get es n ≡ Some (Begin (parent_of h.parents c)) → is_made h (take n es) c ≡ true
  made_first c n made at = ⊎_elim
      (λ (f : is_later h.later c ≡ false). made_always h (take n es) c f)
      (λ (t : (m : ℕ) × (slice_get es m ≡ Some (Made c))). before t.0 t.1)
      (made_how h es c made)
    where
      before : (m : ℕ) → slice_get es m ≡ Some (Made c) → is_made h (take n es) c ≡ true
      before m stands = ⊎_elim
          (λ (lt : m < n). made_among h (take n es) c m (take_in es n m (Made c) lt stands))
          (λ (le : n ≤ m). dite (ℕ_discrete n m)
          (λ same. absurd (other_entry c (parent_of h.parents c) (sym stands ∙ subst (λ k. slice_get es k ≡ Some (Begin (parent_of h.parents c))) same at)))
          (λ ne. absurd (late m stands (omega (arith, le, ne)))))
          (cases_lt m n)
        where
          late : (m : ℕ) → slice_get es m ≡ Some (Made c) → n < m → ⊥
          late m stands lt = let may : MayBeMade h (take m es) c = legal m (Made c) stands in let t = begin_found (take m es) (parent_of h.parents c) n (take_in es m n (Begin (parent_of h.parents c)) lt at) in none-some t.0 (sym may.online ∙ t.1)

  -- the parent of a made group is made
  pub made_up : (c : ℕ) → c < length h.parents → is_made h es c ≡ true → is_made h es (parent_of h.parents c) ≡ true
  made_up c lt made = ⊎_elim
      (λ (f : is_later h.later c ≡ false). made_always h es (parent_of h.parents c) (groups.above c lt f))
      (λ (t : (m : ℕ) × (slice_get es m ≡ Some (Made c))). let may : MayBeMade h (take t.0 es) c = legal t.0 (Made c) t.1 in
      subst (λ (l : List TreeEntry). is_made h l (parent_of h.parents c) ≡ true) (take-append-drop t.0 es) (is_made_grows h (take t.0 es) (drop t.0 es) (parent_of h.parents c) may.parent))
      (made_how h es c made)

  -- a group that stands on the path of another is that one or stands on the path of its parent, of which it is a child
  on_path : (g c : ℕ) → c < length h.parents → IsAtOrAbove h.parents g c → (g ≡ c) ⊎ ((0 < c) × IsAtOrAbove h.parents g (parent_of h.parents c))
  on_path g zero lt on = inl (⊎_elim (λ e. sym e) (λ k. absurd k) (Has_from_Contains (0 ∷ []) g (subst (λ l. Contains l g) (path_of-root h.parents) on)))
  on_path g (suc c) lt on = ⊎_elim (λ e. inl (sym e)) (λ k. inr (omega arith, Contains_from_Has (path_of h.parents (parent_of h.parents (suc c))) g k))
      (Has_from_Contains (suc c ∷ path_of h.parents (parent_of h.parents (suc c))) g (subst (λ l. Contains l g) (path_of-below h.parents groups.tree (suc c) (omega arith) lt) on))

  child_of_parent : (c : ℕ) → 0 < c → c < length h.parents → is_child h.parents (parent_of h.parents c) c ≡ true
  child_of_parent c low lt = child_again h.parents (parent_of h.parents c) c (record { above = low; there = lt; parent = refl })

  -- a group that began has each group below it that is made done before
  pub done_below : (k g c n : ℕ) → c ≤ k → c < length h.parents → IsAtOrAbove h.parents g c → g ≢ c → is_made h es c ≡ true → slice_get es n ≡ Some (Begin g) → (m : ℕ) × (slice_get es m ≡ Some (Done c)) × (m < n)
  done_below zero g c n le lt on apart made at = absurd (apart (⊎_elim (λ e. e) (λ k. absurd (omega (arith, le, k.0))) (on_path g c lt on)))
  done_below (suc k) g c n le lt on apart made at = ⊎_elim (λ e. absurd (apart e)) (λ o. through g c n lt at made o (done_below k g (parent_of h.parents c) n) le) (on_path g c lt on)
    where
      through : (g c n : ℕ) → c < length h.parents → slice_get es n ≡ Some (Begin g) → is_made h es c ≡ true → (0 < c) × IsAtOrAbove h.parents g (parent_of h.parents c)
          → (parent_of h.parents c ≤ k → parent_of h.parents c < length h.parents → IsAtOrAbove h.parents g (parent_of h.parents c) → g ≢ parent_of h.parents c → is_made h es (parent_of h.parents c) ≡ true → slice_get es n ≡ Some (Begin g) → (m : ℕ) × (slice_get es m ≡ Some (Done (parent_of h.parents c))) × (m < n))
          → c ≤ suc k → (m : ℕ) × (slice_get es m ≡ Some (Done c)) × (m < n)
      through g c n lt at made (low, above) again le = let lower = groups.tree.lower c low lt in dite (ℕ_discrete g (parent_of h.parents c))
          (λ e. let here = subst (λ p. slice_get es n ≡ Some (Begin p)) e at in children_done g c n at (subst (λ p. is_child h.parents p c ≡ true) (sym e) (child_of_parent c low lt)) (made_first c n made here))
          (λ ne. let d = again (omega (arith, lower, le)) (omega (arith, lower, lt)) above ne (made_up c lt made) at in let b = begun_before (parent_of h.parents c) d.0 d.1 in
          let t = children_done (parent_of h.parents c) c b.0 b.1 (child_of_parent c low lt) (made_first c b.0 made b.1) in (t.0, t.1, omega (arith, t.2, b.2, d.2)))
