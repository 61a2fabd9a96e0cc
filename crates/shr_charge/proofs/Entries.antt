-- SPDX-License-Identifier: GPL-2.0-only
-- The Begin and the Done of a group in a journal that grows, and sums over groups.
use Rattle.shr_charge.proofs.Common.{◌≡◌, ℕ, zero, suc, ◌+◌, ◌*◌, ◌<◌, ◌≤◌, ◌≢◌, ◌-◌, Bool, true, false, not, ◌&&◌, ◌||◌, eqb, cond, List, [], ◌∷◌, ◌++◌, length, take, drop, sym, refl, ap, subst, ◌∙◌, ⊎_elim, arith, eq-eqb, Option, Some, None, slice_get, position_from, option_or, is_some, is_none, cases_Bool, eqb-true, take-append-drop, TreeEntry, Begin, Done, Made, is_begin, is_done, is_making, begin_of, done_of, made_of, is_made, MayBegin, IsTreeJournal, Hierarchy, is_later, sum_below, count_of_entries, is_open, opens}
use Rattle.shr_charge.proofs.Listing.{get_below, position-append, position-at}
use Rattle.shr_model.proofs.Booleans.{bit_small}

or_none : {A : Type 0} (x : Option A) → option_or x None ≡ x
or_none None = refl
or_none (Some x) = refl

or_some : {A : Type 0} (x y : Option A) (a : A) → x ≡ Some a → option_or x y ≡ Some a
or_some None y a e = absurd (let n : None ≡ Some a = e in cc)
or_some (Some x) y a e = e

module _ (p : TreeEntry → Bool) (es : List TreeEntry) (e : TreeEntry) where
  -- an entry that doesn't pass changes nothing
  pub position_past : p e ≡ false → position_from p 0 (es ++ e ∷ []) ≡ position_from p 0 es
  position_past f = position-append p 0 es (e ∷ []) ∙ (ap (λ b. option_or (position_from p 0 es) (cond b (Some (0 + length es)) None)) f ∙ or_none (position_from p 0 es))

  -- the first that passes
  pub position_new : position_from p 0 es ≡ None → p e ≡ true → position_from p 0 (es ++ e ∷ []) ≡ Some (length es)
  position_new n t = position-append p 0 es (e ∷ []) ∙ (ap (λ x. option_or x (cond (p e) (Some (0 + length es)) None)) n ∙ (ap (λ b. cond b (Some (0 + length es)) None) t ∙ ap Some (let z : 0 + length es ≡ length es = omega arith in z)))

-- a position stays when entries are appended
pub position_grows : (p : TreeEntry → Bool) (es more : List TreeEntry) (n : ℕ) → position_from p 0 es ≡ Some n → position_from p 0 (es ++ more) ≡ Some n
position_grows p es more n e = position-append p 0 es more ∙ or_some (position_from p 0 es) (position_from p (0 + length es) more) n e

module _ (es : List TreeEntry) (g : ℕ) where
  -- a group's first Begin is found at the end
  pub begin_new : begin_of es g ≡ None → begin_of (es ++ Begin g ∷ []) g ≡ Some (length es)
  begin_new n = position_new (is_begin g) es (Begin g) n (eq-eqb g g refl)

  -- the Begin of another group changes nothing
  pub begin_other : (h : ℕ) → eqb g h ≡ false → begin_of (es ++ Begin g ∷ []) h ≡ begin_of es h
  begin_other h f = position_past (is_begin h) es (Begin g) f

  -- a Done changes no Begin
  pub begin_past_done : (h : ℕ) → begin_of (es ++ Done g ∷ []) h ≡ begin_of es h
  begin_past_done h = position_past (is_begin h) es (Done g) refl

  -- a Begin changes no Done
  pub done_past_begin : (h : ℕ) → done_of (es ++ Begin g ∷ []) h ≡ done_of es h
  done_past_begin h = position_past (is_done h) es (Begin g) refl

  -- a group's first Done is found at the end
  pub done_new : done_of es g ≡ None → done_of (es ++ Done g ∷ []) g ≡ Some (length es)
  done_new n = position_new (is_done g) es (Done g) n (eq-eqb g g refl)

  -- a Made changes no Begin and no Done, and neither changes a Made
  pub begin_past_made : (h : ℕ) → begin_of (es ++ Made g ∷ []) h ≡ begin_of es h
  begin_past_made h = position_past (is_begin h) es (Made g) refl

  pub done_past_made : (h : ℕ) → done_of (es ++ Made g ∷ []) h ≡ done_of es h
  done_past_made h = position_past (is_done h) es (Made g) refl

  pub made_past_begin : (h : ℕ) → made_of (es ++ Begin g ∷ []) h ≡ made_of es h
  made_past_begin h = position_past (is_making h) es (Begin g) refl

  pub made_past_done : (h : ℕ) → made_of (es ++ Done g ∷ []) h ≡ made_of es h
  made_past_done h = position_past (is_making h) es (Done g) refl

  -- a group's first Made is found at the end
  pub made_new : made_of es g ≡ None → made_of (es ++ Made g ∷ []) g ≡ Some (length es)
  made_new n = position_new (is_making g) es (Made g) n (eq-eqb g g refl)

  -- the Made of another group changes nothing
  pub made_other : (h : ℕ) → eqb g h ≡ false → made_of (es ++ Made g ∷ []) h ≡ made_of es h
  made_other h f = position_past (is_making h) es (Made g) f

  pub made_grows : (more : List TreeEntry) (n : ℕ) → made_of es g ≡ Some n → made_of (es ++ more) g ≡ Some n
  made_grows more n e = position_grows (is_making g) es more n e

  pub done_other : (h : ℕ) → eqb g h ≡ false → done_of (es ++ Done g ∷ []) h ≡ done_of es h
  done_other h f = position_past (is_done h) es (Done g) f

  pub begin_grows : (more : List TreeEntry) (n : ℕ) → begin_of es g ≡ Some n → begin_of (es ++ more) g ≡ Some n
  begin_grows more n e = position_grows (is_begin g) es more n e

  pub done_grows : (more : List TreeEntry) (n : ℕ) → done_of es g ≡ Some n → done_of (es ++ more) g ≡ Some n
  done_grows more n e = position_grows (is_done g) es more n e

  -- a Begin stands where it is said to
  pub begin_below : (n : ℕ) → begin_of es g ≡ Some n → n < length es
  begin_below n e = let at = position-at (is_begin g) 0 es n e in let low = get_below es (n - 0) at.0 at.2 in omega arith

  pub done_below : (n : ℕ) → done_of es g ≡ Some n → n < length es
  done_below n e = let at = position-at (is_done g) 0 es n e in let low = get_below es (n - 0) at.0 at.2 in omega arith

eqb_apart : (a b : ℕ) → eqb a b ≡ false → a ≡ b → ⊥
eqb_apart a b f e = let t = eq-eqb a b e in let c : true ≡ false = sym t ∙ f in cc

pub not_same : (g k : ℕ) → k ≢ g → eqb g k ≡ false
not_same g k apart = ⊎_elim (λ t. absurd (apart (sym (eqb-true g k t)))) (λ f. f) (cases_Bool (eqb g k))

eqb_low : (g n : ℕ) → eqb g n ≡ false → g < suc n → g < n
eqb_low g n f low = let apart : g ≢ n = eqb_apart g n f in omega arith

-- sums over groups
pub sum_same : (f f' : ℕ → ℕ) (n : ℕ) → ((k : ℕ) → k < n → f' k ≡ f k) → sum_below f' n ≡ sum_below f n
sum_same f f' zero h = refl
sum_same f f' (suc n) h = omega (arith, sum_same f f' n (λ k l. h k (omega arith)), h n (omega arith))

-- what a sum over groups gains and loses when one term changes
pub sum_flip : (f f' : ℕ → ℕ) (n g : ℕ) → g < n → ((k : ℕ) → k ≢ g → f' k ≡ f k) → sum_below f' n + f g ≡ sum_below f n + f' g
sum_flip f f' zero g low h = absurd (omega arith)
sum_flip f f' (suc n) g low h = ⊎_elim
    (λ (t : eqb g n ≡ true). let e = eqb-true g n t in omega (arith, sum_same f f' n (λ k l. h k (λ z. absurd (omega (arith, z, e, l)))), ap f e, ap f' e))
    (λ (f0 : eqb g n ≡ false). omega (arith, sum_flip f f' n g (eqb_low g n f0 low) h, h n (λ z. eqb_apart g n f0 (sym z))))
    (cases_Bool (eqb g n))

pub sum_term : (f : ℕ → ℕ) (n g : ℕ) → g < n → f g ≤ sum_below f n
sum_term f zero g low = absurd (omega arith)
sum_term f (suc n) g low = ⊎_elim
    (λ (t : eqb g n ≡ true). let e = eqb-true g n t in omega (arith, ap f e))
    (λ (f0 : eqb g n ≡ false). omega (arith, sum_term f n g (eqb_low g n f0 low)))
    (cases_Bool (eqb g n))

pub sum_small : (f : ℕ → ℕ) (m n : ℕ) → ((k : ℕ) → f k ≤ m) → sum_below f n ≤ m * n
sum_small f m zero h = omega arith
sum_small f m (suc n) h = let rest = sum_small f m n h in let one = h n in let e : m * suc n ≡ m * n + m = omega arith in omega arith

pub entries_small : (es : List TreeEntry) (g : ℕ) → count_of_entries es g ≤ 3
entries_small es g = omega (arith, bit_small (is_some (begin_of es g)), bit_small (is_some (done_of es g)), bit_small (is_some (made_of es g)))

-- a Begin more
module _ (es : List TreeEntry) (g n : ℕ) (low : g < n) (once : begin_of es g ≡ None) where
  -- a Begin adds one entry
  pub entries_begin : sum_below (count_of_entries (es ++ Begin g ∷ [])) n ≡ sum_below (count_of_entries es) n + 1
  entries_begin = let flip = sum_flip (count_of_entries es) (count_of_entries (es ++ Begin g ∷ [])) n g low (λ k apart. let f = not_same g k apart in
      let b = ap {B = ℕ} (λ (x : Option ℕ). cond (is_some x) 1 0) (begin_other es g k f) in let d = ap {B = ℕ} (λ (x : Option ℕ). cond (is_some x) 1 0) (done_past_begin es g k) in let m = ap {B = ℕ} (λ (x : Option ℕ). cond (is_some x) 1 0) (made_past_begin es g k) in omega (arith, b, d, m)) in
      let b = ap {B = ℕ} (λ (x : Option ℕ). cond (is_some x) 1 0) (begin_new es g once) in let was = ap {B = ℕ} (λ (x : Option ℕ). cond (is_some x) 1 0) once in
      let d = ap {B = ℕ} (λ (x : Option ℕ). cond (is_some x) 1 0) (done_past_begin es g g) in let m = ap {B = ℕ} (λ (x : Option ℕ). cond (is_some x) 1 0) (made_past_begin es g g) in omega (arith, flip, b, was, d, m)

  -- a Begin adds at most one open group
  pub opens_begin : opens n (es ++ Begin g ∷ []) ≤ opens n es + 1
  opens_begin = let flip = sum_flip (is_open es) (is_open (es ++ Begin g ∷ [])) n g low (λ k apart. let f = not_same g k apart in
      ap {B = ℕ} (λ (x : Option ℕ). cond (is_some x && is_none (done_of (es ++ Begin g ∷ []) k)) 1 0) (begin_other es g k f) ∙ ap {B = ℕ} (λ (x : Option ℕ). cond (is_some (begin_of es k) && is_none x) 1 0) (done_past_begin es g k)) in
      let small = bit_small (is_some (begin_of (es ++ Begin g ∷ []) g) && is_none (done_of (es ++ Begin g ∷ []) g)) in omega (arith, flip, small)

-- a Done more
module _ (es : List TreeEntry) (g n : ℕ) (low : g < n) (b : ℕ) (begun : begin_of es g ≡ Some b) (once : done_of es g ≡ None) where
  -- a Done adds one entry
  pub entries_done : sum_below (count_of_entries (es ++ Done g ∷ [])) n ≡ sum_below (count_of_entries es) n + 1
  entries_done = let flip = sum_flip (count_of_entries es) (count_of_entries (es ++ Done g ∷ [])) n g low (λ k apart. let f = not_same g k apart in
      let x = ap {B = ℕ} (λ (x : Option ℕ). cond (is_some x) 1 0) (begin_past_done es g k) in let d = ap {B = ℕ} (λ (x : Option ℕ). cond (is_some x) 1 0) (done_other es g k f) in let m = ap {B = ℕ} (λ (x : Option ℕ). cond (is_some x) 1 0) (made_past_done es g k) in omega (arith, x, d, m)) in
      let x = ap {B = ℕ} (λ (x : Option ℕ). cond (is_some x) 1 0) (begin_past_done es g g) in
      let d = ap {B = ℕ} (λ (x : Option ℕ). cond (is_some x) 1 0) (done_new es g once) in let was = ap {B = ℕ} (λ (x : Option ℕ). cond (is_some x) 1 0) once in let m = ap {B = ℕ} (λ (x : Option ℕ). cond (is_some x) 1 0) (made_past_done es g g) in omega (arith, flip, x, was, d, m)

  is_open_now : is_open es g ≡ 1
  is_open_now = ap {B = ℕ} (λ (x : Option ℕ). cond (is_some x && is_none (done_of es g)) 1 0) begun ∙ ap {B = ℕ} (λ (x : Option ℕ). cond (is_none x) 1 0) once

  pub opens_some : 1 ≤ opens n es
  opens_some = let t = sum_term (is_open es) n g low in omega (arith, t, is_open_now)

  -- a Done ends one open group
  pub opens_done : opens n (es ++ Done g ∷ []) + 1 ≡ opens n es
  opens_done = let flip = sum_flip (is_open es) (is_open (es ++ Done g ∷ [])) n g low (λ k apart. let f = not_same g k apart in
      ap {B = ℕ} (λ (x : Option ℕ). cond (is_some x && is_none (done_of (es ++ Done g ∷ []) k)) 1 0) (begin_past_done es g k) ∙ ap {B = ℕ} (λ (x : Option ℕ). cond (is_some (begin_of es k) && is_none x) 1 0) (done_other es g k f)) in
      let now = ap {B = ℕ} (λ (x : Option ℕ). cond (is_some x && is_none (done_of (es ++ Done g ∷ []) g)) 1 0) (begin_past_done es g g ∙ begun) ∙ ap {B = ℕ} (λ (x : Option ℕ). cond (is_none x) 1 0) (done_new es g once) in omega (arith, flip, now, is_open_now)

-- a Made more
module _ (es : List TreeEntry) (g n : ℕ) (low : g < n) (once : made_of es g ≡ None) where
  -- a Made adds one entry
  pub entries_made : sum_below (count_of_entries (es ++ Made g ∷ [])) n ≡ sum_below (count_of_entries es) n + 1
  entries_made = let flip = sum_flip (count_of_entries es) (count_of_entries (es ++ Made g ∷ [])) n g low (λ k apart. let f = not_same g k apart in
      let b = ap {B = ℕ} (λ (x : Option ℕ). cond (is_some x) 1 0) (begin_past_made es g k) in let d = ap {B = ℕ} (λ (x : Option ℕ). cond (is_some x) 1 0) (done_past_made es g k) in let m = ap {B = ℕ} (λ (x : Option ℕ). cond (is_some x) 1 0) (made_other es g k f) in omega (arith, b, d, m)) in
      let b = ap {B = ℕ} (λ (x : Option ℕ). cond (is_some x) 1 0) (begin_past_made es g g) in let d = ap {B = ℕ} (λ (x : Option ℕ). cond (is_some x) 1 0) (done_past_made es g g) in
      let m = ap {B = ℕ} (λ (x : Option ℕ). cond (is_some x) 1 0) (made_new es g once) in let was = ap {B = ℕ} (λ (x : Option ℕ). cond (is_some x) 1 0) once in omega (arith, flip, b, d, m, was)

-- and opens no group
pub opens_made : (es : List TreeEntry) (g n : ℕ) → opens n (es ++ Made g ∷ []) ≡ opens n es
opens_made es g n = sum_same (is_open es) (is_open (es ++ Made g ∷ [])) n (λ k low.
    ap {B = ℕ} (λ (x : Option ℕ). cond (is_some x && is_none (done_of (es ++ Made g ∷ []) k)) 1 0) (begin_past_made es g k) ∙ ap {B = ℕ} (λ (x : Option ℕ). cond (is_some (begin_of es k) && is_none x) 1 0) (done_past_made es g k))

-- a group that is made stays so
some_grows : (p : TreeEntry → Bool) (es more : List TreeEntry) → is_some (position_from p 0 es) ≡ true → is_some (position_from p 0 (es ++ more)) ≡ true
some_grows p es more t = let at = the_one (position_from p 0 es) t in ap {B = Bool} (λ (x : Option ℕ). is_some x) (position_grows p es more at.0 at.1)
  where
    the_one : (o : Option ℕ) → is_some o ≡ true → (n : ℕ) × (o ≡ Some n)
    the_one None e = absurd (let c : false ≡ true = e in cc)
    the_one (Some n) e = (n, refl)

or_cases : (a b c : Bool) → (b ≡ true → c ≡ true) → (a || b) ≡ true → (a || c) ≡ true
or_cases true b c f e = refl
or_cases false b c f e = f e

pub is_made_grows : (h : Hierarchy) (es more : List TreeEntry) (g : ℕ) → is_made h es g ≡ true → is_made h (es ++ more) g ≡ true
is_made_grows h es more g t = or_cases (not (is_later h.later g)) (is_some (made_of es g)) (is_some (made_of (es ++ more) g)) (some_grows (is_making g) es more) t

-- a group that began is made
pub begun_made : (h : Hierarchy) (es : List TreeEntry) (g n : ℕ) → IsTreeJournal h es → begin_of es g ≡ Some n → is_made h es g ≡ true
begun_made h es g n legal is = let t = position-at (is_begin g) 0 es n is in
    let stands : slice_get es n ≡ Some t.0 = subst (λ (k : ℕ). slice_get es k ≡ Some t.0) (let z : n - 0 ≡ n = omega arith in z) t.2 in
    let may : MayBegin h (take n es) g = began t.0 t.3 stands in
    subst (λ (l : List TreeEntry). is_made h l g ≡ true) (take-append-drop n es) (is_made_grows h (take n es) (drop n es) g may.made)
  where
    began : (e : TreeEntry) → is_begin g e ≡ true → slice_get es n ≡ Some e → MayBegin h (take n es) g
    began (Begin x) t at = subst (λ (k : ℕ). MayBegin h (take n es) k) (eqb-true x g t) (legal n (Begin x) at)
    began (Done x) t at = absurd (let c : false ≡ true = t in cc)
    began (Made x) t at = absurd (let c : false ≡ true = t in cc)

-- no more groups are open than there are
pub opens_all : (es : List TreeEntry) (n : ℕ) → opens n es ≤ n
opens_all es n = let s = sum_small (is_open es) 1 n (λ g. bit_small (is_some (begin_of es g) && is_none (done_of es g))) in omega (arith, s)
