-- SPDX-License-Identifier: GPL-2.0-only
-- What the tries of a walk of the pools did in each room.
use Rattle.shr_lawful.proofs.UnitsCommon.{◌≡◌, ℕ, zero, suc, ◌+◌, ◌<◌, ◌≤◌, ◌≢◌, ◌⊎◌, inl, inr, ⊎_elim, Bool, true, false, cond, List, [], ◌∷◌, ◌++◌, length, sym, refl, ap, subst, ◌∙◌, arith, append_assoc, slice_get, Option, Some, None, sum_by, append-nil, sum_by-append, sum_by-cons, same_Some, none-some, dite, ℕ_discrete, Place, Serial, PassRecord, PlainTry, Empty, Skip, Ran, sum_at, amount_at, is_place, is_place_same, is_place_itself, Moves, both, takes_of, gives_of, no_moves, takes_both, gives_both, Sizes, row_of, IsAcross, part_at, Setting, PlainState, home_place, answer_of, pass_in, amount_of, moves_by, one_place, TryGives, AreTried}
use Rattle.shr_model.proofs.Booleans.{no_test}

-- what a pass weighs, if there is one
abbrev pub weight : (PassRecord → ℕ) → Option PassRecord → ℕ
weight f None = 0
weight f (Some p) = f p

module _ (settings : List Setting) (z : Sizes) (by : Serial) (walk node priority : ℕ) (across : (pool : ℕ) → IsAcross z (home_place settings pool node)) where
  abbrev place : ℕ → Place
  place pool = home_place settings pool node

  abbrev room : ℕ → ℕ
  room pool = row_of z (home_place settings pool node)

  abbrev Tried : ℕ → List PlainTry → PlainState → PlainState → Type 0
  Tried pool xs s t = AreTried settings z by walk node priority pool xs s t

  -- two pools have two rooms
  pub rooms_apart : (p q : ℕ) → room p ≡ room q → q ≡ p
  rooms_apart p q e = (one_place z (place p) (place q) (across p) (across q) e).id

  -- a room of no try stays as it was
  pub untouched : (pool : ℕ) (xs : List PlainTry) (s t : PlainState) → Tried pool xs s t → (i : ℕ) → ((j : ℕ) → j < length xs → i ≢ room (pool + j)) → part_at t.rooms i ≡ part_at s.rooms i
  untouched pool [] s t a i n = ap (λ (u : PlainState). part_at u.rooms i) a
  untouched pool (x ∷ xs) s t a i n = untouched (pool + 1) xs a.0 t a.2 i (λ j lt e. n (suc j) (omega (arith, lt)) (e ∙ ap room (let m : pool + 1 + j ≡ pool + suc j = omega arith in m)))
      ∙ a.1.others i (λ e. n 0 (omega arith) (e ∙ ap room (let m : pool ≡ pool + 0 = omega arith in m)))

  -- the states right before and right after a try, which have in its room what the walk found and left there
  pub record TriedAt (pool : ℕ) (x : PlainTry) (s t : PlainState) : Type 0 where
    pub first : PlainState
    pub last : PlainState
    pub gives : TryGives settings z by walk node priority pool x first last
    pub before : part_at first.rooms (room pool) ≡ part_at s.rooms (room pool)
    pub after : part_at last.rooms (room pool) ≡ part_at t.rooms (room pool)

  pub tried_at : (pool : ℕ) (xs : List PlainTry) (s t : PlainState) → Tried pool xs s t → (k : ℕ) (x : PlainTry) → slice_get xs k ≡ Some x → TriedAt (pool + k) x s t
  tried_at pool [] s t a k x e = absurd (none-some x e)
  tried_at pool (y ∷ xs) s t a zero x e = subst (λ (n : ℕ). TriedAt n x s t) (let m : pool ≡ pool + 0 = omega arith in m) (subst (λ (z : PlainTry). TriedAt pool z s t) (same_Some y x e) (record {
    first = s;
    last = a.0;
    gives = a.1;
    before = refl;
    after = sym (untouched (pool + 1) xs a.0 t a.2 (room pool) (λ j lt d. let q = rooms_apart pool (pool + 1 + j) d in omega (arith, q)));
  }))
  tried_at pool (y ∷ xs) s t a (suc k) x e =
      let r : TriedAt (pool + 1 + k) x a.0 t = tried_at (pool + 1) xs a.0 t a.2 k x e in
      subst (λ (n : ℕ). TriedAt n x s t) (let m : pool + 1 + k ≡ pool + suc k = omega arith in m) (record {
        first = r.first;
        last = r.last;
        gives = r.gives;
        before = r.before ∙ a.1.others (room (pool + 1 + k)) (λ d. let q = rooms_apart pool (pool + 1 + k) (sym d) in omega (arith, q));
        after = r.after;
      })

  -- a room is that of a try, or of none
  pub touched : (pool : ℕ) (xs : List PlainTry) (i : ℕ) → ((k : ℕ) × (x : PlainTry) × (slice_get xs k ≡ Some x) × (i ≡ room (pool + k))) ⊎ ((j : ℕ) → j < length xs → i ≢ room (pool + j))
  touched pool [] i = inr (λ j lt. absurd (omega (arith, lt)))
  touched pool (x ∷ xs) i = dite (ℕ_discrete i (room (pool + 0)))
      (λ e. inl (0, x, refl, e))
      (λ ne. ⊎_elim (λ t. inl (suc t.0, t.1, t.2, t.3 ∙ ap room (let m : pool + 1 + t.0 ≡ pool + suc t.0 = omega arith in m))) (λ f. inr (none ne f)) (touched (pool + 1) xs i))
    where
      none : i ≢ room (pool + 0) → ((j : ℕ) → j < length xs → i ≢ room (pool + 1 + j)) → (j : ℕ) → j < length (x ∷ xs) → i ≢ room (pool + j)
      none ne f zero lt e = ne e
      none ne f (suc j) lt e = f j (omega (arith, lt)) (e ∙ ap room (let m : pool + suc j ≡ pool + 1 + j = omega arith in m))

  -- what the tries took from the deferred words and gave to them
  abbrev pub moved : ℕ → List PlainTry → Moves
  moved pool [] = no_moves
  moved pool (x ∷ xs) = both (moves_by (place pool) (answer_of x)) (moved (pool + 1) xs)

  pub moves_are : (pool : ℕ) (xs : List PlainTry) (s t : PlainState) → Tried pool xs s t → t.moves ≡ both s.moves (moved pool xs)
  moves_are pool [] s t a = ap (λ (u : PlainState). u.moves) a ∙ sym (append-nil s.moves)
  moves_are pool (x ∷ xs) s t a = moves_are (pool + 1) xs a.0 t a.2 ∙ (ap (λ (m : Moves). both m (moved (pool + 1) xs)) a.1.moves ∙ append_assoc s.moves (moves_by (place pool) (answer_of x)) (moved (pool + 1) xs))

  one_sum : (p q : Place) (n : ℕ) → sum_at p (amount_of q n ∷ []) ≡ cond (is_place p q) n 0
  one_sum p q n = sum_by-cons (amount_at p) (amount_of q n) [] ∙ omega arith

  abbrev Given : Place → Moves → ℕ
  Given p m = sum_at p (gives_of m)

  abbrev Taken : Place → Moves → ℕ
  Taken p m = sum_at p (takes_of m)

  given_one : (p q : Place) (x : PlainTry) → Given p (moves_by q (answer_of x)) ≡ cond (is_place p q) (weight (λ (r : PassRecord). r.next) (pass_in x)) 0
  given_one p q (Empty version) = sym (cond_zero (is_place p q)) where
    cond_zero : (b : Bool) → cond {A = ℕ} b 0 0 ≡ 0
    cond_zero true = refl
    cond_zero false = refl
  given_one p q (Skip len version) = sym (cond_zero (is_place p q)) where
    cond_zero : (b : Bool) → cond {A = ℕ} b 0 0 ≡ 0
    cond_zero true = refl
    cond_zero false = refl
  given_one p q (Ran r) = one_sum p q r.next

  taken_one : (p q : Place) (x : PlainTry) → Taken p (moves_by q (answer_of x)) ≡ cond (is_place p q) (weight (λ (r : PassRecord). r.nr) (pass_in x)) 0
  taken_one p q (Empty version) = sym (cond_zero (is_place p q)) where
    cond_zero : (b : Bool) → cond {A = ℕ} b 0 0 ≡ 0
    cond_zero true = refl
    cond_zero false = refl
  taken_one p q (Skip len version) = sym (cond_zero (is_place p q)) where
    cond_zero : (b : Bool) → cond {A = ℕ} b 0 0 ≡ 0
    cond_zero true = refl
    cond_zero false = refl
  taken_one p q (Ran r) = one_sum p q r.nr

  given_both : (p : Place) (m k : Moves) → Given p (both m k) ≡ Given p m + Given p k
  given_both p m k = ap (sum_at p) (gives_both m k) ∙ sum_by-append (amount_at p) (gives_of m) (gives_of k)

  taken_both : (p : Place) (m k : Moves) → Taken p (both m k) ≡ Taken p m + Taken p k
  taken_both p m k = ap (sum_at p) (takes_both m k) ∙ sum_by-append (amount_at p) (takes_of m) (takes_of k)

  -- what a sum at a place comes to over all tries, where one try weighs so much by itself
  module _ (p : Place) (sum : Moves → ℕ) (f : PassRecord → ℕ) (none : sum no_moves ≡ 0) (one : (q : Place) (x : PlainTry) → sum (moves_by q (answer_of x)) ≡ cond (is_place p q) (weight f (pass_in x)) 0) (more : (m k : Moves) → sum (both m k) ≡ sum m + sum k) where
    pub sum_none : (pool : ℕ) (xs : List PlainTry) → ((j : ℕ) → j < length xs → p ≢ place (pool + j)) → sum (moved pool xs) ≡ 0
    sum_none pool [] h = none
    sum_none pool (x ∷ xs) h = let here : is_place p (place pool) ≡ false = no_test (is_place p (place pool)) (λ e. h 0 (omega arith) (is_place_same p (place pool) e ∙ ap place (let m : pool ≡ pool + 0 = omega arith in m))) in
        omega (
          arith,
          more (moves_by (place pool) (answer_of x)) (moved (pool + 1) xs),
          one (place pool) x,
          ap (λ b. cond b (weight f (pass_in x)) 0) here,
          sum_none (pool + 1) xs (λ j lt e. h (suc j) (omega (arith, lt)) (e ∙ ap place (let m : pool + 1 + j ≡ pool + suc j = omega arith in m))),
        )

    pub sum_one : (pool : ℕ) (xs : List PlainTry) (k : ℕ) (x : PlainTry) → slice_get xs k ≡ Some x → p ≡ place (pool + k) → sum (moved pool xs) ≡ weight f (pass_in x)
    sum_one pool [] k x e at = absurd (none-some x e)
    sum_one pool (y ∷ xs) zero x e at =
        let here : is_place p (place pool) ≡ true = ap (λ q. is_place q (place pool)) (at ∙ ap place (let m : pool + 0 ≡ pool = omega arith in m)) ∙ is_place_itself (place pool) in
        omega (
          arith,
          more (moves_by (place pool) (answer_of y)) (moved (pool + 1) xs),
          one (place pool) y,
          ap (λ b. cond b (weight f (pass_in y)) 0) here,
          ap (λ z. weight f (pass_in z)) (same_Some y x e),
          sum_none (pool + 1) xs (λ j lt d. let q : pool + 0 ≡ pool + 1 + j = ap (λ (w : Place). w.id) (sym at ∙ d) in omega (arith, q)),
        )
    sum_one pool (y ∷ xs) (suc k) x e at =
        let there : is_place p (place pool) ≡ false = no_test (is_place p (place pool)) (λ d. let q : pool + suc k ≡ pool = ap (λ (w : Place). w.id) (sym at ∙ is_place_same p (place pool) d) in omega (arith, q)) in
        omega (
          arith,
          more (moves_by (place pool) (answer_of y)) (moved (pool + 1) xs),
          one (place pool) y,
          ap (λ b. cond b (weight f (pass_in y)) 0) there,
          sum_one (pool + 1) xs k x e (at ∙ ap place (let m : pool + suc k ≡ pool + 1 + k = omega arith in m)),
        )

  pub given_none : (p : Place) (pool : ℕ) (xs : List PlainTry) → ((j : ℕ) → j < length xs → p ≢ place (pool + j)) → Given p (moved pool xs) ≡ 0
  given_none p = sum_none p (Given p) (λ (r : PassRecord). r.next) refl (given_one p) (given_both p)

  pub given_at : (p : Place) (pool : ℕ) (xs : List PlainTry) (k : ℕ) (x : PlainTry) → slice_get xs k ≡ Some x → p ≡ place (pool + k) → Given p (moved pool xs) ≡ weight (λ (r : PassRecord). r.next) (pass_in x)
  given_at p = sum_one p (Given p) (λ (r : PassRecord). r.next) refl (given_one p) (given_both p)

  pub taken_none : (p : Place) (pool : ℕ) (xs : List PlainTry) → ((j : ℕ) → j < length xs → p ≢ place (pool + j)) → Taken p (moved pool xs) ≡ 0
  taken_none p = sum_none p (Taken p) (λ (r : PassRecord). r.nr) refl (taken_one p) (taken_both p)

  pub taken_at : (p : Place) (pool : ℕ) (xs : List PlainTry) (k : ℕ) (x : PlainTry) → slice_get xs k ≡ Some x → p ≡ place (pool + k) → Taken p (moved pool xs) ≡ weight (λ (r : PassRecord). r.nr) (pass_in x)
  taken_at p = sum_one p (Taken p) (λ (r : PassRecord). r.nr) refl (taken_one p) (taken_both p)
