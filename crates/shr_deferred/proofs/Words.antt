-- SPDX-License-Identifier: GPL-2.0-only
-- The words and the line of all moves, on plain data.
use Rattle.shr_deferred.proofs.Common.{◌≡◌, ℕ, ◌+◌, ◌^◌, ◌%◌, ◌<◌, ◌≢◌, true, false, cond, eqb, List, [], ◌∷◌, ◌++◌, sym, refl, ap, ◌∙◌, ⊎_elim, arith, eq-eqb, Place, amount_of, Sizes, IsPlaceOf, row_of, Deed, acts_of, part, state_after, AreSo, Move, Moves, took, gave, takes_of, gives_of, Amounts, amounts_next, TakesAll, nothing_deferred, amounts_after, AreTaken, left_at, ◌&&◌, amount_at, state_after_push, total_parts, after_move, took_at, gave_at}
use Rattle.std.proofs.lemmas.Bool.{cases_Bool}
use Rattle.std.proofs.lemmas.Bool.Decides.{nat_tests}
use Rattle.std.proofs.lemmas.List.Sums.{sum_by-cons}
use Rattle.shr_model.specs.Places.{is_place}
use Rattle.shr_seats.proofs.RowLaws.{SamePlace, IsAcross, one_place, same_row}
use Rattle.shr_seats.specs.Weights.{total}
use Rattle.shr_model.proofs.PlacesLaws.{is_place_same}

is_same : (p q : Place) → is_place p q ≡ true → SamePlace p q
is_same p q e = record { id = grind (arith, nat_tests); node = grind (arith, nat_tests); group = grind (arith, nat_tests) }

test_same : (p q : Place) → SamePlace p q → is_place p q ≡ true
test_same p q s = let a = eq-eqb p.id q.id (sym s.id) in let b = eq-eqb p.node q.node (sym s.node) in let c = eq-eqb p.group q.group (sym s.group) in
    ap (λ x. (x && eqb p.node q.node) && eqb p.group q.group) a ∙ (ap (λ x. x && eqb p.group q.group) b ∙ c)

across : (z : Sizes) (p : Place) → IsPlaceOf z p → IsAcross z p
across z p a = record { node = a.node; group = a.group }

-- no other place has the word
apart : (z : Sizes) (p q : Place) → IsPlaceOf z p → IsPlaceOf z q → is_place q p ≡ false → row_of z q ≢ row_of z p
apart z p q a b no-match e = cc (test_same q p (one_place z q p (across z q b) (across z p a) e))

-- what the line leaves with one move more
amounts_push : (line : List (Deed Move)) (d : Deed Move) (q : Place) → amounts_after (line ++ d ∷ []) q ≡ after_move (amounts_after line) d.act q
amounts_push line d q = ap (λ (w : Amounts). w q) (state_after_push amounts_next nothing_deferred line d)

-- each word is what the line leaves
abbrev pub AreLeft : Sizes → (ℕ → ℕ) → List (Deed Move) → Type 0
AreLeft z word line = (q : Place) → IsPlaceOf z q → word (row_of z q) ≡ amounts_after line q

module _ (z : Sizes) (word word' : ℕ → ℕ) (line : List (Deed Move)) (o : AreLeft z word line) (id : ℕ) (p : Place) (inside : IsPlaceOf z p) (others : (k : ℕ) → k ≢ row_of z p → word' k ≡ word k) where
  -- after a take
  pub takes : (n : ℕ) → word' (row_of z p) ≡ 0 → AreLeft z word' (line ++ record { seat = id; act = took (amount_of p n) } ∷ [])
  takes n zero-now q near = let w : Amounts = amounts_after line in let d : Deed Move = record { seat = id; act = took (amount_of p n) } in ⊎_elim
      (λ hit. ap word' (sym (same_row z q p (is_same q p hit))) ∙ (zero-now ∙ sym (amounts_push line d q ∙ ap (λ b. cond b 0 (w q)) hit)))
      (λ miss. others (row_of z q) (apart z p q inside near miss) ∙ (o q near ∙ sym (amounts_push line d q ∙ ap (λ b. cond b 0 (w q)) miss)))
      (cases_Bool (is_place q p))

  -- after a give
  pub gives : (n : ℕ) → word' (row_of z p) ≡ (word (row_of z p) + n) % 2 ^ 64 → AreLeft z word' (line ++ record { seat = id; act = gave (amount_of p n) } ∷ [])
  gives n sum-now q near = let w : Amounts = amounts_after line in let d : Deed Move = record { seat = id; act = gave (amount_of p n) } in ⊎_elim
      (λ hit. ap word' (sym (same_row z q p (is_same q p hit))) ∙ (sum-now ∙ (ap (λ k. (k + n) % 2 ^ 64) (o p inside ∙ ap w (sym (is_place_same q p hit))) ∙ sym (amounts_push line d q ∙ ap (λ b. cond b ((w q + n) % 2 ^ 64) (w q)) hit))))
      (λ miss. others (row_of z q) (apart z p q inside near miss) ∙ (o q near ∙ sym (amounts_push line d q ∙ ap (λ b. cond b ((w q + n) % 2 ^ 64) (w q)) miss)))
      (cases_Bool (is_place q p))

module _ (p : Place) where
  -- what a move takes at the place, and gives there
  taken_in : Deed Move → ℕ
  taken_in d = took_at p (d.act ∷ [])

  given_in : Deed Move → ℕ
  given_in d = gave_at p (d.act ∷ [])

  taken_cons : (a : Move) (m : Moves) → took_at p (a ∷ m) ≡ took_at p (a ∷ []) + took_at p m
  taken_cons (took x) m = omega (arith, sum_by-cons (amount_at p) x (takes_of m), sum_by-cons (amount_at p) x [])
  taken_cons (gave x) m = omega arith

  given_cons : (a : Move) (m : Moves) → gave_at p (a ∷ m) ≡ gave_at p (a ∷ []) + gave_at p m
  given_cons (took x) m = omega arith
  given_cons (gave x) m = omega (arith, sum_by-cons (amount_at p) x (gives_of m), sum_by-cons (amount_at p) x [])

  taken_total : (l : List (Deed Move)) → took_at p (acts_of l) ≡ total taken_in l
  unfolding taken_in
  taken_total [] = refl
  taken_total (d ∷ ds) = omega (arith, taken_cons d.act (acts_of ds), taken_total ds)

  given_total : (l : List (Deed Move)) → gave_at p (acts_of l) ≡ total given_in l
  unfolding given_in
  given_total [] = refl
  given_total (d ∷ ds) = omega (arith, given_cons d.act (acts_of ds), given_total ds)

  -- a move that takes all changes the word by what it gives less what it takes
  changed : (w : Amounts) (a : Move) → TakesAll w a → (after_move w a p + took_at p (a ∷ [])) % 2 ^ 64 ≡ (w p + gave_at p (a ∷ [])) % 2 ^ 64
  changed w (took x) all = let s = sum_by-cons (amount_at p) x [] in ⊎_elim
      (λ hit. omega (arith, s, ap (λ b. cond b 0 (w p)) hit, ap (λ b. cond b x.amount 0) hit, all, ap w (is_place_same p x.place hit)))
      (λ miss. omega (arith, s, ap (λ b. cond b 0 (w p)) miss, ap (λ b. cond b x.amount 0) miss))
      (cases_Bool (is_place p x.place))
  changed w (gave x) all = let s = sum_by-cons (amount_at p) x [] in ⊎_elim
      (λ hit. omega (arith, s, ap (λ b. cond b ((w p + x.amount) % 2 ^ 64) (w p)) hit, ap (λ b. cond b x.amount 0) hit))
      (λ miss. omega (arith, s, ap (λ b. cond b ((w p + x.amount) % 2 ^ 64) (w p)) miss, ap (λ b. cond b x.amount 0) miss))
      (cases_Bool (is_place p x.place))

  small : (w : Amounts) (a : Move) → w p < 2 ^ 64 → after_move w a p < 2 ^ 64
  small w (took x) low = ⊎_elim (λ hit. omega (arith, ap (λ b. cond b 0 (w p)) hit)) (λ miss. omega (arith, low, ap (λ b. cond b 0 (w p)) miss)) (cases_Bool (is_place p x.place))
  small w (gave x) low = ⊎_elim (λ hit. omega (arith, ap (λ b. cond b ((w p + x.amount) % 2 ^ 64) (w p)) hit)) (λ miss. omega (arith, low, ap (λ b. cond b ((w p + x.amount) % 2 ^ 64) (w p)) miss)) (cases_Bool (is_place p x.place))

  sums : (w : Amounts) (l : List (Deed Move)) → AreSo amounts_next (λ v d. TakesAll v d.act) w l → (state_after amounts_next w l p + took_at p (acts_of l)) % 2 ^ 64 ≡ (w p + gave_at p (acts_of l)) % 2 ^ 64
  sums w [] all = refl
  sums w (d ∷ ds) all = omega (arith, sums (amounts_next w d) ds all.1, changed w d.act all.0, taken_cons d.act (acts_of ds), given_cons d.act (acts_of ds))

  smalls : (w : Amounts) (l : List (Deed Move)) → w p < 2 ^ 64 → state_after amounts_next w l p < 2 ^ 64
  smalls w [] low = low
  smalls w (d ∷ ds) low = smalls (amounts_next w d) ds (small w d.act low)

  -- what a line leaves has 64 bits
  pub left_small : (line : List (Deed Move)) → amounts_after line p < 2 ^ 64
  left_small line = smalls nothing_deferred line (omega arith)

  -- it is what was given less what was taken, by all that have the line's parts
  pub left_is : (line did : List (Deed Move)) → AreTaken line → ((seat : ℕ) → part seat did ≡ part seat line) → amounts_after line p ≡ left_at p (acts_of did)
  left_is line did all parts = omega (arith, sums nothing_deferred line all, left_small line, taken_total line, taken_total did, given_total line, given_total did, total_parts taken_in did line parts, total_parts given_in did line parts)
