-- SPDX-License-Identifier: GPL-2.0-only
-- What the words are once all other seats were joined.
use Rattle.shr_deferred.proofs.Common.{◌≡◌, ℕ, ◌+◌, ◌%◌, ◌^◌, ◌<◌, ◌≢◌, true, false, cond, List, [], ◌∷◌, ◌++◌, get_or, sym, refl, ap, ◌∙◌, arith, eq-eqb, ne_eqb, append-nil, some, get_elem?, Final, Seen, Place, PlaceAmount, amount_of, View, Sizes, row_of, row_count, place_of_row, Deed, acts_of, part, lined_sole, Move, IsDeferredSound, AreTaken, Amounts, deeds_in, standing_in, spent_view, strands_in, amounts_after, nothing_deferred, left_at, HasHistory, not, filter, IsWhole, range_same}
use Rattle.std.proofs.lemmas.List.FromFn.{filter_of_map_range_with_len_more}
use Rattle.shr_seats.proofs.RowLaws.{place_inside, row_back}
use Rattle.shr_deferred.proofs.Words.{left_small, left_is}
use Rattle.shr_deferred.proofs.Renamed.{renamed, parts_renamed, so_renamed, after_renamed}
use Rattle.shr_deferred.specs.Left.{is_some_amount, amounts, left_over}
use Rattle.shr_model.proofs.Lists.{word_of}

amounts_same : (z : Sizes) (f g : ℕ → ℕ) (n : ℕ) → ((i : ℕ) → i < n → f i ≡ g i) → amounts z f n ≡ amounts z g n
unfolding amounts
amounts_same z f g n h = ap (filter is_some_amount) (range_same (λ i. amount_of (place_of_row z i) (f i)) (λ i. amount_of (place_of_row z i) (g i)) 0 n (λ i l. ap (amount_of (place_of_row z i)) (h i (omega arith))))

amounts_next : (z : Sizes) (f : ℕ → ℕ) (n : ℕ) → amounts z f (n + 1) ≡ amounts z f n ++ cond (is_some_amount (amount_of (place_of_row z n) (f n))) (amount_of (place_of_row z n) (f n) ∷ []) []
unfolding amounts
amounts_next z f n = filter_of_map_range_with_len_more is_some_amount (λ i. amount_of (place_of_row z i) (f i)) 0 n n (omega arith)

pub amounts_none : (z : Sizes) (f : ℕ → ℕ) → amounts z f 0 ≡ []
unfolding amounts
amounts_none z f = refl

-- a word that is 0 adds no amount
pub amounts_skip : (z : Sizes) (f : ℕ → ℕ) (n : ℕ) → f n ≡ 0 → amounts z f (n + 1) ≡ amounts z f n
amounts_skip z f n e = amounts_next z f n ∙ (ap (λ b. amounts z f n ++ cond (not b) (amount_of (place_of_row z n) (f n) ∷ []) []) (eq-eqb (f n) 0 e) ∙ append-nil (amounts z f n))

-- a word that is not 0 adds its amount
pub amounts_push : (z : Sizes) (f : ℕ → ℕ) (n k : ℕ) (old new : List PlaceAmount) (p : Place) → old ≡ amounts z f n → new ≡ old ++ amount_of p k ∷ [] → p ≡ place_of_row z n → f n ≡ k → k ≢ 0 → new ≡ amounts z f (n + 1)
amounts_push z f n k old new p was pushed here e ne = pushed ∙ (ap (λ l. l ++ amount_of p k ∷ []) was ∙ (ap (λ q. amounts z f n ++ amount_of q k ∷ []) here ∙ (ap (λ x. amounts z f n ++ amount_of (place_of_row z n) x ∷ []) (sym e)
    ∙ sym (amounts_next z f n ∙ ap (λ b. amounts z f n ++ cond (not b) (amount_of (place_of_row z n) (f n) ∷ []) []) (ne_eqb (f n) 0 (λ h. ne (sym e ∙ h)))))))

-- what is left is what the line of all moves leaves, in which each seat's stand as the first seat's view tells them
pub record IsOrder (z : Sizes) (did : List (Deed Move)) (rest : List PlaceAmount) : Type 0 where
  pub line : List (Deed Move)
  pub parts : (seat : ℕ) → part seat did ≡ part seat line
  pub taken : AreTaken line
  pub left : rest ≡ amounts z (λ i. amounts_after line (place_of_row z i)) (row_count z)

module _ (z : Sizes) (id : ℕ) (v : View) (words : List ℕ) (slots : List (Unit {0})) (is : v.standing.first ≡ true) (here : v.standing.gone ≡ false) (whole : IsWhole v.standing) (some-nodes : 0 < z.nodes) (some-groups : 0 < z.groups)
    (final : Final (Seen (IsDeferredSound z) id v) words slots) where
  abbrev rest : List PlaceAmount
  rest = amounts z (λ i. get_or words i 0 % 2 ^ 64) (row_count z)

  order : IsOrder z v.did rest
  order = let s = final.0 in let o = final.1.0 in let me = final.1.1 in record {
    line = o.line;
    parts = lined_sole standing_in deeds_in s.views id v me here o.line o.lined spent_view is whole o.seats o.emptied refl;
    taken = o.taken;
    left = amounts_same z (λ i. get_or words i 0 % 2 ^ 64) (λ i. amounts_after o.line (place_of_row z i)) (row_count z) (λ i low. let p : Place = place_of_row z i in
        let was = o.left p (place_inside z i some-nodes some-groups low) in
        let word : get_or s.words (row_of z p) 0 ≡ get_or words i 0 = ap (λ (k : ℕ). get_or s.words k 0) (row_back z i) ∙ ap (λ (l : List ℕ). get_or l i 0) final.2 in
        omega (arith, was, word, left_small p o.line));
  }

  -- what is left is what was given less what was taken
  pub order_left : rest ≡ left_over z (acts_of v.did)
  order_left = order.left ∙ amounts_same z (λ i. amounts_after order.line (place_of_row z i)) (λ i. left_at (place_of_row z i) (acts_of v.did)) (row_count z) (λ i low. left_is (place_of_row z i) order.line v.did order.taken order.parts)

  -- and the moves of each strand stand in one line
  pub ends : HasHistory z (strands_in v) rest
  ends = let o = order in let t = (final.1.0.own id v final.1.1 here).first is in record {
    line = renamed t o.line;
    parts = parts_renamed t o.line o.parts;
    taken = so_renamed t nothing_deferred o.line o.taken;
    left = o.left ∙ amounts_same z (λ i. amounts_after o.line (place_of_row z i)) (λ i. amounts_after (renamed t o.line) (place_of_row z i)) (row_count z) (λ i low. ap (λ (w : Amounts). w (place_of_row z i)) (sym (after_renamed t nothing_deferred o.line)));
  }

-- a word that was read
pub word_read : (ws : List ℕ) (i w : ℕ) → get_elem? ws i ≡ some w → w < 2 ^ 64 → get_or ws i 0 % 2 ^ 64 ≡ w
word_read ws i w e small = let same = word_of ws i w e in omega (arith, same, small)
