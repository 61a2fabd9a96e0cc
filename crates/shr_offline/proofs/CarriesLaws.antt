-- SPDX-License-Identifier: GPL-2.0-only
-- Carries one after another.
use Rattle.shr_offline.proofs.Common.{◌≡◌, ℕ, ◌+◌, ◌%◌, List, [], ◌∷◌, ◌++◌, refl, sym, ap, ◌∙◌, arith, subst, map-range_with_len_more, Place, Serial, Carry, Shape, DeferredSeated, GainsMoves, first_places, place_by_number, AreCarried, carry_move, carries_noted, ◌^◌, map, append_assoc, sum, above_of, carry_moves, carry_noted, amount_taken}
use Rattle.std.proofs.lemmas.List.{append-nil, map_push}
use Rattle.std.proofs.lemmas.Grind.{flat_map-append}
use Rattle.shr_base.specs.declared.ends.PlaceAmount.{PlaceAmount}
use Rattle.shr_deferred.proofs.SeatLaws.{Gains-none, Gains-trans}
use Rattle.shr_deferred.specs.Moves.{Moves, both, no_moves}
use Rattle.shr_offline.specs.Carries as carries
use Rattle.shr_model.proofs.Lists.{sum_push}
use Rattle.shr_walk.proofs.Doing.{moves_assoc}

both_none : (m : Moves) → both m no_moves ≡ m
both_none m = append-nil m

moves_push : (shape : Shape) (amounts : List PlaceAmount) (a : PlaceAmount) → carry_moves shape (amounts ++ a ∷ []) ≡ both (carry_moves shape amounts) (carry_move (above_of shape a.place) a)
moves_push shape [] a = both_none (carry_move (above_of shape a.place) a)
moves_push shape (b ∷ bs) a = ap (both (carry_move (above_of shape b.place) b)) (moves_push shape bs a) ∙ sym (moves_assoc (carry_move (above_of shape b.place) b) (carry_moves shape bs) (carry_move (above_of shape a.place) a))

-- nothing was carried yet
pub carried_none : (shape : Shape) (by : Serial) (group : ℕ) (s : DeferredSeated) (noted : List Carry) → AreCarried shape by group 0 0 s s noted noted
carried_none shape by group s noted = record {
  amounts = [];
  places = refl;
  moved = Gains-none s;
  noted = sym (append-nil noted);
  total_is = refl;
}

-- one place more
pub carried_more : (shape : Shape) (by : Serial) (group n total amount : ℕ) (old mid new : DeferredSeated) (before between after : List Carry) (a : PlaceAmount) → a.amount ≡ amount → a.place ≡ place_by_number shape group n
    → AreCarried shape by group n total old mid before between → GainsMoves mid new (carry_move (above_of shape a.place) a) → after ≡ between ++ carries_noted by (a ∷ [])
    → AreCarried shape by group (n + 1) ((total + amount) % 2 ^ 64) old new before after
carried_more shape by group n total amount old mid new before between after a is here c gains noted = record {
  amounts = c.amounts ++ a ∷ [];
  places = map_push carries.amount_place c.amounts a ∙ (ap (λ (l : List Place). l ++ a.place ∷ []) c.places ∙ (ap (λ (p : Place). first_places shape group n ++ p ∷ []) here ∙ sym (map-range_with_len_more (place_by_number shape group) 0 n n (omega arith))));
  moved = subst (GainsMoves old new) (sym (moves_push shape c.amounts a)) (Gains-trans old mid new (carry_moves shape c.amounts) (carry_move (above_of shape a.place) a) c.moved gains);
  noted = noted ∙ (ap (λ (l : List Carry). l ++ carries_noted by (a ∷ [])) c.noted ∙ (append_assoc before (carries_noted by c.amounts) (carries_noted by (a ∷ [])) ∙ ap (λ (l : List Carry). before ++ l) (sym (flat_map-append (carry_noted by) c.amounts (a ∷ [])))));
  total_is = let t = c.total_is in let p = ap (λ (l : List ℕ). sum l) (map_push amount_taken c.amounts a) in let q = sum_push (map amount_taken c.amounts) a.amount in
      ap (λ (m : ℕ). m % 2 ^ 64) (ap (λ (k : ℕ). k + amount) t) ∙ (wrap (sum (map amount_taken c.amounts)) amount ∙ ap (λ (m : ℕ). m % 2 ^ 64) (ap (λ (m : ℕ). sum (map amount_taken c.amounts) + m) (sym is) ∙ sym (p ∙ q)));
}
  where
    wrap : (x y : ℕ) → (x % 2 ^ 64 + y) % 2 ^ 64 ≡ (x + y) % 2 ^ 64
    wrap x y = omega arith
