-- SPDX-License-Identifier: GPL-2.0-only
-- The rule after a step of one seat, part by part.
use Rattle.shr_deferred.proofs.Common.{◌≡◌, ℕ, true, false, List, [], ◌∷◌, ◌++◌, map, set, get_or, sym, refl, subst, ◌∙◌, map-set, some, get_elem?, State, at_map, AreSeats, Deed, Each-set, not_gone, View, Sizes, Move, IsDeferredSound, TakesAll, amounts_next, amounts_after, nothing_deferred, deeds_in, standing_in, spent_view, length-set, Option, set_again, lined_do, AreSo-push}
use Rattle.shr_deferred.proofs.Words.{AreLeft}
use Rattle.shr_deferred.proofs.Strands.{moved, own_move}

-- the word i changes, and the seat id did one thing more
pub on_move : (z : Sizes) (s : State (Unit {0}) View) (o : IsDeferredSound z s) (id : ℕ) (v : View) (me : get_elem? s.views id ≡ some v) (here : v.standing.gone ≡ false)
    (homes : List (Option (Unit {0}))) (i n : ℕ) (a : Move) → TakesAll (amounts_after o.line) a → AreLeft z (λ k. get_or (set s.words i n) k 0) (o.line ++ record { seat = id; act = a } ∷ [])
    → IsDeferredSound z record { words = set s.words i n; homes = homes; views = set s.views id (moved id v a) }
on_move z s o id v me here homes i n a all left = let d : Deed Move = record { seat = id; act = a } in let w : View = moved id v a in record {
  wide = length-set s.words i n ∙ o.wide;
  line = o.line ++ d ∷ [];
  lined = lined_do standing_in deeds_in s.views id v me here o.line o.lined w a refl;
  taken = AreSo-push amounts_next (λ u e. TakesAll u e.act) nothing_deferred o.line d o.taken all;
  left = left;
  own = own_move s.views id v me here a o.own;
  seats = subst AreSeats (sym (map-set standing_in s.views id w ∙ set_again (map standing_in s.views) id v.standing (at_map standing_in s.views id v me))) o.seats;
  emptied = Each-set (λ (x : View). x.standing.gone ≡ true → x ≡ spent_view) s.views id w (λ t. absurd (not_gone v.standing here t)) o.emptied;
}
