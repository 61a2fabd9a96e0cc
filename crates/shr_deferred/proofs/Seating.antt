-- SPDX-License-Identifier: GPL-2.0-only
-- Splitting the first seat and joining another into it keep the rule.
use Rattle.shr_deferred.proofs.Common.{◌≡◌, ℕ, zero, suc, length, ◌<◌, true, false, List, [], ◌∷◌, ◌++◌, map, set, get_or, sym, refl, ap, subst, ◌∙◌, map-set, map-append, some, get_elem?, at_map, set_else, AreSeats, Each-set, replicate, not_gone, View, Sizes, row_of, row_count, IsDeferredSound, deeds_in, standing_in, first_view, new_view, spent_view, with_split_view, joined_view, Splits, Joins, opening, at_first, at_split, at_end, Each-push, length-replicate, AreSeats-first, AreSeats-split, AreSeats-join, lined_first, lined_split, lined_join}
use Rattle.std.proofs.Math.Nat.{mul-pos}
use Rattle.shr_seats.proofs.Weighing.{Each-none}
use Rattle.shr_deferred.proofs.Strands.{own_first, own_split, own_join}

-- the rule holds after a split of the first seat
pub splits : (z : Sizes) (id : ℕ) (v : View) → v.standing.first ≡ true → v.standing.gone ≡ false → Splits (IsDeferredSound z) id v (with_split_view v) new_view
splits z id v is here s o me = let w : View = with_split_view v in record {
  wide = o.wide;
  line = o.line;
  lined = lined_split standing_in deeds_in s.views id v me here o.line o.lined w new_view refl refl;
  taken = o.taken;
  left = o.left;
  own = own_split s.views id v me here o.own;
  seats = subst AreSeats (sym (map-append standing_in (set s.views id w) (new_view ∷ []) ∙ ap (λ l. l ++ at_split ∷ []) (map-set standing_in s.views id w)))
      (AreSeats-split (map standing_in s.views) id v.standing (at_map standing_in s.views id v me) is o.seats);
  emptied = Each-push (λ (x : View). x.standing.gone ≡ true → x ≡ spent_view) (set s.views id w) new_view (λ t. absurd (not_gone at_split refl t))
      (Each-set (λ (x : View). x.standing.gone ≡ true → x ≡ spent_view) s.views id w (λ t. absurd (not_gone v.standing here t)) o.emptied);
}

-- the rule holds after another seat is joined into the first
pub joins : (z : Sizes) (id : ℕ) (v : View) (other : ℕ) (u : View) → v.standing.first ≡ true → v.standing.gone ≡ false → u.standing.gone ≡ false → Joins (IsDeferredSound z) id v other u (joined_view v u) spent_view
joins z id v other u is here there s o me apart them = let w : View = joined_view v u in
    let at : get_elem? s.views other ≡ some u = sym (set_else s.views id other w apart) ∙ them in record {
      wide = o.wide;
      line = o.line;
      lined = lined_join standing_in deeds_in s.views id v me here o.line o.lined other u w spent_view apart at there refl refl refl;
      taken = o.taken;
      left = o.left;
      own = own_join z s o id v me here other u at there apart is;
      seats = subst AreSeats (sym (map-set standing_in (set s.views id w) other spent_view ∙ ap (λ l. set l other at_end) (map-set standing_in s.views id w)))
          (AreSeats-join (map standing_in s.views) id other v.standing u.standing (at_map standing_in s.views id v me) apart (at_map standing_in s.views other u at) is there o.seats);
      emptied = Each-set (λ (x : View). x.standing.gone ≡ true → x ≡ spent_view) (set s.views id w) other spent_view (λ _. refl)
          (Each-set (λ (x : View). x.standing.gone ≡ true → x ≡ spent_view) s.views id w (λ t. absurd (not_gone v.standing here t)) o.emptied);
    }

-- there is a word
pub some_words : (z : Sizes) (n : ℕ) → n ≡ row_count z → 0 < z.ids → 0 < z.nodes → 0 < z.groups → 0 < n
some_words z n e a b c = subst (λ (k : ℕ). 0 < k) (sym e) (mul-pos (mul-pos a b) c)

-- the rule holds of a new table
pub begins : (z : Sizes) (words : List ℕ) → words ≡ replicate {A = ℕ} (row_count z) 0 → IsDeferredSound z (opening {S = Unit {0}} words [] first_view)
begins z words zeros = record {
  wide = ap length zeros ∙ length-replicate (row_count z) 0;
  line = [];
  lined = lined_first standing_in deeds_in first_view refl;
  taken = tt;
  own = own_first;
  left = λ p near. ap (λ (l : List ℕ). get_or l (row_of z p) 0) zeros ∙ zero_at (row_count z) (row_of z p);
  seats = AreSeats-first;
  emptied = Each-push (λ (x : View). x.standing.gone ≡ true → x ≡ spent_view) [] first_view (λ t. absurd (not_gone at_first refl t)) (Each-none (λ (x : View). x.standing.gone ≡ true → x ≡ spent_view));
} where
  zero_at : (n i : ℕ) → ◌≡◌ {A = ℕ} (get_or (replicate n 0) i 0) 0
  zero_at zero i = refl
  zero_at (suc n) zero = refl
  zero_at (suc n) (suc i) = zero_at n i
