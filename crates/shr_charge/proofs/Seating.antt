-- SPDX-License-Identifier: GPL-2.0-only
-- Splitting the first seat and joining another into it keep the rule.
use Rattle.shr_charge.proofs.Common.{◌≡◌, ℕ, ◌<◌, true, false, [], ◌∷◌, ◌++◌, map, length, set, sym, refl, ap, subst, ◌∙◌, arith, length-append, length-set, sum_by, map-set, length-map, some, get_elem?, at_map, set_again, AreSeats, Each, Each-set, Each-push, sum_by-more, sum_by-joined, not_gone, View, Shape, Uses, no_uses, own_uses, no_tree, both_uses, AreUsed, IsPaced, hierarchy_of, IsOfflined, IsChargeSound, usage_in, group_in, lock_in, uses_in, tree_in, charge_standing_in, spent_charge_view, split_charge_view, joined_charge_view, map-append, Splits, Joins, set_else, at_split, at_end, AreSeats-split, AreSeats-join, new_charge_view}
use Rattle.shr_charge.proofs.Numbering.{used_split, used_join}
use Rattle.shr_charge.proofs.Pacing.{paced_none, paced_own, paced_join}
use Rattle.shr_charge.proofs.Journaling.{offlined_split, offlined_join}

-- the rule holds after a split of the first seat
pub splits : (k : Shape) (id : ℕ) (v : View) → v.standing.first ≡ true → v.standing.gone ≡ false → v.standing.splits < 64 → Splits (IsChargeSound k) id v (split_charge_view v) new_charge_view
splits k id v is here room s o me = let w : View = split_charge_view v in let n : ℕ = length k.parents.items in let many = o.seats in
    let list : map uses_in (set s.views id w ++ new_charge_view ∷ []) ≡ map uses_in s.views ++ own_uses ∷ [] = map-append uses_in (set s.views id w) (new_charge_view ∷ []) ∙ ap (λ l. l ++ own_uses ∷ []) (map-set uses_in s.views id w ∙ set_again (map uses_in s.views) id v.uses (at_map uses_in s.views id v me)) in record {
      history = o.history;
      journal = o.journal;
      wide = o.wide;
      used = subst (AreUsed n (usage_in s.words) o.history) (sym list)
          (used_split n (usage_in s.words) o.history (map uses_in s.views) o.used);
      paced = subst (Each IsPaced) (sym list) (Each-push IsPaced (map uses_in s.views) own_uses paced_own o.paced);
      calls = let e = ap (sum_by (λ (x : Uses). x.seats)) list in omega (arith, e, sum_by-more (λ (x : Uses). x.seats) (map uses_in s.views) own_uses, length-append (set s.views id w) (new_charge_view ∷ []), length-set s.views id w, o.calls);
      offlined = subst (IsOfflined (hierarchy_of k) o.journal (group_in s.words) (lock_in s.words) s.homes) (sym (map-append tree_in (set s.views id w) (new_charge_view ∷ []) ∙ ap (λ l. l ++ no_tree ∷ []) (map-set tree_in s.views id w ∙ set_again (map tree_in s.views) id v.tree (at_map tree_in s.views id v me))))
          (offlined_split (hierarchy_of k) o.journal (group_in s.words) (lock_in s.words) s.homes (map tree_in s.views) o.offlined);
      seats = subst AreSeats (sym (map-append charge_standing_in (set s.views id w) (new_charge_view ∷ []) ∙ ap (λ l. l ++ at_split ∷ []) (map-set charge_standing_in s.views id w)))
          (AreSeats-split (map charge_standing_in s.views) id v.standing (at_map charge_standing_in s.views id v me) is o.seats);
      few = omega (arith, length-append (set s.views id w) (new_charge_view ∷ []), length-set s.views id w, length-map s.views charge_standing_in, many.number id v.standing (at_map charge_standing_in s.views id v me) is, room);
      emptied = Each-push (λ (x : View). x.standing.gone ≡ true → x ≡ spent_charge_view) (set s.views id w) new_charge_view (λ t. absurd (not_gone at_split refl t))
          (Each-set (λ (x : View). x.standing.gone ≡ true → x ≡ spent_charge_view) s.views id w (λ t. absurd (not_gone v.standing here t)) o.emptied);
    }

-- the rule holds after another seat is joined into the first
pub joins : (k : Shape) (id : ℕ) (v : View) (other : ℕ) (u : View) → v.standing.first ≡ true → v.standing.gone ≡ false → u.standing.gone ≡ false → u.tree.in_hand ≡ false → Joins (IsChargeSound k) id v other u (joined_charge_view v u) spent_charge_view
joins k id v other u is here there out s o me apart them = let w : View = joined_charge_view v u in let n : ℕ = length k.parents.items in
    let at : get_elem? s.views other ≡ some u = sym (set_else s.views id other w apart) ∙ them in
    let mine = at_map uses_in s.views id v me in let theirs = at_map uses_in s.views other u at in
    let list : map uses_in (set (set s.views id w) other spent_charge_view) ≡ set (set (map uses_in s.views) id (both_uses v.uses u.uses)) other no_uses = map-set uses_in (set s.views id w) other spent_charge_view ∙ ap (λ l. set l other no_uses) (map-set uses_in s.views id w) in record {
      history = o.history;
      journal = o.journal;
      wide = o.wide;
      used = subst (AreUsed n (usage_in s.words) o.history) (sym list)
          (used_join n (usage_in s.words) o.history (map uses_in s.views) id other v.uses u.uses (at_map uses_in s.views id v me) apart (at_map uses_in s.views other u at) o.used);
      paced = subst (Each IsPaced) (sym list) (Each-set IsPaced (set (map uses_in s.views) id (both_uses v.uses u.uses)) other no_uses paced_none
          (Each-set IsPaced (map uses_in s.views) id (both_uses v.uses u.uses) (paced_join v.uses u.uses (o.paced id v.uses mine) (o.paced other u.uses theirs)) o.paced));
      calls = let e = ap (sum_by (λ (x : Uses). x.seats)) list in omega (arith, e, sum_by-joined (λ (x : Uses). x.seats) (map uses_in s.views) id other v.uses u.uses (both_uses v.uses u.uses) no_uses mine apart theirs, length-set (set s.views id w) other spent_charge_view, length-set s.views id w, o.calls);
      offlined = subst (IsOfflined (hierarchy_of k) o.journal (group_in s.words) (lock_in s.words) s.homes) (sym (map-set tree_in (set s.views id w) other spent_charge_view ∙ ap (λ l. set l other no_tree) (map-set tree_in s.views id w)))
          (offlined_join (hierarchy_of k) o.journal (group_in s.words) (lock_in s.words) s.homes (map tree_in s.views) id other v.tree u.tree (at_map tree_in s.views id v me) apart (at_map tree_in s.views other u at) out o.offlined);
      seats = subst AreSeats (sym (map-set charge_standing_in (set s.views id w) other spent_charge_view ∙ ap (λ l. set l other at_end) (map-set charge_standing_in s.views id w)))
          (AreSeats-join (map charge_standing_in s.views) id other v.standing u.standing (at_map charge_standing_in s.views id v me) apart (at_map charge_standing_in s.views other u at) is there o.seats);
      few = omega (arith, length-set (set s.views id w) other spent_charge_view, length-set s.views id w, o.few);
      emptied = Each-set (λ (x : View). x.standing.gone ≡ true → x ≡ spent_charge_view) (set s.views id w) other spent_charge_view (λ _. refl)
          (Each-set (λ (x : View). x.standing.gone ≡ true → x ≡ spent_charge_view) s.views id w (λ t. absurd (not_gone v.standing here t)) o.emptied);
    }
