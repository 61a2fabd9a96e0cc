-- SPDX-License-Identifier: GPL-2.0-only
-- The rule after a step of one seat, part by part.
use Rattle.shr_charge.proofs.Common.{◌≡◌, ◌≢◌, ℕ, true, false, List, map, set, length, sym, ap, subst, ◌∙◌, arith, length-set, get_or-set_other, sum_by, map-set, some, get_elem?, State, at_map, set_again, Kept, TreeEntry, AreSeats, Each, Each-set, sum_by-changed, not_gone, View, Shape, Uses, TreeView, UseHistories, AreUsed, IsPaced, hierarchy_of, IsOfflined, IsChargeSound, usage_index, group_index, usage_in, group_in, lock_in, uses_in, tree_in, charge_standing_in, spent_charge_view}
use mathlib.Core.Option.{Option}
use Rattle.shr_charge.proofs.Numbering.{used_words}
use Rattle.shr_charge.proofs.Journaling.{offlined_words}

module _ (k : Shape) (s : State (Kept TreeEntry) View) (o : IsChargeSound k s) (id : ℕ) (v : View) (me : get_elem? s.views id ≡ some v) (here : v.standing.gone ≡ false) where
  emptied : (w : View) → w.standing ≡ v.standing → (j : ℕ) (x : View) → get_elem? (set s.views id w) j ≡ some x → x.standing.gone ≡ true → x ≡ spent_charge_view
  emptied w same = Each-set (λ (x : View). x.standing.gone ≡ true → x ≡ spent_charge_view) s.views id w (λ t. absurd (not_gone v.standing here (ap (λ z. z.gone) (sym same) ∙ t))) o.emptied

  seats : (w : View) → w.standing ≡ v.standing → AreSeats (map charge_standing_in (set s.views id w))
  seats w same = subst AreSeats (sym (map-set charge_standing_in s.views id w ∙ (ap (λ z. set (map charge_standing_in s.views) id z) same ∙ set_again (map charge_standing_in s.views) id v.standing (at_map charge_standing_in s.views id v me)))) o.seats

  -- a usage word changes, and the seat's operations
  pub on_use : (g n : ℕ) (u : Uses) (history : UseHistories) → AreUsed (length k.parents.items) (usage_in (set s.words (usage_index g) n)) history (set (map uses_in s.views) id u) → IsPaced u → u.seats ≡ v.uses.seats
      → IsChargeSound k record { words = set s.words (usage_index g) n; homes = s.homes; views = set s.views id (record v { uses = u }) }
  on_use g n u history used paced same = let w : View = record v { uses = u } in let i : ℕ = usage_index g in record {
    history = history;
    journal = o.journal;
    wide = length-set s.words i n ∙ o.wide;
    used = subst (AreUsed (length k.parents.items) (usage_in (set s.words i n)) history) (sym (map-set uses_in s.views id w)) used;
    paced = subst (Each IsPaced) (sym (map-set uses_in s.views id w)) (Each-set IsPaced (map uses_in s.views) id u paced o.paced);
    calls = let e = ap (sum_by (λ (x : Uses). x.seats)) (map-set uses_in s.views id w) in omega (arith, e, sum_by-changed (λ (x : Uses). x.seats) (map uses_in s.views) id v.uses u (at_map uses_in s.views id v me), same, length-set s.views id w, o.calls);
    offlined = subst (IsOfflined (hierarchy_of k) o.journal (group_in (set s.words i n)) (lock_in (set s.words i n)) s.homes) (sym (map-set tree_in s.views id w ∙ set_again (map tree_in s.views) id v.tree (at_map tree_in s.views id v me)))
        (offlined_words (hierarchy_of k) o.journal (group_in s.words) (group_in (set s.words i n)) (lock_in s.words) (lock_in (set s.words i n)) s.homes (map tree_in s.views)
        (λ h low. get_or-set_other s.words i (group_index h) n 0 (λ e. absurd (omega (arith, e)))) (get_or-set_other s.words i 0 n 0 (λ e. absurd (omega (arith, e)))) o.offlined);
    seats = seats w (λ j. v.standing);
    few = omega (arith, length-set s.views id w, o.few);
    emptied = emptied w (λ j. v.standing);
  }

  -- another word changes, and what the seat did and saw of the tree
  pub on_tree : (i n : ℕ) → ((g : ℕ) → usage_index g ≢ i) → (homes : List (Option (Kept TreeEntry))) (t : TreeView) (journal : List TreeEntry) → IsOfflined (hierarchy_of k) journal (group_in (set s.words i n)) (lock_in (set s.words i n)) homes (set (map tree_in s.views) id t)
      → IsChargeSound k record { words = set s.words i n; homes = homes; views = set s.views id (record v { tree = t }) }
  on_tree i n apart homes t journal offlined = let w : View = record v { tree = t } in record {
    history = o.history;
    journal = journal;
    wide = length-set s.words i n ∙ o.wide;
    used = subst (AreUsed (length k.parents.items) (usage_in (set s.words i n)) o.history) (sym (map-set uses_in s.views id w ∙ set_again (map uses_in s.views) id v.uses (at_map uses_in s.views id v me)))
        (used_words (length k.parents.items) (usage_in s.words) (usage_in (set s.words i n)) o.history (map uses_in s.views) (λ g low. get_or-set_other s.words i (usage_index g) n 0 (apart g)) o.used);
    paced = subst (Each IsPaced) (sym (map-set uses_in s.views id w ∙ set_again (map uses_in s.views) id v.uses (at_map uses_in s.views id v me))) o.paced;
    calls = let e = ap (sum_by (λ (x : Uses). x.seats)) (map-set uses_in s.views id w ∙ set_again (map uses_in s.views) id v.uses (at_map uses_in s.views id v me)) in omega (arith, e, length-set s.views id w, o.calls);
    offlined = subst (IsOfflined (hierarchy_of k) journal (group_in (set s.words i n)) (lock_in (set s.words i n)) homes) (sym (map-set tree_in s.views id w)) offlined;
    seats = seats w (λ j. v.standing);
    few = omega (arith, length-set s.views id w, o.few);
    emptied = emptied w (λ j. v.standing);
  }
