-- SPDX-License-Identifier: GPL-2.0-only
-- The rule at the start.
use Rattle.shr_charge.proofs.Common.{◌≡◌, ◌≢◌, ℕ, ◌+◌, ◌*◌, ◌^◌, ◌%◌, ◌<◌, ◌≤◌, Bool, true, false, not, ◌||◌, cond, List, [], ◌∷◌, length, get_or, sym, refl, ◌∙◌, arith, Some, None, All, IsHierarchy, is_later, hierarchy_of, Online, NotMade, AreFirstGroupWords, All-nil, some, opening, Kept, TreeEntry, Each, Each-push, not_gone, View, Shape, Uses, own_uses, no_tree, AreUsed, IsPaced, StandsInHistory, IsOfflined, IsTreeSeen, count_of_entries, is_open, opens, sum_below, state_word, IsChargeSound, first_charge_view, spent_charge_view, usage_in, usage_index, group_in, lock_in, some-ne-none, at_first, AreSeats-first}
use Rattle.shr_charge.proofs.Pacing.{paced_own}
use Rattle.shr_charge.proofs.Entries.{sum_small}
use Rattle.shr_charge.proofs.Journaling.{seen_none}
use Rattle.shr_model.proofs.Numbers.{none_below}

-- a list of one element
pub each_one : {A : Type 0} (P : A → Type 0) (a : A) → P a → Each P (a ∷ [])
each_one P a p = Each-push P [] a p (λ j x e. absurd (some-ne-none x (sym e)))

none_some : {A : Type 0} (x : A) → None ≡ Some x → ⊥
none_some x e = cc

module _ (k : Shape) (words : List ℕ) (room : Kept TreeEntry) (first : AreFirstGroupWords k.later.items words) (groups : IsHierarchy (hierarchy_of k)) (bare : room.items ≡ []) where
  wide : length words ≡ 8 * length k.parents.items + 1
  wide = let long = first.long in let each = groups.each in omega (arith, long, each)

  zero_at : (i : ℕ) → i < length words → i % 8 ≢ 2 → get_or words i 0 ≡ 0
  zero_at = first.others

  used : AreUsed (length k.parents.items) (usage_in words) (λ _. []) (own_uses ∷ [])
  used = record {
    legal = λ g n o e. absurd (none_some o e);
    words = λ g low. zero_at (usage_index g) (omega (arith, wide, low)) (λ e. absurd (omega (arith, e)));
    up = λ g. refl;
    down = λ g. refl;
    once = λ g n. sym (none_below n);
    there = each_one (λ (u : Uses). All (StandsInHistory (λ _. [])) u.ops) own_uses (All-nil (StandsInHistory (λ _. [])));
  }

  none_open : opens (length k.parents.items) [] ≤ 0 * length k.parents.items
  none_open = sum_small (is_open []) 0 (length k.parents.items) (λ g. let e : is_open [] g ≡ 0 = refl in omega (arith, e))

  none_entered : sum_below (count_of_entries []) (length k.parents.items) ≤ 0 * length k.parents.items
  none_entered = sum_small (count_of_entries []) 0 (length k.parents.items) (λ g. let e : count_of_entries [] g ≡ 0 = refl in omega (arith, e))

  first_word : (b : Bool) → ◌≡◌ {A = ℕ} (cond b (2 ^ 63) 0) (state_word (cond (not b || false) Online NotMade))
  first_word true = refl
  first_word false = refl

  offlined : IsOfflined (hierarchy_of k) [] (group_in words) (lock_in words) (some room ∷ []) (no_tree ∷ [])
  offlined = record {
    legal = λ n e is. absurd (none_some e is);
    counted = let a = none_entered in omega (arith, a);
    words = λ g low. let each = groups.each in first.groups g (omega (arith, each, low)) ∙ first_word (is_later k.later.items g);
    locks = sym (zero_at 0 (omega (arith, wide)) (λ e. absurd (omega (arith, e))));
    one = let z = zero_at 0 (omega (arith, wide)) (λ e. absurd (omega (arith, e))) in omega (arith, z);
    home = λ free. (room, refl, record { items = bare; spare = let a = none_open in omega (arith, a) });
    seen = each_one (IsTreeSeen (hierarchy_of k) []) no_tree (seen_none (hierarchy_of k) []);
    once = λ n. sym (none_below n);
  }

  -- a new table meets the rule
  pub opened : IsChargeSound k (opening words (room ∷ []) first_charge_view)
  opened = record {
    history = λ _. [];
    journal = [];
    wide = wide;
    used = used;
    paced = each_one IsPaced own_uses paced_own;
    calls = omega arith;
    offlined = offlined;
    seats = AreSeats-first;
    few = omega arith;
    emptied = each_one (λ (x : View). x.standing.gone ≡ true → x ≡ spent_charge_view) first_charge_view (λ t. absurd (not_gone at_first refl t));
  }
