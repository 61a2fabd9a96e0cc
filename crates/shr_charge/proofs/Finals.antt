-- SPDX-License-Identifier: GPL-2.0-only
-- What the words and the room are once all other seats were joined.
use Rattle.shr_charge.proofs.Common.{◌≡◌, ℕ, true, false, cond, List, map, length, sym, refl, ap, subst, ◌∙◌, arith, sum_by, range_with_len, some, get_elem?, Final, Seen, at_map, Kept, TreeEntry, View, Shape, Uses, TreeView, usage_word, times_at, hierarchy_of, times_noted, IsChargeSound, usage_in, uses_in, tree_in, charge_standing_in, spent_charge_view, some-injective, IsWhole, sum_by-sole, sum_by-map, range_same}
use Rattle.shr_charge.specs.Ends.{IsTreeJournalOf, IsEndOf}

-- what `finish` reads of a last state is what the table leaves
pub ends : (k : Shape) (id : ℕ) (v : View) (words : List ℕ) (slots : List (Kept TreeEntry)) (usage : Kept ℕ) (tree : Kept TreeEntry) → v.standing.first ≡ true → IsWhole v.standing → v.tree.in_hand ≡ false → Final (Seen (IsChargeSound k) id v) words slots
    → get_elem? slots 0 ≡ some tree → usage.items ≡ map (usage_in words) (range_with_len 0 (length k.parents.items)) → IsEndOf (hierarchy_of k) v.uses v.tree (record { tree = tree; usage = usage })
ends k id v words slots usage tree is whole out final there used = let s = final.0 in let o = final.1.0 in let me = final.1.1 in let f = o.offlined in
    let sole : (h : View → ℕ) → h spent_charge_view ≡ 0 → sum_by h s.views ≡ h v = sum_by-sole charge_standing_in spent_charge_view s.views id v me is whole o.seats o.emptied in
    let one-use : (g n : ℕ) → times_at g n v.uses.ops ≡ sum_by (λ (u : Uses). times_at g n u.ops) (map uses_in s.views) = λ g n. sym (sum_by-map (λ (u : Uses). times_at g n u.ops) uses_in s.views ∙ sole (λ x. times_at g n x.uses.ops) refl) in
    let one-entry : (n : ℕ) → times_noted n v.tree.made ≡ sum_by (λ (t : TreeView). times_noted n t.made) (map tree_in s.views) = λ n. sym (sum_by-map (λ (t : TreeView). times_noted n t.made) tree_in s.views ∙ sole (λ x. times_noted n x.tree.made) refl) in
    let hands = sum_by-map (λ (t : TreeView). cond t.in_hand 1 0) tree_in s.views in let mine = sole (λ x. cond x.tree.in_hand 1 0) refl in let none-in = ap {B = ℕ} (λ b. cond b 1 0) out in
    let home = f.home (omega (arith, f.locks, hands, mine, none-in)) in let room = home.0 in
    let same : tree ≡ room = some-injective tree room (sym there ∙ final.4 0 room home.1) in
    let items : o.journal ≡ tree.items = sym (ap (λ (x : Kept TreeEntry). x.items) same ∙ home.2.items) in record {
      history = o.history;
      operations = record { legal = o.used.legal; there = o.used.there id v.uses (at_map uses_in s.views id v me); once = λ g n. one-use g n ∙ o.used.once g n };
      usage = used ∙ range_same (usage_in words) (λ g. usage_word (o.history g)) 0 (length k.parents.items) (λ g low. ap (λ (l : List ℕ). usage_in l g) (sym final.2) ∙ o.used.words g (omega arith));
      tree = subst (λ (l : List TreeEntry). IsTreeJournalOf (hierarchy_of k) l v.tree) items (record { legal = f.legal; seen = f.seen id v.tree (at_map tree_in s.views id v me); once = λ n. one-entry n ∙ f.once n });
    }
