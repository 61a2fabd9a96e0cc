-- SPDX-License-Identifier: GPL-2.0-only
-- The least command of each group, one command after another.
use Rattle.shr_audit_fresh.proofs.Common.{◌≡◌, ◌⊎◌, ℕ, ◌<◌, ◌≤◌, Bool, true, false, cond, List, [], ◌∷◌, Option, Some, None, refl, sym, ap, subst, ◌∙◌, inl, inr, arith, ◌||◌, nat_eq, slice_get, option_to_list, get, list_any, nat_tests, TreeEntry, is_begin, is_done, Report, is_begin_at, is_done_at, AreLeastOfGroups, FirstCommands, HasNoFirsts, IsLeast, NotesFirst, first_with, is_group, shows_in, either, or_left, or_right, nat_lt}
use Rattle.std.proofs.Math.Bool.{or-false}

-- ---- tests

or_swap : (a b c d : Bool) → ((a || b) || (c || d)) ≡ ((a || c) || (b || d))
or_swap true b c d = refl
or_swap false true true d = refl
or_swap false true false d = refl
or_swap false false true d = refl
or_swap false false false d = refl

-- two tests are one
pub any_both : (p q : ℕ → Bool) (ns : List ℕ) → (list_any p ns || list_any q ns) ≡ list_any (λ n. p n || q n) ns
any_both p q [] = refl
any_both p q (n ∷ ns) = or_swap (p n) (list_any p ns) (q n) (list_any q ns) ∙ ap (λ (b : Bool). (p n || q n) || b) (any_both p q ns)

-- ---- entries

pub begin_shown : (r : Report) (g n : ℕ) (e : TreeEntry) → Some e ≡ slice_get r.tree.items n → list_any (is_begin_at r g) (n ∷ []) ≡ is_begin g e
begin_shown r g n e at = or-false (is_begin_at r g n) ∙ ap (λ (o : Option TreeEntry). list_any (is_begin g) (option_to_list o)) (sym at) ∙ or-false (is_begin g e)

pub begin_none : (r : Report) (g n : ℕ) → None ≡ slice_get r.tree.items n → list_any (is_begin_at r g) (n ∷ []) ≡ false
begin_none r g n at = or-false (is_begin_at r g n) ∙ ap (λ (o : Option TreeEntry). list_any (is_begin g) (option_to_list o)) (sym at)

done_shown : (r : Report) (g n : ℕ) (e : TreeEntry) → Some e ≡ slice_get r.tree.items n → is_done_at r g n ≡ is_done g e
done_shown r g n e at = ap (λ (o : Option TreeEntry). list_any (is_done g) (option_to_list o)) (sym at) ∙ or-false (is_done g e)

begun_shown : (r : Report) (g n : ℕ) (e : TreeEntry) → Some e ≡ slice_get r.tree.items n → is_begin_at r g n ≡ is_begin g e
begun_shown r g n e at = ap (λ (o : Option TreeEntry). list_any (is_begin g) (option_to_list o)) (sym at) ∙ or-false (is_begin g e)

pub offline_shown : (r : Report) (g n : ℕ) (e : TreeEntry) → Some e ≡ slice_get r.tree.items n → shows_in r g (n ∷ []) ≡ (is_begin g e || is_done g e)
offline_shown r g n e at = or-false (is_begin_at r g n || is_done_at r g n) ∙ ap (λ (b : Bool). b || is_done_at r g n) (begun_shown r g n e at) ∙ ap (λ (b : Bool). is_begin g e || b) (done_shown r g n e at)

pub offline_none : (r : Report) (g n : ℕ) → None ≡ slice_get r.tree.items n → shows_in r g (n ∷ []) ≡ false
offline_none r g n at = or-false (is_begin_at r g n || is_done_at r g n)
    ∙ ap (λ (b : Bool). b || is_done_at r g n) (ap (λ (o : Option TreeEntry). list_any (is_begin g) (option_to_list o)) (sym at))
    ∙ ap (λ (o : Option TreeEntry). list_any (is_done g) (option_to_list o)) (sym at)

-- ---- the least

least_same : (P Q : ℕ → Type 0) → ((k : ℕ) → P k → Q k) → ((k : ℕ) → Q k → P k) → (o : Option ℕ) → IsLeast P o → IsLeast Q o
least_same P Q to from None t = λ k q. t k (from k q)
least_same P Q to from (Some m) t = (to m t.0, λ k q. t.1 k (from k q))

module _ (P Q : ℕ → Type 0) (command : ℕ) (to : (k : ℕ) → P k → Q k) (from : (k : ℕ) → Q k → P k ⊎ (k ≡ command)) (own : Q command) where
  least_more : (o : Option ℕ) → IsLeast P o → IsLeast Q (Some (first_with o command))
  least_more None t = (own, λ k q. elim (from k q) [ inl p ↦ absurd (t k p) | inr same ↦ omega (arith, same) ])
  least_more (Some m) t = by (nat_lt m command) refl
    where
      by : (b : Bool) → nat_lt m command ≡ b → Q (cond b m command) × ((k : ℕ) → Q k → cond b m command ≤ k)
      by true e = let lt : m < command = grind (arith, nat_tests) in
          (to m t.0, λ k q. elim (from k q) [ inl p ↦ t.1 k p | inr same ↦ omega (arith, same, lt) ])
      by false e = let le : command ≤ m = grind (arith, nat_tests) in
          (own, λ k q. elim (from k q) [ inl p ↦ (let at = t.1 k p in omega (arith, at, le)) | inr same ↦ omega (arith, same) ])

-- of each group, with what one command more shows
module _ (P Q : ℕ → ℕ → Type 0) (command : ℕ) (group : Option ℕ) (old new : FirstCommands) (to : (g k : ℕ) → P g k → Q g k)
    (from : (g k : ℕ) → Q g k → P g k ⊎ ((k ≡ command) × (is_group g group ≡ true))) (own : (g : ℕ) → is_group g group ≡ true → Q g command) (notes : NotesFirst group command old new) where
  pub firsts_next : AreLeastOfGroups P old → AreLeastOfGroups Q new
  firsts_next are g = subst (IsLeast (Q g)) (sym (notes g)) (by (is_group g group) refl)
    where
      by : (b : Bool) → is_group g group ≡ b → IsLeast (Q g) (cond b (Some (first_with (get nat_eq old g) command)) (get nat_eq old g))
      by true e = least_more (P g) (Q g) command (to g) (λ k q. elim (from g k q) [ inl p ↦ inl p | inr h ↦ inr h.0 ]) (own g e) (get nat_eq old g) (are g)
      by false e = least_same (P g) (Q g) (to g) (λ k q. elim (from g k q) [ inl p ↦ p | inr h ↦ absurd (let holds = h.1 in cc) ]) (get nat_eq old g) (are g)

pub firsts_same : (P Q : ℕ → ℕ → Type 0) (firsts : FirstCommands) → ((g k : ℕ) → P g k → Q g k) → ((g k : ℕ) → Q g k → P g k) → AreLeastOfGroups P firsts → AreLeastOfGroups Q firsts
firsts_same P Q firsts to from are g = least_same (P g) (Q g) (to g) (from g) (get nat_eq firsts g) (are g)

pub firsts_blank : (P : ℕ → ℕ → Type 0) (firsts : FirstCommands) → ((g k : ℕ) → P g k → ⊥) → HasNoFirsts firsts → AreLeastOfGroups P firsts
firsts_blank P firsts unlike blank g = subst (IsLeast (P g)) (sym (blank g)) (unlike g)
