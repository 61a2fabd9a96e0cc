-- SPDX-License-Identifier: GPL-2.0-only
-- A node more at the head of objects at rest.
use Rattle.shr_audit_text.proofs.Common.{◌≡◌, ℕ, suc, ◌+◌, List, [], ◌∷◌, ◌++◌, length, append_assoc, Option, Some, None, refl, sym, ap, ◌∙◌, arith, get, slab_len, Updates, Object, objects_from, ◌≢◌, zero, Slab}
use Rattle.shr_base.specs.declared.items.Node.{Node}

few_more : (n m : ℕ) → suc n ≡ suc m → n ≡ m
few_more n m e = omega arith

none_some : (x : Node) → ◌≡◌ {A = Option Node} None (Some x) → ⊥
none_some x e = cc

-- the objects from a node on, if there is one, and so many behind it
abbrev at_node : Slab Node → ℕ → Option Node → List Object
at_node s n None = []
at_node s n (Some x) = x.object ∷ objects_from s n x.next

from_node : (s : Slab Node) (n k : ℕ) → objects_from s (suc n) (Some k) ≡ at_node s n (get s k)
from_node s n k = refl

short : (n : ℕ) → 0 ≡ suc n → ⊥
short n e = omega arith

-- a node stays where another is stored at a key that had none
stays : (s t : Slab Node) (key n k : ℕ) (o : Option Node) → get s k ≡ o → get s key ≡ None → ((j : ℕ) → j ≢ key → get t j ≡ get s j) → length (at_node s n o) ≡ suc n
    → ((x : Node) → length (objects_from s n x.next) ≡ n → objects_from t n x.next ≡ objects_from s n x.next) → at_node t n (get t k) ≡ at_node s n o
stays s t key n k None f vacant others e behind = absurd (short n e)
stays s t key n k (Some x) f vacant others e behind =
    let other : k ≢ key = λ same. none_some x (sym vacant ∙ ap (λ (j : ℕ). get s j) (sym same) ∙ f) in
    ap (at_node t n) (others k other ∙ f) ∙ ap (λ (os : List Object). x.object ∷ os) (behind x (few_more (length (objects_from s n x.next)) n e))

-- the objects stay the same where another node is stored at a key that had none
pub same_from : (s t : Slab Node) (key : ℕ) (n : ℕ) (at : Option ℕ) → get s key ≡ None → ((j : ℕ) → j ≢ key → get t j ≡ get s j) → length (objects_from s n at) ≡ n → objects_from t n at ≡ objects_from s n at
same_from s t key zero at vacant others e = refl
same_from s t key (suc n) None vacant others e = refl
same_from s t key (suc n) (Some k) vacant others e =
    from_node t n k
    ∙ stays s t key n k (get s k) refl vacant others (ap length (sym (from_node s n k)) ∙ e) (λ x f. same_from s t key n x.next vacant others f)
    ∙ sym (from_node s n k)

one_more : (n : ℕ) → n + 1 ≡ suc n
one_more n = omega arith

-- another object before those that follow one key
pub linked : (s t : Slab Node) (key : ℕ) (n : ℕ) (x : Node) → get s key ≡ None → Updates s t key (Some x) → length (objects_from s n x.next) ≡ n
    → objects_from t (n + 1) (Some key) ≡ x.object ∷ objects_from s n x.next
linked s t key n x vacant updates e =
    ap (λ (m : ℕ). objects_from t m (Some key)) (one_more n) ∙ from_node t n key ∙ ap (at_node t n) updates.changed
    ∙ ap (λ (os : List Object). x.object ∷ os) (same_from s t key n x.next vacant updates.others e)

-- an object that is taken from the end of some, before those that are linked already
pub more_linked : (s t : Slab Node) (head : Option ℕ) (key : ℕ) (o : Object) (all left rest : List Object) → all ≡ left ++ objects_from s (slab_len s) head → length (objects_from s (slab_len s) head) ≡ slab_len s → left ≡ rest ++ o ∷ []
    → get s key ≡ None → Updates s t key (Some (record { object = o; prev = None; next = head })) → slab_len t ≡ slab_len s + 1
    → (all ≡ rest ++ objects_from t (slab_len t) (Some key)) × (length (objects_from t (slab_len t) (Some key)) ≡ slab_len t)
more_linked s t head key o all left rest e long f vacant updates count =
    let l : objects_from t (slab_len t) (Some key) ≡ o ∷ objects_from s (slab_len s) head = ap (λ (n : ℕ). objects_from t n (Some key)) count ∙ linked s t key (slab_len s) (record { object = o; prev = None; next = head }) vacant updates long in
    let behind = objects_from s (slab_len s) head in (
      e ∙ ap (λ (os : List Object). os ++ behind) f ∙ append_assoc rest (o ∷ []) behind ∙ ap (λ (os : List Object). rest ++ os) (sym l),
      ap length l ∙ next_count (length behind) (slab_len s) (slab_len t) long count,
    )
  where
    next_count : (a b d : ℕ) → a ≡ b → d ≡ b + 1 → suc a ≡ d
    next_count a b d e f = omega arith
