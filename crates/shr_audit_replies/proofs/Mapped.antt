-- SPDX-License-Identifier: GPL-2.0-only
-- The items of a list against those of another, one by one.
use Rattle.shr_audit_replies.proofs.Common.{◌≡◌, ℕ, suc, ◌+◌, ◌<◌, ◌≤◌, Bool, true, false, List, [], ◌∷◌, length, map, Some, refl, sym, ap, subst, ◌∙◌, arith, ◌==◌, slice_get, Decides, nat_tests, slice_get_within, ◌-◌, get_or, take, drop, get_or_from_slice_get, clash}
use Rattle.std.proofs.lemmas.List.{get_or-map, take_all}

-- a list is the image of another where each item is that of the other's
pub mapped_all : {X Y : Type 0} (f : X → Y) (xs : List Y) (ys : List X) → length xs ≡ length ys → ((n : ℕ) (x : Y) (y : X) → slice_get xs n ≡ Some x → slice_get ys n ≡ Some y → x ≡ f y) → xs ≡ map f ys
mapped_all f [] [] e each = refl
mapped_all f [] (y ∷ ys) e each = absurd (omega (arith, e))
mapped_all f (x ∷ xs) [] e each = absurd (omega (arith, e))
mapped_all f (x ∷ xs) (y ∷ ys) e each =
    let here : x ≡ f y = each 0 x y refl refl in
    let later : xs ≡ map f ys = mapped_all f xs ys (omega (arith, e)) (λ n a b p q. each (suc n) a b p q) in cc

-- an item that isn't that of the other's
pub other_at : {X : Type 0} (f : X → List ℕ) (xs : List (List ℕ)) (ys : List X) (i : ℕ) (x : List ℕ) (y : X) → i < length ys → x ≡ get_or xs i x → y ≡ get_or ys i y → (b : Bool) → Decides b (x ≡ f y) → b ≡ false → Decides false (xs ≡ map f ys)
other_at f xs ys i x y lt x_is y_is b d failed = (
  λ t. absurd cc,
  λ e. absurd (
      let image : get_or (map f ys) i x ≡ f (get_or ys i y) = get_or-map f ys i y x lt in
      let same : x ≡ f y = x_is ∙ (ap (λ (zs : List (List ℕ)). get_or zs i x) e ∙ (image ∙ ap f (sym y_is))) in
      clash b (d.1 same) failed),
)

-- one item more
pub mapped_more : {X : Type 0} (f : X → List ℕ) (xs : List (List ℕ)) (ys : List X) (i : ℕ) (x : List ℕ) (y : X) → x ≡ get_or xs i x → y ≡ get_or ys i y → ((n : ℕ) (a : List ℕ) (b : X) → n < i → slice_get xs n ≡ Some a → slice_get ys n ≡ Some b → a ≡ f b) → x ≡ f y → (n : ℕ) (a : List ℕ) (b : X) → n < i + 1 → slice_get xs n ≡ Some a → slice_get ys n ≡ Some b → a ≡ f b
mapped_more f xs ys i x y x_is y_is before here n a b below e g = by_order (n == i) refl
  where
    by_order : (t : Bool) → (n == i) ≡ t → a ≡ f b
    by_order true t =
        let same : n ≡ i = grind (arith, nat_tests) in
        let a_is : get_or xs i x ≡ a = get_or_from_slice_get xs i a x (subst (λ (k : ℕ). slice_get xs k ≡ Some a) same e) in
        let b_is : get_or ys i y ≡ b = get_or_from_slice_get ys i b y (subst (λ (k : ℕ). slice_get ys k ≡ Some b) same g) in
        sym a_is ∙ (sym x_is ∙ (here ∙ ap f (y_is ∙ b_is)))
    by_order false t = before n a b (let lower : n < i = grind (arith, nat_tests) in lower) e g

-- each item was gone through
pub mapped_end : {X : Type 0} (f : X → List ℕ) (xs : List (List ℕ)) (ys : List X) (i : ℕ) → length xs ≡ length ys → length ys ≤ i → ((n : ℕ) (a : List ℕ) (b : X) → n < i → slice_get xs n ≡ Some a → slice_get ys n ≡ Some b → a ≡ f b) → Decides true (xs ≡ map f ys)
mapped_end f xs ys i e over before = (λ t. mapped_all f xs ys e (λ n a b p q. before n a b (let lt = slice_get_within ys n b q in let lower : n < i = grind arith in lower) p q), λ h. refl)

-- the path of the root before the others
pub rooted : (b : Bool) (root : List ℕ) (xs ys : List (List ℕ)) → 1 ≤ length xs → root ≡ get_or xs 0 root → root ≡ 47 ∷ [] → Decides b (take (length xs - 1) (drop 1 xs) ≡ ys) → Decides b (xs ≡ (47 ∷ []) ∷ ys)
rooted b root [] ys lt is root_is d = absurd (omega (arith, lt))
rooted b root (x ∷ xs) ys lt is root_is d =
    let all : take (length (x ∷ xs) - 1) xs ≡ xs = take_all (length (x ∷ xs) - 1) xs (omega arith) in (
      λ t. let first : x ≡ 47 ∷ [] = sym is ∙ root_is in let later : xs ≡ ys = sym all ∙ d.0 t in cc,
      λ e. d.1 (let later : xs ≡ ys = cc in all ∙ later),
    )
