-- SPDX-License-Identifier: GPL-2.0-only
-- Lists with one item more at the end, and what is so of each item and those before it.
use Rattle.shr_audit_charges.proofs.Common.{◌≡◌, ◌≢◌, ℕ, zero, suc, ◌+◌, ◌<◌, ◌≤◌, Bool, true, cond, List, [], ◌∷◌, ◌++◌, length, get_or, set, take, drop, Option, Some, None, refl, sym, ap, subst, ◌∙◌, arith, ◌⊎◌, inl, inr, filter, slice_get, AllByRecursion, cases_lt, length-set, slice_get-get_or, slice_get_past, take-append-drop, at_drop_more, get_or-set_same, get_or-set_other, all_push, some_injective}
use Rattle.std.proofs.lemmas.List.Elements.{filter-append}

pub none_some : {X : Type 0} (a : X) → ◌≡◌ {A = Option X} None (Some a) → ⊥
none_some a e = cc

pub push_each : {X : Type 0} (P : List X → X → Type 0) (xs : List X) (x : X) → ((n : ℕ) (e : X) → slice_get xs n ≡ Some e → P (take n xs) e) → P xs x → (n : ℕ) (e : X) → slice_get (xs ++ x ∷ []) n ≡ Some e → P (take n (xs ++ x ∷ [])) e
push_each P [] x h here zero e at = subst (P []) (some_injective x e at) here
push_each P [] x h here (suc n) e at = absurd (none_some e at)
push_each P (y ∷ ys) x h here zero e at = h zero e at
push_each P (y ∷ ys) x h here (suc n) e at = push_each (λ l z. P (y ∷ l) z) ys x (λ m z there. h (suc m) z there) here n e at

-- the same of a first part, and of one item between
pub first_each : {X : Type 0} (P : List X → X → Type 0) (xs ys : List X) → ((n : ℕ) (e : X) → slice_get (xs ++ ys) n ≡ Some e → P (take n (xs ++ ys)) e) → (n : ℕ) (e : X) → slice_get xs n ≡ Some e → P (take n xs) e
first_each P [] ys h n e at = absurd (none_some e at)
first_each P (x ∷ xs) ys h zero e at = h zero e at
first_each P (x ∷ xs) ys h (suc n) e at = first_each (λ l z. P (x ∷ l) z) xs ys (λ m z there. h (suc m) z there) n e at

pub here_each : {X : Type 0} (P : List X → X → Type 0) (xs : List X) (x : X) (ys : List X) → ((n : ℕ) (e : X) → slice_get (xs ++ x ∷ ys) n ≡ Some e → P (take n (xs ++ x ∷ ys)) e) → P xs x
here_each P [] x ys h = h zero x refl
here_each P (y ∷ xs) x ys h = here_each (λ l z. P (y ∷ l) z) xs x ys (λ m z there. h (suc m) z there)

pub all_here : {X : Type 0} (P : X → Type 0) (xs : List X) (x : X) (ys : List X) → AllByRecursion P (xs ++ x ∷ ys) → P x
all_here P [] x ys h = h.0
all_here P (y ∷ xs) x ys h = all_here P xs x ys h.1

-- a list by an item, those before and those behind it
pub split_at : {X : Type 0} (xs : List X) (i : ℕ) (d : X) → i < length xs → xs ≡ take i xs ++ (get_or xs i d ∷ drop (i + 1) xs)
split_at {X} xs i d lt = sym (take-append-drop i xs) ∙ at_drop_more (λ (l : List X). take i xs ++ l) xs i d lt

-- what passes a test is in, and what doesn't isn't
pub filter_in : {X : Type 0} (p : X → Bool) (xs : List X) (x : X) → p x ≡ true → filter p (xs ++ x ∷ []) ≡ filter p xs ++ x ∷ []
filter_in p xs x e = filter-append p xs (x ∷ []) ∙ ap (λ (b : Bool). filter p xs ++ cond b (x ∷ []) []) e

pub filter_here : {X : Type 0} (p : X → Bool) (xs : List X) (x : X) (ys : List X) → p x ≡ true → filter p (xs ++ x ∷ ys) ≡ filter p xs ++ (x ∷ filter p ys)
filter_here {X} p xs x ys e = filter-append p xs (x ∷ ys) ∙ ap (λ (b : Bool). filter p xs ++ cond b (x ∷ filter p ys) (filter p ys)) e

-- an item that was set, and the others
pub set_own : {X : Type 0} (xs : List X) (i : ℕ) (y : X) → i < length xs → slice_get (set xs i y) i ≡ Some y
set_own {X} xs i y lt = slice_get-get_or (set xs i y) i y (let l = length-set xs i y in omega (arith, l)) ∙ ap (λ (v : X). Some v) (get_or-set_same xs i y y lt)

pub set_other : {X : Type 0} (xs : List X) (i j : ℕ) (y : X) → j ≢ i → slice_get (set xs i y) j ≡ slice_get xs j
set_other {X} xs i j y ne = by_length (cases_lt j (length xs))
  where
    by_length : (j < length xs) ⊎ (length xs ≤ j) → slice_get (set xs i y) j ≡ slice_get xs j
    by_length (inl lt) = slice_get-get_or (set xs i y) j y (let l = length-set xs i y in omega (arith, l)) ∙ ap (λ (v : X). Some v) (get_or-set_other xs i j y y ne) ∙ sym (slice_get-get_or xs j y lt)
    by_length (inr ge) = slice_get_past (set xs i y) j (let l = length-set xs i y in omega (arith, l)) ∙ sym (slice_get_past xs j ge)
