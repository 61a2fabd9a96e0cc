-- SPDX-License-Identifier: GPL-2.0-only
-- Small laws of lists: what stands in them, and sums.
use Rattle.shr_lawful.proofs.UnitsCommon.{◌≡◌, ℕ, zero, suc, ◌+◌, ◌<◌, ◌≤◌, ◌≢◌, ◌⊎◌, inl, inr, ⊎_elim, Bool, cond, List, [], ◌∷◌, ◌++◌, length, sym, refl, ap, subst, ◌∙◌, arith, slice_get, Some, flat_map, sum_by, AllByRecursion, same_Some, none-some, sum_by-cons, total, Begins, total-append, count_by}
use mathlib.Core.Option.{some, some-injective, some-ne-none}
use lib.ListN.{get_elem?}
use Rattle.shr_seats.specs.Views.{Each}
pub use Rattle.shr_model.proofs.Lists.{some_at}

pub at_some : {A : Type 0} (xs : List A) (n : ℕ) (x : A) → get_elem? xs n ≡ some x → slice_get xs n ≡ Some x
at_some [] n x e = absurd (some-ne-none x (sym e))
at_some (y ∷ xs) zero x e = ap Some (some-injective y x e)
at_some (y ∷ xs) (suc n) x e = at_some xs n x e

-- an element of a list
abbrev pub IsIn : {A : Type 0} → A → List A → Type 0
IsIn {A} x xs = (j : ℕ) × (slice_get xs j ≡ Some x)

pub in_left : {A : Type 0} (xs ys : List A) (x : A) → IsIn x xs → IsIn x (xs ++ ys)
in_left [] ys x (j, e) = absurd (none-some x e)
in_left (y ∷ xs) ys x (zero, e) = (zero, e)
in_left (y ∷ xs) ys x (suc j, e) = let r = in_left xs ys x (j, e) in (suc r.0, r.1)

pub in_right : {A : Type 0} (xs ys : List A) (x : A) → IsIn x ys → IsIn x (xs ++ ys)
in_right [] ys x h = h
in_right (y ∷ xs) ys x h = let r = in_right xs ys x h in (suc r.0, r.1)

pub in_cases : {A : Type 0} (xs ys : List A) (x : A) → IsIn x (xs ++ ys) → IsIn x xs ⊎ IsIn x ys
in_cases [] ys x h = inr h
in_cases (y ∷ xs) ys x (zero, e) = inl (zero, e)
in_cases (y ∷ xs) ys x (suc j, e) = ⊎_elim (λ a. inl (suc a.0, a.1)) (λ b. inr b) (in_cases xs ys x (j, e))

pub in_flat : {A B : Type 0} (f : A → List B) (xs : List A) (x : A) (y : B) → IsIn x xs → IsIn y (f x) → IsIn y (flat_map f xs)
in_flat f [] x y (j, e) h = absurd (none-some x e)
in_flat f (z ∷ xs) x y (zero, e) h = in_left (f z) (flat_map f xs) y (subst (λ v. IsIn y (f v)) (sym (same_Some z x e)) h)
in_flat f (z ∷ xs) x y (suc j, e) h = in_right (f z) (flat_map f xs) y (in_flat f xs x y (j, e) h)

pub flat_in : {A B : Type 0} (f : A → List B) (xs : List A) (y : B) → IsIn y (flat_map f xs) → (x : A) × IsIn x xs × IsIn y (f x)
flat_in f [] y (j, e) = absurd (none-some y e)
flat_in f (x ∷ xs) y h = ⊎_elim (λ a. (x, (zero, refl), a)) (λ b. let r = flat_in f xs y b in (r.0, (suc r.1.0, r.1.1), r.2)) (in_cases (f x) (flat_map f xs) y h)

pub in_none : {A : Type 0} (x : A) → IsIn x [] → ⊥
in_none x (j, e) = none-some x e

pub in_one : {A : Type 0} (x y : A) → IsIn x (y ∷ []) → y ≡ x
in_one x y (zero, e) = same_Some y x e
in_one x y (suc j, e) = absurd (none-some x e)

-- what holds of each element
pub each_in : {A : Type 0} (P : A → Type 0) (xs : List A) (x : A) → Each P xs → IsIn x xs → P x
each_in P xs x all (j, e) = all j x (some_at xs j x e)

pub in_each : {A : Type 0} (P : A → Type 0) (xs : List A) → ((x : A) → IsIn x xs → P x) → Each P xs
in_each P xs h j x e = h x (j, at_some xs j x e)

pub begins_in : {A : Type 0} (xs ys : List A) (x : A) → Begins xs ys → IsIn x xs → IsIn x ys
begins_in {A} xs ys x b h = subst (λ (l : List A). IsIn x l) (sym b.1) (in_left xs b.0 x h)

pub by_slices : {A : Type 0} (P : A → Type 0) (xs : List A) → ((j : ℕ) (x : A) → slice_get xs j ≡ Some x → P x) → AllByRecursion P xs
by_slices P [] h = tt
by_slices P (x ∷ xs) h = (h 0 x refl, by_slices P xs (λ j y e. h (suc j) y e))

pub all_in : {A : Type 0} (P : A → Type 0) (xs : List A) (x : A) → AllByRecursion P xs → IsIn x xs → P x
all_in P [] x h is = absurd (in_none x is)
all_in P (y ∷ xs) x h (zero, e) = subst P (same_Some y x e) h.0
all_in P (y ∷ xs) x h (suc j, e) = all_in P xs x h.1 (j, e)

-- an element of a beginning is that of the whole
pub slice_left : {A : Type 0} (xs ys : List A) (n : ℕ) (x : A) → slice_get xs n ≡ Some x → slice_get (xs ++ ys) n ≡ Some x
slice_left [] ys n x e = absurd (none-some x e)
slice_left (y ∷ xs) ys zero x e = e
slice_left (y ∷ xs) ys (suc n) x e = slice_left xs ys n x e

pub slice_begins : {A : Type 0} (xs ys : List A) (n : ℕ) (x : A) → Begins xs ys → slice_get xs n ≡ Some x → slice_get ys n ≡ Some x
slice_begins {A} xs ys n x b at = subst (λ (l : List A). slice_get l n ≡ Some x) (sym b.1) (slice_left xs b.0 n x at)

pub slice_seam : {A : Type 0} (xs ys : List A) (x : A) → slice_get (xs ++ x ∷ ys) (length xs) ≡ Some x
slice_seam [] ys x = refl
slice_seam (y ∷ xs) ys x = slice_seam xs ys x

-- ---- sums
pub sum_total : {A : Type 0} (f : A → ℕ) (xs : List A) → sum_by f xs ≡ total f xs
sum_total f [] = refl
sum_total f (x ∷ xs) = omega (arith, sum_by-cons f x xs, sum_total f xs)

pub count_total : {A : Type 0} (p : A → Bool) (xs : List A) → count_by p xs ≡ total (λ x. cond (p x) 1 0) xs
count_total p xs = sum_total (λ x. cond (p x) 1 0) xs

pub total_flat : {A B : Type 0} (g : B → ℕ) (f : A → List B) (xs : List A) → total g (flat_map f xs) ≡ total (λ x. total g (f x)) xs
total_flat g f [] = refl
total_flat g f (x ∷ xs) = omega (arith, total-append g (f x) (flat_map f xs), total_flat g f xs)

pub total_on : {A : Type 0} (g h : A → ℕ) (xs : List A) → ((x : A) → IsIn x xs → g x ≡ h x) → total g xs ≡ total h xs
total_on g h [] e = refl
total_on g h (x ∷ xs) e = omega (arith, e x (0, refl), total_on g h xs (λ y i. e y (suc i.0, i.1)))

pub all_zero : {A : Type 0} (g : A → ℕ) (xs : List A) → ((j : ℕ) (x : A) → slice_get xs j ≡ Some x → g x ≡ 0) → total g xs ≡ 0
all_zero g [] h = refl
all_zero g (x ∷ xs) h = omega (arith, h 0 x refl, all_zero g xs (λ j y e. h (suc j) y e))

pub only_at : {A : Type 0} (g : A → ℕ) (xs : List A) (i : ℕ) (x : A) → slice_get xs i ≡ Some x → ((j : ℕ) (y : A) → slice_get xs j ≡ Some y → j ≢ i → g y ≡ 0) → total g xs ≡ g x
only_at g [] i x e h = absurd (none-some x e)
only_at g (y ∷ xs) zero x e h = omega (arith, ap g (same_Some y x e), all_zero g xs (λ j z d. h (suc j) z d (λ s. omega (arith, s))))
only_at g (y ∷ xs) (suc i) x e h = omega (arith, h 0 y refl (λ s. omega (arith, s)), only_at g xs i x e (λ j z d ne. h (suc j) z d (λ s. ne (omega (arith, s)))))

pub length_total : {A : Type 0} (xs : List A) → length xs ≡ total (λ (x : A). 1) xs
length_total [] = refl
length_total (x ∷ xs) = omega (arith, length_total xs)
