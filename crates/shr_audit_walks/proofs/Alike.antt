-- SPDX-License-Identifier: GPL-2.0-only
-- Lists that have each number equally often.
use Rattle.shr_audit_walks.proofs.RoundsCommon.{◌≡◌, ℕ, zero, suc, ◌+◌, ◌<◌, Bool, true, false, cond, List, [], ◌∷◌, ◌++◌, length, get_or, take, drop, refl, sym, ap, subst, ◌∙◌, inl, inr, arith, ◌==◌, AllByRecursion, cases_Bool, eqb-true, eq-eqb, ne_eqb, sum_by-cons, AreAlike, IsWithout, times_over}

one_if : (b : Bool) → b ≡ true → ◌≡◌ {A = ℕ} (cond b 1 0) 1
one_if b e = rw e refl

step : (h x : ℕ) (xs : List ℕ) → times_over h (x ∷ xs) ≡ cond (x == h) 1 0 + times_over h xs
step h x xs = sum_by-cons (λ (z : ℕ). cond (z == h) 1 0) x xs

pub own_time : (x : ℕ) (xs : List ℕ) → times_over x (x ∷ xs) ≡ suc (times_over x xs)
own_time x xs = let one = one_if (x == x) (eq-eqb x x refl) in let s = step x x xs in omega (arith, one, s)

pub not_none : (x : ℕ) (xs : List ℕ) → times_over x (x ∷ xs) ≡ 0 → ⊥
not_none x xs e = let own = own_time x xs in absurd (omega (arith, own, e))

-- ---- a number taken out

pub alike_without : (x : ℕ) (xs old new : List ℕ) → AreAlike (x ∷ xs) old → IsWithout x old new → AreAlike xs new
alike_without x xs old new same w h = let a = same h in let b = w.once h in let s = step h x xs in omega (arith, a, b, s)

pub alike_with : (x : ℕ) (xs old new : List ℕ) → AreAlike xs new → IsWithout x old new → AreAlike (x ∷ xs) old
alike_with x xs old new same w h = let a = same h in let b = w.once h in let s = step h x xs in omega (arith, a, b, s)

-- a number that is there can be taken out
pub taken_out : (x : ℕ) (ys : List ℕ) → 0 < times_over x ys → (zs : List ℕ) × IsWithout x ys zs
taken_out x [] lt = absurd (omega arith)
taken_out x (y ∷ ys) lt = elim (cases_Bool (y == x)) [
  | inl t ↦ (ys, record { fewer = refl; once = λ h. here (eqb-true y x t) h })
  | inr f ↦
      let more = taken_out x ys (below f) in
      (y ∷ more.0, record { fewer = ap suc more.1.fewer; once = λ h. let a = more.1.once h in let s = step h y ys in let z = step h y more.0 in omega (arith, a, s, z) })
]
  where
    here : y ≡ x → (h : ℕ) → times_over h (y ∷ ys) ≡ times_over h ys + cond (x == h) 1 0
    here same h = subst (λ (z : ℕ). times_over h (y ∷ ys) ≡ times_over h ys + cond (z == h) 1 0) same (let s = step h y ys in omega (arith, s))

    below : (y == x) ≡ false → 0 < times_over x ys
    below f = let none : ◌≡◌ {A = ℕ} (cond (y == x) 1 0) 0 = rw f refl in let s = step x y ys in omega (arith, none, lt, s)

pub nothing_alike : (ys : List ℕ) → AreAlike [] ys → ys ≡ []
nothing_alike [] same = refl
nothing_alike (y ∷ ys) same = absurd (not_none y ys (sym (same y)))

pub alike_to_nothing : (xs : List ℕ) → AreAlike xs [] → xs ≡ []
alike_to_nothing [] same = refl
alike_to_nothing (x ∷ xs) same = absurd (not_none x xs (same x))

-- alike lists are of one length
pub same_length : (xs ys : List ℕ) → AreAlike xs ys → length xs ≡ length ys
same_length [] ys same = ap length (sym (nothing_alike ys same))
same_length (x ∷ xs) ys same =
    let own = own_time x xs in
    let here = same x in
    let out = taken_out x ys (omega (arith, own, here)) in
    ap suc (same_length xs out.0 (alike_without x xs ys out.0 same out.1)) ∙ sym out.1.fewer

-- ---- what is so of each number

pub so_of : (P : ℕ → Type 0) (x : ℕ) (xs : List ℕ) → AllByRecursion P xs → 0 < times_over x xs → P x
so_of P x [] all lt = absurd (omega arith)
so_of P x (y ∷ ys) all lt = elim (cases_Bool (y == x)) [
  | inl t ↦ subst P (eqb-true y x t) all.0
  | inr f ↦ so_of P x ys all.1 (below f)
]
  where
    below : (y == x) ≡ false → 0 < times_over x ys
    below f = let none : ◌≡◌ {A = ℕ} (cond (y == x) 1 0) 0 = rw f refl in let s = step x y ys in omega (arith, none, lt, s)

pub so_of_each : (P : ℕ → Type 0) (xs : List ℕ) → ((x : ℕ) → 0 < times_over x xs → P x) → AllByRecursion P xs
so_of_each P [] each = tt
so_of_each P (x ∷ xs) each = (each x (let own = own_time x xs in omega (arith, own)), so_of_each P xs (λ y lt. each y (let s = step y x xs in omega (arith, lt, s))))

pub all_alike : (P : ℕ → Type 0) (xs ys : List ℕ) → AreAlike xs ys → AllByRecursion P ys → AllByRecursion P xs
all_alike P xs ys same all = so_of_each P xs (λ x lt. so_of P x ys all (let e = same x in omega (arith, e, lt)))

pub all_without : (P : ℕ → Type 0) (x : ℕ) (old new : List ℕ) → IsWithout x old new → AllByRecursion P old → AllByRecursion P new
all_without P x old new w all = so_of_each P new (λ y lt. so_of P y old all (let e = w.once y in omega (arith, e, lt)))

-- what is so of each is so of a number that was taken out
pub out_so : (P : ℕ → Type 0) (x : ℕ) (old new : List ℕ) → IsWithout x old new → AllByRecursion P old → P x
out_so P x old new w all = so_of P x old all (let e = w.once x in let one = one_if (x == x) (eq-eqb x x refl) in omega (arith, e, one))

-- ---- a number taken out by its index

pub without_at : (x : ℕ) (xs : List ℕ) (k : ℕ) → k < length xs → x ≡ get_or xs k x → IsWithout x xs (take k xs ++ drop (suc k) xs)
without_at x [] k lt is = absurd (omega arith)
without_at x (y ∷ ys) zero lt is = record { fewer = refl; once = λ h. subst (λ (z : ℕ). times_over h (y ∷ ys) ≡ times_over h ys + cond (z == h) 1 0) (sym is) (let s = step h y ys in omega (arith, s)) }
without_at x (y ∷ ys) (suc k) lt is =
    let more = without_at x ys k (omega arith) is in record {
      fewer = ap suc more.fewer;
      once = λ h. let a = more.once h in let s = step h y ys in let z = step h y (take k ys ++ drop (suc k) ys) in omega (arith, a, s, z);
    }

pub none_there : (x : ℕ) (xs : List ℕ) → ((k : ℕ) → k < length xs → get_or xs k 0 ≡ x → ⊥) → times_over x xs ≡ 0
none_there x [] none = refl
none_there x (y ∷ ys) none =
    let other : ◌≡◌ {A = ℕ} (cond (y == x) 1 0) 0 = rw (ne_eqb y x (λ e. none 0 (omega arith) e)) refl in
    let rest = none_there x ys (λ k lt e. none (suc k) (omega arith) e) in
    let s = step x y ys in omega (arith, other, rest, s)
