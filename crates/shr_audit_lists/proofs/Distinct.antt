-- SPDX-License-Identifier: GPL-2.0-only
-- Serials of which none comes twice.
use Rattle.shr_audit_lists.proofs.SerialsCommon.{◌≡◌, ◌≢◌, ℕ, zero, suc, ◌+◌, ◌<◌, ◌≤◌, Bool, true, false, cond, List, [], ◌∷◌, length, get_or, refl, sym, ap, subst, ◌∙◌, inl, inr, arith, sum_by, IsPermutation, IsNonDecreasingBy, cases_Bool, sum_by-cons, sum_by-IsPermutation, IsPermutation-sym, Serial, serial_key, ◌&&◌, ◌==◌, and_parts, and_from, eq-eqb, eqb-true}
use Rattle.std.specs.List.{AllByRecursion}
use Rattle.shr_model.specs.Bag.{AreDistinct}

-- ---- by how often each serial comes

abbrev is_same : Serial → Serial → Bool
is_same x y = (x.worker == y.worker) && (x.command == y.command)

itself : (x : Serial) → is_same x x ≡ true
itself x = and_from (x.worker == x.worker) (x.command == x.command) (eq-eqb x.worker x.worker refl) (eq-eqb x.command x.command refl)

from_same : (x y : Serial) → is_same x y ≡ true → x ≡ y
from_same x y h =
    let parts = and_parts (x.worker == y.worker) (x.command == y.command) h in
    let workers = eqb-true x.worker y.worker parts.0 in
    let commands = eqb-true x.command y.command parts.1 in
    λ i. record { worker = workers i; command = commands i }

abbrev one_of : Serial → Serial → ℕ
one_of x y = cond (is_same x y) 1 0

abbrev times : Serial → List Serial → ℕ
times x xs = sum_by (one_of x) xs

times_cons : (x y : Serial) (ys : List Serial) → times x (y ∷ ys) ≡ one_of x y + times x ys
times_cons x y ys = sum_by-cons (one_of x) y ys

clash : (b : Bool) → b ≡ true → b ≡ false → ⊥
clash b e f = cc

other : (x y : Serial) → x ≢ y → one_of x y ≡ 0
other x y ne = elim (cases_Bool (is_same x y)) [
  | inl e ↦ absurd (ne (from_same x y e))
  | inr e ↦ rw e refl
]

own : (x : Serial) → one_of x x ≡ 1
own x = rw (itself x) refl

-- a serial that isn't there comes no time, and the other way round
never : (x : Serial) (ys : List Serial) → AllByRecursion (λ (y : Serial). x ≢ y) ys → times x ys ≡ 0
never x [] h = refl
never x (y ∷ ys) h = let a = times_cons x y ys in let b = other x y h.0 in let c = never x ys h.1 in omega arith

away : (x : Serial) (ys : List Serial) → times x ys ≡ 0 → AllByRecursion (λ (y : Serial). x ≢ y) ys
away x [] h = tt
away x (y ∷ ys) h =
    let a = times_cons x y ys in
    (λ same. let b : one_of x y ≡ 1 = ap (one_of x) (sym same) ∙ own x in absurd (omega arith), away x ys (omega arith))

once : (xs : List Serial) → AreDistinct xs → (s : Serial) → times s xs ≤ 1
unfolding AreDistinct
once [] h s = omega arith
once (x ∷ xs) h s = elim (cases_Bool (is_same s x)) [
  | inl e ↦
      let a = times_cons s x xs in
      let b : one_of s x ≡ 1 = rw e refl in
      let c : times s xs ≡ 0 = ap (λ (y : Serial). times y xs) (from_same s x e) ∙ never x xs h.0 in
      omega arith
  | inr e ↦
      let a = times_cons s x xs in
      let b : one_of s x ≡ 0 = rw e refl in
      let c = once xs h.1 s in
      omega arith
]

distinct : (xs : List Serial) → ((s : Serial) → times s xs ≤ 1) → AreDistinct xs
unfolding AreDistinct
distinct [] h = tt
distinct (x ∷ xs) h = (
  away x xs (let a = times_cons x x xs in let b = own x in let c = h x in omega arith),
  distinct xs (λ s. let a = times_cons s x xs in let c = h s in omega arith),
)

-- the order of the serials doesn't matter
pub distinct_again : (xs ys : List Serial) → IsPermutation xs ys → AreDistinct xs → AreDistinct ys
distinct_again xs ys p h = distinct ys (λ s. let a = sum_by-IsPermutation (one_of s) xs ys p in let b = once xs h s in omega arith)

pub distinct_before : (xs ys : List Serial) → IsPermutation xs ys → AreDistinct ys → AreDistinct xs
distinct_before xs ys p h = distinct_again ys xs (IsPermutation-sym xs ys p) h

-- ---- sorted serials

all_above : (x : Serial) (ys : List Serial) → ((j : ℕ) (d : Serial) → j < length ys → serial_key x < serial_key (get_or ys j d)) → AllByRecursion (λ (y : Serial). x ≢ y) ys
all_above x [] h = tt
all_above x (y ∷ ys) h = (
  λ same. let lt = h 0 y (omega arith) in let e = ap serial_key same in absurd (omega arith),
  all_above x ys (λ j d lt. h (suc j) d (omega (arith, lt))),
)

-- serials that stand next to one another before this index have other keys
abbrev pub AreNextApart : List Serial → ℕ → Type 0
AreNextApart xs n = (k : ℕ) (d : Serial) → k + 1 < n → serial_key (get_or xs k d) ≢ serial_key (get_or xs (k + 1) d)

-- sorted ones are then all apart
pub distinct_sorted : (xs : List Serial) → IsNonDecreasingBy serial_key xs → AreNextApart xs (length xs) → AreDistinct xs
unfolding AreDistinct
distinct_sorted [] up apart = tt
distinct_sorted (x ∷ xs) up apart = (
  all_above x xs (λ j d lt. above j d lt),
  distinct_sorted xs (λ i j d le lt. up (suc i) (suc j) d (omega (arith, le)) (omega (arith, lt))) (λ k d lt. let next : suc k + 1 ≡ suc (k + 1) = omega arith in
      subst (λ (n : ℕ). serial_key (get_or xs k d) ≢ serial_key (get_or (x ∷ xs) n d)) next (apart (suc k) d (omega (arith, lt)))),
) where
  above : (j : ℕ) (d : Serial) → j < length xs → serial_key x < serial_key (get_or xs j d)
  above j d lt =
      let first : serial_key x ≤ serial_key (get_or xs 0 d) = up 0 1 d (omega arith) (omega (arith, lt)) in
      let ne : serial_key x ≢ serial_key (get_or xs 0 d) = apart 0 d (omega (arith, lt)) in
      let later : serial_key (get_or xs 0 d) ≤ serial_key (get_or xs j d) = up 1 (suc j) d (omega arith) (omega (arith, lt)) in
      omega arith

-- one that stands next to itself comes twice
pub twice : (xs : List Serial) (k j : ℕ) (d e : Serial) → j ≡ k + 1 → j < length xs → get_or xs k d ≡ get_or xs j e → AreDistinct xs → ⊥
unfolding AreDistinct
twice [] k j d e next lt same h = absurd (omega arith)
twice (x ∷ []) k j d e next lt same h = absurd (omega arith)
twice (x ∷ y ∷ ys) k zero d e next lt same h = absurd (omega arith)
twice (x ∷ y ∷ ys) zero (suc j) d e next lt same h = let first : j ≡ 0 = omega arith in h.0.0 (same ∙ ap (λ (n : ℕ). get_or (y ∷ ys) n e) first)
twice (x ∷ y ∷ ys) (suc k) (suc j) d e next lt same h = twice (y ∷ ys) k j d e (omega arith) (omega arith) same h.1
