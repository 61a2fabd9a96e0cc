-- SPDX-License-Identifier: GPL-2.0-only
-- Entries with rising numbers that are all the entries below a bound: each has the next number.
use Rattle.shr_assemble.proofs.Common.{◌≡◌, ℕ, zero, suc, ◌+◌, ◌<◌, ◌≤◌, ⊎_elim, List, [], ◌∷◌, ◌++◌, length, refl, ap, subst, arith, slice_get, Some, cases_lt, same_Some, none-some, dite, ℕ_discrete, total, only_no, Turn, hit_turn}

-- their numbers rise, from this one on, and stay below a bound
abbrev pub AreUp : ℕ → ℕ → List Turn → Type 0
AreUp lo high [] = lo ≤ high
AreUp lo high (t ∷ ts) = (lo ≤ t.number) × AreUp (t.number + 1) high ts

pub up_within : (lo high : ℕ) (ts : List Turn) → AreUp lo high ts → lo ≤ high
up_within lo high [] h = h
up_within lo high (t ∷ ts) h = omega (arith, h.0, up_within (t.number + 1) high ts h.1)

-- one more behind them
pub up_push : (lo high most : ℕ) (ts : List Turn) (t : Turn) → AreUp lo high ts → high ≤ t.number → t.number < most → AreUp lo most (ts ++ t ∷ [])
up_push lo high most [] t h le lt = (omega (arith, h, le), omega (arith, lt))
up_push lo high most (x ∷ ts) t h le lt = (h.0, up_push (x.number + 1) high most ts t h.1 le lt)

-- lower numbers, and higher ones, are not among them
pub none_lower : (n lo high : ℕ) (ts : List Turn) → AreUp lo high ts → n < lo → total (hit_turn n) ts ≡ 0
none_lower n lo high [] h lt = refl
none_lower n lo high (t ∷ ts) h lt = omega (arith, only_no n t.number (λ e. omega (arith, e, h.0, lt)), none_lower n (t.number + 1) high ts h.1 (omega (arith, h.0, lt)))

pub none_higher : (n lo high : ℕ) (ts : List Turn) → AreUp lo high ts → high ≤ n → total (hit_turn n) ts ≡ 0
none_higher n lo high [] h le = refl
none_higher n lo high (t ∷ ts) h le = omega (arith, only_no n t.number (λ e. omega (arith, e, up_within (t.number + 1) high ts h.1, le)), none_higher n (t.number + 1) high ts h.1 le)

-- all numbers are there
abbrev pub AreAll : ℕ → ℕ → List Turn → Type 0
AreAll lo high ts = (n : ℕ) → lo ≤ n → n < high → 0 < total (hit_turn n) ts

first_is : (lo high : ℕ) (t : Turn) (ts : List Turn) → AreUp lo high (t ∷ ts) → AreAll lo high (t ∷ ts) → t.number ≡ lo
first_is lo high t ts h all = dite (ℕ_discrete t.number lo) (λ e. e)
    (λ ne. absurd (let above : lo < t.number = omega (arith, h.0, ne) in let top = up_within (t.number + 1) high ts h.1 in
    omega (arith, all lo (omega arith) (omega (arith, above, top)), only_no lo t.number ne, none_lower lo (t.number + 1) high ts h.1 (omega (arith, above)))))

rest_all : (lo high : ℕ) (t : Turn) (ts : List Turn) → t.number ≡ lo → AreAll lo high (t ∷ ts) → AreAll (lo + 1) high ts
rest_all lo high t ts e all n le lt = omega (arith, all n (omega (arith, le)) lt, only_no n t.number (λ d. omega (arith, d, e, le)))

-- so each has the next number
pub next_numbers : (lo high : ℕ) (ts : List Turn) → AreUp lo high ts → AreAll lo high ts → (i : ℕ) (t : Turn) → slice_get ts i ≡ Some t → t.number ≡ lo + i
next_numbers lo high [] h all i t at = absurd (none-some t at)
next_numbers lo high (x ∷ ts) h all zero t at = let same = ap (λ (y : Turn). y.number) (same_Some x t at) in let e = first_is lo high x ts h all in omega (arith, same, e)
next_numbers lo high (x ∷ ts) h all (suc i) t at = let e = first_is lo high x ts h all in
    let rest = next_numbers (lo + 1) high ts (subst (λ (n : ℕ). AreUp (n + 1) high ts) e h.1) (rest_all lo high x ts e all) i t at in omega (arith, rest)

-- and there are as many as numbers
pub as_many : (lo high : ℕ) (ts : List Turn) → AreUp lo high ts → AreAll lo high ts → lo + length ts ≡ high
as_many lo high [] h all = ⊎_elim (λ lt. absurd (let some = all lo (omega arith) lt in omega (arith, some))) (λ le. omega (arith, h, le)) (cases_lt lo high)
as_many lo high (x ∷ ts) h all = let e = first_is lo high x ts h all in
    let rest = as_many (lo + 1) high ts (subst (λ (n : ℕ). AreUp (n + 1) high ts) e h.1) (rest_all lo high x ts e all) in omega (arith, rest)
