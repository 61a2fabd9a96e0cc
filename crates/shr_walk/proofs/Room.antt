-- SPDX-License-Identifier: GPL-2.0-only
-- The room of a map's attempts: as many as it has set bits.
use Rattle.shr_walk.proofs.Common.{◌≡◌, ℕ, zero, suc, ◌+◌, ◌*◌, ◌/◌, ◌%◌, ◌^◌, ◌<◌, ◌≤◌, ◌==◌, cond, List, [], ◌∷◌, length, sym, refl, ap, subst, ◌∙◌, arith, length-append, count_ones, bit_at, mod-lt, pow_pos, IsNextBit, ones_cat, ones_le_self, zero_from_ones, mod-pow-add}
use Rattle.shr_walk.proofs.Mapping.{more_set, same_set}
use Rattle.shr_walk.proofs.Ranging.{set_below, set_suc, set_within}

none_is : count_ones 0 ≡ 0
none_is = let le = ones_le_self 0 in omega (arith, le)

one_is : count_ones 1 ≡ 1
one_is = one (count_ones 1) (ones_le_self 1) (zero_from_ones 1)
  where
    one : (c : ℕ) → c ≤ 1 → (c ≡ 0 → ◌≡◌ {A = ℕ} 1 0) → c ≡ 1
    one zero le f = let z : ◌≡◌ {A = ℕ} 1 0 = f refl in absurd (omega (arith, z))
    one (suc zero) le f = refl
    one (suc (suc c)) le f = absurd (omega (arith, le))

one_bit : (b n : ℕ) → b < 2 → count_ones b ≡ length (cond (b == 1) (n ∷ []) [])
one_bit zero n low = none_is
one_bit (suc zero) n low = one_is
one_bit (suc (suc b)) n low = absurd (omega (arith, low))

ones_below : (bits n : ℕ) → count_ones (bits % 2 ^ n) ≡ length (set_below bits n)
ones_below bits zero = let e : bits % 2 ^ 0 ≡ 0 = omega arith in ap count_ones e ∙ none_is
ones_below bits (suc n) =
    let e : suc n ≡ 1 + n = omega arith in
    let cut : count_ones (bits % 2 ^ (1 + n)) ≡ count_ones (bit_at bits n * 2 ^ n + bits % 2 ^ n) = ap count_ones (mod-pow-add bits 1 n) in
    let cat = ones_cat n (bit_at bits n) (bits % 2 ^ n) (mod-lt bits (pow_pos n)) in
    let one = one_bit (bit_at bits n) n (mod-lt (bits / 2 ^ n) (omega arith)) in
    let rest = ones_below bits n in let whole = ap (λ (l : List ℕ). length l) (set_suc bits n) in let both = length-append (set_below bits n) (cond (bit_at bits n == 1) (n ∷ []) []) in
    subst (λ (m : ℕ). count_ones (bits % 2 ^ m) ≡ length (set_below bits (suc n))) (sym e) (omega (arith, cut, cat, one, rest, whole, both))

-- a word's ones are its set bits
pub ones_are : (bits : ℕ) → bits < 2 ^ 64 → count_ones bits ≡ length (set_below bits 64)
ones_are bits fits = let e : bits % 2 ^ 64 ≡ bits = omega (arith, fits) in ap count_ones (sym e) ∙ ones_below bits 64

-- below the bit after the next one is one set bit more
pub one_more : (bits from bit : ℕ) → IsNextBit bits from bit → length (set_below bits (bit + 1)) ≡ length (set_below bits from) + 1
one_more bits from bit next = let a = ap (λ (l : List ℕ). length l) (more_set bits bit next.set) in let b = ap (λ (l : List ℕ). length l) (same_set bits from bit next.upward next.between) in
    let c = length-append (set_below bits bit) (bit ∷ []) in omega (arith, a, b, c)

-- there are no more set bits below a bit than in all
pub within_all : (bits n : ℕ) → n ≤ 64 → length (set_below bits n) ≤ length (set_below bits 64)
within_all bits n near = let r = set_within bits n 64 near in let same = ap (λ (l : List ℕ). length l) r.1 in let both = length-append (set_below bits n) r.0 in omega (arith, same, both)
