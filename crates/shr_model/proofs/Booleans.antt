-- SPDX-License-Identifier: GPL-2.0-only
-- Lemmas on truth values and what depends on one that several crates cite.
use Rattle.shr_model.proofs.Common.{◌≡◌, Bool, true, false, refl, ap, ◌&&◌, ◌≢◌, ℕ, arith, sym, ◌≤◌, cond, not, ◌||◌, ◌==◌, nat_tests, T, suc, ◌<◌, nat_le, nat_lt}
use Rattle.std.specs.Prelude.{Option, Some, None}
use Rattle.std.specs.Option.{is_some}

pub or_true : (a b : Bool) → b ≡ false → (a || not b) ≡ true
or_true true b e = refl
or_true false b e = ap {B = Bool} (λ x. not x) e

pub both : (a b : Bool) → a ≡ true → b ≡ true → (a && b) ≡ true
both a b e f = rw (e, f) refl

pub is_other : (a b : ℕ) → a ≢ b → (a == b) ≡ false
is_other a b h = grind (arith, nat_tests)

pub same_test : (a b : Bool) → (a ≡ true → b ≡ true) → (b ≡ true → a ≡ true) → a ≡ b
same_test true true f g = refl
same_test true false f g = sym (f refl)
same_test false true f g = g refl
same_test false false f g = refl

pub itself : (n : ℕ) → (n == n) ≡ true
itself n = grind (arith, nat_tests)

pub bit_small : (b : Bool) → cond b 1 0 ≤ 1
bit_small true = omega arith
bit_small false = omega arith

pub nothing : (b : Bool) → ◌≡◌ {A = ℕ} (cond b 0 0) 0
nothing true = refl
nothing false = refl

pub and_right : (a b : Bool) → (a && b) ≡ true → b ≡ true
and_right true b e = e
and_right false b e = absurd cc

pub is_true : (b : Bool) → T b → b ≡ true
is_true true h = refl
is_true false h = absurd h

pub not_zero : (n : ℕ) → (0 == suc n) ≡ false
not_zero n = grind (arith)

pub above_of : (a b : ℕ) → nat_le a b ≡ false → b < a
above_of a b e = grind (arith, nat_tests)

pub below_of : (a b : ℕ) → nat_le a b ≡ true → a ≤ b
below_of a b e = grind (arith, nat_tests)

pub is_same : (a b : ℕ) → a ≡ b → (a == b) ≡ true
is_same a b h = grind (arith, nat_tests)

pub le_of : (a b : ℕ) → a ≤ b → nat_le a b ≡ true
le_of a b e = grind (arith, nat_tests)

pub lt_of : (a b : ℕ) → nat_lt a b ≡ true → a < b
lt_of a b e = grind (arith, nat_tests)

pub more_of : (a b : ℕ) → nat_lt a b ≡ false → b ≤ a
more_of a b e = grind (arith, nat_tests)

pub both_and : (a b c : Bool) → a ≡ true → b ≡ true → c ≡ true → (a && b && c) ≡ true
both_and a b c e f g = rw (e, f, g) refl

pub not_true : (b : Bool) → not b ≡ true → b ≡ false
not_true true e = absurd cc
not_true false e = refl

pub no_test : (b : Bool) → (b ≡ true → ⊥) → b ≡ false
no_test true h = absurd (h refl)
no_test false h = refl

pub none_unless : {A : Type 0} (o : Option A) → is_some o ≡ false → o ≡ None
none_unless None e = refl
none_unless (Some x) e = cc
