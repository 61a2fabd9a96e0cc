-- SPDX-License-Identifier: GPL-2.0-only
-- The moves of a report settle if and only if its deferred words are right.
use Rattle.shr_audit_case.proofs.SumsCommon.{◌≡◌, ℕ, ◌+◌, ◌-◌, ◌%◌, ◌^◌, ◌<◌, ◌≤◌, List, [], refl, sym, ◌∙◌, arith, Bool, true, ◌↔◌, Place, WalkRecord, PassRecord, Carry, sum_at, given_at, taken_at, Move, sum_up_at, sum_down_at, IsSettled, deferred_key, IsNarrow, GainsAt, GainsAtEach, ◌*◌, ◌/◌, deferred_word}
use Rattle.std.specs.Bool.{Decides}
use Rattle.shr_base.specs.declared.ends.PlaceAmount.{PlaceAmount}

-- the place that a number stands for
place_of : ℕ → Place
place_of k = record { id = k / 16777216; node = k / 65536 % 256; group = k % 65536 }

narrow : (k : ℕ) → IsNarrow (place_of k)
unfolding place_of
narrow k = record { node = omega arith; group = omega arith }

again : (k : ℕ) → deferred_key (place_of k) ≡ k
unfolding place_of
again k = omega arith

to_word : (printed given taken : ℕ) → printed < 2 ^ 64 → given % 2 ^ 64 ≡ (printed + taken) % 2 ^ 64 → printed ≡ deferred_word given taken
to_word printed given taken h e = omega arith

from_word : (printed given taken : ℕ) → printed ≡ deferred_word given taken → given % 2 ^ 64 ≡ (printed + taken) % 2 ^ 64
from_word printed given taken e = omega arith

pub words_law : (printed given taken : Place → ℕ) (ms : List Move) (b : Bool) → ((p : Place) → printed p < 2 ^ 64) → ((p : Place) → IsNarrow p → (sum_up_at (deferred_key p) ms ≡ given p) × (sum_down_at (deferred_key p) ms ≡ printed p + taken p)) → ((b ≡ true) ↔ IsSettled ms)
    → Decides b ((p : Place) → IsNarrow p → printed p ≡ deferred_word (given p) (taken p))
words_law printed given taken ms b small gains decided = (
  λ t p n. let g = gains p n in let s = decided.0 t (deferred_key p) in to_word (printed p) (given p) (taken p) (small p) (rw (g.0, g.1) at s),
  λ law. decided.1 (λ k. let g = gains (place_of k) (narrow k) in at_key k (sym g.0) (sym g.1) (from_word (printed (place_of k)) (given (place_of k)) (taken (place_of k)) (law (place_of k) (narrow k)))),
)
  where
    at_key : (k : ℕ) → given (place_of k) ≡ sum_up_at (deferred_key (place_of k)) ms → printed (place_of k) + taken (place_of k) ≡ sum_down_at (deferred_key (place_of k)) ms → given (place_of k) % 2 ^ 64 ≡ (printed (place_of k) + taken (place_of k)) % 2 ^ 64 → sum_up_at k ms % 2 ^ 64 ≡ sum_down_at k ms % 2 ^ 64
    at_key k e f h = let i = rw (e, f) at h in rw (again k) at i

-- what three lists of moves gain one after another
pub gained : (v w u' v' w' : Place → ℕ) (a b c d : List Move) → a ≡ [] → GainsAtEach (λ p. 0) u' a b → GainsAtEach v v' b c → GainsAtEach w w' c d → (p : Place) → IsNarrow p → (sum_up_at (deferred_key p) d ≡ v p + w p) × (sum_down_at (deferred_key p) d ≡ u' p + (v' p + w' p))
gained v w u' v' w' a b c d e f g h p n =
    let x = f p n in let y = g p n in let z = h p n in
    let xu = x.ups in let yu = y.ups in let zu = z.ups in let xd = x.downs in let yd = y.downs in let zd = z.downs in
    let s = empty a e p in let t = empty_down a e p in (omega (arith, xu, yu, zu, s), omega (arith, xd, yd, zd, t))
  where
    empty : (a : List Move) → a ≡ [] → (p : Place) → sum_up_at (deferred_key p) a ≡ 0
    empty a e p = rw e refl

    empty_down : (a : List Move) → a ≡ [] → (p : Place) → sum_down_at (deferred_key p) a ≡ 0
    empty_down a e p = rw e refl
