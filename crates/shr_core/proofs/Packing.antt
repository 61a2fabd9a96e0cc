-- SPDX-License-Identifier: GPL-2.0-only
-- What each step does to the fields of a lookup word.
use Rattle.shr_core.proofs.Common.{◌≡◌, ℕ, ◌+◌, ◌-◌, ◌*◌, ◌%◌, ◌<◌, arith, refs_of, lookups_of, phase_in, decl_in}

-- a lookup
pub record Fields (w w' : ℕ) (refs lookups phase decl : ℕ) : Type 0 where
  pub refs_is : refs_of w' ≡ refs
  pub lookups_is : lookups_of w' ≡ lookups
  pub phase_is : phase_in w' ≡ phase
  pub decl_is : decl_in w' ≡ decl

-- a lookup adds one to two fields of the word and leaves the others
pub looks : (w : ℕ) → w < 18446744073709551616 → refs_of w < 255 → lookups_of w < 4294967295 → Fields w ((w + 257) % 18446744073709551616) (refs_of w + 1) (lookups_of w + 1) (phase_in w) (decl_in w)
looks w fits r l = let same : (w + 257) % 18446744073709551616 ≡ w + 257 = omega arith in record {
  refs_is = omega (arith, same);
  lookups_is = omega (arith, same);
  phase_is = omega (arith, same);
  decl_is = omega (arith, same);
}

-- giving a reference back takes one from that field only
pub puts : (w : ℕ) → w < 18446744073709551616 → 0 < refs_of w → Fields w ((w + (18446744073709551616 - 1)) % 18446744073709551616) (refs_of w - 1) (lookups_of w) (phase_in w) (decl_in w)
puts w fits r = let same : (w + (18446744073709551616 - 1)) % 18446744073709551616 ≡ w - 1 = omega arith in record {
  refs_is = omega (arith, same);
  lookups_is = omega (arith, same);
  phase_is = omega (arith, same);
  decl_is = omega (arith, same);
}

-- a phase step adds one to the phase and puts the declaration in its field
pub phases : (w d : ℕ) → w < 18446744073709551616 → phase_in w < 65535 → d < 256
    → Fields w ((w + (1099511627776 + (d * 72057594037927936 + (18446744073709551616 - decl_in w * 72057594037927936)) % 18446744073709551616) % 18446744073709551616) % 18446744073709551616) (refs_of w) (lookups_of w) (phase_in w + 1) d
phases w d fits p small = let same : (w + (1099511627776 + (d * 72057594037927936 + (18446744073709551616 - decl_in w * 72057594037927936)) % 18446744073709551616) % 18446744073709551616) % 18446744073709551616 ≡ w + 1099511627776 + d * 72057594037927936 - decl_in w * 72057594037927936 = omega arith in record {
  refs_is = omega (arith, same);
  lookups_is = omega (arith, same);
  phase_is = omega (arith, same);
  decl_is = omega (arith, same);
}

-- a phase step with the same declaration
pub rises : (w : ℕ) → w < 18446744073709551616 → phase_in w < 65535 → Fields w ((w + 1099511627776) % 18446744073709551616) (refs_of w) (lookups_of w) (phase_in w + 1) (decl_in w)
rises w fits p = let same : (w + 1099511627776) % 18446744073709551616 ≡ w + 1099511627776 = omega arith in record {
  refs_is = omega (arith, same);
  lookups_is = omega (arith, same);
  phase_is = omega (arith, same);
  decl_is = omega (arith, same);
}
