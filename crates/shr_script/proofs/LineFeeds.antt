-- SPDX-License-Identifier: GPL-2.0-only
-- The first line feed, as a search finds it and as the parts of bytes have it.
use Rattle.std.proofs.Common.{◌≡◌, ℕ, List, Bool, true, false, Some, None, ◌<◌, length, refl, sym, arith, if◌then◌else◌}
use Rattle.std.specs.List.{prefix_len}
use Rattle.std.proofs.lemmas.Bool.{false≢true}
use Rattle.std.proofs.lemmas.List.Sums.{prefix_len-le-length, prefix_len_passes, prefix_len_stops}
use Rattle.memchr.specs.Find.{IsFirstByte, is_byte}
use Rattle.shr_model.specs.Pieces.{differs}

-- what doesn't differ is the same
same : (t : Bool) → (if t then false else true) ≡ false → t ≡ true
same true e = refl
same false e = sym e

-- and the same doesn't differ
clash : (t : Bool) → t ≡ true → (if t then false else true) ≡ true → ⊥
clash true e h = false≢true h
clash false e h = false≢true e

-- where a search finds no separator, none stops the first part
pub none_is : (sep : ℕ) (bytes : List ℕ) → IsFirstByte (is_byte sep) bytes None → length bytes ≡ prefix_len (differs sep) bytes
none_is sep bytes h =
    let within = prefix_len-le-length (differs sep) bytes in
    let whole : prefix_len (differs sep) bytes < length bytes → ⊥ = λ lt. h (prefix_len (differs sep) bytes) (omega arith) lt (same _ (prefix_len_stops (differs sep) bytes 0 lt)) in
    omega (arith, within, whole)

-- where it finds one, the first part ends there
pub some_is : (sep : ℕ) (bytes : List ℕ) (k : ℕ) → IsFirstByte (is_byte sep) bytes (Some k) → k ≡ prefix_len (differs sep) bytes
some_is sep bytes k h =
    let high = h.0.high in
    let later : prefix_len (differs sep) bytes < k → ⊥ = λ lt. h.0.before (prefix_len (differs sep) bytes) (omega arith) lt (same _ (prefix_len_stops (differs sep) bytes 0 (omega (arith, high, lt)))) in
    let earlier : k < prefix_len (differs sep) bytes → ⊥ = λ lt. clash _ h.1 (prefix_len_passes (differs sep) bytes k 0 lt) in
    omega (arith, later, earlier)
