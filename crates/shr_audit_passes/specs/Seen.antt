-- SPDX-License-Identifier: GPL-2.0-only
-- The ids of the bits of a word, taken one bit after another.
use Rattle.std.specs.Prelude.{ℕ, ◌+◌, ◌*◌, List, map, filter}
use Rattle.std.specs.List.{range_with_len}
use Rattle.shr_model.specs.Bits.{is_set}

-- the ids that the set ones of the first so many bits stand for
unfoldable pub ids_set_below : ℕ → ℕ → ℕ → List ℕ
ids_set_below unit bits n = map (λ bit. 64 * unit + bit) (filter (is_set bits) (range_with_len 0 n))
