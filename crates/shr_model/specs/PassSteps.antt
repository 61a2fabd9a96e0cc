-- SPDX-License-Identifier: GPL-2.0-only
-- How a pass goes on from batch to batch.
use Rattle.std.specs.Prelude.{ℕ, Bool, min, cond, ◌||◌, nat_le, Option, None, Some}

-- with `left` to scan a pass asks once more
abbrev pub goes_on : ℕ → ℕ → ℕ → Bool
goes_on batch left freeable = nat_le batch left || nat_le freeable left

-- what it then asks
abbrev pub ask_of : ℕ → ℕ → ℕ → Option ℕ
ask_of batch left freeable = cond (goes_on batch left freeable) (Some (min batch left)) None
