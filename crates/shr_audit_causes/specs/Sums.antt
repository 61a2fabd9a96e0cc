-- SPDX-License-Identifier: GPL-2.0-only
-- How many objects each command drained. No clause of the law cites this.
use Rattle.std.specs.Prelude.{◌≡◌, ℕ, ◌+◌, ◌*◌, ◌-◌, ◌^◌, ◌<◌, ◌≤◌, List, length, min, slice_get, Some, None, unwrap_or}
use Rattle.std.specs.BTreeMap.{BTreeMap, get}
use Rattle.std.specs.Ordering.{nat_cmp}
use Rattle.shr_base.specs.declared.ends.PlaceEnd.{PlaceEnd}
use Rattle.shr_base.specs.declared.places.Serial.{Serial}
use Rattle.shr_laws.specs.Parts.{serial_of}

-- a count, 2^64 - 1 where it is more
abbrev pub capped : ℕ → ℕ
capped n = min n (2 ^ 64 - 1)

-- a command by one number
abbrev pub drained_key : ℕ → ℕ → ℕ
drained_key worker command = 4294967296 * worker + command

-- the numbers have the ranges of their types
pub record IsSerialKeyed (worker command : ℕ) : Type 0 where
  pub worker_few : worker < 2 ^ 16
  pub command_few : command < 2 ^ 32

-- no command has a sum
abbrev pub IsNothing : BTreeMap ℕ ℕ → Type 0
IsNothing sums = (key : ℕ) → get nat_cmp sums key ≡ None

-- a table has what each command comes to
pub record AreSums (sums : BTreeMap ℕ ℕ) (total : Serial → ℕ) : Type 0 where
  pub each : (worker command : ℕ) → IsSerialKeyed worker command → unwrap_or (get nat_cmp sums (drained_key worker command)) 0 ≡ capped (total (serial_of worker command))

-- the lists from one up to this index are of its place
pub record AreOfOnePlace (ends : List PlaceEnd) (k stop : ℕ) : Type 0 where
  pub some : k < stop
  pub within : stop ≤ length ends
  pub same : (n : ℕ) (x y : PlaceEnd) → k ≤ n → n < stop → slice_get ends k ≡ Some x → slice_get ends n ≡ Some y → y.place ≡ x.place
