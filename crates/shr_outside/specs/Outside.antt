-- SPDX-License-Identifier: GPL-2.0-only
-- What a source gives and a sink takes, and when either may fail.
use Rattle.std.specs.Prelude.{◌≡◌, ◌≢◌, ℕ, ◌+◌, ◌-◌, ◌^◌, ◌<◌, ◌≤◌, min, List, length, take, Option}
use Rattle.std.specs.Io.KnownBytes.{Keeps, Consumes, Appends, IsAtEnd}
use Rattle.shr_outside.specs.declared.outside.Took.{Took}
use Rattle.shr_outside.specs.declared.outside.Took.TheVariants as took
use Rattle.shr_outside.specs.declared.outside.Gave.{Gave}
use Rattle.shr_outside.specs.declared.outside.Gave.TheVariants as gave

-- the last value of a count of faults that is kept in 64 bits
abbrev pub last_count : ℕ
last_count = 2 ^ 64 - 1

-- how often bytes were given: one more where some were, up to the end of its type
abbrev pub turns_by_take : ℕ → Took → ℕ
turns_by_take turns (took.Got n) = min (turns + 1) last_count
turns_by_take turns took.End = turns
turns_by_take turns took.Failed = turns

-- the count rose, or stands at its last value
abbrev pub Rose : ℕ → ℕ → Type 0
Rose before now = now ≢ last_count → before < now

-- What a take answers. It gives the next bytes in the front of the buffer, and counts this turn; or
-- it is at the end, which a source that tells its bytes answers only where none is left; or it has
-- failed, and its count of faults rose.
pub record TakesBytes (left left_after : Option (List ℕ)) (turns turns_after faults faults_after : ℕ) (into : List ℕ) (answer : Took) : Type 0 where
  pub turned : turns_after ≡ turns_by_take turns answer
  pub count : (n : ℕ) → answer ≡ took.Got n → (0 < n) × (n ≤ length into)
  pub got : (n : ℕ) → answer ≡ took.Got n → Consumes left left_after (take n into)
  pub ended : answer ≡ took.End → Keeps left left_after × IsAtEnd left_after
  pub kept : answer ≡ took.Failed → Keeps left left_after
  pub later : faults ≤ faults_after
  pub failed : answer ≡ took.Failed → Rose faults faults_after

-- What a give answers. It takes bytes from the front of the piece, at least one where the piece
-- isn't empty; or it has failed, and its count of faults rose.
pub record GivesBytes (written written_after : Option (List ℕ)) (faults faults_after : ℕ) (piece : List ℕ) (answer : Gave) : Type 0 where
  pub count : (n : ℕ) → answer ≡ gave.Gave n → (0 < length piece → 0 < n) × (n ≤ length piece)
  pub taken : (n : ℕ) → answer ≡ gave.Gave n → Appends written written_after (take n piece)
  pub kept : answer ≡ gave.Failed → Keeps written written_after
  pub later : faults ≤ faults_after
  pub failed : answer ≡ gave.Failed → Rose faults faults_after
