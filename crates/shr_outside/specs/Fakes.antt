-- SPDX-License-Identifier: GPL-2.0-only
-- What contracts see of the sources and sinks.
use Rattle.std.specs.Prelude.{◌≡◌, ℕ, ◌+◌, ◌<◌, ◌≤◌, ◌⊎◌, min, max, List, length, Contains}
use Rattle.shr_outside.specs.declared.outside.Took.{Took}
use Rattle.shr_outside.specs.declared.outside.Took.TheVariants as took
use Rattle.shr_outside.specs.declared.outside.Gave.{Gave}
use Rattle.shr_outside.specs.declared.outside.Gave.TheVariants as gave
use Rattle.shr_outside.specs.Outside.{last_count}

-- the bytes that are left, the most that one call gives, how often bytes were given, how many calls
-- were made, the numbers of the calls that fail, counted from 1, and how many have failed
pub record Feed : Type 0 where
  pub left : List ℕ
  pub most : ℕ
  pub turns : ℕ
  pub calls : ℕ
  pub failing : List ℕ
  pub faults : ℕ

-- the bytes written, how many there is room for without more memory, the most that one call takes, and
-- the same numbers of its calls
pub record Drain : Type 0 where
  pub written : List ℕ
  pub room : ℕ
  pub most : ℕ
  pub calls : ℕ
  pub failing : List ℕ
  pub faults : ℕ

-- the bytes that are left, the most that one call gives, and how often bytes were given
pub record Supply : Type 0 where
  pub left : List ℕ
  pub most : ℕ
  pub turns : ℕ

-- a reader, how often it has given bytes, and how often it has failed
pub record Reading (T : Type 0) : Type 0 where
  pub inner : T
  pub turns : ℕ
  pub faults : ℕ

-- a writer, and how often it has failed
pub record CountingSink (T : Type 0) : Type 0 where
  pub inner : T
  pub faults : ℕ

-- the count of faults after a take: one more exactly where it failed, up to the end of its type
abbrev pub faults_by_take : ℕ → Took → ℕ
faults_by_take faults (took.Got n) = faults
faults_by_take faults took.End = faults
faults_by_take faults took.Failed = min (faults + 1) last_count

-- the same after a give
abbrev pub faults_by_give : ℕ → Gave → ℕ
faults_by_give faults (gave.Gave n) = faults
faults_by_give faults gave.Failed = min (faults + 1) last_count

-- a give failed since this call was to fail, or since there was no room for the bytes that it takes
abbrev pub FailsAsTold : Drain → ℕ → List ℕ → Gave → Type 0
FailsAsTold old calls piece answer =
    answer ≡ gave.Failed → Contains old.failing calls ⊎ (old.room < length old.written + min (length piece) (max old.most 1))

-- a take gives at most this many bytes, one if that is 0
abbrev pub GivesAtMost : ℕ → Took → Type 0
GivesAtMost most answer = (n : ℕ) → answer ≡ took.Got n → n ≤ max most 1

-- a give takes at most this many bytes, one if that is 0
abbrev pub TakesAtMost : ℕ → Gave → Type 0
TakesAtMost most answer = (n : ℕ) → answer ≡ gave.Gave n → n ≤ max most 1
