-- SPDX-License-Identifier: GPL-2.0-only
-- Rounds over some groups in some order. No public clause cites this.
use Rattle.std.specs.Prelude.{◌≡◌, ℕ, ◌+◌, ◌==◌, ◌≤◌, Bool, true, false, cond, List, length, count_by, suc, Option, Some, None}
use Rattle.std.specs.List.{AllByRecursion}
use Rattle.shr_model.specs.Commands.{rounds_from}
use Rattle.shr_model.specs.Groups.{IsAtOrAbove}
use Rattle.shr_model.specs.Walks.{Job}
use Rattle.shr_audit_walks.specs.RoundRows.{IsMadeAsDue}

-- how often a number is in a list
abbrev pub times_over : ℕ → List ℕ → ℕ
times_over h xs = count_by (λ (x : ℕ). x == h) xs

-- two lists have each number equally often
abbrev pub AreAlike : List ℕ → List ℕ → Type 0
AreAlike xs ys = (h : ℕ) → times_over h xs ≡ times_over h ys

-- a number was taken out of a list once
pub record IsWithout (x : ℕ) (old new : List ℕ) : Type 0 where
  pub fewer : length old ≡ suc (length new)
  pub once : (h : ℕ) → times_over h old ≡ times_over h new + cond (x == h) 1 0

-- it was, if it is there
abbrev pub TakesOut : Bool → ℕ → List ℕ → List ℕ → Type 0
TakesOut true x old new = IsWithout x old new
TakesOut false x old new = times_over x old ≡ 0

-- walks are those of rounds over these groups in some order, the first of this priority, or the first of these walks where not the whole
-- of them need be there
pub record FitsRounds (parents : List ℕ) (nodes : ℕ) (whole : Bool) (priority : ℕ) (groups : List ℕ) (walks : List Job) : Type 0 where
  pub rounds : List ℕ
  pub alike : AreAlike rounds groups
  pub made : IsMadeAsDue whole (rounds_from parents nodes priority rounds) walks

-- how often a group is one that an answer names
abbrev pub named : Option ℕ → ℕ → ℕ
named None h = 0
named (Some group) h = cond (group == h) 1 0

-- rounds over these groups were due: one for each refusal, but for one of the group that the answer names, and 13 where it names one
pub record AreDue (over : Option ℕ) (refused rounds : List ℕ) : Type 0 where
  pub few : length rounds ≤ 13
  pub refusals : (h : ℕ) → times_over h rounds + named over h ≡ times_over h refused
  pub all : (group : ℕ) → over ≡ Some group → length rounds ≡ 13

-- the walks of a put for a group are those of rounds that were due, each over a group at or above
pub record IsPutMade (parents : List ℕ) (nodes group : ℕ) (over : Option ℕ) (whole : Bool) (refused : List ℕ) (walks : List Job) : Type 0 where
  pub rounds : List ℕ
  pub due : AreDue over refused rounds
  pub above : AllByRecursion (λ h. IsAtOrAbove parents h group) rounds
  pub made : IsMadeAsDue whole (rounds_from parents nodes 12 rounds) walks
