-- SPDX-License-Identifier: GPL-2.0-only
-- What stays of a shrinker's meanings over its calls.
use Rattle.std.specs.Prelude.{◌≡◌, ℕ, ◌%◌, ◌^◌, ◌↔◌, List, Option}
use Rattle.shr_base.specs.declared.places.Place.{Place}
use Rattle.shr_pass.specs.declared.answers.Count.{Count}
use Rattle.shr_pass.specs.declared.answers.ScanSeen.{ScanSeen}
use Rattle.shr_pass.specs.declared.answers.ScanAnswer.{ScanAnswer}

-- the place served is the same, owing it, `ready`, `kept` and `told` say the same of every seat,
-- and so do the counts and the scans
pub record SameMeaning {Seat : Type 0} (place₁ place₂ : Option Place) (owes₁ owes₂ : Seat → Type 0) (ready₁ ready₂ : Seat → Type 0) (kept₁ kept₂ : Seat → Seat → Type 0) (told₁ told₂ : ScanAnswer → Seat → Type 0) (counts₁ counts₂ : Seat → List Count) (scans₁ scans₂ : Seat → List ScanSeen) : Type 0 where
  pub place : place₂ ≡ place₁
  pub owes : (s : Seat) → owes₁ s ↔ owes₂ s
  pub ready : (s : Seat) → ready₁ s ↔ ready₂ s
  pub kept : (s t : Seat) → kept₁ s t ↔ kept₂ s t
  pub told : (a : ScanAnswer) (s : Seat) → told₁ a s ↔ told₂ a s
  pub counts : (s : Seat) → counts₂ s ≡ counts₁ s
  pub scans : (s : Seat) → scans₂ s ≡ scans₁ s

-- two counters agree modulo 2^64
abbrev pub CountsTo : ℕ → ℕ → Type 0
CountsTo n m = n % 2 ^ 64 ≡ m % 2 ^ 64
