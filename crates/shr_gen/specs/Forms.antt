-- SPDX-License-Identifier: GPL-2.0-only
-- Which words are of a form of the program.
use Rattle.std.specs.Prelude.{◌≡◌, ℕ, ◌^◌, ◌<◌, List, [], ◌∷◌, codes, decimal, Option, Some, None}
use Rattle.shr_gen.specs.Generated.{MayBeGenerated}
use Rattle.shr_gen.specs.declared.form.Form.{Form}
use Rattle.shr_gen.specs.declared.form.Form.TheVariants.{Run, Gen, Audit}

-- a word spells this number of 64 bits, without a sign and without a zero before it, or none
abbrev pub Spells : List ℕ → Option ℕ → Type 0
Spells word (Some n) = (word ≡ decimal n) × (n < 2 ^ 64)
Spells word None = (n : ℕ) → n < 2 ^ 64 → word ≡ decimal n → ⊥

-- the one word `run`
abbrev pub AreRunWords : List (List ℕ) → Type 0
AreRunWords words = words ≡ codes "run" ∷ []

-- `gen` and three numbers that a script may be made by, without a sign and without a zero before them
pub record AreGenWords (words : List (List ℕ)) (seed workers commands : ℕ) : Type 0 where
  pub spelled : words ≡ codes "gen" ∷ decimal seed ∷ decimal workers ∷ decimal commands ∷ []
  pub seed_fits : seed < 2 ^ 64
  pub made : MayBeGenerated workers commands

-- the one word `audit`
abbrev pub AreAuditWords : List (List ℕ) → Type 0
AreAuditWords words = words ≡ codes "audit" ∷ []

-- the words are of none of the forms
pub record AreNoForm (words : List (List ℕ)) : Type 0 where
  pub run : AreRunWords words → ⊥
  pub audit : AreAuditWords words → ⊥
  pub gen : (seed workers commands : ℕ) → AreGenWords words seed workers commands → ⊥

-- words are read as a form that they are of, or as none
abbrev pub ReadsAs : List (List ℕ) → Option Form → Type 0
ReadsAs words (Some Run) = AreRunWords words
ReadsAs words (Some (Gen seed workers commands)) = AreGenWords words seed workers commands
ReadsAs words (Some Audit) = AreAuditWords words
ReadsAs words None = AreNoForm words

-- words are of one form at most, and of none where they are of no form
abbrev pub IsOneForm : Type 0
IsOneForm = (words : List (List ℕ)) (form other : Option Form) → ReadsAs words form → ReadsAs words other → form ≡ other
