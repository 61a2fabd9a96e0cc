-- SPDX-License-Identifier: GPL-2.0-only
-- Where a section is cut, and what is known of its parts.
use Rattle.std.specs.Prelude.{◌≡◌, ℕ, ◌+◌, ◌-◌, ◌<◌, ◌≤◌, List, length, slice_index_or, Option, IfSome}
use Rattle.shr_outside.specs.Fakes.{Drain}

-- the cut of this number
abbrev pub cut_at : List ℕ → ℕ → ℕ
cut_at cuts i = slice_index_or cuts i 0

-- the last cut
abbrev pub last_cut : List ℕ → ℕ
last_cut cuts = cut_at cuts (length cuts - 1)

-- no cut stands before an earlier one, and none behind so many items
pub record AreRising (cuts : List ℕ) (size : ℕ) : Type 0 where
  pub some : 0 < length cuts
  pub rising : (i : ℕ) → i + 1 < length cuts → cut_at cuts i ≤ cut_at cuts (i + 1)
  pub within : (i : ℕ) → i < length cuts → cut_at cuts i ≤ size

-- the first cut stands before the first item, and the last behind so many
pub record AreCuts (cuts : List ℕ) (size : ℕ) : Type 0 where
  pub rising : AreRising cuts size
  pub first : cut_at cuts 0 ≡ 0
  pub last : last_cut cuts ≡ size

-- they are cuts of no more than so many items
abbrev pub IsCutTo : List ℕ → ℕ → Type 0
IsCutTo cuts at = (size : ℕ) × (AreCuts cuts size × (size ≤ at))

module _ (text : ℕ → ℕ → List ℕ) (known : ℕ → ℕ → Type 0) where
  -- a part was printed: it is the text in memory, if there was memory for it
  pub record IsPart (from to : ℕ) (part : Option Drain) : Type 0 where
    pub printed : IfSome part (λ sink. sink.written ≡ text from to)
    pub met : known from to

  -- these are the parts between the cuts
  abbrev pub AreParts : List ℕ → List (Option Drain) → Type 0
  AreParts cuts parts = (i : ℕ) (d : Option Drain) → i + 1 < length cuts → IsPart (cut_at cuts i) (cut_at cuts (i + 1)) (slice_index_or parts i d)
