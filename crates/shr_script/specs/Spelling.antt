-- SPDX-License-Identifier: GPL-2.0-only
-- Bytes that spell a content.
use Rattle.std.specs.Prelude.{◌≡◌, ℕ, List}
use Rattle.shr_script.specs.Content.{Content, spell, IsValid}

-- ---- the spelling

-- these bytes spell the script, which is valid
pub record IsSpelling (bytes : List ℕ) (t : Content) : Type 0 where
  pub valid : IsValid t
  pub spelled : bytes ≡ spell t
