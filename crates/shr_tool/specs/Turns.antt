-- SPDX-License-Identifier: GPL-2.0-only
-- How often the source gives bytes in a call, by its words.
use Rattle.std.specs.Prelude.{◌≡◌, ℕ, ◌+◌, ◌≤◌, List}
use Rattle.shr_gen.specs.Forms.{AreRunWords, AreAuditWords, AreGenWords, AreNoForm}
use Rattle.shr_tool.specs.Done.{script_limit}
use Rattle.shr_tool.specs.Reading.{audit_limit}

-- one time more than it may have bytes at most, and not at all where nothing is read
pub record TurnsGive (words : List (List ℕ)) (turns turns_after : ℕ) : Type 0 where
  pub run : AreRunWords words → turns_after ≤ turns + (script_limit + 1)
  pub audit : AreAuditWords words → turns_after ≤ turns + (audit_limit + 1)
  pub generated : (seed workers commands : ℕ) → AreGenWords words seed workers commands → turns_after ≡ turns
  pub usage : AreNoForm words → turns_after ≡ turns
