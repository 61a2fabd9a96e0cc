-- SPDX-License-Identifier: GPL-2.0-only
-- The lookups of a command: those of its walks, and that of the cache that it found.
use Rattle.std.specs.Prelude.{◌≡◌, ℕ, ◌≤◌, true, ◌++◌, length, take, map, flat_map, Some, option_and_then}
use Rattle.shr_base.specs.declared.replies.Found.{Found}
use Rattle.shr_base.specs.declared.scripts.Script.{Script}
use Rattle.shr_model.specs.Commands.{decl_named}
use Rattle.shr_model.specs.Pool.{is_live, decl_of, from_of}
use Rattle.shr_core.specs.Parts.{Tried}
pub use Rattle.shr_laws.specs.OneOrder.{lookup_numbered, numbers_tried, number_found}
use Rattle.shr_lawful.specs.Steps.{Step, IsAmong}

-- the lookup of an id that was made
abbrev pub number_made : Tried → ℕ × ℕ
number_made t = (t.id, t.number)

-- A found cache was held by one lookup, and by the journal of registrations that the worker knew then it was live. It is
-- dated over that journal.
pub record IsFoundBy (x : Step) (decl : ℕ) (f : Found) : Type 0 where
  pub tried : IsAmong (record { id = f.id; number = f.number; held = Some decl }) x.work.core.attempts
  pub known : f.entry ≤ length x.after.core.turns.known
  pub live : is_live f.id (take f.entry x.after.core.turns.known) ≡ true
  pub decl_is : decl_of f.id (take f.entry x.after.core.turns.known) ≡ decl
  pub from : from_of f.id (take f.entry x.after.core.turns.known) ≤ f.number
  pub dated : IsAmong (record { id = f.id; number = f.number; entries = f.entry }) x.after.core.turns.dated

-- the lookups that a command made
pub record DidLookups (s : Script) (x : Step) : Type 0 where
  -- the lookups are those of the walks and then that of the found cache
  pub numbers : map number_made x.work.core.attempts ≡ flat_map numbers_tried x.work.walks ++ number_found x.answered.found
  pub found : (decl : ℕ) (f : Found) → option_and_then decl_named x.command ≡ Some decl → x.answered.found ≡ Some f → IsFoundBy x decl f
