-- SPDX-License-Identifier: GPL-2.0-only
-- What the first registrations find. No public clause cites this module.
use Rattle.std.specs.Prelude.{ℕ, ◌<◌, ◌≤◌, List, [], ◌∷◌, length}
use Rattle.shr_base.specs.declared.journals.PoolEntry.{PoolEntry}
use Rattle.shr_base.specs.declared.journals.PoolEntry.TheVariants.{Registered, Unregistered, Idle}
use Rattle.shr_core.specs.declared.view.View.{View}

-- each entry registers a declaration below this one
abbrev pub AreBefore : ℕ → List PoolEntry → Type 0
AreBefore decl [] = Unit {0}
AreBefore decl (Registered d i from ∷ es) = (d < decl) × AreBefore decl es
AreBefore decl (Unregistered d i to ∷ es) = ⊥
AreBefore decl (Idle i ∷ es) = ⊥

-- all that the seat knows of the journal registers declarations below this one, and it made no more
pub record HasEntered (decl : ℕ) (v : View) : Type 0 where
  pub lower : AreBefore decl v.turns.known
  pub made : length v.turns.made ≤ length v.turns.known
