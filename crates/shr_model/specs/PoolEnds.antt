-- SPDX-License-Identifier: GPL-2.0-only
-- How the registrations of an id end.
use Rattle.std.specs.Prelude.{◌≡◌, ℕ, zero, suc, ◌+◌, ◌≤◌, if◌then◌else◌, List, [], ◌∷◌, Some}
use Rattle.shr_base.specs.declared.journals.PoolEntry.{PoolEntry}
use Rattle.shr_model.specs.Pool.{is_dying, Registration}

-- how many of so many ids are dying
unfoldable pub dying_in : ℕ → List PoolEntry → ℕ
dying_in zero es = 0
dying_in (suc id) es = (if is_dying id es then 1 else 0) + dying_in id es

-- each of these registrations that has ended did so by this number
unfoldable pub HaveEndedBy : ℕ → List Registration → Type 0
HaveEndedBy l [] = Unit {0}
HaveEndedBy l (r ∷ rs) = ((t : ℕ) → r.to ≡ Some t → t ≤ l) × HaveEndedBy l rs
