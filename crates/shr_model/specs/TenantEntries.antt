-- SPDX-License-Identifier: GPL-2.0-only
-- Entries that a tenant's call made, and where their objects were born.
use Rattle.std.specs.Prelude.{◌≡◌, ℕ, Bool, true, false, List, Option, Some, None}
use Rattle.std.specs.List.{list_all}
use Rattle.shr_base.specs.declared.journals.Entry.{Entry}
use Rattle.shr_base.specs.declared.journals.Entry.TheVariants.{Add, Look, Drop, Pin}

-- an entry is that of a tenant's command
abbrev pub is_tenant : Entry → Bool
is_tenant (Add by birth added key value) = true
is_tenant (Look by birth key hit) = true
is_tenant (Drop by birth key kind) = true
is_tenant (Pin by birth key pinned hit) = true
is_tenant e = false

-- each entry is that of a tenant's command
abbrev pub AreTenant : List Entry → Type 0
AreTenant entries = list_all is_tenant entries ≡ true

-- the birth group of a tenant's entry
abbrev pub birth_of : Entry → Option ℕ
birth_of (Add by birth added key value) = Some birth
birth_of (Look by birth key hit) = Some birth
birth_of (Drop by birth key kind) = Some birth
birth_of (Pin by birth key pinned hit) = Some birth
birth_of e = None
