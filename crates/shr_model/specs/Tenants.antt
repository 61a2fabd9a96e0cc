-- SPDX-License-Identifier: GPL-2.0-only
-- The entries of tenants, whose birth group is the group of the journal.
use Rattle.std.specs.Prelude.{Option, Some, None}
use Rattle.shr_base.specs.declared.places.Serial.{Serial}
use Rattle.shr_base.specs.declared.journals.Entry.{Entry}
use Rattle.shr_base.specs.declared.journals.Entry.TheVariants.{Add, Look, Drop, Pin}

-- the command of a tenant's entry
abbrev pub by_of : Entry → Option Serial
by_of (Add by birth added key value) = Some by
by_of (Look by birth key hit) = Some by
by_of (Drop by birth key kind) = Some by
by_of (Pin by birth key pinned hit) = Some by
by_of e = None
