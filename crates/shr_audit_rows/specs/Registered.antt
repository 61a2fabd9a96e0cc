-- SPDX-License-Identifier: GPL-2.0-only
-- Entries of the journal of registrations that a reply made.
use Rattle.std.specs.Prelude.{◌≡◌, ℕ, slice_get, Some}
use Rattle.shr_base.specs.declared.journals.PoolEntry.TheVariants.{Registered}
use Rattle.shr_laws.specs.declared.report.Report.{Report}

-- an entry registered a declaration with an id
abbrev pub EntryRegisters : Report → ℕ → ℕ → ℕ → Type 0
EntryRegisters r decl id entry = (from : ℕ) × (slice_get r.pool.items entry ≡ Some (Registered decl id from))
