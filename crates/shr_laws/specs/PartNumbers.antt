-- SPDX-License-Identifier: GPL-2.0-only
-- The numbers of all workers' parts.
use Rattle.std.specs.Prelude.{◌≡◌, ℕ, List, slice_get, Some}
use Rattle.shr_base.specs.declared.ends.WorkerPart.{WorkerPart}
use Rattle.shr_laws.specs.WellFormed.{IsPartWell}

-- the parts are well formed, each for the worker of its number
abbrev pub ArePartsWell : List WorkerPart → Type 0
ArePartsWell parts = (worker : ℕ) (part : WorkerPart) → slice_get parts worker ≡ Some part → IsPartWell worker part
