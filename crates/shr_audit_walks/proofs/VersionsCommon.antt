-- SPDX-License-Identifier: GPL-2.0-only
-- The names that the proofs of this crate cite most, passed on from one place. Declares nothing.
pub use Rattle.std.proofs.Common.{Bool, IfOk, List, None, Option, Some, [], ap, arith, cond, drop, false, filter, flat_map, get_or, length, map, refl, slice_get, subst, suc, sym, take, true, zero, ℕ, ◌++◌, ◌+◌, ◌<◌, ◌∙◌, ◌∷◌, ◌≡◌, ◌≤◌}
pub use Rattle.std.specs.Bool.{Decides}
pub use Rattle.shr_base.specs.declared.ends.WorkerPart.{WorkerPart}
pub use Rattle.shr_base.specs.declared.places.Place.{Place}
pub use Rattle.shr_base.specs.Walks.{WalkRecord}
pub use Rattle.shr_model.specs.Attempts.{counts_of}
pub use Rattle.shr_model.specs.Walks.{place_in, versions_at}
pub use Rattle.shr_laws.specs.WellFormed.{AreNotFalling}
pub use Rattle.shr_audit_walks.specs.VersionTable.{IsPartRising, NotFallingFrom, NotFallingOn, Notes, Versions, fits, if_here, last_at, place_key, read_as}
