-- SPDX-License-Identifier: GPL-2.0-only
-- The names that the proofs of this crate cite most, passed on from one place. Declares nothing.
pub use Rattle.std.proofs.Common.{Bool, List, None, Option, Some, [], ap, append_assoc, arith, false, flat_map, get_or, length, map, refl, slice_get, subst, suc, sym, true, zero, ℕ, ◌++◌, ◌+◌, ◌-◌, ◌/◌, ◌<◌, ◌^◌, ◌∙◌, ◌∷◌, ◌≡◌, ◌≤◌}
pub use Rattle.std.specs.Bool.{Decides}
pub use Rattle.std.specs.List.{AllAdjacentBelow, AllByRecursion, range_with_len}
pub use Rattle.std.specs.Prelude.{Contains, if◌then◌else◌, option_map, ◌==◌}
pub use Rattle.shr_base.specs.declared.ends.MapEnd.{MapEnd}
pub use Rattle.shr_base.specs.declared.ends.PlaceAmount.{PlaceAmount}
pub use Rattle.shr_base.specs.declared.ends.PlaceEnd.{PlaceEnd}
pub use Rattle.shr_base.specs.declared.ends.UnitsEnd.{UnitsEnd}
pub use Rattle.shr_base.specs.declared.ends.WorkerPart.{WorkerPart}
pub use Rattle.shr_base.specs.declared.replies.Answered.{Answered}
pub use Rattle.shr_base.specs.Walks.{Attempt, WalkRecord}
pub use Rattle.shr_base.specs.declared.walks.Carry.{Carry}
pub use Rattle.shr_base.specs.declared.walks.Isolation.{Isolation}
pub use Rattle.shr_base.specs.declared.walks.MapSeen.{MapSeen}
pub use Rattle.shr_base.specs.declared.walks.PlainWalk.{PlainWalk}
pub use Rattle.shr_model.specs.Paths.{is_path}
pub use Rattle.shr_model.specs.Places.{unit_of}
pub use Rattle.shr_model.specs.Words.{is_name}
pub use Rattle.shr_laws.specs.WellFormed.{HasWords, IsAmountWell, IsBitWord, IsCarryBefore, IsPartWell, IsPlaceBefore, IsPlaceUpTo, IsPlaceWell, IsPoolAmountWell, IsPoolNumbered, IsSpelled, IsTreeNumbered, IsUseBefore, IsWalkWell, IsWellFormed, LendsWord, bit_places, units_place}
pub use Rattle.shr_audit_formed.specs.Each.{Adjacent, EachItem, IsListFormed, IsUnitLoaded, IsWorkerCommand, IsWalkFormed}
pub use Rattle.shr_audit_formed.specs.Formed.{AreHeadsFormed, AreListsFormed, AreMapsPrinted, ArePartsFormed, AreTablesFormed, AreWalksFormed, IsLastFormed, IsPartFormed}
pub use Rattle.shr_audit_formed.specs.Stripped.{IsNotStripped, Where, at_unit, group_places, unit_places, wheres}
