-- SPDX-License-Identifier: GPL-2.0-only
-- The names that the proofs of this crate cite most, passed on from one place. Declares nothing.
pub use Rattle.std.proofs.Common.{Bool, List, None, Option, Some, [], ap, arith, cond, drop, false, get_or, inl, inr, length, refl, subst, suc, sym, take, true, ℕ, ◌%◌, ◌&&◌, ◌*◌, ◌++◌, ◌+◌, ◌-◌, ◌/◌, ◌<◌, ◌^◌, ◌∙◌, ◌∷◌, ◌≡◌, ◌≢◌, ◌≤◌, ◌⊎◌}
pub use Rattle.std.proofs.lemmas.Bool.Decides.{nat_tests}
pub use Rattle.std.proofs.lemmas.List.Sums.{sum_by-append, sum_by-cons, sum_by_more, sum_by_push}
pub use Rattle.std.specs.Prelude.{IsPermutation, filter, filter_map, flat_map, nat_lt, sum_by, ◌==◌, ◌↔◌}
pub use Rattle.shr_base.specs.declared.places.Place.{Place}
pub use Rattle.shr_base.specs.declared.walks.Carry.{Carry}
pub use Rattle.shr_base.specs.declared.walks.PassRecord.{PassRecord}
pub use Rattle.shr_base.specs.Walks.{WalkRecord}
pub use Rattle.shr_model.specs.Amounts.{amount_at, sum_at}
pub use Rattle.shr_model.specs.Deferred.{deferred_word}
pub use Rattle.shr_model.specs.Moves.{given_at, is_below, taken_at}
pub use Rattle.shr_model.specs.Places.{at_group, is_place}
pub use Rattle.shr_model.specs.Walks.{passes_at, place_in}
pub use Rattle.shr_audit_case.specs.Deferred.{GainsAtEach, GainsAt, IsNarrow, carried_from, carried_to, deferred_key}
pub use Rattle.shr_audit_case.specs.Moves.{IsSettled, sum_down_at, sum_up_at}
pub use Rattle.shr_audit_case.specs.declared.moves.Move.{Move}
