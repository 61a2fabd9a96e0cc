-- SPDX-License-Identifier: GPL-2.0-only
-- The names that the proofs of this crate cite most, passed on from one place. Declares nothing.
pub use Rattle.std.proofs.Common.{Bool, List, [], ap, append_assoc, arith, false, get_or, inl, inr, length, length-append, map, refl, subst, suc, sym, true, zero, ℕ, ⊎_elim, ◌++◌, ◌+◌, ◌-◌, ◌<◌, ◌∙◌, ◌∷◌, ◌≡◌, ◌≤◌, ◌⊎◌}
pub use Rattle.std.proofs.lemmas.Grind.{common_steps}
pub use Rattle.std.specs.Prelude.{None, Option, Some, replicate, sum, ◌≢◌}
pub use Rattle.shr_base.specs.declared.objects.Object.{Object}
pub use Rattle.shr_base.specs.declared.objects.Policy.{Policy}
pub use Rattle.shr_base.specs.declared.places.Place.{Place}
pub use Rattle.shr_base.specs.declared.places.Serial.{Serial}
pub use Rattle.shr_base.specs.declared.replies.Spent.{Spent}
pub use Rattle.shr_base.specs.declared.walks.Isolation.{Isolation}
pub use Rattle.shr_core.specs.Seats.{IsPlaceOfShape, shape_of, view_of}
pub use Rattle.shr_core.specs.Steps.{with_put}
pub use Rattle.shr_core.specs.declared.view.View.{View}
pub use Rattle.shr_model.specs.PlaceNumbers.{place_number}
pub use Rattle.shr_model.specs.Scan.{Scanned, case_of, scan_from, scan_of}
pub use Rattle.shr_walk.specs.Keeping.{Keeps, keeps_refl, keeps_trans}
pub use Rattle.shr_walk.specs.Listers.{Listing, listing_of}
pub use Rattle.shr_walk.specs.State.{IsRested, WorkerState, state_of}
pub use Rattle.shr_walk.specs.declared.seats.Shared.{Shared}
pub use Rattle.shr_drop.specs.Isolating.{Isolates, RefusedBy, found_place, visitor_of}
pub use Rattle.shr_drop.specs.Visiting.{AreIsolated, AreVisits, IsSameElse, MeetsClosed, MeetsWorn, ScansOnce, Visitor, visitor_in}
