-- SPDX-License-Identifier: GPL-2.0-only
-- A fake's counts, and its visits.
use Rattle.std.proofs.Common.{◌≡◌, ℕ, ◌++◌, ◌∷◌, [], refl, sym, ap, subst, ◌∙◌}
use Rattle.std.specs.Prelude.{filter_map, Some}
use Rattle.shr_base.specs.declared.places.Place.{Place}
use Rattle.shr_base.specs.declared.objects.Policy.TheVariants.{Plain}
use Rattle.shr_base.specs.declared.places.Serial.{Serial}
use Rattle.shr_model.specs.PlaceNumbers.{place_number}
use Rattle.shr_core.specs.declared.table.Core.{Core}
use Rattle.shr_charge.specs.declared.table.Charge.{Charge}
use Rattle.shr_core.specs.Gained.{OwesNoMore}
use Rattle.shr_core.specs.Seats.{Seated, IsPlaceOfShape, view_of, shape_of}
use Rattle.shr_core.specs.Steps.{with_count}
use Rattle.shr_pass.specs.declared.answers.Count.{Count}
use Rattle.shr_pass.specs.declared.answers.Count.TheVariants.{Empty, Skip, Many}
use Rattle.shr_pass.specs.Answers.{IfEmpty}
use Rattle.shr_walk.specs.Fresh.{IsFreshAt}
use Rattle.shr_walk.specs.Listing.{count_kind, count_at, counts_at, IsReadyOf, IsReadyAs, IsReady}
use Rattle.shr_deferred.specs.declared.table.Deferred.{Deferred}
use Rattle.shr_seats.specs.Rows.{IsPlaceOf as IsInside}
use Rattle.shr_walk.specs.Sharing.{IsShared}
use Rattle.shr_walk.specs.Visits.{IsVisitor, owes_at}
use Rattle.shr_walk.specs.declared.seats.CacheSeat.{CacheSeat}
use Rattle.shr_walk.specs.declared.seats.Seats.{Seats}
use Rattle.shr_walk.specs.declared.seats.Shared.{Shared}
use Rattle.shr_walk.proofs.Shares.{place_inside}
use Rattle.shr_walk.proofs.Counting.{counted_keeps, counts_more, not_owed}
use Rattle.shr_walk_trials.specs.Desk.{IsHolder}
use Rattle.shr_core.proofs.Owing.{still_none}
use Rattle.shr_walk_trials.specs.Fakes.{Stays}

-- what follows from a count of 0
pub if_empty : (c : Count) (P Q : Type 0) → (P → Q) → IfEmpty c P → IfEmpty c Q
if_empty (Empty version) P Q f h = f h
if_empty (Skip len version) P Q f h = tt
if_empty (Many len version) P Q f h = tt

by_none : Serial
by_none = record { worker = 0; command = 0 }

-- a count, and what came behind it
module _ (x : Shared) (place : Place) (s : CacheSeat) (seat : Seated) (len version : ℕ) (did : seat ≡ record s.core { view = with_count (view_of s.core) (place_number place) len version }) where
  abbrev pub counted : CacheSeat
  counted = record { core = seat; charge = s.charge; uses = s.uses }

  loaded : view_of seat ≡ with_count (view_of s.core) (place_number place) len version
  loaded = ap (λ (t : Seated). t.view) did

  table : seat.core ≡ s.core.core
  table = ap (λ (t : Seated). t.core) did

  pub counted_ready : (core : Core) (charge : Charge) → IsReadyOf core charge place s → IsReadyOf core charge place counted
  counted_ready core charge r = record {
    core = table ∙ r.core;
    charge = r.charge;
    rooms = ap (λ (t : Seated). t.view.holding) did ∙ r.rooms;
    held = ap (λ (t : Seated). t.view.claims.held) did ∙ r.held;
    owner = ap (λ (t : Seated). t.view.claims.owner) did ∙ r.owner;
  }

  module _ (t : CacheSeat) (stays : Stays place counted t) where
    pub counted_more : (floor : ℕ) (c : Count) → (view_of t.core).traces.seen ≡ (view_of seat).traces.seen → c ≡ count_kind floor len version → counts_at (place_number place) floor t ≡ counts_at (place_number place) floor s ++ c ∷ []
    counted_more floor c same kind = ap (filter_map (count_at (place_number place) floor)) same
        ∙ (counts_more x (place_number place) 0 by_none Plain s seat len version loaded table floor ∙ ap (λ (y : Count). counts_at (place_number place) floor s ++ y ∷ []) (sym kind))

    pub counted_none : len ≡ 0 → owes_at place t → ⊥
    counted_none none h = not_owed x (place_number place) 0 by_none Plain s seat len version loaded table none (stays.owed (place_number place) h)

    pub counted_stays : IsFreshAt (view_of s.core) (record { place = place_number place; len = len; version = version }) → Stays place s t
    counted_stays fresh = record {
      ready = λ core charge r. stays.ready core charge (counted_ready core charge r);
      owed = λ k h. (counted_keeps x (place_number place) 0 by_none Plain s seat len version loaded table fresh).walks.owed k (stays.owed k h);
    }

-- a seat of the same tables as a holder's is ready at what the workers share
pub ready_shared : (x : Shared) (place : Place) (s : Seats) (c : CacheSeat) → IsHolder x place s → IsReadyAs s.cache place c → IsReady x place c
ready_shared x place s c h r = record { core = r.core ∙ h.core; charge = r.charge ∙ h.charge; rooms = r.rooms; held = r.held; owner = r.owner }

-- it is so itself
pub holder_ready : (x : Shared) (place : Place) (s : Seats) → IsHolder x place s → IsReadyAs s.cache place s.cache
holder_ready x place s h = record { core = refl; charge = refl; rooms = h.rooms; held = h.held; owner = h.owner }

-- the place is of the seats' tables
pub holder_inside : (x : Shared) (place : Place) (s : Seats) → IsHolder x place s → IsPlaceOfShape (shape_of s.cache.core.core) place × IsInside s.deferred.deferred.sizes place
holder_inside x place s h = (
  subst (λ (core : Core). IsPlaceOfShape (shape_of core) place) (sym h.core) h.inside,
  subst (λ (deferred : Deferred). IsInside deferred.sizes place) (sym h.deferred) (place_inside x place h.shared h.inside),
)

-- a fake is a shrinker as a visit by a holder's seats asks for it
pub fake_visits : (x : Shared) (place : Place) (s : Seats) → IsHolder x place s
    → IsVisitor s.cache place (Some place) (owes_at place) (λ c. IsShared x × IsPlaceOfShape (shape_of x.core) place × IsReady x place c) (λ c d. Stays place c d) (λ a c. Unit {0})
fake_visits x place s h = record {
  here = refl;
  owing = λ c. ((λ owes. owes), (λ owes. owes));
  able = λ c r. (h.shared, h.inside, ready_shared x place s c h r);
  stays = λ c d stays r. stays.ready s.cache.core.core s.cache.charge.charge r;
  owed = λ c d stays. stays.owed;
  set = λ a c d told e. tt;
}

-- a visit left its seat as it needs to be to give the reference back
pub holder_visited : (x : Shared) (place : Place) (s t : Seats) → IsHolder x place s → IsReadyAs s.cache place t.cache → t.deferred.deferred ≡ s.deferred.deferred → OwesNoMore (view_of s.cache.core) (view_of t.cache.core) → IsHolder x place t
holder_visited x place s t h ready d owed = let r = ready_shared x place s t.cache h ready in record {
  shared = h.shared;
  inside = h.inside;
  core = r.core;
  rooms = r.rooms;
  held = r.held;
  owner = r.owner;
  owed = still_none (view_of s.cache.core) (view_of t.cache.core) h.owed owed;
  charge = r.charge;
  deferred = d ∙ h.deferred;
}
