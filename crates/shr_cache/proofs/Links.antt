-- SPDX-License-Identifier: GPL-2.0-only
-- Each step from the seats before it to those after it.
use Rattle.shr_cache.proofs.Common.{◌≡◌, ◌<◌, ℕ, List, ap, sym, subst, ◌∙◌, shape_of, Serial, Found, Reply, Some, View, NodeAnswer, AsksList, answer_reply, view_of, Shared, WorkerState, state_of, OnCache, Uncharges, IsFit, AreHolding, Opens, Calls}
use Rattle.shr_base.specs.Kept.{Kept}
use Rattle.shr_base.specs.declared.journals.UseStep.{UseStep}
use Rattle.shr_base.specs.declared.places.At.{At}
use Rattle.shr_base.specs.declared.places.Target.{Target}
use Rattle.shr_model.specs.Groups.{path_of}
use Rattle.shr_seats.specs.Shapes.{groups_in}
use Rattle.shr_seats.specs.declared.shape.Shape.{Shape}
use Rattle.shr_core.specs.Parts.{Claims}
use Rattle.shr_core.specs.declared.table.Core.{Core}
use Rattle.shr_core.specs.Seats.{Seated}
use Rattle.shr_core.proofs.Owing.{still_none}
use Rattle.shr_core.specs.Steps.{with_put}
use Rattle.shr_charge.specs.declared.table.Charge.{Charge}
use Rattle.shr_charge.specs.Seat.{ChargeSeated}
use Rattle.shr_charge.specs.Charging as charging
use Rattle.shr_charge.specs.Charging.{AreDowns}
use Rattle.shr_deferred.specs.Seat.{moves_of}
use Rattle.shr_cache.specs.Opening.{IsTargetOf}
use Rattle.shr_walk.specs.declared.seats.Seats.{Seats}
use Rattle.shr_walk.specs.Sharing.{IsShared}
use Rattle.shr_walk.proofs.Shares.{same_parents}
use Rattle.shr_cache.proofs.Stays.{Stays}

-- the seats with another seat of one table
abbrev pub with_core : Seats → Seated → Seats
with_core s seat = record { cache = record { core = seat; charge = s.cache.charge; uses = s.cache.uses }; deferred = s.deferred; walks = s.walks; carries = s.carries }

-- the same of the charges, with what was noted
abbrev pub with_charge : Seats → ChargeSeated → Kept UseStep → Seats
with_charge s seat uses = record { cache = record { core = s.cache.core; charge = seat; uses = uses }; deferred = s.deferred; walks = s.walks; carries = s.carries }

-- an uncharge
pub uncharged : (x : Shared) (shared : IsShared x) (by : Serial) (group : ℕ) (s : Seats) (seat : ChargeSeated) (uses : Kept UseStep) → s.cache.charge.charge ≡ x.charge → charging.UnchargesOne s.cache.charge.charge.shape by group s.cache.charge seat s.cache.uses uses → Uncharges x by group (state_of s) (state_of (with_charge s seat uses))
uncharged x shared by group s seat uses of h = record {
  ops = h.ops;
  downs = subst (λ (ps : List ℕ). AreDowns by (path_of ps group) h.ops) (ap (λ (c : Charge). c.shape.parents.items) of ∙ same_parents x shared) h.made;
  rise = h.noted.rise;
  rest = λ i. record {
    core = view_of s.cache.core;
    uses = h.noted.gains i;
    tree = h.noted.tree i;
    moves = moves_of s.deferred;
    noted = h.noted.noted i;
    walks = s.walks.items;
    carries = s.carries.items;
  };
}

-- a call on a list, and the reference given back
pub called : (call : View → View → Type 0) (s : Seats) (seat last : Seated) → call (view_of s.cache.core) (view_of seat) → last ≡ record seat { view = with_put (view_of seat) } → Calls call (state_of s) (state_of (with_core s last))
called call s seat last made back = record {
  called = view_of seat;
  made = made;
  rest = ap (λ (q : Seated). record (state_of s) { core = view_of q }) back;
}

-- the same of the cache that was opened
pub asked : (x : Shared) (group decl : ℕ) (f : Found) (call : View → View → Type 0) (s : WorkerState) (opened : Seats) (seat last : Seated) → Opens x group decl f s (state_of opened) → call (view_of opened.cache.core) (view_of seat) → last ≡ record seat { view = with_put (view_of seat) } → OnCache x group decl f call s (state_of (with_core opened last))
asked x group decl f call s opened seat last opens made back = record {
  loaded = opens.loaded;
  held = state_of opened;
  online = opens.online;
  holds = opens.holds;
  calls = called call opened seat last made back;
}

-- and what the list answered is the reply
pub list_asked : {A : Type 0} (says : At → A → Reply) (gives : Shape → ℕ → View → NodeAnswer A → View → Type 0) (x : Shared) (group decl : ℕ) (f : Found) (answer : NodeAnswer A) (r : Reply) (s : WorkerState) (opened : Seats) (seat last : Seated)
    → Opens x group decl f s (state_of opened) → opened.cache.core.core ≡ x.core → gives (shape_of opened.cache.core.core) f.id (view_of opened.cache.core) answer (view_of seat) → last ≡ record seat { view = with_put (view_of seat) } → r ≡ answer_reply says answer
    → AsksList x group decl says (gives (shape_of x.core)) (Some f) r s (state_of (with_core opened last))
list_asked says gives x group decl f answer r s opened seat last opens core made back told = record {
  answer = answer;
  told = told;
  did = asked x group decl f (λ v w. gives (shape_of x.core) f.id v answer w) s opened seat last opens (subst (λ (k : Core). gives (shape_of k) f.id (view_of opened.cache.core) answer (view_of seat)) core made) back;
}

-- the place of a call is one of the seat's core
pub place_there : (x : Shared) (id : ℕ) (s : Seats) (t : Target) → AreHolding x id s → IsTargetOf (shape_of x.core) t → (id < (shape_of s.cache.core.core).ids) × (t.node < (shape_of s.cache.core.core).nodes) × (t.group < groups_in (shape_of s.cache.core.core))
place_there x id s t h there = subst (λ (c : Core). (id < (shape_of c).ids) × (t.node < (shape_of c).nodes) × (t.group < groups_in (shape_of c))) (sym h.core) (h.near, there.node, there.group)

-- the worker is fit once the reference was given back
pub fit_called : (x : Shared) (id : ℕ) (s : Seats) (seat last : Seated) → IsShared x → AreHolding x id s → Stays (view_of s.cache.core) (view_of seat) → seat.core ≡ s.cache.core.core → last ≡ record seat { view = with_put (view_of seat) } → IsFit x (with_core s last)
fit_called x id s seat last shared h stays same back = record {
  shared = shared;
  rested = record {
    core = ap (λ (q : Seated). q.core) back ∙ (same ∙ h.core);
    idle = record {
      rooms = ap (λ (q : Seated). q.view.holding) back ∙ (stays.gains.holding ∙ h.rooms);
      held = ap (λ (q : Seated). q.view.claims.held) back;
      owner = ap (λ (q : Seated). q.view.claims.owner) back ∙ (ap (λ (y : Claims). y.owner) (stays.gains.marks h.owner) ∙ h.owner);
    };
    owed = ap (λ (q : Seated). q.view.marks.owed) back ∙ still_none (view_of s.cache.core) (view_of seat) h.owed stays.gains.owed;
    charge = h.charge;
    deferred = h.deferred;
  };
}
