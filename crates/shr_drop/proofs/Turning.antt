-- SPDX-License-Identifier: GPL-2.0-only
-- What a lister's scan is to the state of the worker's seats.
use Rattle.shr_drop.proofs.Common.{◌≡◌, ℕ, ◌+◌, ◌<◌, ◌≤◌, Bool, true, false, List, [], ◌∷◌, ◌++◌, length, sym, refl, ap, subst, ◌∙◌, ⊎_elim, arith, ◌⊎◌, sum, Object, Policy, Place, Serial, Spent, scan_of, place_number, with_put, View, Keeps, Shared, WorkerState, state_of, Visitor, ScansOnce, AreVisits, AreIsolated, MeetsWorn, IsSameElse, zero, suc, inl, inr, length-append, ◌≢◌, Option, Some, None, Scanned, case_of, scan_from, view_of, IsRested, MeetsClosed}
use Rattle.shr_base.specs.declared.objects.LruStatus.{LruStatus}
use Rattle.shr_base.specs.declared.objects.LruStatus.TheVariants as status
use Rattle.shr_base.specs.declared.replies.Spent.TheVariants as spent
use Rattle.shr_model.specs.Objects.{unmarked_object}
use Rattle.shr_model.proofs.ScanLaws.{scan_spent, scan_none, scan_removed, scan_skipped, scan_rotated, scan_rotated_last, scan_stopped, freed_asked}
use Rattle.shr_core.specs.Parts.{Claims}
use Rattle.shr_core.specs.Seats.{Seated}
use Rattle.shr_core.proofs.Owing.{still_none}
use Rattle.shr_charge.specs.Seat.{uses_of, tree_of}
use Rattle.shr_deferred.specs.Seat.{DeferredSeated, moves_of}
use Rattle.shr_cache.specs.Opening.{AreHolding}
use Rattle.shr_walk.specs.declared.seats.CacheSeat.{CacheSeat}
use Rattle.shr_walk.specs.declared.seats.Seats.{Seats}
use Rattle.shr_walk.specs.ListScans.{ScansList, FindsClosed, FindsUsedUp, LacksRoom, NoneUncharged}
use Rattle.shr_base.specs.declared.replies.IsolateEnd.TheVariants as ending
use Rattle.shr_drop.specs.Visiting as visiting
use Rattle.shr_model.proofs.Lists.{sum_push}

-- a scan with a budget of 1 meets nothing, and then it frees nothing and isn't stopped, or it meets one object
abbrev pub MeetsOne : Scanned → Type 0
MeetsOne s = ((s.visits ≡ 0) × (s.freed ≡ []) × (s.stopped ≡ false)) ⊎ (s.visits ≡ 1)

meets_at : (policy : Policy) (x : Object) (xs : List Object) (k : LruStatus) → case_of policy x ≡ k → MeetsOne (scan_from policy (suc zero) [] (x ∷ xs))
meets_at policy x xs status.Removed says = inr (rw (scan_removed policy zero [] x xs says, scan_spent policy [] xs) refl)
meets_at policy x xs status.Skip says = inr (rw (scan_skipped policy zero [] x xs says, scan_spent policy (x ∷ []) xs) refl)
meets_at policy x xs status.Stop says = inr (rw (scan_stopped policy zero [] x xs says) refl)
meets_at policy x [] status.Rotate says = inr (rw (scan_rotated_last policy zero [] x says) refl)
meets_at policy x (y ∷ ys) status.Rotate says = inr (rw (scan_rotated policy zero [] x y ys says, scan_spent policy [] (y ∷ ys ++ unmarked_object x ∷ [])) refl)

pub meets_one : (policy : Policy) (items : List Object) → MeetsOne (scan_of policy 1 items)
meets_one policy [] = inl (rw (scan_none policy 1 []) (refl, refl, refl))
meets_one policy (x ∷ xs) = meets_at policy x xs (case_of policy x) refl

-- the seats with another seat of the caches
abbrev pub with_cache : Seats → CacheSeat → Seats
with_cache s c = record { cache = c; deferred = s.deferred; walks = s.walks; carries = s.carries }

module _ (x : Shared) (i : Visitor) (s : Seats) (c : CacheSeat) where
  -- a scan that met so many
  pub scans_once : (objects visits : ℕ) (stopped : Bool) → ScansList x i.place i.walk i.by i.policy 1 objects visits stopped s.cache c → ScansOnce x i objects visits stopped (state_of s) (state_of (with_cache s c))
  scans_once objects visits stopped h = record {
    may = h.may;
    objects = h.freed;
    count = h.count;
    scan = h.made;
    ops = h.uncharged.ops;
    downs = h.uncharged.made;
    rise = h.uncharged.rise;
    rest = λ j. record {
      core = view_of c.core;
      uses = h.uncharged.uses j;
      tree = h.uncharged.tree j;
      moves = moves_of s.deferred;
      noted = h.uncharged.noted j;
      walks = s.walks.items;
      carries = s.carries.items;
    };
  }

  -- where nothing was uncharged only the caches' seat changed
  only_core : NoneUncharged s.cache c → state_of (with_cache s c) ≡ record (state_of s) { core = view_of c.core }
  only_core h = λ j. record {
    core = view_of c.core;
    uses = uses_of (h.charge j);
    tree = tree_of (h.charge j);
    moves = moves_of s.deferred;
    noted = h.noted j;
    walks = s.walks.items;
    carries = s.carries.items;
  }

  pub meets_closed : FindsClosed i.place s.cache c → MeetsClosed i (state_of s) (state_of (with_cache s c))
  meets_closed h = record { may = h.may; list = h.list; rest = only_core h.same }

  pub meets_worn : (why : Spent) → FindsUsedUp x i.place i.walk i.by i.policy 1 why s.cache c → MeetsWorn x i why (state_of s) (state_of (with_cache s c))
  meets_worn (spent.Charges charges uncharges) h = record { numbers = h.numbers; rest = ap (λ (d : CacheSeat). state_of (with_cache s d)) h.rest }
  meets_worn (spent.List at entries items) h = record { may = h.may; list = h.list; rest = only_core h.same }
  meets_worn (spent.Lookups id seen) h = absurd h

  pub lacks_room : LacksRoom x i.place i.walk i.by i.policy 1 s.cache c → visiting.VisitLacksRoom x i (state_of s) (state_of (with_cache s c))
  lacks_room h = record { may = h.may; lacks = h.lacks; rest = only_core h.same }

module _ (x : Shared) (i : Visitor) where
  -- one visit more
  pub visits_push : (ns : List ℕ) (n : ℕ) (s u t : WorkerState) → AreVisits x i ns s u → ScansOnce x i n 1 false u t → AreVisits x i (ns ++ n ∷ []) s t
  visits_push [] n s u t e once = (t, subst (λ (v : WorkerState). ScansOnce x i n 1 false v t) (sym e) once, refl)
  visits_push (m ∷ ns) n s u t (v, first, more) once = (v, first, visits_push ns n v u t more once)

  -- what a scan frees, by whether it met an object
  pub frees_one : (objects visits : ℕ) (stopped : Bool) (s t : WorkerState) → ScansOnce x i objects visits stopped s t → ((visits ≡ 0) × (objects ≡ 0) × (stopped ≡ false)) ⊎ (visits ≡ 1)
  frees_one objects visits stopped s t h = ⊎_elim
      (λ none. inl (h.scan.told.met ∙ none.0, h.count ∙ ap (λ (l : List Object). length l) (h.scan.told.removed ∙ none.1), h.scan.told.halted ∙ none.2))
      (λ one. inr (h.scan.told.met ∙ one))
      (meets_one i.policy h.scan.old.items)

-- the visits so far, none of which was stopped
pub record AreSoFar (x : Shared) (i : Visitor) (visits freed : ℕ) (s t : WorkerState) : Type 0 where
  pub each : List ℕ
  pub visited : AreVisits x i each s t
  pub count : visits ≡ length each
  pub total : freed ≡ sum each
  pub few : freed ≤ visits

module _ (x : Shared) (i : Visitor) where
  -- a scan that met nothing freed nothing and wasn't stopped
  pub met_none : (objects visits : ℕ) (stopped : Bool) (s t : WorkerState) → ScansOnce x i objects visits stopped s t → visits ≡ 0 → ScansOnce x i 0 0 false s t
  met_none objects visits stopped s t h z = ⊎_elim
      (λ none. subst (λ (o : ℕ). ScansOnce x i o 0 false s t) none.1 (subst (λ (b : Bool). ScansOnce x i objects 0 b s t) none.2 (subst (λ (v : ℕ). ScansOnce x i objects v stopped s t) none.0 h)))
      (λ one. absurd (omega (arith, one, z)))
      (frees_one x i objects visits stopped s t h)

  -- a scan that met something met one object
  pub met_some : (objects visits : ℕ) (stopped : Bool) (s t : WorkerState) → ScansOnce x i objects visits stopped s t → 0 < visits → ScansOnce x i objects 1 stopped s t
  met_some objects visits stopped s t h some = ⊎_elim
      (λ none. absurd (let z = none.0 in omega (arith, z, some)))
      (λ one. subst (λ (v : ℕ). ScansOnce x i objects v stopped s t) one h)
      (frees_one x i objects visits stopped s t h)

  -- a scan with a budget of 1 frees one object at most
  pub frees_few : (objects visits : ℕ) (stopped : Bool) (s t : WorkerState) → ScansOnce x i objects visits stopped s t → objects ≤ 1
  frees_few objects visits stopped s t h = let a = freed_asked i.policy 1 h.scan.old.items in let e = ap (λ (l : List Object). length l) h.scan.told.removed in let n = h.count in omega (arith, a, e, n)

  -- one visit more, which wasn't stopped
  pub so_far_more : (visits freed n : ℕ) (s u t : WorkerState) → AreSoFar x i visits freed s u → ScansOnce x i n 1 false u t → AreSoFar x i (visits + 1) (freed + n) s t
  so_far_more visits freed n s u t a once = let c = a.count in let e = a.total in let f = a.few in let o = frees_few n 1 false u t once in let l = length-append a.each (n ∷ []) in let m = sum_push a.each n in record {
    each = a.each ++ n ∷ [];
    visited = visits_push x i a.each n s u t a.visited once;
    count = omega (arith, c, l);
    total = omega (arith, e, m);
    few = omega (arith, f, o);
  }

  module _ (budget visits freed : ℕ) (s u t : WorkerState) (a : AreSoFar x i visits freed s u) where
    -- all visits of the budget were made
    pub ends_spent : visits ≡ budget → AreIsolated x i budget visits freed ending.Spent s u
    ends_spent all = record { each = a.each; last = u; visited = a.visited; ended = record { count = a.count; total = a.total; whole = all; rest = refl } }

    -- the last visit was stopped
    pub ends_stopped : (n : ℕ) → visits < budget → ScansOnce x i n 1 true u t → AreIsolated x i budget (visits + 1) (freed + n) ending.Stop s t
    ends_stopped n left once = let c = a.count in let e = a.total in record { each = a.each; last = u; visited = a.visited; ended = record { last = n; count = omega (arith, c); total = omega (arith, e); within = omega (arith, left); cause = once } }

    -- a scan met nothing
    pub ends_bare : visits < budget → ScansOnce x i 0 0 false u t → AreIsolated x i budget visits freed ending.Bare s t
    ends_bare left h = record { each = a.each; last = u; visited = a.visited; ended = record { count = a.count; total = a.total; left = left; cause = h } }

    -- the list was closed
    pub ends_closed : visits < budget → MeetsClosed i u t → AreIsolated x i budget visits freed ending.Closed s t
    ends_closed left h = record { each = a.each; last = u; visited = a.visited; ended = record { count = a.count; total = a.total; left = left; cause = h } }

    -- something was used up
    pub ends_worn : (why : Spent) → visits < budget → MeetsWorn x i why u t → AreIsolated x i budget visits freed (ending.Worn why) s t
    ends_worn why left h = record { each = a.each; last = u; visited = a.visited; ended = record { count = a.count; total = a.total; left = left; cause = h } }

    -- there was no memory
    pub ends_lacking : visits < budget → visiting.VisitLacksRoom x i u t → AreIsolated x i budget visits freed ending.NoRoom s t
    ends_lacking left h = record { each = a.each; last = u; visited = a.visited; ended = record { count = a.count; total = a.total; left = left; cause = h } }

-- visits keep the id held, and once it is given back the seats are at rest
module _ (x : Shared) (place : Place) (walk : ℕ) (by : Serial) (policy : Policy) (s : Seats) where
  some_id : (id : ℕ) (h : Option ℕ) → h ≡ Some id → h ≢ None
  some_id id h e gone = absurd (let both : Some id ≡ None = sym e ∙ gone in cc)

  pub held_still : (c : CacheSeat) → AreHolding x place.id s → Keeps x (place_number place) walk by policy s.cache c → (view_of c.core).claims.held ≢ None
  held_still c h k = some_id place.id (view_of c.core).claims.held (ap (λ (y : Claims). y.held) (k.walks.claims h.owner) ∙ h.held)

  pub rested_then : (t : Seats) (last : Seated) → AreHolding x place.id s → Keeps x (place_number place) walk by policy s.cache t.cache → IsSameElse s t → last ≡ record t.cache.core { view = with_put (view_of t.cache.core) }
      → IsRested x (record { cache = record { core = last; charge = t.cache.charge; uses = t.cache.uses }; deferred = t.deferred; walks = t.walks; carries = t.carries })
  rested_then t last h k same back = record {
    core = ap (λ (q : Seated). q.core) back ∙ (k.core ∙ h.core);
    idle = record {
      rooms = ap (λ (q : Seated). q.view.holding) back ∙ (k.walks.holding ∙ h.rooms);
      held = ap (λ (q : Seated). q.view.claims.held) back;
      owner = ap (λ (q : Seated). q.view.claims.owner) back ∙ (ap (λ (y : Claims). y.owner) (k.walks.claims h.owner) ∙ h.owner);
    };
    owed = ap (λ (q : Seated). q.view.marks.owed) back ∙ still_none (view_of s.cache.core) (view_of t.cache.core) h.owed k.walks.owed;
    charge = k.charge ∙ h.charge;
    deferred = ap (λ (d : DeferredSeated). d.deferred) same.deferred ∙ h.deferred;
  }
