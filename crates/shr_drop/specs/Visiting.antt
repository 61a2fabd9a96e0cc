-- SPDX-License-Identifier: GPL-2.0-only
-- The visits of one isolation, each from the state of the worker's seats before it to that after it.
use Rattle.std.specs.Prelude.{◌≡◌, ◌⊎◌, ℕ, ◌+◌, ◌<◌, ◌≤◌, Bool, true, false, List, [], ◌∷◌, ◌++◌, length, sum}
use Rattle.shr_base.specs.declared.journals.UseStep.{UseStep}
use Rattle.shr_base.specs.declared.objects.Object.{Object}
use Rattle.shr_base.specs.declared.objects.Policy.{Policy}
use Rattle.shr_base.specs.declared.places.Place.{Place}
use Rattle.shr_base.specs.declared.places.Serial.{Serial}
use Rattle.shr_base.specs.declared.replies.Spent.{Spent}
use Rattle.shr_base.specs.declared.replies.Spent.TheVariants as spent
use Rattle.shr_list.specs.Listed.{Listed}
use Rattle.shr_list.specs.Answers.{scan_entry}
use Rattle.shr_base.specs.declared.journals.Entry.{Entry}
use Rattle.shr_core.specs.Seats.{shape_of}
use Rattle.shr_charge.specs.Charging.{AreDowns, AreRising, calls_with}
use Rattle.shr_charge.specs.Views.{both_uses}
use Rattle.shr_node.specs.Answers.{ScansPlace, IsScanClosed, ScanIsWorn, ScanLacks}
use Rattle.shr_walk.specs.Keeping.{shared_parents, paths_of}
use Rattle.shr_walk.specs.Listers.{Listing}
use Rattle.shr_walk.specs.State.{WorkerState}
use Rattle.shr_walk.specs.declared.seats.Seats.{Seats}
use Rattle.shr_walk.specs.declared.seats.Shared.{Shared}
use Rattle.shr_cache.specs.Opening.{MayCharge, IsWorkerSpent}
use Rattle.shr_base.specs.declared.replies.IsolateEnd.{IsolateEnd}
use Rattle.shr_base.specs.declared.replies.IsolateEnd.TheVariants as ending

-- whose visits they are, their number among the walks of the worker's scans, the list, and the policy
pub record Visitor : Type 0 where
  pub by : Serial
  pub walk : ℕ
  pub place : Place
  pub policy : Policy

-- the visits that a lister makes
abbrev pub visitor_in : Listing → Visitor
visitor_in a = record { by = a.by; walk = a.walk; place = a.place; policy = a.policy }

-- One scan with a budget of 1 freed these objects, met so many, and was stopped or not. Then each object that it freed was
-- uncharged, and nothing else was done.
pub record ScansOnce (x : Shared) (i : Visitor) (freed visits : ℕ) (stopped : Bool) (s t : WorkerState) : Type 0 where
  pub may : MayCharge s
  pub objects : List Object
  pub count : freed ≡ length objects
  pub scan : ScansPlace (shape_of x.core) s.core t.core i.place i.by.worker i.walk i.policy 1 objects visits stopped
  pub ops : List UseStep
  pub downs : AreDowns i.by (paths_of (shared_parents x) objects) ops
  pub rise : AreRising s.uses.ops → AreRising t.uses.ops
  pub rest : t ≡ record s { core = t.core; uses = both_uses s.uses (calls_with ops 0 (length objects)); noted = s.noted ++ ops }

-- visits, each of one object and not stopped, with how many each freed: each begins where the one before it ended
abbrev pub AreVisits : Shared → Visitor → List ℕ → WorkerState → WorkerState → Type 0
AreVisits x i [] s t = s ≡ t
AreVisits x i (n ∷ ns) s t = (u : WorkerState) × ScansOnce x i n 1 false s u × AreVisits x i ns u t

-- the entry that a scan with a budget of 1 would make
abbrev pub entry_of : Visitor → Listed → Entry
entry_of i old = scan_entry old i.by.worker i.walk i.policy 1

-- the list is closed
pub record MeetsClosed (i : Visitor) (s t : WorkerState) : Type 0 where
  pub may : MayCharge s
  pub list : IsScanClosed s.core t.core i.place
  pub rest : t ≡ record s { core = t.core }

-- the list has no room for the scan's entry
pub record MeetsFull (x : Shared) (i : Visitor) (at : Place) (entries items : ℕ) (s t : WorkerState) : Type 0 where
  pub may : MayCharge s
  pub list : ScanIsWorn (shape_of x.core) s.core t.core i.place at (entry_of i) entries items
  pub rest : t ≡ record s { core = t.core }

-- what is used up: the charges, or the list of the place, and never a lookup
abbrev pub MeetsWorn : Shared → Visitor → Spent → WorkerState → WorkerState → Type 0
MeetsWorn x i (spent.Charges charges uncharges) s t = IsWorkerSpent (spent.Charges charges uncharges) s t
MeetsWorn x i (spent.List at entries items) s t = MeetsFull x i at entries items s t
MeetsWorn x i (spent.Lookups id seen) s t = ⊥

-- there was no memory: to note the uncharge, and then the list wasn't looked at, or for the scan's entry, for which the
-- list has room
pub record VisitLacksRoom (x : Shared) (i : Visitor) (s t : WorkerState) : Type 0 where
  pub may : MayCharge s
  pub lacks : (t.core ≡ s.core) ⊎ ScanLacks (shape_of x.core) s.core t.core i.place (entry_of i)
  pub rest : t ≡ record s { core = t.core }

-- the visits of each were all, as many as the budget has, and nothing followed
pub record IsSpentAfter (budget visits freed : ℕ) (each : List ℕ) (s t : WorkerState) : Type 0 where
  pub count : visits ≡ length each
  pub total : freed ≡ sum each
  pub whole : visits ≡ budget
  pub rest : t ≡ s

-- the visits of each were all, fewer than the budget has, and this followed
pub record IsCutAfter (budget visits freed : ℕ) (each : List ℕ) (followed : Type 0) : Type 0 where
  pub count : visits ≡ length each
  pub total : freed ≡ sum each
  pub left : visits < budget
  pub cause : followed

-- one visit more than those of each was made, which was stopped
pub record IsStoppedAfter (x : Shared) (i : Visitor) (budget visits freed : ℕ) (each : List ℕ) (s t : WorkerState) : Type 0 where
  pub last : ℕ
  pub count : visits ≡ length each + 1
  pub total : freed ≡ sum each + last
  pub within : visits ≤ budget
  pub cause : ScansOnce x i last 1 true s t

-- what followed the visits that weren't stopped, by the ending
abbrev pub EndsAs : Shared → Visitor → ℕ → ℕ → ℕ → List ℕ → IsolateEnd → WorkerState → WorkerState → Type 0
EndsAs x i budget visits freed each ending.Spent s t = IsSpentAfter budget visits freed each s t
EndsAs x i budget visits freed each ending.Bare s t = IsCutAfter budget visits freed each (ScansOnce x i 0 0 false s t)
EndsAs x i budget visits freed each ending.Stop s t = IsStoppedAfter x i budget visits freed each s t
EndsAs x i budget visits freed each ending.Closed s t = IsCutAfter budget visits freed each (MeetsClosed i s t)
EndsAs x i budget visits freed each (ending.Worn why) s t = IsCutAfter budget visits freed each (MeetsWorn x i why s t)
EndsAs x i budget visits freed each ending.NoRoom s t = IsCutAfter budget visits freed each (VisitLacksRoom x i s t)

-- the visits of an isolation: those that weren't stopped, and what followed them
pub record AreIsolated (x : Shared) (i : Visitor) (budget visits freed : ℕ) (e : IsolateEnd) (s t : WorkerState) : Type 0 where
  pub each : List ℕ
  pub last : WorkerState
  pub visited : AreVisits x i each s last
  pub ended : EndsAs x i budget visits freed each e last t

-- what lies beside the cache's seats stays
pub record IsSameElse (s t : Seats) : Type 0 where
  pub deferred : t.deferred ≡ s.deferred
  pub walks : t.walks ≡ s.walks
  pub carries : t.carries ≡ s.carries
