-- SPDX-License-Identifier: GPL-2.0-only
-- What one scan of a place's list says, and what a lister answers by it.
use Rattle.std.specs.Prelude.{◌≡◌, ◌⊎◌, ◌*◌, ◌<◌, ◌≤◌, ℕ, Bool, true, false, List, length, Some, None}
use Rattle.shr_base.specs.declared.places.Place.{Place}
use Rattle.shr_base.specs.declared.places.Serial.{Serial}
use Rattle.shr_base.specs.declared.objects.Object.{Object}
use Rattle.shr_base.specs.declared.objects.Policy.{Policy}
use Rattle.shr_base.specs.declared.replies.Spent.{Spent}
use Rattle.shr_base.specs.declared.replies.Spent.TheVariants as spent
use Rattle.shr_list.specs.Answers.{scan_entry}
use Rattle.shr_model.specs.Trees.{depth_of}
use Rattle.shr_model.specs.PlaceNumbers.{place_number}
use Rattle.shr_seats.specs.Weights.{times}
use Rattle.shr_core.specs.Seats.{view_of, shape_of, IsPlaceOfShape}
use Rattle.shr_charge.specs.Seat.{uses_of, spent_by}
use Rattle.shr_node.specs.Answers.{ScansPlace, IsScanClosed, ScanIsWorn, ScanLacks}
use Rattle.shr_pass.specs.declared.answers.ScanAnswer.{ScanAnswer}
use Rattle.shr_pass.specs.declared.answers.ScanAnswer.TheVariants as answer
use Rattle.shr_pass.specs.Meanings.{SameMeaning}
use Rattle.shr_walk.specs.Keeping.{Keeps, AllUncharged, shared_parents}
use Rattle.shr_walk.specs.Listing.{IsReady, Tells, counts_at, scans_at}
use Rattle.shr_walk.specs.Sharing.{IsShared}
use Rattle.shr_walk.specs.declared.seats.CacheSeat.{CacheSeat}
use Rattle.shr_walk.specs.declared.seats.Shared.{Shared}
use Rattle.shr_walk.specs.declared.lister.ListerScan.{ListerScan}
use Rattle.shr_walk.specs.declared.lister.ListerScan.TheVariants as scan

-- the seat's charges and uncharges aren't used up
abbrev pub MayUncharge : CacheSeat → Type 0
MayUncharge s = spent_by (uses_of s.charge) ≡ None

-- there is room to note the uncharges of so many objects, each on its path to the root
pub record HaveRoom (parents : List ℕ) (objects spare : ℕ) : Type 0 where
  pub most : ℕ
  pub deep : (group : ℕ) → group < length parents → depth_of parents group ≤ most
  pub room : most * objects ≤ spare

-- nothing was uncharged or noted
pub record NoneUncharged (s t : CacheSeat) : Type 0 where
  pub charge : t.charge ≡ s.charge
  pub noted : t.uses.items ≡ s.uses.items

-- A scan of the list was made: it freed so many objects, met so many, and was stopped or not. Then each object that it
-- freed was uncharged.
pub record ScansList (x : Shared) (place : Place) (walk : ℕ) (by : Serial) (policy : Policy) (asked objects visits : ℕ) (stopped : Bool) (s t : CacheSeat) : Type 0 where
  pub may : MayUncharge s
  pub freed : List Object
  pub count : objects ≡ length freed
  pub made : ScansPlace (shape_of x.core) (view_of s.core) (view_of t.core) place by.worker walk policy asked freed visits stopped
  pub uncharged : AllUncharged (shared_parents x) by freed s.charge t.charge s.uses.items t.uses.items

-- the list is closed
pub record FindsClosed (place : Place) (s t : CacheSeat) : Type 0 where
  pub may : MayUncharge s
  pub list : IsScanClosed (view_of s.core) (view_of t.core) place
  pub same : NoneUncharged s t

-- the charges or the uncharges of the seat are used up, with these numbers, and nothing was done
pub record FindsSpent (why : Spent) (s t : CacheSeat) : Type 0 where
  pub numbers : spent_by (uses_of s.charge) ≡ Some why
  pub rest : t ≡ s

-- the list has no room for the scan's entry
pub record FindsFull (x : Shared) (place : Place) (walk : ℕ) (by : Serial) (policy : Policy) (asked : ℕ) (at : Place) (entries items : ℕ) (s t : CacheSeat) : Type 0 where
  pub may : MayUncharge s
  pub list : ScanIsWorn (shape_of x.core) (view_of s.core) (view_of t.core) place at (λ old. scan_entry old by.worker walk policy asked) entries items
  pub same : NoneUncharged s t

-- what is used up: the charges, or the list of the place, and never a lookup
abbrev pub FindsUsedUp : Shared → Place → ℕ → Serial → Policy → ℕ → Spent → CacheSeat → CacheSeat → Type 0
FindsUsedUp x place walk by policy asked (spent.Charges charges uncharges) s t = FindsSpent (spent.Charges charges uncharges) s t
FindsUsedUp x place walk by policy asked (spent.List at entries items) s t = FindsFull x place walk by policy asked at entries items s t
FindsUsedUp x place walk by policy asked (spent.Lookups id seen) s t = ⊥

-- there was no memory: to note the uncharges, and then the list wasn't looked at, or for the scan's entry, for which the
-- list has room
pub record LacksRoom (x : Shared) (place : Place) (walk : ℕ) (by : Serial) (policy : Policy) (asked : ℕ) (s t : CacheSeat) : Type 0 where
  pub may : MayUncharge s
  pub lacks : (view_of t.core ≡ view_of s.core) ⊎ ScanLacks (shape_of x.core) (view_of s.core) (view_of t.core) place (λ old. scan_entry old by.worker walk policy asked)
  pub same : NoneUncharged s t

-- what one scan of the list did, by its answer
abbrev pub ListScanGives : Shared → Place → ℕ → Serial → Policy → ℕ → ListerScan → CacheSeat → CacheSeat → Type 0
ListScanGives x place walk by policy asked (scan.Scanned objects visits stopped) s t = ScansList x place walk by policy asked objects visits stopped s t
ListScanGives x place walk by policy asked scan.Closed s t = FindsClosed place s t
ListScanGives x place walk by policy asked (scan.Worn numbers) s t = FindsUsedUp x place walk by policy asked numbers s t
ListScanGives x place walk by policy asked scan.NoRoom s t = LacksRoom x place walk by policy asked s t

-- a scan of the list as a walk is told of it: without its visits
abbrev pub without_visits : ListerScan → ScanAnswer
without_visits (scan.Scanned objects visits stopped) = answer.Freed objects
without_visits scan.Closed = answer.Closed
without_visits (scan.Worn numbers) = answer.Worn numbers
without_visits scan.NoRoom = answer.NoRoom

-- the answer is that of one scan of the list
pub record TellsOfScan (x : Shared) (place : Place) (walk : ℕ) (by : Serial) (policy : Policy) (asked : ℕ) (a : ScanAnswer) (s t : CacheSeat) : Type 0 where
  pub scan : ListerScan
  pub told : a ≡ without_visits scan
  pub gives : ListScanGives x place walk by policy asked scan s t

-- What a lister answers. One that stops each scan answers Stop with nothing done, and no other answers Stop.
abbrev pub ListerAnswers : Bool → Shared → Place → ℕ → Serial → Policy → ℕ → ScanAnswer → CacheSeat → CacheSeat → Type 0
ListerAnswers true x place walk by policy asked a s t = (a ≡ answer.Stop) × (t ≡ s)
ListerAnswers false x place walk by policy asked a s t = TellsOfScan x place walk by policy asked a s t

-- what a lister means stays over its call
abbrev pub SameLister : Shared → Shared → Place → Place → ℕ → ℕ → Bool → Bool → ℕ → ℕ → Serial → Serial → Policy → Policy → Type 0
SameLister x y place at floor least stops halts walk number by to policy rule = SameMeaning (Some place) (Some at)
    (λ s. 0 < times (place_number place) (view_of s.core).marks.owed) (λ s. 0 < times (place_number at) (view_of s.core).marks.owed)
    (λ s. IsShared x × IsPlaceOfShape (shape_of x.core) place × IsReady x place s) (λ s. IsShared y × IsPlaceOfShape (shape_of y.core) at × IsReady y at s)
    (Keeps x (place_number place) walk by policy) (Keeps y (place_number at) number to rule)
    (Tells (shape_of x.core) place stops) (Tells (shape_of y.core) at halts)
    (counts_at (place_number place) floor) (counts_at (place_number at) least)
    (scans_at (place_number place) by walk) (scans_at (place_number at) to number)
