-- SPDX-License-Identifier: GPL-2.0-only
-- What a walk of the pools did.
use Rattle.std.specs.Prelude.{◌≡◌, ◌≢◌, ◌⊎◌, ℕ, ◌+◌, ◌≤◌, Bool, true, false, List, [], ◌∷◌, ◌++◌, map, length, take, sum, sum_by, All}
use Rattle.shr_base.specs.declared.places.Place.{Place}
use Rattle.shr_base.specs.declared.places.Serial.{Serial}
use Rattle.shr_base.specs.declared.journals.PlainEntry.{PlainEntry}
use Rattle.shr_base.specs.declared.walks.Ending.{Ending}
use Rattle.shr_base.specs.declared.walks.Ending.TheVariants.{Through, Stop, NoRoom, Worn}
use Rattle.shr_base.specs.declared.walks.PassRecord.{PassRecord}
use Rattle.shr_base.specs.declared.walks.PlainAnswer.{PlainAnswer}
use Rattle.shr_base.specs.declared.walks.PlainAnswer.TheVariants.{Walked, Memory}
use Rattle.shr_base.specs.declared.walks.PlainTry.{PlainTry}
use Rattle.shr_base.specs.declared.walks.PlainTry.TheVariants.{Empty, Skip, Ran}
use Rattle.shr_base.specs.declared.walks.PlainWalk.{PlainWalk}
use Rattle.shr_model.specs.Pass.{FollowsArithmetic}
use Rattle.shr_deferred.specs.Moves.{both}
use Rattle.shr_pass.specs.declared.answers.PassAnswer.{PassAnswer}
use Rattle.shr_pass.specs.declared.answers.PassAnswer.TheVariants as passed
use Rattle.shr_pass.specs.declared.answers.ScanSeen.{ScanSeen}
use Rattle.shr_pass.specs.Passes.{MatchPass, count_of, asks_due, moves_by, asked_of, scan_freed}
use Rattle.shr_seats.specs.Rows.{row_of}
use Rattle.shr_seats.specs.Views.{Each}
use Rattle.shr_seats.specs.Weights.{Begins}
use Rattle.shr_seats.specs.declared.rows.Sizes.{Sizes}
use Rattle.shr_seats.specs.RoomViews.{RoomMade, RoomCount, RoomView, part_at}
use Rattle.shr_seats.specs.RoomTold.{IsRecent}
use Rattle.shr_plain.specs.declared.settings.Setting.{Setting}
use Rattle.shr_plain.specs.Counting.{units_kind, scans_of, IsReclaimOf, IsWornIn}
use Rattle.shr_plain.specs.Seat.{PlainState}
use Rattle.shr_plain.specs.Settings.{setting_of, home_place}

-- a pass of a pool ends by its loop's test, for want of memory, or where the journal of the place
-- has no room for another entry
abbrev pub EndsBy : Place → RoomView PlainEntry → Ending → Type 0
EndsBy place t Through = Unit {0}
EndsBy place t Stop = ⊥
EndsBy place t NoRoom = Unit {0}
EndsBy place t (Worn x) = IsWornIn place t x

-- the scans of a pass are the first of its due asks, and freed together what it says
pub record AreScans (priority : ℕ) (setting : Setting) (p : PassRecord) (scans : List ScanSeen) : Type 0 where
  pub number : length scans ≡ p.asks
  pub asked : map asked_of scans ≡ take p.asks (asks_due priority setting.seeks setting.batch p)
  pub freed : sum (map scan_freed scans) ≡ p.freed

-- one pass over a pool at a place, for a walk of this worker with this number
pub record PassGives (setting : Setting) (place : Place) (i worker walk priority : ℕ) (answer : PassAnswer) (s t : PlainState) : Type 0 where
  -- the one count, which is not older than anything that the seat did and saw in the room
  pub count : RoomCount
  pub kind : units_kind setting.floor count ≡ count_of answer
  pub seen : (part_at t.rooms i).seen ≡ (part_at s.rooms i).seen ++ count ∷ []
  pub fresh : IsRecent (part_at s.rooms i) count.version
  -- the entries that it made: reclaims of this walk, behind what was counted
  pub more : List (RoomMade PlainEntry)
  pub made : (part_at t.rooms i).made ≡ (part_at s.rooms i).made ++ more
  pub reclaims : Each (λ (m : RoomMade PlainEntry). IsReclaimOf worker walk m.entry) more
  pub late : Each (λ (m : RoomMade PlainEntry). count.version ≤ m.number) more
  pub scans : MatchPass answer (more ≡ []) (λ p. AreScans priority setting p (scans_of worker walk more))
  -- the record
  pub follows : MatchPass answer (Unit {0}) (FollowsArithmetic priority setting.seeks setting.batch)
  pub closed : MatchPass answer (Unit {0}) (λ p. p.closed ≡ 0)
  pub ending : MatchPass answer (Unit {0}) (λ p. EndsBy place (part_at t.rooms i) p.ending)
  -- what stays, and what it took from the deferred words and gave to them
  pub known : Begins (part_at s.rooms i).known (part_at t.rooms i).known
  pub heard : (part_at t.rooms i).heard ≡ (part_at s.rooms i).heard
  pub others : (k : ℕ) → k ≢ i → part_at t.rooms k ≡ part_at s.rooms k
  pub moves : t.moves ≡ both s.moves (moves_by place answer)
  pub walks : t.walks ≡ s.walks

-- the try that a pass is
abbrev pub try_of : PassAnswer → PlainTry
try_of (passed.Empty version) = Empty version
try_of (passed.Skip len version) = Skip len version
try_of (passed.Ran p) = Ran p

-- and back
abbrev pub answer_of : PlainTry → PassAnswer
answer_of (Empty version) = passed.Empty version
answer_of (Skip len version) = passed.Skip len version
answer_of (Ran p) = passed.Ran p

-- how much a try freed
abbrev pub units_freed : PlainTry → ℕ
units_freed (Empty version) = 0
units_freed (Skip len version) = 0
units_freed (Ran p) = p.freed

-- a pass ended for want of memory
abbrev pub is_no_room : Ending → Bool
is_no_room Through = false
is_no_room Stop = false
is_no_room NoRoom = true
is_no_room (Worn x) = false

-- a try ended for want of memory
abbrev pub try_lacked_memory : PlainTry → Bool
try_lacked_memory (Empty version) = false
try_lacked_memory (Skip len version) = false
try_lacked_memory (Ran p) = is_no_room p.ending

-- a try didn't end for want of memory
abbrev pub TryHadMemory : PlainTry → Type 0
TryHadMemory x = try_lacked_memory x ≡ false

module _ (settings : List Setting) (z : Sizes) (by : Serial) (walk node priority : ℕ) where
  -- a try of one pool, in its room for the node
  abbrev pub TryGives : ℕ → PlainTry → PlainState → PlainState → Type 0
  TryGives pool x s t = PassGives (setting_of settings pool) (home_place settings pool node) (row_of z (home_place settings pool node)) by.worker walk priority (answer_of x) s t

  -- tries of the pools from this one up, in rising order
  abbrev pub AreTried : ℕ → List PlainTry → PlainState → PlainState → Type 0
  AreTried pool [] s t = t ≡ s
  AreTried pool (x ∷ xs) s t = (u : PlainState) × TryGives pool x s u × AreTried (pool + 1) xs u t

-- tries that want of memory cut short: there is none, or the last one ended for it
abbrev pub AreCut : List PlainTry → Type 0
AreCut tries = (tries ≡ []) ⊎ ((front : List PlainTry) × (last : PlainTry) × (tries ≡ front ++ last ∷ []) × All TryHadMemory front × (try_lacked_memory last ≡ true))

-- the answer by the tries of so many pools: one for each, or cut short; and what they freed together
abbrev pub Answers : ℕ → List PlainTry → PlainAnswer → Type 0
Answers pools tries (Walked freed) = (length tries ≡ pools) × All TryHadMemory tries × (freed ≡ sum_by units_freed tries)
Answers pools tries (Memory freed) = (length tries ≤ pools) × AreCut tries × (freed ≡ sum_by units_freed tries)

-- a walk of all pools for a node, whose number is that of the walks before
pub record PlainWalkGives (settings : List Setting) (z : Sizes) (by : Serial) (node priority : ℕ) (answer : PlainAnswer) (s t : PlainState) : Type 0 where
  pub walk : PlainWalk
  pub tried : PlainState
  pub tries : AreTried settings z by (length s.walks) node priority 0 walk.tries.items s tried
  pub answers : Answers (length settings) walk.tries.items answer
  pub by_is : walk.by ≡ by
  pub node_is : walk.node ≡ node
  pub priority_is : walk.priority ≡ priority
  pub answer_is : walk.answer ≡ answer
  -- its record is put behind the others
  pub state : t ≡ record tried { walks = s.walks ++ walk ∷ [] }
