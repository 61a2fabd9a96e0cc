-- SPDX-License-Identifier: GPL-2.0-only
-- What a pass did, and what its scans did together.
use Rattle.std.specs.Prelude.{◌≡◌, ℕ, ◌+◌, ◌<◌, List, [], ◌∷◌, ◌++◌, map, length, take, sum}
use Rattle.shr_base.specs.declared.places.Place.{Place}
use Rattle.shr_base.specs.declared.walks.Ending.{Ending}
use Rattle.shr_base.specs.declared.walks.Ending.TheVariants.{Through, Stop, NoRoom, Worn}
use Rattle.shr_base.specs.declared.walks.PassRecord.{PassRecord}
use Rattle.shr_model.specs.Deferred.{amount_of}
use Rattle.shr_model.specs.Pass.{due_asks, batch_of, total_of}
use Rattle.shr_deferred.specs.Moves.{Moves, took, gave, no_moves}
use Rattle.shr_pass.specs.declared.answers.Count.{Count}
use Rattle.shr_pass.specs.declared.answers.Count.TheVariants as counted
use Rattle.shr_pass.specs.declared.answers.ScanSeen.{ScanSeen}
use Rattle.shr_pass.specs.declared.answers.ScanAnswer.{ScanAnswer}
use Rattle.shr_pass.specs.declared.answers.ScanAnswer.TheVariants as answered
use Rattle.shr_pass.specs.declared.answers.PassAnswer.{PassAnswer}
use Rattle.shr_pass.specs.declared.answers.PassAnswer.TheVariants.{Empty, Skip, Ran}

-- how many scan calls ended a pass with this ending: none that went through, else one
abbrev pub ending_calls : Ending → ℕ
ending_calls Through = 0
ending_calls Stop = 1
ending_calls NoRoom = 1
ending_calls (Worn spent) = 1

-- P holds of the answer that ended the pass, where one did
abbrev pub EndedBy : Ending → (ScanAnswer → Type 0) → Type 0
EndedBy Through P = Unit {0}
EndedBy Stop P = P answered.Stop
EndedBy NoRoom P = P answered.NoRoom
EndedBy (Worn spent) P = P (answered.Worn spent)

-- how many objects a scan was asked for
abbrev pub asked_of : ScanSeen → ℕ
asked_of x = x.asked

-- how many objects a scan freed
abbrev pub scan_freed : ScanSeen → ℕ
scan_freed x = x.freed

-- What the asks of a pass appended to the scans. The due asks are all of one size, so those that
-- freed are as many first ones.
pub record Scans (told : ScanAnswer → Type 0) (before after : List ScanSeen) (due : List ℕ) (asks closed freed : ℕ) : Type 0 where
  pub made : List ScanSeen
  pub appended : after ≡ before ++ made
  -- each ask freed or found the list closed
  pub number : length made + closed ≡ asks
  pub asked : map asked_of made ≡ take (length made) due
  pub sum_freed : sum (map scan_freed made) ≡ freed
  -- what these answers told is still so
  pub told_freed : 0 < length made → (n : ℕ) × told (answered.Freed n)
  pub told_closed : 0 < closed → told answered.Closed

-- P where no pass was made, Q of the record where one was
abbrev pub MatchPass : PassAnswer → Type 0 → (PassRecord → Type 0) → Type 0
MatchPass (Empty version) P Q = P
MatchPass (Skip len version) P Q = P
MatchPass (Ran pass) P Q = Q pass

-- P where the answer is Empty
abbrev pub IfEmptyPass : PassAnswer → Type 0 → Type 0
IfEmptyPass (Empty version) P = P
IfEmptyPass (Skip len version) P = Unit {0}
IfEmptyPass (Ran pass) P = Unit {0}

-- the count that an answer says
abbrev pub count_of : PassAnswer → Count
count_of (Empty version) = counted.Empty version
count_of (Skip len version) = counted.Skip len version
count_of (Ran pass) = counted.Many pass.len pass.version

-- the one take and then the one give of a pass at its place; nothing where none was made
abbrev pub moves_by : Place → PassAnswer → Moves
moves_by place (Empty version) = no_moves
moves_by place (Skip len version) = no_moves
moves_by place (Ran pass) = took (amount_of place pass.nr) ∷ gave (amount_of place pass.next) ∷ []

-- the due asks of a recorded pass
abbrev pub asks_due : ℕ → ℕ → ℕ → PassRecord → List ℕ
asks_due priority seeks batch pass = due_asks (batch_of batch) pass.len (total_of pass.len pass.nr priority seeks)

-- how many scan calls there were, and how many of them were answered Closed
abbrev pub calls_of : PassAnswer → ℕ
calls_of (Empty version) = 0
calls_of (Skip len version) = 0
calls_of (Ran pass) = pass.asks + ending_calls pass.ending

-- how many of the scan calls were answered Closed
abbrev pub closes_of : PassAnswer → ℕ
closes_of (Empty version) = 0
closes_of (Skip len version) = 0
closes_of (Ran pass) = pass.closed

-- Between a first and a last state of the seat there is one right after the count: the count is
-- appended, and no scan.
pub record CountedBetween {Seat : Type 0} (kept : Seat → Seat → Type 0) (counts : Seat → List Count) (scans : Seat → List ScanSeen) (counted : List Count) (scanned : List ScanSeen) (first last : Seat) : Type 0 where
  pub seat : Seat
  pub with_count : counts seat ≡ counted
  pub no_scan : scans seat ≡ scanned
  pub before : kept first seat
  pub after : kept seat last
