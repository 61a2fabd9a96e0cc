-- SPDX-License-Identifier: GPL-2.0-only
-- The walks of a report: each is lawful, each command has its own, and a worker sees what it did
-- before.
use Rattle.std.specs.Prelude.{◌≡◌, ℕ, ◌+◌, ◌<◌, ◌≤◌, Bool, true, false, not, ◌&&◌, ◌==◌, if◌then◌else◌, cond, List, [], ◌∷◌, length, map, flat_map, count_by, sum_by, slice_get, Some, ⊤}
use Rattle.std.specs.List.{AllByRecursion, list_any}
use Rattle.std.specs.Option.{IsSomeAnd}
use Rattle.shr_base.specs.declared.places.Serial.{Serial}
use Rattle.shr_base.specs.declared.places.Place.{Place}
use Rattle.shr_base.specs.declared.journals.Entry.{Entry}
use Rattle.shr_base.specs.declared.journals.Entry.TheVariants.{Scan}
use Rattle.shr_base.specs.declared.replies.Reply.{Reply}
use Rattle.shr_base.specs.declared.replies.Reply.TheVariants as reply
use Rattle.shr_base.specs.declared.scripts.Command.{Command}
use Rattle.shr_base.specs.declared.scripts.Command.TheVariants.{Put, Shrink, Balance}
use Rattle.shr_base.specs.declared.scripts.Script.{Script}
use Rattle.shr_base.specs.declared.walks.MapSeen.{MapSeen}
use Rattle.shr_base.specs.declared.walks.WalkAnswer.{WalkAnswer}
use Rattle.shr_base.specs.declared.walks.WalkAnswer.TheVariants as walk
use Rattle.shr_base.specs.Walks.{WalkRecord}
use Rattle.shr_model.specs.Places.{is_place, unit_of, bit_of}
use Rattle.shr_model.specs.Bits.{is_set}
use Rattle.shr_model.specs.Groups.{preorder_of, IsAtOrAbove}
use Rattle.shr_model.specs.Charges.{ops_by, is_refused}
use Rattle.shr_model.specs.Commands.{jobs_of}
use Rattle.shr_model.specs.Prefixes.{IsPrefixOf}
use Rattle.shr_model.specs.Walks.{Job, job_of, passes_at, versions_at, clearings_of, is_cut, freed_told}
use Rattle.shr_model.specs.Isolations.{first_isolation}
use Rattle.shr_laws.specs.declared.report.Report.{Report}
use Rattle.shr_laws.specs.Parts.{parents_of, limit_of, serial_of, walks_of, walks_by, walk_at, all_walks, uses_at, reply_at, cited_at, items_before, at, EachAnswer, EachWalk, EachEntry}
use Rattle.shr_laws.specs.LawfulWalk.{IsLawfulWalk}
use Rattle.shr_laws.specs.WellFormed.{AreNotFalling}

-- a Scan entry at a place whose walk isn't an isolation's is of a pass there, of the walk that it names
abbrev pub IsOfPass : Report → Place → Entry → Type 0
IsOfPass r place (Scan worker n asked policy visits freed stopped) = n < first_isolation → IsSomeAnd (walk_at r worker n) (λ w. 0 < length (passes_at place w))
IsOfPass r place e = ⊤

-- an Over names this group
abbrev pub over_at : ℕ → Reply → ℕ
over_at group (reply.Over g operation usage) = cond (g == group) 1 0
over_at group x = 0

-- The rounds of a put were over these groups: each at or above its own, and each as often as the
-- charge was refused there, one time fewer where the answer names it.
pub record AreRoundsOfPut (s : Script) (r : Report) (by : Serial) (group : ℕ) (x : Reply) (rounds : List ℕ) : Type 0 where
  pub few : length rounds ≤ 13
  pub above : AllByRecursion (λ h. IsAtOrAbove (parents_of s) h group) rounds
  pub refusals : (h : ℕ) → count_by (λ g. g == h) rounds + over_at h x ≡ count_by (is_refused (limit_of s h)) (ops_by by (uses_at r h))
  pub all : (g operation usage : ℕ) → x ≡ reply.Over g operation usage → length rounds ≡ 13

-- only a put has rounds
abbrev pub AreRoundsOf : Script → Report → Serial → Command → Reply → List ℕ → Type 0
AreRoundsOf s r by (Put at key value) x rounds = AreRoundsOfPut s r by at.group x rounds
AreRoundsOf s r by c x rounds = rounds ≡ []

-- the walks that were made are those that were due, or the first of them where the answer is want
-- of memory
abbrev pub MayMake : Reply → List Job → List Job → Type 0
MayMake reply.Memory due made = IsPrefixOf made due
MayMake (reply.WalkMemory freed) due made = IsPrefixOf made due
MayMake x due made = made ≡ due

-- the walks of a command are its own, with some rounds
pub record AreWalksOf (s : Script) (r : Report) (by : Serial) (c : Command) (x : Reply) : Type 0 where
  pub rounds : List ℕ
  pub refused : AreRoundsOf s r by c x rounds
  pub made : MayMake x (jobs_of (parents_of s) s.nodes rounds c) (map job_of (walks_by r by))

-- the answer of a walk, as a reply
abbrev pub reply_of : WalkAnswer → Reply
reply_of (walk.Walked freed) = reply.Walked freed
reply_of (walk.Offline entry) = reply.Offline entry
reply_of (walk.Memory freed) = reply.WalkMemory freed

-- the reply to a `shrink` with these walks
abbrev pub shrink_reply : List WalkRecord → Reply
shrink_reply [] = reply.WalkMemory 0
shrink_reply (w ∷ ws) = reply_of w.answer

-- the reply to a `balance` with these walks, of so many groups
abbrev pub balance_reply : ℕ → List WalkRecord → Reply
balance_reply groups ws =
    if (length ws == groups) && not (list_any (λ (w : WalkRecord). is_cut w.answer) ws)
    then reply.Walked (sum_by (λ (w : WalkRecord). freed_told w.answer) ws)
    else reply.WalkMemory (sum_by (λ (w : WalkRecord). freed_told w.answer) ws)

-- the reply to a `shrink` or a `balance` is that of its walks
abbrev pub IsToldBy : Script → List WalkRecord → Command → Reply → Type 0
IsToldBy s ws (Shrink group node priority nofs) x = x ≡ shrink_reply ws
IsToldBy s ws (Balance node priority nofs) x = x ≡ balance_reply (length (preorder_of (parents_of s) 0)) ws
IsToldBy s ws c x = ⊤

-- a walk of the report cleared the bit of this place
abbrev pub was_cleared : Report → Place → Bool
was_cleared r place = list_any (is_place place) (flat_map clearings_of (all_walks r))

-- a reply added an object to an empty list at this place
pub record FillsPlace (s : Script) (r : Report) (by : Serial) (place : Place) : Type 0 where
  pub entry : ℕ
  pub added : reply_at r by ≡ Some (reply.Added (at place entry))
  pub empty : items_before s r place entry ≡ []

-- a walk's map is of the bit of this place
pub record Covers (w : WalkRecord) (m : MapSeen) (place : Place) : Type 0 where
  pub group : w.group ≡ place.group
  pub node : w.node ≡ place.node
  pub unit : m.unit ≡ unit_of place.id

-- each walk is lawful, each command has its walks, and a worker's walks see what it did before
pub record AreWalksLawful (s : Script) (r : Report) : Type 0 where
  pub each : EachWalk r (IsLawfulWalk s r)
  -- there is no Scan entry but those of the passes
  pub no_others : EachEntry r (λ place n e. IsOfPass r place e)
  pub walks : EachAnswer s r (λ by c a. AreWalksOf s r by c a.reply)
  pub told : EachAnswer s r (λ by c a. IsToldBy s (walks_by r by) c a.reply)
  -- a worker's counts at one place have versions that never fall
  pub versions : (worker : ℕ) (place : Place) → AreNotFalling (flat_map (versions_at place) (walks_of r worker))
  -- and that are above every entry that an earlier reply of the worker cites there
  pub later : EachWalk r (λ worker n w. (k entry : ℕ) (place : Place) → k < w.by.command → cited_at r (serial_of worker k) ≡ Some (at place entry)
      → AllByRecursion (λ version. entry < version) (versions_at place w))
  -- a worker's map has the bit of each place that an earlier reply of the worker filled, unless
  -- some walk cleared it
  pub bits : EachWalk r (λ worker n w. (i k : ℕ) (m : MapSeen) (place : Place) → slice_get w.maps.items i ≡ Some m → Covers w m place
      → k < w.by.command → FillsPlace s r (serial_of worker k) place → was_cleared r place ≡ false → is_set m.bits (bit_of place.id) ≡ true)
