-- SPDX-License-Identifier: GPL-2.0-only
-- The walks of a command.
use Rattle.std.specs.Prelude.{◌≡◌, ◌≢◌, ℕ, ◌+◌, ◌<◌, ◌≤◌, true, false, ◌==◌, List, [], length, map, filter, flat_map, count_by, slice_get, Option, Some, None, is_some, AllPairs}
use Rattle.std.specs.List.{AllByRecursion, range_with_len, list_any}
use Rattle.shr_base.specs.declared.journals.UseStep.{UseStep}
use Rattle.shr_base.specs.declared.replies.Reply.TheVariants as reply
use Rattle.shr_base.specs.declared.scripts.Command.{Command}
use Rattle.shr_base.specs.declared.scripts.Command.TheVariants.{Put}
use Rattle.shr_base.specs.declared.scripts.Script.{Script}
use Rattle.shr_base.specs.declared.scripts.Sweep.{Sweep}
use Rattle.shr_base.specs.Walks.{Attempt, WalkRecord}
use Rattle.shr_base.specs.declared.walks.Ending.TheVariants as ending
use Rattle.shr_base.specs.declared.walks.MapSeen.{MapSeen}
use Rattle.shr_base.specs.declared.walks.PassRecord.{PassRecord}
use Rattle.shr_base.specs.declared.walks.WalkAnswer.TheVariants.{Walked, Offline}
use Rattle.shr_model.specs.Attempts.{Count, pass_of, counts_of}
use Rattle.shr_model.specs.Bits.{units_of}
use Rattle.shr_model.specs.Charges.{is_refused}
use Rattle.shr_model.specs.Commands.{jobs_of}
use Rattle.shr_model.specs.Groups.{IsAtOrAbove}
use Rattle.shr_model.specs.PlaceNumbers.{place_number}
use Rattle.shr_model.specs.Walks.{job_of, place_in, units_seen, ids_seen, ids_tried, freed_of, is_cut, freed_told, clearings_of}
use Rattle.shr_model.specs.Isolations.{first_isolation}
use Rattle.shr_seats.specs.Views.{Each}
use Rattle.shr_seats.specs.Weights.{Begins}
use Rattle.shr_charge.specs.declared.answers.GroupState.TheVariants as state
use Rattle.shr_core.specs.Layout.{map_number}
use Rattle.shr_core.specs.Parts.{Counted, Mapped}
use Rattle.shr_walk.specs.Fresh.{AreFresh}
use Rattle.shr_walk.specs.Records.{is_setting}
use Rattle.shr_laws.specs.Parts.{parents_of, limit_of, EachAttempt}
use Rattle.shr_laws.specs.LawfulWalk.{IsBegun, IsLastOfCut, IsPlaced}
use Rattle.shr_laws.specs.Swept.{IsSwept}
use Rattle.shr_laws.specs.Tries.{refusals_of, was_charged, outcomes_in}
use Rattle.shr_laws.specs.Cuts.{IsWant}
use Rattle.shr_laws.specs.WalksLawful.{over_at, MayMake, IsToldBy}
use Rattle.shr_laws.specs.WellFormed.{IsWalkWell}
use Rattle.shr_lawful.specs.Steps.{Step, IsAmong}
use Rattle.shr_lawful.specs.Charges.{ops_at}
use Rattle.shr_lawful.specs.Offlining.{KnowsOnline}
use Rattle.shr_lawful.specs.Attempts.{DidAttempt}

-- what the record of a walk says by itself is as it must be
pub record IsRecord (s : Script) (w : WalkRecord) : Type 0 where
  pub offline : (entry : ℕ) → w.answer ≡ Offline entry → (w.maps.items ≡ []) × (w.attempts.items ≡ [])
  pub mapped : (freed : ℕ) → w.answer ≡ Walked freed → w.group ≢ 0 → (units_seen w ≡ units_of s.ids) × (ids_tried w ≡ ids_seen w)
  pub root : w.group ≡ 0 → (w.maps.items ≡ []) × (is_cut w.answer ≡ false → ids_tried w ≡ range_with_len 0 s.ids)
  pub memory : (is_cut w.answer ≡ true → IsBegun s w)
      × ((k : ℕ) (a : Attempt) (p : PassRecord) → slice_get w.attempts.items k ≡ Some a → pass_of a.outcome ≡ Some p → p.ending ≡ ending.NoRoom → IsLastOfCut w k)
  pub placed : EachAttempt w (λ a. IsPlaced w.group a.outcome)
  pub freed : freed_told w.answer ≡ freed_of w
  pub well : IsWalkWell w

-- the walk with this number among its worker's, which is below those of isolations
pub record DidWalk (s : Script) (x : Step) (n : ℕ) (w : WalkRecord) : Type 0 where
  pub low : n < first_isolation
  pub by : w.by ≡ x.by
  pub node : w.node < s.nodes
  pub group : w.group < length (parents_of s)
  pub record_is : IsRecord s w
  pub attempts : EachAttempt w (DidAttempt s x n w)
  -- a walk that found its group offline loaded the group's word
  pub word : (entry : ℕ) → w.answer ≡ Offline entry → IsAmong (record { group = w.group; state = state.Offline entry }) x.work.words
  -- of a group below the root that the worker knew to be offline before the command it was one that did
  pub online : 0 < w.group → ((entry : ℕ) → w.answer ≡ Offline entry → ⊥) → KnowsOnline x.before.tree w.group

-- the counts, the maps and the cleared bits that the record of a walk tells of
abbrev pub counted_in : WalkRecord → List Counted
counted_in w = flat_map (λ (a : Attempt). map (λ (c : Count). record { place = place_number (place_in w a.id); len = c.len; version = c.version }) (counts_of a.outcome)) w.attempts.items

-- the maps that it tells of
abbrev pub mapped_in : WalkRecord → List (ℕ × ℕ)
mapped_in w = map (λ (m : MapSeen). (map_number w.node w.group m.unit, m.bits)) w.maps.items

-- the places whose bits it tells to be cleared
abbrev pub cleared_by_walk : WalkRecord → List ℕ
cleared_by_walk w = map place_number (clearings_of w)

-- the places whose bits it tells to be set again
abbrev pub set_by_walk : WalkRecord → List ℕ
set_by_walk w = map place_number (map (λ (a : Attempt). place_in w a.id) (filter (λ (a : Attempt). is_setting a.outcome) w.attempts.items))

-- a map with its number, without the places that were set
abbrev pub map_word : Mapped → ℕ × ℕ
map_word m = (m.map, m.bits)

-- the rounds of a `put` were over these groups, by its own operations
pub record DidRounds (s : Script) (x : Step) (group : ℕ) (rounds : List ℕ) : Type 0 where
  pub few : length rounds ≤ 13
  pub above : AllByRecursion (λ h. IsAtOrAbove (parents_of s) h group) rounds
  pub refusals : (h : ℕ) → count_by (λ g. g == h) rounds + over_at h x.answered.reply ≡ count_by (is_refused (limit_of s h)) (ops_at h x.work.ops)
  pub all : (g operation usage : ℕ) → x.answered.reply ≡ reply.Over g operation usage → length rounds ≡ 13
  -- and its ups in each group are those of the tries that came so far up
  pub tried : (h : ℕ) → map (is_refused (limit_of s h)) (filter (λ (o : UseStep). o.up) (ops_at h x.work.ops)) ≡ outcomes_in (parents_of s) group (refusals_of rounds x.answered.reply) (was_charged (is_some x.answered.found) x.answered.reply) h

-- only a `put` makes rounds
abbrev pub DidRoundsOf : Script → Step → List ℕ → Command → Type 0
DidRoundsOf s x rounds (Put at key value) = DidRounds s x at.group rounds
DidRoundsOf s x rounds c = rounds ≡ []

-- the walks are those of a command, and its answer is theirs
pub record DidJobs (s : Script) (x : Step) (c : Command) : Type 0 where
  pub rounds : List ℕ
  pub refused : DidRoundsOf s x rounds c
  pub made : MayMake x.answered.reply (jobs_of (parents_of s) s.nodes rounds c) (map job_of x.work.walks)
  pub told : IsToldBy s x.work.walks c x.answered.reply
  -- only the last of them ended for want of memory, and then so did the command
  pub cut : AllPairs (λ (v w : WalkRecord). is_cut v.answer ≡ false) x.work.walks
  pub cut_told : list_any (λ (w : WalkRecord). is_cut w.answer) x.work.walks ≡ true → IsWant x.answered.reply

-- the walks are those of a helper of the script's sweep, and its answer is theirs
pub record DidSweep (s : Script) (x : Step) : Type 0 where
  pub sweep : Sweep
  pub asked : s.sweep ≡ Some sweep
  pub swept : IsSwept s sweep x.work.walks x.answered

-- the walks are those that a step was asked for
abbrev pub AreWalksFor : Script → Step → Option Command → Type 0
AreWalksFor s x (Some c) = DidJobs s x c
AreWalksFor s x None = DidSweep s x

-- the walks that a step made
pub record DidWalks (s : Script) (x : Step) : Type 0 where
  pub each : (i : ℕ) (w : WalkRecord) → slice_get x.work.walks i ≡ Some w → DidWalk s x (length x.before.walks + i) w
  -- the walks are those of the command or of the sweep, and the answer is theirs
  pub asked : AreWalksFor s x x.command
  -- the counts, the maps and the cleared bits are those of the walks, in order
  pub seen : flat_map counted_in x.work.walks ≡ x.work.core.seen
  pub maps : flat_map mapped_in x.work.walks ≡ map map_word x.work.core.maps
  pub cleared : flat_map cleared_by_walk x.work.walks ≡ x.work.core.cleared
  -- no count is older than what the worker had counted and made at its place
  pub fresh : AreFresh x.before.core x.work.core.seen
  -- each map stands with all bits that the worker had set
  pub set : Each (λ (m : Mapped). Begins x.before.core.marks.sets m.set) x.work.core.maps
