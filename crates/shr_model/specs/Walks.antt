-- SPDX-License-Identifier: GPL-2.0-only
-- What the record of a walk says: what it is of, and its attempts by place.
use Rattle.std.specs.Prelude.{ℕ, Bool, true, false, List, map, filter, filter_map, flat_map, sum_by}
use Rattle.shr_base.specs.declared.places.Place.{Place}
use Rattle.shr_base.specs.declared.walks.PassRecord.{PassRecord}
use Rattle.shr_base.specs.Walks.{Attempt, WalkRecord}
use Rattle.shr_base.specs.declared.walks.WalkAnswer.{WalkAnswer}
use Rattle.shr_base.specs.declared.walks.WalkAnswer.TheVariants.{Walked, Offline, Memory}
use Rattle.shr_model.specs.Places.{is_place}
use Rattle.shr_model.specs.Bits.{ids_in}
use Rattle.shr_model.specs.Attempts.{pass_of, counts_of, is_clearing}

-- what a walk is of
pub record Job : Type 0 where
  pub group : ℕ
  pub node : ℕ
  pub priority : ℕ
  pub nofs : Bool

-- the walk over a group on a node, with a priority, and without `fs` where `nofs` is so
abbrev pub job : ℕ → ℕ → ℕ → Bool → Job
job group node priority nofs = record { group = group; node = node; priority = priority; nofs = nofs }

-- what a recorded walk was of
abbrev pub job_of : WalkRecord → Job
job_of w = job w.group w.node w.priority w.nofs

-- the place of an id on the walk's node and in its group
abbrev pub place_in : WalkRecord → ℕ → Place
place_in w id = record { id = id; node = w.node; group = w.group }

-- the units whose words were loaded, and the ids of the set bits of these words, each in order
abbrev pub units_seen : WalkRecord → List ℕ
units_seen w = map (λ m. m.unit) w.maps.items

-- the same for the ids of the bits set in these words
abbrev pub ids_seen : WalkRecord → List ℕ
ids_seen w = flat_map (λ m. ids_in m.unit m.bits) w.maps.items

-- the ids that were tried, in order
abbrev pub ids_tried : WalkRecord → List ℕ
ids_tried w = map (λ a. a.id) w.attempts.items

-- the attempts at a place
abbrev pub attempts_at : Place → WalkRecord → List Attempt
attempts_at place w = filter (λ (a : Attempt). is_place place (place_in w a.id)) w.attempts.items

-- the passes, and those at a place
abbrev pub passes_of : WalkRecord → List PassRecord
passes_of w = filter_map (λ (a : Attempt). pass_of a.outcome) w.attempts.items

-- the same for those at one place
abbrev pub passes_at : Place → WalkRecord → List PassRecord
passes_at place w = filter_map (λ (a : Attempt). pass_of a.outcome) (attempts_at place w)

-- the versions of the counts at a place, in order
abbrev pub versions_at : Place → WalkRecord → List ℕ
versions_at place w = flat_map (λ (a : Attempt). map (λ c. c.version) (counts_of a.outcome)) (attempts_at place w)

-- the places whose bits the walk cleared, in order
abbrev pub clearings_of : WalkRecord → List Place
clearings_of w = map (λ (a : Attempt). place_in w a.id) (filter (λ (a : Attempt). is_clearing a.outcome) w.attempts.items)

-- how many objects the walk's passes freed
abbrev pub freed_of : WalkRecord → ℕ
freed_of w = sum_by (λ (p : PassRecord). p.freed) (passes_of w)

-- the walk ended for want of memory
abbrev pub is_cut : WalkAnswer → Bool
is_cut (Memory freed) = true
is_cut a = false

-- how many objects the answer says were freed
abbrev pub freed_told : WalkAnswer → ℕ
freed_told (Walked freed) = freed
freed_told (Offline entry) = 0
freed_told (Memory freed) = freed
