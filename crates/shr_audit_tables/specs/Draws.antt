-- SPDX-License-Identifier: GPL-2.0-only
-- The numbers of lookups as they were drawn, each by one number with its id.
use Rattle.std.specs.Prelude.{◌≡◌, ℕ, ◌+◌, ◌*◌, ◌<◌, ◌^◌, ◌==◌, nat_lt, cond, List, [], ◌∷◌, ◌++◌, map, flat_map, count_by, slice_index, Option, Some, None}
use Rattle.std.specs.List.{range_with_len}
use Rattle.shr_base.specs.declared.replies.Found.{Found}
use Rattle.shr_base.specs.declared.replies.Answered.{Answered}
use Rattle.shr_base.specs.Walks.{Attempt, WalkRecord}
use Rattle.shr_base.specs.declared.ends.WorkerPart.{WorkerPart}
use Rattle.shr_model.specs.Attempts.{number_of}
use Rattle.shr_laws.specs.declared.report.Report.{Report}
use Rattle.shr_laws.specs.Lookups.{found_numbers, tried_numbers}
use Rattle.shr_laws.specs.Parts.{lookups_at}
use Rattle.shr_audit_case.specs.declared.moves.Move.{Move}

-- a lookup of an id, by one number
abbrev pub draw_key : ℕ → ℕ → ℕ
draw_key id number = 4294967296 * id + number

-- the lookup that found a cache
abbrev pub found_draws : Option Found → List ℕ
found_draws None = []
found_draws (Some f) = draw_key f.id f.number ∷ []

-- that of an answer, if it found one
abbrev pub answer_draws : Answered → List ℕ
answer_draws a = found_draws a.found

-- the lookup of an id with this number, if there was one
abbrev pub tried_draws : ℕ → Option ℕ → List ℕ
tried_draws id None = []
tried_draws id (Some number) = draw_key id number ∷ []

-- that of an attempt
abbrev pub attempt_draws : Attempt → List ℕ
attempt_draws a = tried_draws a.id (number_of a.outcome)

-- those of a walk, and of a worker
abbrev pub walk_draws : WalkRecord → List ℕ
walk_draws w = flat_map attempt_draws w.attempts.items

-- the same of a worker
abbrev pub part_draws : WorkerPart → List ℕ
part_draws part = flat_map answer_draws part.answers.items ++ flat_map walk_draws part.walks.items

-- a lookup that was drawn goes up by one
abbrev pub drawn_move : ℕ → Move
drawn_move key = record { key = key; up = 1; down = 0 }

-- one that is wanted goes down by one
abbrev pub wanted_move : ℕ → Move
wanted_move key = record { key = key; up = 0; down = 1 }

-- the lookups that are wanted: of each id, the first of which has this number, those up to its lookups
abbrev pub wanted_from : ℕ → List ℕ → List Move
wanted_from id [] = []
wanted_from id (count ∷ counts) = map (λ n. wanted_move (draw_key id n)) (range_with_len 0 count) ++ wanted_from (id + 1) counts

-- these draw each number of an id below its lookups once, and no other
abbrev pub AreDrawnOnce : List ℕ → List ℕ → Type 0
AreDrawnOnce keys lookups = (id number : ℕ) → number < 2 ^ 32 → count_by (λ k. k == draw_key id number) keys ≡ cond (nat_lt number (slice_index lookups id)) 1 0

-- the numbers of an id are those from 0 up to its lookups, each once
abbrev pub IsDrawn : Report → Type 0
IsDrawn r = (id number : ℕ) → count_by (λ n. n == number) (found_numbers r id ++ tried_numbers r id) ≡ cond (nat_lt number (lookups_at r id)) 1 0
