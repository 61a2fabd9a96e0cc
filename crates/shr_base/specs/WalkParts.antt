-- SPDX-License-Identifier: GPL-2.0-only
-- A walk's record and its answer of their parts.
use Rattle.std.specs.Prelude.{ℕ, List, ◌<◌, ◌^◌}
use Rattle.shr_base.specs.KeptLists.{kept}
use Rattle.shr_base.specs.declared.walks.MapSeen.{MapSeen}
use Rattle.shr_base.specs.declared.walks.WalkAsked.{WalkAsked}
use Rattle.shr_base.specs.declared.walks.WalkAnswer.{WalkAnswer}
use Rattle.shr_base.specs.declared.walks.WalkAnswer.TheVariants as answer
use Rattle.shr_base.specs.declared.walks.End.{End}
use Rattle.shr_base.specs.declared.walks.End.TheVariants as end
use Rattle.shr_base.specs.Walks.{Attempt, WalkRecord}

-- the record of a walk that was asked this, loaded these bit words, made these attempts and was given this answer
abbrev pub walk_record : WalkAsked → List MapSeen → List Attempt → WalkAnswer → WalkRecord
walk_record asked maps attempts answer = record {
  by = asked.by;
  group = asked.group;
  node = asked.node;
  priority = asked.priority;
  nofs = asked.nofs;
  maps = kept maps;
  attempts = kept attempts;
  answer = answer;
}

-- the answer, of its two parts
abbrev pub answer_in : End → ℕ → WalkAnswer
answer_in end.Walked told = answer.Walked told
answer_in end.Offline told = answer.Offline told
answer_in end.Memory told = answer.Memory told

-- the number of an entry has 32 bits
abbrev pub IsToldWithin : End → ℕ → Type 0
IsToldWithin end.Walked told = Unit {0}
IsToldWithin end.Offline told = told < 2 ^ 32
IsToldWithin end.Memory told = Unit {0}
