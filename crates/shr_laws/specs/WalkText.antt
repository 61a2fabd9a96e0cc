-- SPDX-License-Identifier: GPL-2.0-only
-- The lines of walks, of walks of the pools, of carries and of isolations.
use Rattle.std.specs.Prelude.{ℕ, ◌==◌, Bool, List, [], ◌∷◌, ◌++◌, flat_map, take_while, drop, codes}
use Rattle.std.specs.List.{prefix_len}
use Rattle.shr_model.specs.Places.{unit_of}
use Rattle.shr_base.specs.declared.walks.Ending.{Ending}
use Rattle.shr_base.specs.declared.walks.Ending.TheVariants as ending
use Rattle.shr_base.specs.declared.walks.PassRecord.{PassRecord}
use Rattle.shr_base.specs.declared.walks.GoneThen.{GoneThen}
use Rattle.shr_base.specs.declared.walks.GoneThen.TheVariants as gone
use Rattle.shr_base.specs.declared.walks.Outcome.{Outcome}
use Rattle.shr_base.specs.declared.walks.Outcome.TheVariants as outcome
use Rattle.shr_base.specs.Walks.{Attempt, WalkRecord}
use Rattle.shr_base.specs.declared.walks.MapSeen.{MapSeen}
use Rattle.shr_base.specs.declared.walks.WalkAnswer.{WalkAnswer}
use Rattle.shr_base.specs.declared.walks.WalkAnswer.TheVariants as answer
use Rattle.shr_base.specs.declared.walks.Carry.{Carry}
use Rattle.shr_base.specs.declared.walks.PlainTry.{PlainTry}
use Rattle.shr_base.specs.declared.walks.PlainTry.TheVariants.{Empty, Skip, Ran}
use Rattle.shr_base.specs.declared.walks.PlainAnswer.{PlainAnswer}
use Rattle.shr_base.specs.declared.walks.PlainAnswer.TheVariants.{Walked, Memory}
use Rattle.shr_base.specs.declared.walks.PlainWalk.{PlainWalk}
use Rattle.shr_base.specs.declared.walks.Isolation.{Isolation}
use Rattle.shr_laws.specs.Lines.{line, numbered, numeral, hex}
use Rattle.shr_laws.specs.AnswerText.{choice, spent_words, isolate_end_words}

-- how a pass ended
abbrev pub ending_words : Ending → List (List ℕ)
ending_words ending.Through = codes "through" ∷ []
ending_words ending.Stop = codes "stop" ∷ []
ending_words ending.NoRoom = codes "noroom" ∷ []
ending_words (ending.Worn s) = codes "worn" ∷ spent_words s

-- a pass
abbrev pub pass_words : PassRecord → List (List ℕ)
pass_words p = numeral p.len ∷ numeral p.version ∷ numeral p.nr ∷ numeral p.asks ∷ numeral p.closed ∷ numeral p.scanned ∷ numeral p.freed ∷ numeral p.next ∷ ending_words p.ending

-- what was done about the bit of an id that was gone
abbrev pub gone_word : GoneThen → List ℕ
gone_word gone.Set = codes "set"
gone_word gone.Clear = codes "clear"
gone_word gone.Root = codes "root"

-- what an attempt came to
abbrev pub outcome_words : Outcome → List (List ℕ)
outcome_words (outcome.Worn seen) = codes "worn" ∷ numeral seen ∷ []
outcome_words (outcome.Gone number what) = numeral number ∷ codes "gone" ∷ gone_word what ∷ []
outcome_words (outcome.Skip number len version) = numeral number ∷ codes "held" ∷ codes "skip" ∷ numeral len ∷ numeral version ∷ []
outcome_words (outcome.Ran number pass) = numeral number ∷ codes "held" ∷ codes "ran" ∷ pass_words pass
outcome_words (outcome.Empty number version) = numeral number ∷ codes "held" ∷ codes "empty" ∷ numeral version ∷ []
outcome_words (outcome.Cleared number first second) = numeral number ∷ codes "held" ∷ codes "cleared" ∷ numeral first ∷ numeral second ∷ []
outcome_words (outcome.RestoredSkip number first len version) = numeral number ∷ codes "held" ∷ codes "restored" ∷ numeral first ∷ codes "skip" ∷ numeral len ∷ numeral version ∷ []
outcome_words (outcome.RestoredRan number first pass) = numeral number ∷ codes "held" ∷ codes "restored" ∷ numeral first ∷ codes "ran" ∷ pass_words pass

-- an attempt of a walk
abbrev pub attempt_line : Attempt → List ℕ
attempt_line a = line (codes "try") (numeral a.id ∷ outcome_words a.outcome)

-- a loaded unit with its bits
abbrev pub map_line : MapSeen → List ℕ
map_line m = line (codes "map") (numeral m.unit ∷ hex m.bits ∷ [])

-- an attempt is at an id of a unit
abbrev pub is_in_unit : ℕ → Attempt → Bool
is_in_unit unit a = unit_of a.id == unit

-- each loaded unit with the attempts of that unit, which stand next
unfoldable pub map_lines : List MapSeen → List Attempt → List ℕ
map_lines [] attempts = flat_map attempt_line attempts
map_lines (m ∷ ms) attempts = map_line m ++ flat_map attempt_line (take_while (is_in_unit m.unit) attempts)
    ++ map_lines ms (drop (prefix_len (is_in_unit m.unit) attempts) attempts)

-- what a walk was answered
abbrev pub walked_words : WalkAnswer → List (List ℕ)
walked_words (answer.Walked freed) = codes "ran" ∷ numeral freed ∷ []
walked_words (answer.Offline entry) = codes "offline" ∷ numeral entry ∷ []
walked_words (answer.Memory freed) = codes "memory" ∷ numeral freed ∷ []

-- a walk, by its number within its worker
abbrev pub walk_lines : ℕ → WalkRecord → List ℕ
walk_lines n w = line (codes "walk") (numeral n ∷ numeral w.group ∷ numeral w.node ∷ numeral w.priority ∷ choice w.nofs (codes "nofs") (codes "fs") ∷ walked_words w.answer)
    ++ map_lines w.maps.items w.attempts.items

-- a carry, by its place and amount
abbrev pub carry_line : Carry → List ℕ
carry_line c = line (codes "carry") (numeral c.place.id ∷ numeral c.place.node ∷ numeral c.place.group ∷ numeral c.amount ∷ [])

-- what a walk of the pools was answered
abbrev pub plain_walked_words : PlainAnswer → List (List ℕ)
plain_walked_words (Walked freed) = codes "ran" ∷ numeral freed ∷ []
plain_walked_words (Memory freed) = codes "memory" ∷ numeral freed ∷ []

-- what a walk of the pools came to at one pool
abbrev pub plain_try_words : PlainTry → List (List ℕ)
plain_try_words (Empty version) = codes "empty" ∷ numeral version ∷ []
plain_try_words (Skip len version) = codes "skip" ∷ numeral len ∷ numeral version ∷ []
plain_try_words (Ran pass) = codes "ran" ∷ pass_words pass

-- the same, by the number of the pool
abbrev pub pass_line : ℕ → PlainTry → List ℕ
pass_line n x = line (codes "pass") (numeral n ∷ plain_try_words x)

-- a walk of the pools, by its number within its worker
abbrev pub plain_lines : ℕ → PlainWalk → List ℕ
plain_lines n w = line (codes "plain") (numeral n ∷ numeral w.node ∷ numeral w.priority ∷ plain_walked_words w.answer) ++ numbered pass_line 0 w.tries.items

-- an isolation, by its place
abbrev pub isolation_line : Isolation → List ℕ
isolation_line i = line (codes "isolation") (numeral i.place.id ∷ numeral i.place.node ∷ numeral i.place.group ∷ numeral i.budget ∷ numeral i.visits ∷ numeral i.freed ∷ isolate_end_words i.ending)
