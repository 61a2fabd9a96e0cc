-- SPDX-License-Identifier: GPL-2.0-only
-- The parts of a lawful walk, each as it is tested.
use Rattle.std.specs.Prelude.{◌≡◌, ◌≢◌, ℕ, ◌≤◌, true, false, List, [], ◌∷◌, ◌++◌, length, flat_map, Option, Some, None, slice_get}
use Rattle.std.specs.List.{range_with_len}
use Rattle.shr_base.specs.declared.scripts.Script.{Script}
use Rattle.shr_base.specs.Walks.{Attempt, WalkRecord}
use Rattle.shr_base.specs.declared.walks.MapSeen.{MapSeen}
use Rattle.shr_base.specs.declared.walks.PassRecord.{PassRecord}
use Rattle.shr_base.specs.declared.walks.Ending.TheVariants as ending
use Rattle.shr_base.specs.declared.walks.WalkAnswer.TheVariants.{Walked, Offline}
use Rattle.shr_model.specs.Attempts.{pass_of}
use Rattle.shr_model.specs.Bits.{units_of, ids_in}
use Rattle.shr_model.specs.Walks.{units_seen, ids_seen, ids_tried, is_cut, freed_of, freed_told}
use Rattle.shr_model.specs.Prefixes.{IsPrefixOf}
use Rattle.shr_laws.specs.LawfulWalk.{IsBegun, IsLastOfCut, IsPlaced}
use Rattle.shr_audit_formed.specs.Each.{EachItem}

-- a walk that found its group offline has no map and no attempt
abbrev pub IsBareOffline : WalkRecord → Type 0
IsBareOffline w = (entry : ℕ) → w.answer ≡ Offline entry → (w.maps.items ≡ []) × (w.attempts.items ≡ [])

-- it has a map for each unit, and an attempt for each set bit
abbrev pub IsWalkWhole : ℕ → WalkRecord → Type 0
IsWalkWhole ids w = (units_seen w ≡ units_of ids) × (ids_tried w ≡ ids_seen w)

-- so has one below the root that went through
abbrev pub IsWalkMapped : ℕ → WalkRecord → Type 0
IsWalkMapped ids w = (freed : ℕ) → w.answer ≡ Walked freed → w.group ≢ 0 → IsWalkWhole ids w

-- one of the root has no map, and unless it was cut an attempt for each id
abbrev pub IsOfRoot : ℕ → WalkRecord → Type 0
IsOfRoot ids w = w.group ≡ 0 → (w.maps.items ≡ []) × (is_cut w.answer ≡ false → ids_tried w ≡ range_with_len 0 ids)

-- one that was cut has the first of these
abbrev pub IsCutBegun : Script → WalkRecord → Type 0
IsCutBegun s w = is_cut w.answer ≡ true → IsBegun s w

-- the ids of the words that were loaded before the last one are as many as attempts, or fewer
abbrev pub AreTried : List MapSeen → ℕ → Type 0
AreTried maps attempts = (before : List MapSeen) (last : MapSeen) → maps ≡ before ++ last ∷ []
    → length (flat_map (λ (m : MapSeen). ids_in m.unit m.bits) before) ≤ attempts

-- the attempts are at the first of the ids that the walk was to try
abbrev pub AreFirstTries : ℕ → WalkRecord → Type 0
AreFirstTries ids w = (w.group ≢ 0 → IsPrefixOf (ids_tried w) (ids_seen w)) × (w.group ≡ 0 → IsPrefixOf (ids_tried w) (range_with_len 0 ids))

-- if this attempt's pass ended for want of room, it is the last of a walk that was cut
abbrev pub IsRoomAt : WalkRecord → ℕ → Attempt → Type 0
IsRoomAt w k a = (p : PassRecord) → pass_of a.outcome ≡ Some p → p.ending ≡ ending.NoRoom → IsLastOfCut w k

-- so it is with each
abbrev pub IsRoomLast : WalkRecord → Type 0
IsRoomLast w = (k : ℕ) (a : Attempt) → slice_get w.attempts.items k ≡ Some a → IsRoomAt w k a

-- what a pass freed, nothing where none ran
abbrev pub pass_freed : Option PassRecord → ℕ
pass_freed None = 0
pass_freed (Some p) = p.freed

-- what the pass of an attempt freed
abbrev pub attempt_freed : Attempt → ℕ
attempt_freed a = pass_freed (pass_of a.outcome)

-- what a walk shows by itself, and against the number of ids of its script, is as in a lawful one
pub record IsShaped (s : Script) (w : WalkRecord) : Type 0 where
  pub offline : IsBareOffline w
  pub mapped : IsWalkMapped s.ids w
  pub root : IsOfRoot s.ids w
  pub begun : IsCutBegun s w
  pub room : IsRoomLast w
  pub placed : EachItem (λ (a : Attempt). IsPlaced w.group a.outcome) w.attempts.items
  pub freed : freed_told w.answer ≡ freed_of w
