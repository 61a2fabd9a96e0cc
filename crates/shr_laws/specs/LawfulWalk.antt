-- SPDX-License-Identifier: GPL-2.0-only
-- A lawful walk, with its record.
use Rattle.std.specs.Prelude.{◌≡◌, ◌≢◌, ℕ, ◌+◌, ◌-◌, ◌<◌, ◌≤◌, ◌↔◌, true, false, List, [], ◌∷◌, ◌++◌, length, map, take, sum_by, flat_map, slice_get, Option, Some, option_and_then, ⊤}
use Rattle.std.specs.List.{AllByRecursion, range_with_len}
use Rattle.std.specs.Option.{IsSomeAnd}
use Rattle.shr_base.specs.declared.places.Place.{Place}
use Rattle.shr_base.specs.declared.scripts.CacheDecl.{CacheDecl}
use Rattle.shr_base.specs.declared.scripts.Script.{Script}
use Rattle.shr_base.specs.declared.walks.Ending.TheVariants as ending
use Rattle.shr_base.specs.declared.walks.PassRecord.{PassRecord}
use Rattle.shr_base.specs.declared.walks.GoneThen.TheVariants as gone
use Rattle.shr_base.specs.declared.walks.Outcome.{Outcome}
use Rattle.shr_base.specs.declared.walks.Outcome.TheVariants as outcome
use Rattle.shr_base.specs.Walks.{Attempt, WalkRecord}
use Rattle.shr_base.specs.declared.walks.MapSeen.{MapSeen}
use Rattle.shr_base.specs.declared.walks.WalkAnswer.TheVariants.{Walked, Offline}
use Rattle.shr_model.specs.Bits.{ids_in, units_of}
use Rattle.shr_model.specs.Attempts.{Count, number_of, is_held, pass_of, counts_of}
use Rattle.shr_model.specs.Walks.{place_in, units_seen, ids_seen, ids_tried, freed_of, is_cut, freed_told}
use Rattle.shr_model.specs.Pass.{batch_of, total_of, due_asks, FollowsArithmetic}
use Rattle.shr_model.specs.Pool.{attempt_at}
use Rattle.shr_model.specs.Prefixes.{IsPrefixOf}
use Rattle.shr_model.specs.Scans.{ScanMade, scans_by}
use Rattle.shr_laws.specs.declared.report.Report.{Report}
use Rattle.shr_laws.specs.Parts.{journals_of, items_before, lookups_at, EachAttempt}

-- the cache in whose registration the number of a lookup of this id lies
abbrev pub cache_met : Script → Report → ℕ → ℕ → Option CacheDecl
cache_met s r id number = option_and_then (slice_get s.caches.items) (attempt_at id number (lookups_at r id) r.pool.items)

-- the cache of a held attempt
abbrev pub cache_of : Script → Report → Attempt → Option CacheDecl
cache_of s r a = option_and_then (cache_met s r a.id) (number_of a.outcome)

-- P of each pass of a walk, with its place and cache
abbrev pub EachPass : Script → Report → WalkRecord → (Place → CacheDecl → PassRecord → Type 0) → Type 0
EachPass s r w P = EachAttempt w (λ a. (d : CacheDecl) (p : PassRecord) → cache_of s r a ≡ Some d → pass_of a.outcome ≡ Some p → P (place_in w a.id) d p)

-- The maps and the attempts are the first of those that the walk was to make: it loads the units in
-- rising order, and tries the ids of one before it loads the next. The root has no units, and tries
-- each id.
pub record IsBegun (s : Script) (w : WalkRecord) : Type 0 where
  pub units : IsPrefixOf (units_seen w) (units_of s.ids)
  pub ids : w.group ≢ 0 → IsPrefixOf (ids_tried w) (ids_seen w)
  pub tried : (before : List MapSeen) (last : MapSeen) → w.maps.items ≡ before ++ last ∷ []
      → length (flat_map (λ (m : MapSeen). ids_in m.unit m.bits) before) ≤ length w.attempts.items
  pub root : w.group ≡ 0 → IsPrefixOf (ids_tried w) (range_with_len 0 s.ids)

-- a count of a place is right: that many items were there after that many entries
pub record IsCountRight (s : Script) (r : Report) (place : Place) (c : Count) : Type 0 where
  pub there : c.version ≤ length (journals_of r place)
  pub len : c.len ≡ length (items_before s r place c.version)

-- a list of this length is skipped by a cache
abbrev pub IsSkipped : CacheDecl → ℕ → Type 0
IsSkipped d len = (0 < len) × (len ≤ d.floor)

-- a pass of a cache began above its floor, and follows the arithmetic
abbrev pub IsPassOf : ℕ → CacheDecl → PassRecord → Type 0
IsPassOf priority d p = (d.floor < p.len) × FollowsArithmetic priority d.seeks d.batch p

-- a held attempt has an outcome of its cache
abbrev pub IsOutcomeOf : ℕ → CacheDecl → Outcome → Type 0
IsOutcomeOf priority d (outcome.Skip number len version) = IsSkipped d len
IsOutcomeOf priority d (outcome.Ran number pass) = IsPassOf priority d pass
IsOutcomeOf priority d (outcome.RestoredSkip number first len version) = IsSkipped d len
IsOutcomeOf priority d (outcome.RestoredRan number first pass) = IsPassOf priority d pass
IsOutcomeOf priority d o = ⊤

-- an outcome may stand in a walk of this group, and its second count isn't older than its first
abbrev pub IsPlaced : ℕ → Outcome → Type 0
IsPlaced group (outcome.Worn seen) = ⊤
IsPlaced group (outcome.Gone number gone.Root) = group ≡ 0
IsPlaced group (outcome.Gone number gone.Set) = group ≢ 0
IsPlaced group (outcome.Gone number gone.Clear) = group ≢ 0
IsPlaced group (outcome.Skip number len version) = ⊤
IsPlaced group (outcome.Ran number pass) = ⊤
IsPlaced group (outcome.Empty number version) = group ≡ 0
IsPlaced group (outcome.Cleared number first second) = (group ≢ 0) × (first ≤ second)
IsPlaced group (outcome.RestoredSkip number first len version) = (group ≢ 0) × (first ≤ version)
IsPlaced group (outcome.RestoredRan number first pass) = (group ≢ 0) × (first ≤ pass.version)

-- the asks that are due in a pass of a cache
abbrev pub cache_asks_due : ℕ → CacheDecl → PassRecord → List ℕ
cache_asks_due priority d p = due_asks (batch_of d.batch) p.len (total_of p.len p.nr priority d.seeks)

-- the Scan entries of a pass: the first of its asks, those that found the list closed left out
pub record AreScansOf (priority : ℕ) (d : CacheDecl) (p : PassRecord) (scans : List ScanMade) : Type 0 where
  pub asked : map (λ x. x.asked) scans ≡ take (p.asks - p.closed) (cache_asks_due priority d p)
  pub number : length scans ≡ p.asks - p.closed
  pub policy : AllByRecursion (λ (x : ScanMade). x.policy ≡ d.policy) scans
  pub freed : sum_by (λ (x : ScanMade). x.freed) scans ≡ p.freed
  pub later : AllByRecursion (λ (x : ScanMade). p.version ≤ x.number) scans

-- a pass ended by Stop if and only if an ask was due and the cache's scans can't make progress in
-- this walk; then it asked for none
pub record IsStopped (w : WalkRecord) (d : CacheDecl) (p : PassRecord) : Type 0 where
  pub exactly : (p.ending ≡ ending.Stop) ↔ ((d.fs ≡ true) × (w.nofs ≡ true) × (0 < length (cache_asks_due w.priority d p)))
  pub none : p.ending ≡ ending.Stop → p.asks ≡ 0

-- a pass that ended for want of room is the last attempt of a walk that ended for want of memory
pub record IsLastOfCut (w : WalkRecord) (k : ℕ) : Type 0 where
  pub cut : is_cut w.answer ≡ true
  pub last : length w.attempts.items ≡ k + 1

-- The walk with this number of a worker is lawful.
pub record IsLawfulWalk (s : Script) (r : Report) (worker n : ℕ) (w : WalkRecord) : Type 0 where
  -- an offline walk has no map and no attempt
  pub offline : (entry : ℕ) → w.answer ≡ Offline entry → (w.maps.items ≡ []) × (w.attempts.items ≡ [])
  -- any other walk below the root has one map per unit, and one attempt for each set bit, in rising
  -- order
  pub mapped : (freed : ℕ) → w.answer ≡ Walked freed → w.group ≢ 0 → (units_seen w ≡ units_of s.ids) × (ids_tried w ≡ ids_seen w)
  -- a walk of the root has no map, and one attempt for each id
  pub root : w.group ≡ 0 → (w.maps.items ≡ []) × (is_cut w.answer ≡ false → ids_tried w ≡ range_with_len 0 s.ids)
  -- a walk that ended for want of memory has the first of these, and such a pass is the last of
  -- such a walk
  pub memory : (is_cut w.answer ≡ true → IsBegun s w)
      × ((k : ℕ) (a : Attempt) (p : PassRecord) → slice_get w.attempts.items k ≡ Some a → pass_of a.outcome ≡ Some p → p.ending ≡ ending.NoRoom → IsLastOfCut w k)
  -- each count is the number of the items that were there
  pub counts : EachAttempt w (λ a. AllByRecursion (IsCountRight s r (place_in w a.id)) (counts_of a.outcome))
  -- a held attempt has the declaration of its registration; it skips up to its floor, and passes
  -- above it by the arithmetic
  pub kinds : EachAttempt w (λ a. is_held a.outcome ≡ true → IsSomeAnd (cache_of s r a) (λ d. IsOutcomeOf w.priority d a.outcome))
  -- each outcome is one of the root, or one of the other groups
  pub placed : EachAttempt w (λ a. IsPlaced w.group a.outcome)
  -- the walk's Scan entries at a place are those of its one pass there
  pub scans : EachPass s r w (λ place d p. AreScansOf w.priority d p (scans_by worker n (journals_of r place)))
  -- a pass stops if and only if an ask was due and this walk can't scan its cache; then it made
  -- none
  pub stops : EachPass s r w (λ place d p. IsStopped w d p)
  -- what the answer says was freed is what the passes freed
  pub freed : freed_told w.answer ≡ freed_of w
