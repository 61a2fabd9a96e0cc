-- SPDX-License-Identifier: GPL-2.0-only
-- A run, in plain data: a report, the steps of its workers, and what was left of the tables.
use Rattle.std.specs.Prelude.{◌≡◌, ℕ, ◌+◌, ◌*◌, ◌/◌, ◌%◌, ◌<◌, ◌≤◌, ◌&&◌, nat_lt, nat_le, true, cond, List, [], ◌∷◌, length, drop, map, flat_map, codes, slice_get, Some, option_and_then, All, IsPermutation}
use Rattle.std.specs.List.{AllByRecursion}
use Rattle.shr_base.specs.declared.places.Place.{Place}
use Rattle.shr_base.specs.declared.ends.MapEnd.{MapEnd}
use Rattle.shr_base.specs.declared.ends.PlaceAmount.{PlaceAmount}
use Rattle.shr_base.specs.declared.ends.PlaceEnd.{PlaceEnd}
use Rattle.shr_base.specs.declared.journals.PoolEntry.TheVariants.{Registered}
use Rattle.shr_base.specs.declared.journals.UseStep.{UseStep}
use Rattle.shr_base.specs.declared.replies.Found.{Found}
use Rattle.shr_base.specs.declared.scripts.Script.{Script}
use Rattle.shr_model.specs.Bag.{added_in, freed_in, listed_in}
use Rattle.shr_model.specs.Bits.{is_set}
use Rattle.shr_model.specs.Charges.{IsChargeHistory}
use Rattle.shr_model.specs.Commands.{decl_named}
use Rattle.shr_model.specs.Amounts.{sum_at}
use Rattle.shr_model.specs.Deferred.{deferred_word}
use Rattle.shr_model.specs.Families.{IsLegal, IsPaired}
use Rattle.shr_model.specs.Trees.{IsTree, IsHierarchy}
use Rattle.shr_model.specs.PlaceNumbers.{place_number}
use Rattle.shr_model.specs.Places.{unit_of, bit_of}
use Rattle.shr_model.specs.Pool.{phase_of, is_before, end_of, last_number, registrations, decl_at, IsPoolJournal}
use Rattle.shr_model.specs.TreeJournal.{IsTreeJournal}
use Rattle.shr_deferred.specs.Moves.{Move, takes_of, gives_of}
use Rattle.shr_deferred.specs.Rule.{AreTaken, amounts_after}
use Rattle.shr_seats.specs.Lines.{Deed, by_seat, part}
use Rattle.shr_seats.specs.Views.{Each}
use Rattle.shr_seats.specs.Weights.{total, times, Begins}
use Rattle.shr_core.specs.Layout.{place_at, map_number}
use Rattle.shr_core.specs.Parts.{Made, Known, Counted, Mapped, Tried, Loaded, Turn}
use Rattle.shr_core.specs.Rule.{hit, hit_attempt, hit_turn, IsTurn}
use Rattle.shr_charge.specs.Offlining.{IsNamed, IsTreeEntryMade}
use Rattle.shr_charge.specs.Offlining as offlining
use Rattle.shr_charge.specs.Views.{no_tree}
use Rattle.shr_charge.specs.Views as charge
use Rattle.shr_walk.specs.State.{WorkerState}
use Rattle.shr_laws.specs.declared.report.Report.{Report}
use Rattle.shr_laws.specs.Parts.{parents_of, script_hierarchy, decls_on, serial_of, commands_of, sweeps_of, answers_of, walks_of, carries_of, isolations_of, journals_of, places_of, items_before, items_left, uses_at, lookups_at, IsThere}
use Rattle.shr_laws.specs.BitsLawful.{AreBitsLawful}
use Rattle.shr_laws.specs.BitsTold.{bit_place}
use Rattle.shr_laws.specs.Deferred.{printed_at}
use Rattle.shr_laws.specs.WellFormed.{AreNumbersRising}
use Rattle.shr_lawful.specs.UnitSteps.{UnitsStep}
use Rattle.shr_lawful.specs.UnitRuns.{AreUnits}
use Rattle.shr_lawful.specs.Steps.{Step, gathered, steps_of, AreStepsChained}
use Rattle.shr_lawful.specs.Entries.{StandsIn}
use Rattle.shr_lawful.specs.Order.{IsInLine}
use Rattle.shr_lawful.specs.Did.{Did}
use Rattle.shr_lawful.specs.Isolating.{isolated_in, isolated_before, DidIsolations}
use Rattle.shr_lawful.specs.Sweeps.{AreSwept}

-- what the steps of a run have made, in all
abbrev pub all_made : List (List Step) → List Made
all_made workers = gathered (λ x. x.work.core.made) workers

-- the lookups of all steps
abbrev pub all_attempts : List (List Step) → List Tried
all_attempts workers = gathered (λ x. x.work.core.attempts) workers

-- the bits that were cleared
abbrev pub all_cleared : List (List Step) → List ℕ
all_cleared workers = gathered (λ x. x.work.core.cleared) workers

-- those that were set
abbrev pub all_sets : List (List Step) → List ℕ
all_sets workers = gathered (λ x. x.work.core.sets) workers

-- the entries in the journal of registrations
abbrev pub all_turns : List (List Step) → List Turn
all_turns workers = gathered (λ x. x.work.core.turns) workers

-- those in the journal of the tree
abbrev pub all_entries : List (List Step) → List charge.TreeMade
all_entries workers = gathered (λ x. x.work.tree) workers

-- the charges and uncharges
abbrev pub all_ops : List (List Step) → List UseStep
all_ops workers = gathered (λ x. x.work.ops) workers

-- what was taken of the deferred words
abbrev pub all_takes : List (List Step) → List PlaceAmount
all_takes workers = gathered (λ x. takes_of x.work.moves) workers

-- what was given to them
abbrev pub all_gives : List (List Step) → List PlaceAmount
all_gives workers = gathered (λ x. gives_of x.work.moves) workers

-- a worker's state at the start: it has done and seen nothing, but knows the registrations of the caches that are `on`
pub record IsNewWorker (s : Script) (t : WorkerState) : Type 0 where
  pub did : t.core.did ≡ []
  pub made : t.core.traces.made ≡ []
  pub seen : t.core.traces.seen ≡ []
  pub sets : t.core.marks.sets ≡ []
  pub pool : length (decls_on s) ≤ length t.core.turns.known
  pub ops : t.uses.ops ≡ []
  pub charges : t.uses.charges ≡ 0
  pub uncharges : t.uses.uncharges ≡ 0
  pub tree : t.tree ≡ no_tree
  pub walks : t.walks ≡ []
  pub carries : t.carries ≡ []

-- a step of a worker by its number
pub record IsStep (s : Script) (r : Report) (worker k : ℕ) (x : Step) : Type 0 where
  pub by : x.by ≡ serial_of worker k
  pub command : slice_get (commands_of s worker) k ≡ x.command
  pub answered : slice_get (answers_of r worker) k ≡ Some x.answered
  pub did : Did s x

-- A map has the bit of each place that its worker had set by then, where no walk of any worker cleared it, and no bit but of
-- an id that is there and a place that a worker set.
pub record IsMapOf (s : Script) (workers : List (List Step)) (m : Mapped) : Type 0 where
  pub set : (place : Place) → IsThere s place → map_number place.node place.group (unit_of place.id) ≡ m.map → 0 < times (place_number place) m.set
      → times (place_number place) (all_cleared workers) ≡ 0 → is_set m.bits (bit_of place.id) ≡ true
  pub of_ids : (bit : ℕ) → bit < 64 → is_set m.bits bit ≡ true → 64 * (m.map / 1024) + bit < s.ids
  pub shown : (place : Place) → IsThere s place → map_number place.node place.group (unit_of place.id) ≡ m.map → is_set m.bits (bit_of place.id) ≡ true
      → 0 < times (place_number place) (all_sets workers)

-- each bit of a printed word is of a place that is there, and that a worker set
abbrev pub IsMarked : Script → List (List Step) → MapEnd → Type 0
IsMarked s workers m = (bit : ℕ) → bit < 64 → is_set m.bits bit ≡ true
    → IsThere s (bit_place m (64 * m.unit + bit)) × (0 < times (place_number (bit_place m (64 * m.unit + bit))) (all_sets workers))

-- what a worker has made, seen and known is so in the report
pub record IsShownIn (s : Script) (r : Report) (workers : List (List Step)) (t : WorkerState) : Type 0 where
  pub made : Each (λ (m : Made). IsThere s (place_at m.place) × StandsIn (parents_of s) (journals_of r) m) t.core.traces.made
  pub known : Each (λ (k : Known). Begins k.entries (journals_of r (place_at k.place))) t.core.traces.known
  pub seen : Each (λ (c : Counted). (c.version ≤ length (journals_of r (place_at c.place))) × (c.len ≡ length (items_before s r (place_at c.place) c.version))) t.core.traces.seen
  pub maps : Each (IsMapOf s workers) t.core.marks.maps
  pub tried : Each (λ (a : Tried). (a.id < s.ids) × (a.held ≡ decl_at a.number (registrations a.id r.pool.items))) t.core.claims.attempts
  pub loaded : Each (λ (l : Loaded). l.word.lookups ≤ lookups_at r l.id) t.core.claims.loaded
  pub turns : Each (IsTurn r.pool.items) t.core.turns.made
  pub pool : Begins t.core.turns.known r.pool.items
  pub words : All (IsNamed (script_hierarchy s) r.tree.items) t.tree.loaded
  pub entries : All (IsTreeEntryMade r.tree.items) t.tree.made
  pub tree : Begins t.tree.known r.tree.items
  pub ops : All (λ (o : UseStep). slice_get (uses_at r o.group) o.operation ≡ Some o) t.uses.ops

-- the steps of each worker: one for each of its commands and one for the sweep, from a new state on, with the report's answers, walks and carries
pub record AreRunSteps (s : Script) (r : Report) (workers : List (List Step)) : Type 0 where
  pub each : (worker k : ℕ) (x : Step) → slice_get (steps_of workers worker) k ≡ Some x → IsStep s r worker k x
  pub commands : (worker : ℕ) → length (steps_of workers worker) ≡ length (commands_of s worker) + sweeps_of s worker
  pub answers : (worker : ℕ) → length (answers_of r worker) ≡ length (steps_of workers worker)
  pub first : ℕ → WorkerState
  pub new : (worker : ℕ) → IsNewWorker s (first worker)
  pub chained : (worker : ℕ) → AreStepsChained (first worker) (steps_of workers worker)
  pub walks : (worker : ℕ) → walks_of r worker ≡ flat_map (λ (x : Step). x.work.walks) (steps_of workers worker)
  pub carries : (worker : ℕ) → carries_of r worker ≡ flat_map (λ (x : Step). x.work.carries) (steps_of workers worker)
  pub shown : (worker k : ℕ) (x : Step) → slice_get (steps_of workers worker) k ≡ Some x → IsShownIn s r workers x.after

-- the isolations of each worker are those that its answers tell of, in the order of its commands
pub record AreIsolating (s : Script) (r : Report) (workers : List (List Step)) : Type 0 where
  pub told : (worker : ℕ) → isolations_of r worker ≡ flat_map isolated_in (steps_of workers worker)
  pub did : (worker k : ℕ) (x : Step) → slice_get (steps_of workers worker) k ≡ Some x → DidIsolations s x (isolated_before (steps_of workers worker) k)

-- the printed lists, by place
pub record IsPrinted (s : Script) (r : Report) (end : PlaceEnd) : Type 0 where
  pub there : IsThere s end.place
  pub entered : 0 < length end.entries.items
  pub entries : end.entries.items ≡ journals_of r end.place
  pub items : end.items.items ≡ items_left s r end.place

-- the printed journals are legal, paired, and made by the steps, an entry by one step
pub record AreRunJournals (s : Script) (r : Report) (workers : List (List Step)) : Type 0 where
  pub parents : IsTree (parents_of s)
  pub there : (place : Place) → 0 < length (journals_of r place) → IsThere s place
  pub legal : (place : Place) → IsLegal (parents_of s) (journals_of r) place
  pub paired : IsPaired (parents_of s) (journals_of r)
  pub printed : (n : ℕ) (end : PlaceEnd) → slice_get r.places.items n ≡ Some end → IsPrinted s r end
  pub order : AreNumbersRising (map (λ (end : PlaceEnd). place_number end.place) r.places.items)
  -- each entry of each journal was made by one step, and no other was
  pub once : (k n : ℕ) → total (hit k n) (all_made workers) ≡ cond (nat_lt n (length (journals_of r (place_at k)))) 1 0

-- the journal of registrations is legal and made by the steps, and each lookup of an id was drawn by one step
pub record ArePoolAndLookups (s : Script) (r : Report) (workers : List (List Step)) : Type 0 where
  pub journal : IsPoolJournal s.ids (length s.caches.items) r.pool.items
  pub opened : (n decl : ℕ) → slice_get (decls_on s) n ≡ Some decl → slice_get r.pool.items n ≡ Some (Registered decl n 0)
  -- each later entry was made by one step
  pub once : (n : ℕ) → total (hit_turn n) (all_turns workers) ≡ cond (nat_le (length (decls_on s)) n && nat_lt n (length r.pool.items)) 1 0
  pub printed : length r.lookups.items ≡ s.ids
  -- the registration in which a found cache's lookup lies ended after it
  pub ended : (worker k decl : ℕ) (x : Step) (f : Found) → slice_get (steps_of workers worker) k ≡ Some x → option_and_then decl_named x.command ≡ Some decl → x.answered.found ≡ Some f
      → is_before f.number (end_of f.id (drop f.entry r.pool.items)) ≡ true
  pub last : (id : ℕ) → last_number id r.pool.items ≤ lookups_at r id
  -- each number of an id was drawn by one step
  pub drawn : (id number : ℕ) → id < s.ids → total (hit_attempt id number) (all_attempts workers) ≡ cond (nat_lt number (lookups_at r id)) 1 0
  pub idle : (place : Place) → phase_of place.id r.pool.items % 3 ≡ 0 → items_left s r place ≡ []

-- the journal of the tree is legal, the operations are those of the steps, and those of a group are a history
pub record AreUsesAndTree (s : Script) (r : Report) (workers : List (List Step)) : Type 0 where
  pub hierarchy : IsHierarchy (script_hierarchy s)
  pub tree : IsTreeJournal (script_hierarchy s) r.tree.items
  pub entered : (n : ℕ) → offlining.times_noted n (all_entries workers) ≡ cond (nat_lt n (length r.tree.items)) 1 0
  pub histories : (group : ℕ) → IsChargeHistory group (uses_at r group)
  pub same : IsPermutation r.uses.items (all_ops workers)

-- each printed deferred word is what was given and not taken
pub record AreDeferred (s : Script) (r : Report) (workers : List (List Step)) : Type 0 where
  pub words : (place : Place) → IsThere s place → printed_at r place ≡ deferred_word (sum_at place (all_gives workers)) (sum_at place (all_takes workers))
  pub elsewhere : (place : Place) → (IsThere s place → ⊥) → printed_at r place ≡ 0
  pub shown : AllByRecursion (λ (x : PlaceAmount). 0 < x.amount) r.deferred.items
  -- there is one line of all moves, each worker's in its order, in which each take took what was given since the take before
  pub line : List (Deed Move)
  pub parts : (worker : ℕ) → part (1 + worker) line ≡ by_seat (1 + worker) (flat_map (λ (x : Step). x.work.moves) (steps_of workers worker))
  pub others : part 0 line ≡ []
  pub takes : AreTaken line
  -- what it leaves is printed
  pub left : (place : Place) → IsThere s place → printed_at r place ≡ amounts_after line place

-- the sizes of the tables hold the script
pub record IsSized (s : Script) : Type 0 where
  pub nodes : s.nodes ≤ 4
  pub groups : length (parents_of s) ≤ 256
  pub ids : s.ids ≤ 256

-- a run in plain data: what the report prints, tied to the steps of its workers
pub record IsRun (s : Script) (r : Report) (workers : List (List Step)) : Type 0 where
  pub sized : IsSized s
  pub version : r.version ≡ s.version
  pub nodes : r.nodes ≡ s.nodes
  pub ids : r.ids ≡ s.ids
  pub paths : r.groups.items ≡ codes "/" ∷ map (λ g. g.path) s.groups.items
  pub names : r.caches.items ≡ map (λ c. c.name) s.caches.items
  pub pools : r.pools.items ≡ map (λ p. p.name) s.pools.items
  pub steps : AreRunSteps s r workers
  pub isolations : AreIsolating s r workers
  pub journals : AreRunJournals s r workers
  pub bits : AreBitsLawful s r
  pub marks : AllByRecursion (IsMarked s workers) r.maps.items
  pub pool : ArePoolAndLookups s r workers
  pub uses : AreUsesAndTree s r workers
  pub deferred : AreDeferred s r workers
  pub order : IsInLine s r workers
  -- what each worker did at the pools of units, command by command
  pub plain : List (List UnitsStep)
  pub units : AreUnits s r plain
  pub sweep : AreSwept s workers
  pub added : r.added ≡ length (added_in (places_of r) (journals_of r))
  pub freed : r.freed ≡ length (freed_in (places_of r) (parents_of s) (journals_of r))
  pub listed : r.listed ≡ length (listed_in (places_of r) (parents_of s) (journals_of r))
