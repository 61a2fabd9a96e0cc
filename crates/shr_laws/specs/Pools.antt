-- SPDX-License-Identifier: GPL-2.0-only
-- Pools of units: each unit that was released was grabbed once, was reclaimed once, or is free.
use Rattle.std.specs.Prelude.{◌≡◌, ℕ, ◌+◌, ◌<◌, ◌≤◌, ◌^◌, ◌&&◌, ◌==◌, true, false, cond, List, length, map, find, flat_map, filter_map, take, sum_by, slice_get, Option, Some, None, option_map, option_to_list, ⊤}
use Rattle.std.specs.List.{AllByRecursion, enumerate_from}
use Rattle.std.specs.Option.{IsSomeAnd}
use Rattle.shr_base.specs.declared.places.Serial.{Serial}
use Rattle.shr_base.specs.declared.places.Place.{Place}
use Rattle.shr_base.specs.declared.journals.PlainEntry.{PlainEntry}
use Rattle.shr_base.specs.declared.journals.PlainEntry.TheVariants as plain
use Rattle.shr_base.specs.declared.replies.Reply.{Reply}
use Rattle.shr_base.specs.declared.replies.Reply.TheVariants as reply
use Rattle.shr_base.specs.declared.scripts.PoolDecl.{PoolDecl}
use Rattle.shr_base.specs.declared.scripts.Command.{Command}
use Rattle.shr_base.specs.declared.scripts.Command.TheVariants.{Release, Grab}
use Rattle.shr_base.specs.declared.scripts.Script.{Script}
use Rattle.shr_base.specs.declared.walks.Ending.{Ending}
use Rattle.shr_base.specs.declared.walks.Ending.TheVariants as ending
use Rattle.shr_base.specs.declared.walks.PassRecord.{PassRecord}
use Rattle.shr_base.specs.declared.walks.PlainAnswer.{PlainAnswer}
use Rattle.shr_base.specs.declared.walks.PlainAnswer.TheVariants.{Walked, Memory}
use Rattle.shr_base.specs.declared.walks.PlainTry.{PlainTry}
use Rattle.shr_base.specs.declared.walks.PlainTry.TheVariants.{Empty, Skip, Ran}
use Rattle.shr_base.specs.declared.walks.PlainWalk.{PlainWalk}
use Rattle.shr_base.specs.declared.ends.PlaceAmount.{PlaceAmount}
use Rattle.shr_base.specs.declared.ends.UnitsEnd.{UnitsEnd}
use Rattle.shr_model.specs.Places.{is_place}
use Rattle.shr_model.specs.Units.{free_of, IsPlainJournal}
use Rattle.shr_model.specs.Pass.{batch_of, total_of, due_asks, FollowsArithmetic}
use Rattle.shr_model.specs.Deferred.{deferred_word}
use Rattle.shr_laws.specs.declared.report.Report.{Report}
use Rattle.shr_laws.specs.Parts.{serial_of, command_at, reply_at, at, EachAnswer}
use Rattle.shr_laws.specs.UnitParts.{pool_place, units_journal, free_at, EachUnits, plain_by_of, units_place_at, units_cited_at, plain_of, plain_at, plain_by, EachPlain, EachTry, try_at, pass_at, pool_passes, plain_job_of, plain_due}
use Rattle.shr_laws.specs.Deferred.{amount_in}
use Rattle.shr_laws.specs.WellFormed.{units_place, AreNotFalling}

-- a journal that is printed is of a pool at its home; each entry has the outcome that those before it
-- leave it, and the free units are those that they all leave
pub record AreUnitsRight (s : Script) (u : UnitsEnd) : Type 0 where
  pub pool : u.pool < length s.pools.items
  pub node : u.node < s.nodes
  pub home : pool_place s u.pool u.node ≡ units_place u
  pub entries : IsPlainJournal u.entries.items
  pub free : u.free ≡ free_of u.entries.items

-- a reply cites this entry of the pool that its command names, at the home of its node
pub record CitesUnits (s : Script) (r : Report) (pool node p n entry : ℕ) (e : PlainEntry) : Type 0 where
  pub place : units_place_at p n ≡ pool_place s pool node
  pub stands : slice_get (units_journal r (units_place_at p n)) entry ≡ Some e

-- after so many entries of the pool so many units were free, and so many more were too many
pub record IsTooFull (s : Script) (r : Report) (pool node units p n entries free : ℕ) : Type 0 where
  pub place : units_place_at p n ≡ pool_place s pool node
  pub there : entries ≤ length (units_journal r (units_place_at p n))
  pub counted : free ≡ free_at r (units_place_at p n) entries
  pub full : 20000 < free + units

-- a reply about a pool cites its entry, or has its cause; which replies a command may have, and the
-- cause of one that is worn, is said of all commands elsewhere
abbrev pub IsPoolReply : Script → Report → Serial → Command → Reply → Type 0
IsPoolReply s r by (Release node pool units) (reply.Released p n entry) = CitesUnits s r pool node p n entry (plain.Release by units)
IsPoolReply s r by (Release node pool units) (reply.Full p n entries free) = IsTooFull s r pool node units p n entries free
IsPoolReply s r by (Grab node pool) (reply.Grabbed p n entry) = CitesUnits s r pool node p n entry (plain.Grab by true)
IsPoolReply s r by (Grab node pool) (reply.Bare p n entry) = CitesUnits s r pool node p n entry (plain.Grab by false)
IsPoolReply s r by c x = ⊤

-- a walk of the pools with this answer has a try for each pool, or for the first of them if memory
-- ended it
abbrev pub HasTries : ℕ → PlainAnswer → ℕ → Type 0
HasTries pools (Walked freed) tries = tries ≡ pools
HasTries pools (Memory freed) tries = tries ≤ pools

-- what a walk of the pools told that it freed
abbrev pub plain_told : PlainAnswer → ℕ
plain_told (Walked freed) = freed
plain_told (Memory freed) = freed

-- the version that a try counted at, and the units that it counted
abbrev pub version_in : PlainTry → ℕ
version_in (Empty version) = version
version_in (Skip len version) = version
version_in (Ran p) = p.version

-- the same for the units
abbrev pub len_in : PlainTry → ℕ
len_in (Empty version) = 0
len_in (Skip len version) = len
len_in (Ran p) = p.len

-- how many units the pass of a try freed
abbrev pub freed_in_try : PlainTry → ℕ
freed_in_try (Empty version) = 0
freed_in_try (Skip len version) = 0
freed_in_try (Ran p) = p.freed

-- a try counted what was free at its place after that many entries
pub record IsPlainCount (r : Report) (place : Place) (x : PlainTry) : Type 0 where
  pub there : version_in x ≤ length (units_journal r place)
  pub len : len_in x ≡ free_at r place (version_in x)

-- a pool is skipped up to its floor, and passed above it
abbrev pub IsKind : PoolDecl → PlainTry → Type 0
IsKind d (Empty version) = ⊤
IsKind d (Skip len version) = (0 < len) × (len ≤ d.floor)
IsKind d (Ran p) = d.floor < p.len

-- a pass ends by its loop's test, for want of memory, or where the journal takes no entry more
abbrev pub IsPlainEnding : Report → Place → Ending → Type 0
IsPlainEnding r place ending.Through = ⊤
IsPlainEnding r place ending.Stop = ⊥
IsPlainEnding r place ending.NoRoom = ⊤
IsPlainEnding r place (ending.Worn x) = length (units_journal r place) ≡ 2 ^ 31

-- a Reclaim entry by its number: what it was asked, and how many units it freed
pub record ReclaimMade : Type 0 where
  pub number : ℕ
  pub asked : ℕ
  pub freed : ℕ

-- the entry with this number, if it is a Reclaim of this walk of this worker
abbrev pub reclaim_by : ℕ → ℕ → ℕ → PlainEntry → Option ReclaimMade
reclaim_by worker walk number (plain.Reclaim w n asked freed) =
    cond ((w == worker) && (n == walk)) (Some (record { number = number; asked = asked; freed = freed })) None
reclaim_by worker walk number e = None

-- the Reclaim entries of this walk of this worker in a journal, in order
abbrev pub reclaims_by : ℕ → ℕ → List PlainEntry → List ReclaimMade
reclaims_by worker walk entries = filter_map (λ (e : ℕ × PlainEntry). reclaim_by worker walk e.0 e.1) (enumerate_from 0 entries)

-- a pass of a pool follows the arithmetic, and no ask of it found a list closed; its Reclaim entries
-- are the first of its asks, and none of them is before its count
pub record IsPlainPass (r : Report) (place : Place) (d : PoolDecl) (priority : ℕ) (p : PassRecord) (reclaims : List ReclaimMade) : Type 0 where
  pub follows : FollowsArithmetic priority d.seeks d.batch p
  pub closed : p.closed ≡ 0
  pub ending : IsPlainEnding r place p.ending
  pub asked : map (λ x. x.asked) reclaims ≡ take p.asks (due_asks (batch_of d.batch) p.len (total_of p.len p.nr priority d.seeks))
  pub freed : sum_by (λ (x : ReclaimMade). x.freed) reclaims ≡ p.freed
  pub later : AllByRecursion (λ (x : ReclaimMade). p.version ≤ x.number) reclaims

-- a pass that ended for want of room is the last try of a walk that memory ended
pub record IsLastTry (w : PlainWalk) (pool : ℕ) : Type 0 where
  pub cut : (freed : ℕ) × (w.answer ≡ Memory freed)
  pub last : length w.tries.items ≡ pool + 1

-- The walk of the pools with this number of a worker is lawful.
pub record IsPlainLawful (s : Script) (r : Report) (worker n : ℕ) (w : PlainWalk) : Type 0 where
  -- it has a try for each pool, or for the first of them if memory ended it
  pub tries : HasTries (length s.pools.items) w.answer (length w.tries.items)
  -- each counted what was free, and skipped or passed by its pool's floor
  pub counts : EachTry s w (λ pool place d x. IsPlainCount r place x)
  pub kinds : EachTry s w (λ pool place d x. IsKind d x)
  -- each pass is one of its pool, with its Reclaim entries
  pub passes : EachTry s w (λ pool place d x. (p : PassRecord) → x ≡ Ran p → IsPlainPass r place d w.priority p (reclaims_by worker n (units_journal r place)))
  -- after one that ended for want of room there is no other
  pub cut : EachTry s w (λ pool place d x. (p : PassRecord) → x ≡ Ran p → p.ending ≡ ending.NoRoom → IsLastTry w pool)
  -- what the answer says was freed is what the passes freed
  pub freed : plain_told w.answer ≡ sum_by freed_in_try w.tries.items

-- a Reclaim entry at a place is of a pass there, of the walk of the pools that it names
abbrev pub IsOfPlain : Script → Report → Place → PlainEntry → Type 0
IsOfPlain s r place (plain.Reclaim worker walk asked freed) = IsSomeAnd (plain_at r worker walk) (λ w. IsSomeAnd (pass_at s place w) (λ p. ⊤))
IsOfPlain s r place e = ⊤

-- the versions that a walk of the pools counted at a place
abbrev pub plain_versions : Script → Place → PlainWalk → List ℕ
plain_versions s place w = option_to_list (option_map version_in (try_at s place w))

-- the deferred word that the report prints for a pool's place, or 0
abbrev pub pool_printed_at : Report → Place → ℕ
pool_printed_at r place = amount_in (find (λ (x : PlaceAmount). is_place x.place place) r.pool_deferred.items)

-- Each unit that was released was grabbed once, was reclaimed once, or is free.
pub record ArePoolsLawful (s : Script) (r : Report) : Type 0 where
  -- each journal is printed once, with outcomes that follow from those before; one that isn't printed is empty
  pub units : AllByRecursion (AreUnitsRight s) r.units.items
  pub once : (i j : ℕ) (u v : UnitsEnd) → slice_get r.units.items i ≡ Some u → slice_get r.units.items j ≡ Some v → units_place u ≡ units_place v → i ≡ j
  -- each reply about a pool cites its entry or has its cause, and each Release and Grab is cited by the reply to its command
  pub replies : EachAnswer s r (λ by c a. IsPoolReply s r by c a.reply)
  pub cited : EachUnits r (λ place n e. (by : Serial) → plain_by_of e ≡ Some by → units_cited_at r by ≡ Some (at place n))
  -- along one worker's replies the entries cited at one place rise, and a Full there knew those before
  pub rise : (worker k later : ℕ) (place : Place) (n m : ℕ) → k < later → units_cited_at r (serial_of worker k) ≡ Some (at place n)
      → units_cited_at r (serial_of worker later) ≡ Some (at place m) → n < m
  pub full : (worker k later : ℕ) (place : Place) (n entries free : ℕ) → k < later → units_cited_at r (serial_of worker k) ≡ Some (at place n)
      → reply_at r (serial_of worker later) ≡ Some (reply.Full place.id place.node entries free) → n < entries
  -- each walk of the pools is lawful; each command has those that are due, and there is no other
  pub walks : EachPlain r (IsPlainLawful s r)
  pub due : EachAnswer s r (λ by c a. map plain_job_of (plain_by r by) ≡ plain_due s c a.reply)
  pub commands : EachPlain r (λ worker n w. IsSomeAnd (command_at s w.by) (λ c. IsSomeAnd (reply_at r w.by) (λ x. 0 < length (plain_due s c x))))
  -- the versions of one worker's counts at one place never fall, and are above every entry that an earlier reply of it cites there
  pub versions : (worker : ℕ) (place : Place) → AreNotFalling (flat_map (plain_versions s place) (plain_of r worker))
  pub later : EachPlain r (λ worker n w. (k entry : ℕ) (place : Place) → k < w.by.command → units_cited_at r (serial_of worker k) ≡ Some (at place entry)
      → AllByRecursion (λ version. entry < version) (plain_versions s place w))
  -- there is no Reclaim entry but those of the passes
  pub no_others : EachUnits r (λ place n e. IsOfPlain s r place e)
  -- each deferred word is what the passes there deferred less what they took over, and none that is printed is 0
  pub deferred : (place : Place) → pool_printed_at r place ≡ deferred_word (sum_by (λ (p : PassRecord). p.next) (pool_passes s r place)) (sum_by (λ (p : PassRecord). p.nr) (pool_passes s r place))
  pub shown : AllByRecursion (λ (x : PlaceAmount). 0 < x.amount) r.pool_deferred.items
