-- SPDX-License-Identifier: GPL-2.0-only
-- The numbers of a report have the ranges of their types.
use Rattle.std.specs.Prelude.{ℕ, pos, neg_ℤ, ◌<◌, ◌≤◌, ◌≤ℤ◌, ◌<ℤ◌, ◌^◌, List, length, Option, Some, None}
use Rattle.std.specs.List.{AllByRecursion}
use Rattle.shr_base.specs.declared.places.Serial.{Serial}
use Rattle.shr_base.specs.declared.places.At.{At}
use Rattle.shr_base.specs.declared.objects.Object.{Object}
use Rattle.shr_base.specs.declared.journals.Entry.{Entry}
use Rattle.shr_base.specs.declared.journals.Entry.TheVariants as entry
use Rattle.shr_base.specs.declared.journals.PlainEntry.{PlainEntry}
use Rattle.shr_base.specs.declared.journals.PlainEntry.TheVariants as units
use Rattle.shr_base.specs.declared.journals.UseStep.{UseStep}
use Rattle.shr_base.specs.declared.replies.Spent.{Spent}
use Rattle.shr_base.specs.declared.replies.Spent.TheVariants as spent
use Rattle.shr_base.specs.declared.replies.HalfWhy.{HalfWhy}
use Rattle.shr_base.specs.declared.replies.HalfWhy.TheVariants as why
use Rattle.shr_base.specs.declared.replies.IsolateEnd.{IsolateEnd}
use Rattle.shr_base.specs.declared.replies.IsolateEnd.TheVariants as isolate
use Rattle.shr_base.specs.declared.replies.Found.{Found}
use Rattle.shr_base.specs.declared.replies.Reply.{Reply}
use Rattle.shr_base.specs.declared.replies.Reply.TheVariants as reply
use Rattle.shr_base.specs.declared.replies.Answered.{Answered}
use Rattle.shr_base.specs.declared.walks.Ending.{Ending}
use Rattle.shr_base.specs.declared.walks.Ending.TheVariants as ending
use Rattle.shr_base.specs.declared.walks.PassRecord.{PassRecord}
use Rattle.shr_base.specs.declared.walks.Outcome.{Outcome}
use Rattle.shr_base.specs.declared.walks.Outcome.TheVariants as outcome
use Rattle.shr_base.specs.Walks.{Attempt, WalkRecord}
use Rattle.shr_base.specs.declared.walks.MapSeen.{MapSeen}
use Rattle.shr_base.specs.declared.walks.WalkAnswer.{WalkAnswer}
use Rattle.shr_base.specs.declared.walks.WalkAnswer.TheVariants as answer
use Rattle.shr_base.specs.declared.walks.Carry.{Carry}
use Rattle.shr_base.specs.declared.walks.PlainTry.{PlainTry}
use Rattle.shr_base.specs.declared.walks.PlainTry.TheVariants as tried
use Rattle.shr_base.specs.declared.walks.PlainAnswer.{PlainAnswer}
use Rattle.shr_base.specs.declared.walks.PlainAnswer.TheVariants as plain
use Rattle.shr_base.specs.declared.walks.PlainWalk.{PlainWalk}
use Rattle.shr_base.specs.declared.walks.Isolation.{Isolation}
use Rattle.shr_base.specs.declared.ends.PlaceAmount.{PlaceAmount}
use Rattle.shr_base.specs.declared.ends.PlaceEnd.{PlaceEnd}
use Rattle.shr_base.specs.declared.ends.MapEnd.{MapEnd}
use Rattle.shr_base.specs.declared.ends.UnitsEnd.{UnitsEnd}
use Rattle.shr_base.specs.declared.ends.WorkerPart.{WorkerPart}
use Rattle.shr_laws.specs.declared.report.Report.{Report}
use Rattle.shr_laws.specs.WellFormed.{IsNumbered, IsBitWord, IsPoolNumbered, IsTreeNumbered}

-- a number of 16 bits
abbrev pub IsShort : ℕ → Type 0
IsShort n = n < 2 ^ 16

-- a number of 32 bits
abbrev pub IsCountNumber : ℕ → Type 0
IsCountNumber n = n < 2 ^ 32

-- the numbers of a command
pub record IsSerialNumbered (by : Serial) : Type 0 where
  pub worker : IsShort by.worker
  pub command : IsCountNumber by.command

-- the numbers of an entry that is cited
pub record IsAtNumbered (at : At) : Type 0 where
  pub place : IsNumbered at.place
  pub entry : IsCountNumber at.entry

-- the numbers of a counter that is used up
abbrev pub IsSpentNumbered : Spent → Type 0
IsSpentNumbered (spent.Lookups id seen) = IsShort id × IsCountNumber seen
IsSpentNumbered (spent.List place entries items) = IsNumbered place × IsCountNumber entries × IsCountNumber items
IsSpentNumbered (spent.Charges charges uncharges) = IsCountNumber charges × IsCountNumber uncharges

-- those of why an unregistering stopped half way
abbrev pub IsWhyNumbered : HalfWhy → Type 0
IsWhyNumbered why.Memory = Unit {0}
IsWhyNumbered (why.Worn spent) = IsSpentNumbered spent

-- those of how an isolation ended
abbrev pub IsIsolateEndNumbered : IsolateEnd → Type 0
IsIsolateEndNumbered (isolate.Worn spent) = IsSpentNumbered spent
IsIsolateEndNumbered e = Unit {0}

-- the numbers of an answer
abbrev pub IsReplyNumbered : Reply → Type 0
IsReplyNumbered (reply.Added at) = IsAtNumbered at
IsReplyNumbered (reply.Exists at) = IsAtNumbered at
IsReplyNumbered (reply.Hit at value) = IsAtNumbered at
IsReplyNumbered (reply.Miss at) = IsAtNumbered at
IsReplyNumbered (reply.Dropped at) = IsAtNumbered at
IsReplyNumbered (reply.Pinned at) = IsAtNumbered at
IsReplyNumbered (reply.Done at) = IsAtNumbered at
IsReplyNumbered (reply.Offline entry) = IsCountNumber entry
IsReplyNumbered (reply.Over group operation usage) = IsShort group × IsBitWord operation × IsCountNumber usage
IsReplyNumbered (reply.NoCache entry) = IsCountNumber entry
IsReplyNumbered (reply.Worn spent) = IsSpentNumbered spent
IsReplyNumbered reply.Memory = Unit {0}
IsReplyNumbered (reply.Walked freed) = IsBitWord freed
IsReplyNumbered (reply.WalkMemory freed) = IsBitWord freed
IsReplyNumbered (reply.OfflineDone entry moved deferred) = IsCountNumber entry × IsBitWord moved × IsBitWord deferred
IsReplyNumbered (reply.AlreadyDone entry) = IsCountNumber entry
IsReplyNumbered reply.Root = Unit {0}
IsReplyNumbered (reply.HasChildren child entry) = IsShort child × IsCountNumber entry
IsReplyNumbered (reply.Made entry) = IsCountNumber entry
IsReplyNumbered (reply.AlreadyMade entry) = IsCountNumber entry
IsReplyNumbered (reply.NotMade group) = IsShort group
IsReplyNumbered (reply.Registered id entry) = IsShort id × IsCountNumber entry
IsReplyNumbered (reply.AlreadyRegistered entry) = IsCountNumber entry
IsReplyNumbered (reply.NoId entry) = IsCountNumber entry
IsReplyNumbered (reply.Freed id entry from to objects) = IsShort id × IsCountNumber entry × IsCountNumber from × IsCountNumber to × IsCountNumber objects
IsReplyNumbered (reply.Half id entry from to objects why) = IsShort id × IsCountNumber entry × IsCountNumber from × IsCountNumber to × IsCountNumber objects × IsWhyNumbered why
IsReplyNumbered (reply.Isolated visits freed ending) = IsCountNumber visits × IsCountNumber freed × IsIsolateEndNumbered ending
IsReplyNumbered (reply.Released pool node entry) = (pool < 2 ^ 8) × (node < 2 ^ 8) × IsCountNumber entry
IsReplyNumbered (reply.Full pool node entries free) = (pool < 2 ^ 8) × (node < 2 ^ 8) × IsCountNumber entries × IsCountNumber free
IsReplyNumbered (reply.Grabbed pool node entry) = (pool < 2 ^ 8) × (node < 2 ^ 8) × IsCountNumber entry
IsReplyNumbered (reply.Bare pool node entry) = (pool < 2 ^ 8) × (node < 2 ^ 8) × IsCountNumber entry
IsReplyNumbered (reply.Swept jobs freed) = IsCountNumber jobs × IsBitWord freed

-- those of what `find` gave, if the cache was held
abbrev pub IsFindNumbered : Option Found → Type 0
IsFindNumbered None = Unit {0}
IsFindNumbered (Some f) = IsShort f.id × IsCountNumber f.number × IsCountNumber f.entry

-- those of an answer with its find
pub record IsAnsweredNumbered (a : Answered) : Type 0 where
  pub reply : IsReplyNumbered a.reply
  pub found : IsFindNumbered a.found

-- the numbers of how a pass ended
abbrev pub IsEndingNumbered : Ending → Type 0
IsEndingNumbered (ending.Worn spent) = IsSpentNumbered spent
IsEndingNumbered e = Unit {0}

-- the numbers of a pass
pub record IsPassNumbered (p : PassRecord) : Type 0 where
  pub len : IsCountNumber p.len
  pub version : IsCountNumber p.version
  pub nr : IsBitWord p.nr
  pub asks : IsCountNumber p.asks
  pub closed : IsCountNumber p.closed
  pub scanned : IsBitWord p.scanned
  pub freed : IsBitWord p.freed
  pub next : IsBitWord p.next
  pub ending : IsEndingNumbered p.ending

-- the numbers of what an attempt came to
abbrev pub IsOutcomeNumbered : Outcome → Type 0
IsOutcomeNumbered (outcome.Worn seen) = IsCountNumber seen
IsOutcomeNumbered (outcome.Gone number what) = IsCountNumber number
IsOutcomeNumbered (outcome.Skip number len version) = IsCountNumber number × IsCountNumber len × IsCountNumber version
IsOutcomeNumbered (outcome.Ran number pass) = IsCountNumber number × IsPassNumbered pass
IsOutcomeNumbered (outcome.Empty number version) = IsCountNumber number × IsCountNumber version
IsOutcomeNumbered (outcome.Cleared number first second) = IsCountNumber number × IsCountNumber first × IsCountNumber second
IsOutcomeNumbered (outcome.RestoredSkip number first len version) = IsCountNumber number × IsCountNumber first × IsCountNumber len × IsCountNumber version
IsOutcomeNumbered (outcome.RestoredRan number first pass) = IsCountNumber number × IsCountNumber first × IsPassNumbered pass

-- the numbers of an attempt
pub record IsAttemptNumbered (a : Attempt) : Type 0 where
  pub id : IsShort a.id
  pub outcome : IsOutcomeNumbered a.outcome

-- the numbers of a bit word that a walk loaded
pub record IsSeenNumbered (m : MapSeen) : Type 0 where
  pub unit : m.unit < 2 ^ 8
  pub bits : IsBitWord m.bits

-- the numbers of what a walk was answered
abbrev pub IsWalkedNumbered : WalkAnswer → Type 0
IsWalkedNumbered (answer.Walked freed) = IsBitWord freed
IsWalkedNumbered (answer.Offline entry) = IsCountNumber entry
IsWalkedNumbered (answer.Memory freed) = IsBitWord freed

-- the numbers of a walk
pub record IsWalkNumbered (w : WalkRecord) : Type 0 where
  pub by : IsSerialNumbered w.by
  pub group : IsShort w.group
  pub node : w.node < 2 ^ 8
  pub priority : w.priority < 2 ^ 8
  pub maps : AllByRecursion IsSeenNumbered w.maps.items
  pub attempts : AllByRecursion IsAttemptNumbered w.attempts.items
  pub answer : IsWalkedNumbered w.answer

-- the numbers of a carry
pub record IsCarryNumbered (c : Carry) : Type 0 where
  pub by : IsSerialNumbered c.by
  pub place : IsNumbered c.place
  pub amount : IsBitWord c.amount

-- the numbers of what a walk of the pools came to at one pool
abbrev pub IsTryNumbered : PlainTry → Type 0
IsTryNumbered (tried.Empty version) = IsCountNumber version
IsTryNumbered (tried.Skip len version) = IsCountNumber len × IsCountNumber version
IsTryNumbered (tried.Ran pass) = IsPassNumbered pass

-- those of what a walk of the pools was answered
abbrev pub IsPlainAnswerNumbered : PlainAnswer → Type 0
IsPlainAnswerNumbered (plain.Walked freed) = IsBitWord freed
IsPlainAnswerNumbered (plain.Memory freed) = IsBitWord freed

-- the numbers of a walk of the pools
pub record IsPlainNumbered (w : PlainWalk) : Type 0 where
  pub by : IsSerialNumbered w.by
  pub node : w.node < 2 ^ 8
  pub priority : w.priority < 2 ^ 8
  pub tries : AllByRecursion IsTryNumbered w.tries.items
  pub answer : IsPlainAnswerNumbered w.answer

-- the numbers of an isolation
pub record IsIsolationNumbered (i : Isolation) : Type 0 where
  pub by : IsSerialNumbered i.by
  pub place : IsNumbered i.place
  pub budget : IsCountNumber i.budget
  pub visits : IsCountNumber i.visits
  pub freed : IsCountNumber i.freed
  pub ending : IsIsolateEndNumbered i.ending

-- the numbers of what a worker did
pub record IsPartNumbered (part : WorkerPart) : Type 0 where
  pub answers : AllByRecursion IsAnsweredNumbered part.answers.items
  pub walks : AllByRecursion IsWalkNumbered part.walks.items
  pub carries : AllByRecursion IsCarryNumbered part.carries.items
  pub plain : AllByRecursion IsPlainNumbered part.plain.items
  pub isolations : AllByRecursion IsIsolationNumbered part.isolations.items

-- the numbers of an entry of a list's journal
abbrev pub IsEntryNumbered : Entry → Type 0
IsEntryNumbered (entry.Add by birth added key value) = IsSerialNumbered by × IsShort birth
IsEntryNumbered (entry.Look by birth key hit) = IsSerialNumbered by × IsShort birth
IsEntryNumbered (entry.Drop by birth key kind) = IsSerialNumbered by × IsShort birth
IsEntryNumbered (entry.Pin by birth key pinned hit) = IsSerialNumbered by × IsShort birth
IsEntryNumbered (entry.Scan worker walk asked policy visits freed stopped) = IsShort worker × IsBitWord walk × IsCountNumber asked × IsCountNumber visits × IsCountNumber freed
IsEntryNumbered (entry.MovedIn child objects) = IsShort child × IsCountNumber objects
IsEntryNumbered entry.Closed = Unit {0}
IsEntryNumbered (entry.Drained by objects) = IsSerialNumbered by × IsCountNumber objects

-- the numbers of an object
pub record IsObjectNumbered (o : Object) : Type 0 where
  pub serial : IsSerialNumbered o.serial
  pub birth : IsShort o.birth

-- the numbers of a list
pub record IsListNumbered (end : PlaceEnd) : Type 0 where
  pub place : IsNumbered end.place
  pub entries : AllByRecursion IsEntryNumbered end.entries.items
  pub items : AllByRecursion IsObjectNumbered end.items.items

-- the numbers of an entry of a pool's journal
abbrev pub IsPlainEntryNumbered : PlainEntry → Type 0
IsPlainEntryNumbered (units.Release by n) = IsSerialNumbered by × IsCountNumber n
IsPlainEntryNumbered (units.Grab by got) = IsSerialNumbered by
IsPlainEntryNumbered (units.Reclaim worker walk asked freed) = IsShort worker × IsCountNumber walk × IsCountNumber asked × IsCountNumber freed

-- the numbers of a pool on a node
pub record AreUnitsNumbered (u : UnitsEnd) : Type 0 where
  pub pool : u.pool < 2 ^ 8
  pub node : u.node < 2 ^ 8
  pub entries : AllByRecursion IsPlainEntryNumbered u.entries.items
  pub free : IsCountNumber u.free

-- the numbers of a bit word at the end
pub record IsMapNumbered (m : MapEnd) : Type 0 where
  pub node : m.node < 2 ^ 8
  pub group : IsShort m.group
  pub unit : m.unit < 2 ^ 8
  pub bits : IsBitWord m.bits

-- the numbers of a deferred word
pub record IsAmountNumbered (d : PlaceAmount) : Type 0 where
  pub place : IsNumbered d.place
  pub amount : IsBitWord d.amount

-- the numbers of a charge; what it found has a sign
pub record IsUseNumbered (u : UseStep) : Type 0 where
  pub group : IsShort u.group
  pub operation : IsCountNumber u.operation
  pub found : (neg_ℤ (pos (2 ^ 63)) ≤ℤ u.found) × (u.found <ℤ pos (2 ^ 63))
  pub by : IsSerialNumbered u.by

-- the numbers of a report, section by section
pub record HasNumbers (r : Report) : Type 0 where
  pub version : r.version < 2 ^ 8
  pub nodes : r.nodes < 2 ^ 8
  pub ids : IsShort r.ids
  pub pool : AllByRecursion IsPoolNumbered r.pool.items
  pub tree : AllByRecursion IsTreeNumbered r.tree.items
  pub few_parts : length r.workers.items ≤ 2 ^ 16
  pub workers : AllByRecursion IsPartNumbered r.workers.items
  pub places : AllByRecursion IsListNumbered r.places.items
  pub units : AllByRecursion AreUnitsNumbered r.units.items
  pub maps : AllByRecursion IsMapNumbered r.maps.items
  pub deferred : AllByRecursion IsAmountNumbered r.deferred.items
  pub pool_deferred : AllByRecursion IsAmountNumbered r.pool_deferred.items
  pub uses : AllByRecursion IsUseNumbered r.uses.items
  pub lookups : AllByRecursion IsCountNumber r.lookups.items
  pub totals : IsBitWord r.added × IsBitWord r.freed × IsBitWord r.listed
