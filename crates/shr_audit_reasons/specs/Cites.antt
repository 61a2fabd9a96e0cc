-- SPDX-License-Identifier: GPL-2.0-only
-- Which answers speak of an entry of the journals of the tree and of registrations, or of a group.
use Rattle.std.specs.Prelude.{◌≡◌, ◌≢◌, ◌⊎◌, ℕ, ◌+◌, ◌<◌, ◌≤◌, Bool, true, false, not, ◌||◌, ◌==◌, List, length, slice_get, slice_index_or, slice_set, Option, Some, None, option_map}
use Rattle.std.specs.Option.{IsSomeAnd}
use Rattle.shr_base.specs.declared.places.Serial.{Serial}
use Rattle.shr_base.specs.declared.journals.PoolEntry.{PoolEntry}
use Rattle.shr_base.specs.declared.replies.Reply.{Reply}
use Rattle.shr_base.specs.declared.replies.Reply.TheVariants as reply
use Rattle.shr_base.specs.declared.scripts.Command.{Command}
use Rattle.shr_base.specs.declared.scripts.Command.TheVariants as command
use Rattle.shr_base.specs.declared.scripts.Script.{Script}
use Rattle.shr_model.specs.Pool.{id_of}
use Rattle.shr_laws.specs.declared.report.Report.{Report}
use Rattle.shr_laws.specs.Causes.{MayHaveBegun, is_done_by, is_made_by}
use Rattle.shr_laws.specs.Parts.{command_at, reply_at, serial_of}
use Rattle.shr_audit_reasons.specs.declared.cites.What.{What}
use Rattle.shr_audit_reasons.specs.declared.cites.What.TheVariants as say
use Rattle.shr_audit_reasons.specs.declared.cites.Cited.{Cited}
use Rattle.shr_audit_reasons.specs.declared.cites.Cited.TheVariants.{Never, Once, Often}

-- the answer registered by this entry
abbrev pub is_registered_by : ℕ → Reply → Bool
is_registered_by n (reply.Registered id entry) = entry == n
is_registered_by n x = false

-- the answer unregistered by this entry
abbrev pub is_unregistered_by : ℕ → Reply → Bool
is_unregistered_by n (reply.Freed id entry from to objects) = entry == n
is_unregistered_by n (reply.Half id entry from to objects why) = entry == n
is_unregistered_by n x = false

-- the entry with this number is one of an id
abbrev pub IsEntryOfId : List PoolEntry → ℕ → ℕ → Type 0
IsEntryOfId pool id n = option_map id_of (slice_get pool n) ≡ Some id

-- the first entry of an id from a number on, if there is one
abbrev pub IsNextOf : List PoolEntry → ℕ → ℕ → Option ℕ → Type 0
IsNextOf pool id from None = (n : ℕ) → from ≤ n → IsEntryOfId pool id n → ⊥
IsNextOf pool id from (Some q) = (from ≤ q) × (q < length pool) × IsEntryOfId pool id q × ((n : ℕ) → from ≤ n → n < q → IsEntryOfId pool id n → ⊥)

-- the answer freed an id, and this is the id's first entry from the one on that it cites
abbrev pub IsFreedAt : List PoolEntry → ℕ → Reply → Type 0
IsFreedAt pool n (reply.Freed id entry from to objects) = IsNextOf pool id entry (Some n)
IsFreedAt pool n x = ⊥

-- an `offline` of the group that may have begun
abbrev pub IsBegunBy : Option Command → Reply → ℕ → Type 0
IsBegunBy c x n = (c ≡ Some (command.Offline n)) × MayHaveBegun x

-- a reply to this command says so of this entry or group
abbrev pub CitesNow : Report → What → Option Command → Reply → ℕ → Type 0
CitesNow r say.Done c x n = is_done_by n x ≡ true
CitesNow r say.Made c x n = is_made_by n x ≡ true
CitesNow r say.Registered c x n = is_registered_by n x ≡ true
CitesNow r say.Unregistered c x n = is_unregistered_by n x ≡ true
CitesNow r say.Freed c x n = IsFreedAt r.pool.items n x
CitesNow r say.Begun c x n = IsBegunBy c x n

-- the answer to a command says so of it
abbrev pub AnswerCites : Script → Report → What → ℕ → Serial → Type 0
AnswerCites s r what n by = IsSomeAnd (reply_at r by) (λ x. CitesNow r what (command_at s by) x n)

-- It is so of this command and of another; of its worker's it is the first, and whether another worker has one is
-- told.
pub record IsOften (P : Serial → Type 0) (worker command : ℕ) (others : Bool) : Type 0 where
  pub so : P (serial_of worker command)
  pub two : (y : Serial) × (y ≢ serial_of worker command) × P y
  pub first : (x : Serial) → P x → x.worker ≡ worker → command ≤ x.command
  pub alone : others ≡ false → (x : Serial) → P x → x.worker ≡ worker
  pub apart : others ≡ true → (y : Serial) × (y.worker ≢ worker) × P y

-- what is noted of those of which this is so: there is none, just this one, or there are more
abbrev pub TellsCited : (Serial → Type 0) → Cited → Type 0
TellsCited P Never = (x : Serial) → P x → ⊥
TellsCited P (Once worker command) = P (serial_of worker command) × ((x : Serial) → P x → x ≡ serial_of worker command)
TellsCited P (Often worker command others) = IsOften P worker command others

-- one more says so
abbrev pub after_cited : Cited → ℕ → ℕ → Cited
after_cited Never worker command = Once worker command
after_cited (Once w c) worker command = Often w c (not (w == worker))
after_cited (Often w c others) worker command = Often w c (others || not (w == worker))

-- what is noted of an entry or a group, nothing past the last
abbrev pub cited_in : List Cited → ℕ → Cited
cited_in table n = slice_index_or table n Never

-- an answer told this
abbrev pub noted_at : Option ℕ → ℕ → ℕ → List Cited → List Cited
noted_at None worker command table = table
noted_at (Some n) worker command table = slice_set table n (after_cited (cited_in table n) worker command)

-- a command stands before the one with these numbers
abbrev pub IsEarlier : ℕ → ℕ → Serial → Type 0
IsEarlier worker command x = (x.worker < worker) ⊎ ((x.worker ≡ worker) × (x.command < command))

-- the answers to the commands before this one were noted
abbrev pub AreCitedBefore : Script → Report → What → ℕ → ℕ → List Cited → Type 0
AreCitedBefore s r what worker command table = (n : ℕ) → n < length table → TellsCited (λ x. IsEarlier worker command x × AnswerCites s r what n x) (cited_in table n)

-- all were
pub record AreCited (s : Script) (r : Report) (what : What) (size : ℕ) (table : List Cited) : Type 0 where
  pub count : length table ≡ size
  pub each : (n : ℕ) → n < size → TellsCited (λ x. AnswerCites s r what n x) (cited_in table n)

-- none was
pub record IsNever (size : ℕ) (table : List Cited) : Type 0 where
  pub count : length table ≡ size
  pub each : (n : ℕ) → cited_in table n ≡ Never

-- one answer more was noted
pub record NotesAnswer (s : Script) (r : Report) (what : What) (worker number : ℕ) (old new : List Cited) : Type 0 where
  pub count : length new ≡ length old
  pub noted : AreCitedBefore s r what worker number old → AreCitedBefore s r what worker (number + 1) new

-- those of a worker were
pub record NotesWorker (s : Script) (r : Report) (what : What) (worker : ℕ) (old new : List Cited) : Type 0 where
  pub count : length new ≡ length old
  pub noted : AreCitedBefore s r what worker 0 old → AreCitedBefore s r what (worker + 1) 0 new
