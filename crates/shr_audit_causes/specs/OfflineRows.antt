-- SPDX-License-Identifier: GPL-2.0-only
-- Causes of answers to an `offline` that was done, in the parts in which they are tested.
use Rattle.std.specs.Prelude.{◌≡◌, ◌≢◌, ℕ, ◌%◌, ◌^◌, ◌≤◌, Option, Some, ⊤, sum_by}
use Rattle.std.specs.Option.{IsSomeAnd}
use Rattle.shr_base.specs.declared.places.Serial.{Serial}
use Rattle.shr_base.specs.declared.journals.TreeEntry.TheVariants.{Done}
use Rattle.shr_base.specs.declared.replies.Answered.{Answered}
use Rattle.shr_base.specs.declared.replies.Reply.{Reply}
use Rattle.shr_base.specs.declared.replies.Reply.TheVariants as reply
use Rattle.shr_base.specs.declared.scripts.Command.{Command}
use Rattle.shr_base.specs.declared.scripts.Script.{Script}
use Rattle.shr_base.specs.declared.walks.Carry.{Carry}
use Rattle.shr_model.specs.Groups.{IsAtOrAbove}
use Rattle.shr_laws.specs.declared.report.Report.{Report}
use Rattle.shr_laws.specs.Causes.{IsOffline, MayHaveBegun, MayHaveSpliced, StandsInTree, objects_moved_from}
use Rattle.shr_laws.specs.Parts.{answer_at, carries_by, command_at, parents_of, serial_of}
use Rattle.shr_laws.specs.ReplyTable.{HasCause}
use Rattle.shr_audit_causes.specs.declared.offline_rows.Notes.{Notes}
use Rattle.shr_audit_causes.specs.Above.{AreAbove}
use Rattle.shr_audit_causes.specs.Moved.{AreMoved}
use Rattle.shr_audit_causes.specs.Spliced.{HasSplicedGroups}

-- an answer has its cause, if it is one that an offlining was done
abbrev pub HasOfflineCause : Script → Report → Serial → Command → Reply → Type 0
HasOfflineCause s r by c (reply.OfflineDone entry moved deferred) = HasCause s r by c (reply.OfflineDone entry moved deferred)
HasOfflineCause s r by c x = ⊤

-- so has the answer with this number
abbrev pub IsOfflineCausedAt : Script → Report → ℕ → ℕ → Type 0
IsOfflineCausedAt s r worker k = (c : Command) (a : Answered) → command_at s (serial_of worker k) ≡ Some c → answer_at r (serial_of worker k) ≡ Some a → HasOfflineCause s r (serial_of worker k) c a.reply

-- nobody but a command of this worker that was done can have spliced lists of the group
pub record IsSoleSplicer (s : Script) (r : Report) (worker group : ℕ) : Type 0 where
  pub here : (x : Serial) → IsOffline s r x group MayHaveSpliced → ⊥
  pub above : (x : Serial) (g : ℕ) → x.worker ≢ worker → g ≢ group → IsAtOrAbove (parents_of s) g group → IsOffline s r x g MayHaveBegun → ⊥

-- so many objects may be told: no more than were moved from the group, and all where nobody else can have moved some
pub record IsMoveRight (s : Script) (r : Report) (worker group moved : ℕ) : Type 0 where
  pub most : moved ≤ objects_moved_from r group
  pub whole : IsSoleSplicer s r worker group → moved ≡ objects_moved_from r group

-- a reply that an offlining was done cites the group's Done, and tells such a number
abbrev pub IsMovedSo : Script → Report → ℕ → Option ℕ → Reply → Type 0
IsMovedSo s r worker group (reply.OfflineDone entry moved deferred) = IsSomeAnd group (λ g. StandsInTree r entry (Done g) × IsMoveRight s r worker g moved)
IsMovedSo s r worker group x = ⊤

-- it tells what its command carried
abbrev pub IsCarriedSo : Report → ℕ → ℕ → Reply → Type 0
IsCarriedSo r worker k (reply.OfflineDone entry moved deferred) = deferred ≡ sum_by (λ (c : Carry). c.amount) (carries_by r (serial_of worker k)) % 2 ^ 64
IsCarriedSo r worker k x = ⊤

-- what is noted once of a script and a report
pub record AreOfflineNotes (s : Script) (r : Report) (n : Notes) : Type 0 where
  pub moved : AreMoved r n.moved.items
  pub spliced : HasSplicedGroups s r n.spliced.items
  pub above : AreAbove s r n.above.items
