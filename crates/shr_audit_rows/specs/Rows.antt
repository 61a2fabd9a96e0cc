-- SPDX-License-Identifier: GPL-2.0-only
-- Causes of replies, in the parts in which they are tested.
use Rattle.std.specs.Prelude.{◌≡◌, ◌^◌, ◌≤◌, ℕ, List, length, slice_get, Option, Some, ⊤}
use Rattle.std.specs.Option.{IsSomeAnd}
use Rattle.shr_base.specs.declared.places.Serial.{Serial}
use Rattle.shr_base.specs.declared.journals.TreeEntry.TheVariants.{Begin, Done, Made}
use Rattle.shr_base.specs.declared.replies.Answered.{Answered}
use Rattle.shr_base.specs.declared.replies.Reply.{Reply}
use Rattle.shr_base.specs.declared.replies.Reply.TheVariants as reply
use Rattle.shr_base.specs.declared.scripts.Command.{Command}
use Rattle.shr_base.specs.declared.scripts.Script.{Script}
use Rattle.shr_base.specs.declared.scripts.WorkerScript.{WorkerScript}
use Rattle.shr_model.specs.Commands.{decl_named, group_named}
use Rattle.shr_laws.specs.declared.report.Report.{Report}
use Rattle.shr_laws.specs.Causes.{IsInTheWay, IsOver, IsUnmade, StandsInTree}
use Rattle.shr_laws.specs.Parts.{answer_at, command_at, serial_of}
use Rattle.shr_laws.specs.ReplyTable.{HasCause, IsUsedUp, group_met}
use Rattle.shr_audit_reasons.specs.Counted.{IsCountOf}
use Rattle.shr_audit_rows.specs.declared.rows.Notes.{Notes}
use Rattle.shr_audit_rows.specs.Moments.{AreMoments}
use Rattle.shr_audit_rows.specs.Registered.{EntryRegisters}
use Rattle.shr_audit_rows.specs.Tried.{AreTries}

-- the commands of a script have numbers of their types, as in each valid script
pub record AreFew (workers : List WorkerScript) : Type 0 where
  pub few : length workers ≤ 2 ^ 16
  pub short : (worker : ℕ) (w : WorkerScript) → slice_get workers worker ≡ Some w → length w.commands.items ≤ 2 ^ 32

-- an answer has its cause, if it isn't that of an `unregister` that drained or of an `offline` that was done
abbrev pub HasCauseButEnds : Script → Report → Serial → Command → Reply → Type 0
HasCauseButEnds s r by c (reply.OfflineDone entry moved deferred) = ⊤
HasCauseButEnds s r by c (reply.Freed id entry from to objects) = ⊤
HasCauseButEnds s r by c (reply.Half id entry from to objects why) = ⊤
HasCauseButEnds s r by c x = HasCause s r by c x

-- what an Over says, to a command at this group
abbrev pub IsOverSo : Script → Report → Serial → Option ℕ → ℕ → ℕ → ℕ → Type 0
IsOverSo s r by group h operation usage = IsSomeAnd group (λ g. IsOver s r by g h operation usage)

-- a reply that speaks of the state of a group has its cause
abbrev pub HasStateCause : Script → Report → Command → Reply → Type 0
HasStateCause s r c (reply.Offline entry) = IsSomeAnd (group_met s c) (λ g. StandsInTree r entry (Begin g))
HasStateCause s r c (reply.NotMade group) = IsSomeAnd (group_met s c) (λ g. IsUnmade s g group)
HasStateCause s r c (reply.Made entry) = IsSomeAnd (group_named c) (λ g. StandsInTree r entry (Made g))
HasStateCause s r c (reply.AlreadyMade entry) = IsSomeAnd (group_named c) (λ g. StandsInTree r entry (Made g))
HasStateCause s r c (reply.AlreadyDone entry) = IsSomeAnd (group_named c) (λ g. StandsInTree r entry (Done g))
HasStateCause s r c reply.Root = IsSomeAnd (group_named c) (λ g. g ≡ 0)
HasStateCause s r c x = ⊤

-- one that speaks of a counter, a charge, a child or a registration has
abbrev pub HasCountCause : Script → Report → Serial → Command → Reply → Type 0
HasCountCause s r by c (reply.Over h operation usage) = IsOverSo s r by (group_named c) h operation usage
HasCountCause s r by c (reply.Worn x) = IsUsedUp s r by c x
HasCountCause s r by c (reply.HasChildren child entry) = IsSomeAnd (group_named c) (λ g. IsInTheWay s r g child entry)
HasCountCause s r by c (reply.Registered id entry) = IsSomeAnd (decl_named c) (λ d. EntryRegisters r d id entry)
HasCountCause s r by c x = ⊤

-- so has the answer with this number, but for what it says of declarations
abbrev pub IsCausedAt : Script → Report → ℕ → ℕ → Type 0
IsCausedAt s r worker k = (c : Command) (a : Answered) → command_at s (serial_of worker k) ≡ Some c → answer_at r (serial_of worker k) ≡ Some a
    → HasStateCause s r c a.reply × HasCountCause s r (serial_of worker k) c a.reply

-- what is noted once of a script and a report
pub record AreRowNotes (s : Script) (r : Report) (n : Notes) : Type 0 where
  pub counted : IsCountOf s r n.counted
  pub tries : AreTries r.uses.items n.tries.tried n.tries.counts.items
  pub moments : AreMoments s r n.moments
