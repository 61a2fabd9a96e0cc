-- SPDX-License-Identifier: GPL-2.0-only
-- Causes of the answers to an `unregister` that drained, in the parts in which they are tested.
use Rattle.std.specs.Prelude.{◌≡◌, ℕ, true, false, Some, ⊤}
use Rattle.std.specs.Option.{IsSomeAnd}
use Rattle.shr_base.specs.declared.places.Serial.{Serial}
use Rattle.shr_base.specs.declared.replies.Answered.{Answered}
use Rattle.shr_base.specs.declared.replies.Reply.{Reply}
use Rattle.shr_base.specs.declared.replies.Reply.TheVariants as reply
use Rattle.shr_base.specs.declared.scripts.Command.{Command}
use Rattle.shr_base.specs.declared.scripts.Script.{Script}
use Rattle.shr_model.specs.Commands.{decl_named}
use Rattle.shr_laws.specs.declared.report.Report.{Report}
use Rattle.shr_laws.specs.Causes.{IsWhy}
use Rattle.shr_laws.specs.Parts.{answer_at, command_at, serial_of}
use Rattle.shr_laws.specs.ReplyTable.{HasCause}
use Rattle.shr_audit_causes.specs.declared.ended.Ended.{Ended}
use Rattle.shr_audit_causes.specs.Ended.{IsEndedSo}

-- an answer has its cause, if it is that of an `unregister` that drained
abbrev pub HasUnregisterCause : Script → Report → Serial → Command → Reply → Type 0
HasUnregisterCause s r by c (reply.Freed id entry from to objects) = HasCause s r by c (reply.Freed id entry from to objects)
HasUnregisterCause s r by c (reply.Half id entry from to objects why) = HasCause s r by c (reply.Half id entry from to objects why)
HasUnregisterCause s r by c x = ⊤

-- what such an answer says, in one
abbrev pub as_ended : ℕ → ℕ → ℕ → ℕ → ℕ → Ended
as_ended id entry from to objects = record { id = id; entry = entry; from = from; to = to; objects = objects }

-- it is right of its entry, of where its registration began, of its objects, and of whether its id is idle afterwards
abbrev pub HasEnd : Report → Serial → Command → Reply → Type 0
HasEnd r by c (reply.Freed id entry from to objects) = IsSomeAnd (decl_named c) (λ d. IsEndedSo r by d (as_ended id entry from to objects) true)
HasEnd r by c (reply.Half id entry from to objects why) = IsSomeAnd (decl_named c) (λ d. IsEndedSo r by d (as_ended id entry from to objects) false)
HasEnd r by c x = ⊤

-- it had a reason, if it stopped half way
abbrev pub HasHalfReason : Script → Report → ℕ → Reply → Type 0
HasHalfReason s r worker (reply.Half id entry from to objects why) = IsWhy s r worker why
HasHalfReason s r worker x = ⊤

-- the answer with this number has both
abbrev pub IsUnregisterCausedAt : Script → Report → ℕ → ℕ → Type 0
IsUnregisterCausedAt s r worker k = (c : Command) (a : Answered) → command_at s (serial_of worker k) ≡ Some c → answer_at r (serial_of worker k) ≡ Some a
    → HasEnd r (serial_of worker k) c a.reply × HasHalfReason s r worker a.reply
