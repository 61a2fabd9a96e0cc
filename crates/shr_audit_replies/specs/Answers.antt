-- SPDX-License-Identifier: GPL-2.0-only
-- What a command may be answered, but for the value that a hit lends.
use Rattle.std.specs.Prelude.{◌≡◌, ℕ, true, List, Option, Some}
use Rattle.shr_base.specs.declared.places.Serial.{Serial}
use Rattle.shr_base.specs.declared.places.Target.{Target}
use Rattle.shr_base.specs.declared.journals.Entry.TheVariants.{Look}
use Rattle.shr_base.specs.declared.replies.Answered.{Answered}
use Rattle.shr_base.specs.declared.replies.Reply.{Reply}
use Rattle.shr_base.specs.declared.replies.Reply.TheVariants as reply
use Rattle.shr_base.specs.declared.scripts.Act.TheVariants.{Get}
use Rattle.shr_base.specs.declared.scripts.Command.{Command}
use Rattle.shr_base.specs.declared.scripts.Command.TheVariants.{On}
use Rattle.shr_base.specs.declared.scripts.Script.{Script}
use Rattle.shr_model.specs.Families.{Family}
use Rattle.shr_laws.specs.declared.report.Report.{Report}
use Rattle.shr_laws.specs.Parts.{parents_of, journals_of, reply_at, id_found, at, EachAnswer, EachEntry}
use Rattle.shr_laws.specs.ReplyTable.{Cites, IsReply, LendsValue}

-- a `get` may be answered so with a cache that was found, whatever value it lends
abbrev pub MayGet : List ℕ → Family → Serial → Target → List ℕ → ℕ → Reply → Type 0
MayGet parents family by target key id (reply.Hit c value) = Cites family c id target.node (Look by target.group key true)
MayGet parents family by target key id x = IsReply parents family by (On target key Get) (Some id) x

-- a command may be answered so, whatever value a hit lends
abbrev pub MayReply : List ℕ → Family → Serial → Command → Option ℕ → Reply → Type 0
MayReply parents family by (On target key Get) (Some id) x = MayGet parents family by target key id x
MayReply parents family by c found x = IsReply parents family by c found x

-- a command may have this answer, whatever value a hit lends
abbrev pub IsAnswered : Script → Report → Serial → Command → Answered → Type 0
IsAnswered s r by c a = MayReply (parents_of s) (journals_of r) by c (id_found a) a.reply

-- each answer is one that its command may have, whatever value a hit lends
abbrev pub AreAnswered : Script → Report → Type 0
AreAnswered s r = EachAnswer s r (λ by c a. IsAnswered s r by c a)

-- a hit that cites a Look lends the value of the object that is there before it
abbrev pub AreValuesLent : Script → Report → Type 0
AreValuesLent s r = EachEntry r (λ place n e. (by : Serial) (birth : ℕ) (key value : List ℕ) → e ≡ Look by birth key true
    → reply_at r by ≡ Some (reply.Hit (at place n) value) → LendsValue (parents_of s) (journals_of r) (at place n) birth key value)
