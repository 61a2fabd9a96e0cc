-- SPDX-License-Identifier: GPL-2.0-only
-- Which id a command drained by its answer.
use Rattle.std.specs.Prelude.{◌≡◌, ℕ, Option, Some, None, option_and_then, ⊤}
use Rattle.shr_base.specs.declared.journals.Entry.{Entry}
use Rattle.shr_base.specs.declared.journals.Entry.TheVariants.{Drained}
use Rattle.shr_base.specs.declared.places.Place.{Place}
use Rattle.shr_base.specs.declared.places.Serial.{Serial}
use Rattle.shr_base.specs.declared.replies.Reply.{Reply}
use Rattle.shr_base.specs.declared.replies.Reply.TheVariants as reply
use Rattle.shr_base.specs.declared.scripts.Command.{Command}
use Rattle.shr_base.specs.declared.scripts.Script.{Script}
use Rattle.shr_laws.specs.declared.report.Report.{Report}
use Rattle.shr_laws.specs.Parts.{command_at, reply_at}

-- the id that the answer to an `unregister` that drained tells of
abbrev pub id_drained : Reply → Option ℕ
id_drained (reply.Freed id entry from to objects) = Some id
id_drained (reply.Half id entry from to objects why) = Some id
id_drained x = None

-- the id that the answer to a command of the script tells of so
abbrev pub id_drained_by : Script → Report → Serial → Option ℕ
id_drained_by s r by = option_and_then (λ (c : Command). option_and_then id_drained (reply_at r by)) (command_at s by)

-- a place is of an id, if there is one
abbrev pub IsOfId : Place → Option ℕ → Type 0
IsOfId place None = ⊤
IsOfId place (Some id) = place.id ≡ id

-- an entry of a place, if it is a Drained, is of a command that drained the place's id
abbrev pub IsDrainPlaced : Script → Report → Place → Entry → Type 0
IsDrainPlaced s r place (Drained by objects) = IsOfId place (id_drained_by s r by)
IsDrainPlaced s r place e = ⊤
