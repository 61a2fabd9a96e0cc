-- SPDX-License-Identifier: GPL-2.0-only
-- What each command charged and freed, group by group.
use Rattle.std.specs.Prelude.{◌≡◌, ℕ, pos, ◌+◌, ◌-ℤ◌, ◌<◌, ◌≤◌, ◌^◌, List, [], ◌∷◌, ◌++◌, length, flat_map, slice_get, Option, Some, None, option_map, option_and_then}
use Rattle.shr_base.specs.declared.journals.Entry.{Entry}
use Rattle.shr_base.specs.declared.places.Place.{Place}
use Rattle.shr_base.specs.declared.places.Serial.{Serial}
use Rattle.shr_base.specs.declared.replies.Answered.{Answered}
use Rattle.shr_base.specs.declared.replies.Reply.{Reply}
use Rattle.shr_base.specs.declared.replies.Reply.TheVariants.{Added}
use Rattle.shr_base.specs.declared.scripts.Command.{Command}
use Rattle.shr_base.specs.declared.scripts.Command.TheVariants.{Put}
use Rattle.shr_base.specs.declared.scripts.Script.{Script}
use Rattle.shr_base.specs.declared.scripts.WorkerScript.{WorkerScript}
use Rattle.shr_base.specs.declared.walks.Isolation.{Isolation}
use Rattle.shr_model.specs.Charges.{usage_after, ops_by}
use Rattle.shr_model.specs.Families.{lists_moved_at}
use Rattle.shr_audit_case.specs.declared.tags.FreedTag.{FreedTag}
use Rattle.shr_audit_case.specs.Journals.{freed_tags}
use Rattle.shr_laws.specs.declared.report.Report.{Report}
use Rattle.shr_laws.specs.Charges.{charged, freed_below}
use Rattle.shr_laws.specs.Parts.{answer_at, command_at, entry_by, isolation_at, journals_of, parents_of, reply_at, serial_of}
use Rattle.shr_audit_charges.specs.History.{group_uses}
use Rattle.shr_audit_charges.specs.Paths.{path_keys}

-- a command's operations in each group that is there come to what it charged less what it freed
abbrev pub AreNets : Script → Report → Type 0
AreNets s r = (by : Serial) (group : ℕ) → group < length (parents_of s)
    → usage_after (ops_by by (group_uses r.uses.items group)) ≡ pos (charged (parents_of s) group (command_at s by) (reply_at r by)) -ℤ pos (freed_below s r by group)

-- the workers and their commands have numbers of their types, as in a valid script
pub record AreWorkersFew (workers : List WorkerScript) : Type 0 where
  pub few : length workers ≤ 2 ^ 16
  pub short : (worker : ℕ) (w : WorkerScript) → slice_get workers worker ≡ Some w → length w.commands.items ≤ 2 ^ 32

-- the command of an isolation by the number of its worker and its own
abbrev pub isolation_by : Report → ℕ → ℕ → Option Serial
isolation_by r worker k = option_map (λ (i : Isolation). i.by) (isolation_at r worker k)

-- the command of the entry with this number, if there is one
abbrev pub freeing_command : Report → List Entry → ℕ → Option Serial
freeing_command r entries n = option_and_then (entry_by r) (slice_get entries n)

-- a command in each group at or above another, if there is a command
abbrev pub by_keys : List ℕ → Option Serial → ℕ → List ℕ
by_keys parents None birth = []
by_keys parents (Some by) birth = path_keys parents by birth

-- the command that freed an object in each group at or above the object's
abbrev pub freed_keys : List ℕ → Report → List Entry → FreedTag → List ℕ
freed_keys parents r entries t = by_keys parents (freeing_command r entries t.entry) t.tag.birth

-- the same of each object that was freed from the list of a place
abbrev pub place_keys : List ℕ → Report → Place → List ℕ
place_keys parents r place = flat_map (freed_keys parents r (journals_of r place)) (freed_tags 0 (lists_moved_at parents (journals_of r) place) [] (journals_of r place))

-- a command in each group that it charged
abbrev pub charge_keys : List ℕ → Serial → Command → Reply → List ℕ
charge_keys parents by (Put at key value) (Added c) = path_keys parents by at.group
charge_keys parents by c x = []

-- the same if it was answered
abbrev pub answer_keys : List ℕ → Serial → Command → Option Answered → List ℕ
answer_keys parents by c None = []
answer_keys parents by c (Some a) = charge_keys parents by c a.reply

-- the same of the commands of a worker, of which the first has this number
abbrev pub commands_keys : List ℕ → Report → ℕ → ℕ → List Command → List ℕ
commands_keys parents r worker n [] = []
commands_keys parents r worker n (c ∷ cs) = answer_keys parents (serial_of worker n) c (answer_at r (serial_of worker n)) ++ commands_keys parents r worker (n + 1) cs

-- the same of workers, of which the first has this number
abbrev pub workers_keys : List ℕ → Report → ℕ → List WorkerScript → List ℕ
workers_keys parents r worker [] = []
workers_keys parents r worker (w ∷ ws) = commands_keys parents r worker 0 w.commands.items ++ workers_keys parents r (worker + 1) ws
