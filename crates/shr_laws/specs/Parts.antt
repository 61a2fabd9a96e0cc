-- SPDX-License-Identifier: GPL-2.0-only
-- A script and a report by their parts: commands and answers by their serials, journals by their
-- places.
use Rattle.std.specs.Prelude.{◌≡◌, ◌<◌, ℕ, ◌-◌, ◌==◌, nat_lt, Bool, false, List, [], ◌∷◌, length, map, find, filter, filter_map, flat_map, sum_by, slice_get, slice_index, Option, Some, None, option_and_then, option_map, cond}
use Rattle.std.specs.List.{enumerate_from}
use Rattle.shr_base.specs.declared.places.Serial.{Serial}
use Rattle.shr_base.specs.declared.places.Place.{Place}
use Rattle.shr_base.specs.declared.places.At.{At}
use Rattle.shr_base.specs.declared.objects.Object.{Object}
use Rattle.shr_base.specs.declared.journals.Entry.{Entry}
use Rattle.shr_base.specs.declared.journals.Entry.TheVariants.{Add, Look, Drop, Pin, Scan, MovedIn, Closed, Drained}
use Rattle.shr_base.specs.declared.journals.UseStep.{UseStep}
use Rattle.shr_base.specs.declared.replies.Found.{Found}
use Rattle.shr_base.specs.declared.replies.Reply.{Reply}
use Rattle.shr_base.specs.declared.replies.Reply.TheVariants as reply
use Rattle.shr_base.specs.declared.replies.Answered.{Answered}
use Rattle.shr_base.specs.Walks.{Attempt, WalkRecord}
use Rattle.shr_base.specs.declared.walks.Carry.{Carry}
use Rattle.shr_base.specs.declared.walks.Isolation.{Isolation}
use Rattle.shr_base.specs.declared.ends.PlaceEnd.{PlaceEnd}
use Rattle.shr_base.specs.declared.ends.WorkerPart.{WorkerPart}
use Rattle.shr_base.specs.declared.scripts.CacheDecl.{CacheDecl}
use Rattle.shr_base.specs.declared.scripts.Command.{Command}
use Rattle.shr_base.specs.declared.scripts.Script.{Script}
use Rattle.shr_base.specs.declared.scripts.Sweep.{Sweep}
use Rattle.shr_base.specs.declared.scripts.WorkerScript.{WorkerScript}
use Rattle.shr_model.specs.Groups.{Hierarchy}
use Rattle.shr_model.specs.Isolations.{first_isolation}
use Rattle.shr_model.specs.Places.{is_place}
use Rattle.shr_model.specs.Families.{Family, items_at, items_of}
use Rattle.shr_model.specs.Commands.{is_serial, is_put}
use Rattle.shr_laws.specs.declared.report.Report.{Report}

-- the parents of the groups of a script, the root first
abbrev pub parents_of : Script → List ℕ
parents_of s = 0 ∷ map (λ g. g.parent) s.groups.items

-- whether each isn't there at the start, the root first
abbrev pub later_of : Script → List Bool
later_of s = false ∷ map (λ g. g.later) s.groups.items

-- the tree of the groups of a script, with which of them aren't there at the start
abbrev pub script_hierarchy : Script → Hierarchy
script_hierarchy s = record { parents = parents_of s; later = later_of s }

-- the limits of the groups, of which the root has none
abbrev pub limits_of : Script → List (Option ℕ)
limits_of s = None ∷ map (λ g. g.limit) s.groups.items

-- the limit of a group, where it has one
abbrev pub limit_of : Script → ℕ → Option ℕ
limit_of s group = option_and_then (λ limit. limit) (slice_get (limits_of s) group)

-- the declarations of the caches that are `on`, in order
abbrev pub decls_on : Script → List ℕ
decls_on s = filter_map (λ (c : ℕ × CacheDecl). cond c.1.on (Some c.0) None) (enumerate_from 0 s.caches.items)

-- a command by the numbers of its worker and its own
abbrev pub serial_of : ℕ → ℕ → Serial
serial_of worker command = record { worker = worker; command = command }

-- the commands of a worker, none past the last worker
abbrev pub commands_in : Option WorkerScript → List Command
commands_in None = []
commands_in (Some w) = w.commands.items

-- the commands of a worker by its number
abbrev pub commands_of : Script → ℕ → List Command
commands_of s worker = commands_in (slice_get s.workers.items worker)

-- how many answers a worker has behind those to its commands: one, to the sweep of a script that has one
abbrev pub sweeps_in : Option Sweep → Option WorkerScript → ℕ
sweeps_in None w = 0
sweeps_in (Some z) None = 0
sweeps_in (Some z) (Some w) = 1

-- the same by the number of the worker
abbrev pub sweeps_of : Script → ℕ → ℕ
sweeps_of s worker = sweeps_in s.sweep (slice_get s.workers.items worker)

-- the command with this serial, if the script has it
abbrev pub command_at : Script → Serial → Option Command
command_at s by = slice_get (commands_of s by.worker) by.command

-- how many commands of a script are puts
abbrev pub puts_of : Script → ℕ
puts_of s = sum_by (λ (w : WorkerScript). length (filter is_put w.commands.items)) s.workers.items

-- the answers, the walks and the carries of a worker, none past the last part
abbrev pub answers_in : Option WorkerPart → List Answered
answers_in None = []
answers_in (Some part) = part.answers.items

-- the same for the walks
abbrev pub walks_in : Option WorkerPart → List WalkRecord
walks_in None = []
walks_in (Some part) = part.walks.items

-- the same for the carries
abbrev pub carries_in : Option WorkerPart → List Carry
carries_in None = []
carries_in (Some part) = part.carries.items

-- the isolations
abbrev pub isolations_in : Option WorkerPart → List Isolation
isolations_in None = []
isolations_in (Some part) = part.isolations.items

-- the answers of a worker by its number
abbrev pub answers_of : Report → ℕ → List Answered
answers_of r worker = answers_in (slice_get r.workers.items worker)

-- the walks of a worker by its number
abbrev pub walks_of : Report → ℕ → List WalkRecord
walks_of r worker = walks_in (slice_get r.workers.items worker)

-- the carries of a worker by its number
abbrev pub carries_of : Report → ℕ → List Carry
carries_of r worker = carries_in (slice_get r.workers.items worker)

-- the isolations of a worker by its number
abbrev pub isolations_of : Report → ℕ → List Isolation
isolations_of r worker = isolations_in (slice_get r.workers.items worker)

-- all walks, and all carries, of a report
abbrev pub all_walks : Report → List WalkRecord
all_walks r = flat_map (λ (part : WorkerPart). part.walks.items) r.workers.items

-- the same for the carries
abbrev pub all_carries : Report → List Carry
all_carries r = flat_map (λ (part : WorkerPart). part.carries.items) r.workers.items

-- the answer to a command, and its reply
abbrev pub answer_at : Report → Serial → Option Answered
answer_at r by = slice_get (answers_of r by.worker) by.command

-- the reply to a command
abbrev pub reply_at : Report → Serial → Option Reply
reply_at r by = option_map (λ (a : Answered). a.reply) (answer_at r by)

-- the id of the cache that was found, where one was
abbrev pub id_found : Answered → Option ℕ
id_found a = option_map (λ (f : Found). f.id) a.found

-- the walks, and the carries, of a command
abbrev pub walks_by : Report → Serial → List WalkRecord
walks_by r by = filter (λ (w : WalkRecord). is_serial by w.by) (walks_of r by.worker)

-- the same for the carries
abbrev pub carries_by : Report → Serial → List Carry
carries_by r by = filter (λ (c : Carry). is_serial by c.by) (carries_of r by.worker)

-- a walk by the number of its worker and its own
abbrev pub walk_at : Report → ℕ → ℕ → Option WalkRecord
walk_at r worker n = slice_get (walks_of r worker) n

-- an isolation by the number of its worker and its own
abbrev pub isolation_at : Report → ℕ → ℕ → Option Isolation
isolation_at r worker k = slice_get (isolations_of r worker) k

-- P of each command with its answer
abbrev pub EachAnswer : Script → Report → (Serial → Command → Answered → Type 0) → Type 0
EachAnswer s r P = (by : Serial) (c : Command) (a : Answered) → command_at s by ≡ Some c → answer_at r by ≡ Some a → P by c a

-- P of each walk, and of each attempt of each walk, with the numbers of its worker and its own
abbrev pub EachWalk : Report → (ℕ → ℕ → WalkRecord → Type 0) → Type 0
EachWalk r P = (worker n : ℕ) (w : WalkRecord) → walk_at r worker n ≡ Some w → P worker n w

-- P of each attempt of a walk
abbrev pub EachAttempt : WalkRecord → (Attempt → Type 0) → Type 0
EachAttempt w P = (k : ℕ) (a : Attempt) → slice_get w.attempts.items k ≡ Some a → P a

-- the journal that is printed, or the empty one
abbrev pub journal_of : Option PlaceEnd → List Entry
journal_of None = []
journal_of (Some end) = end.entries.items

-- the journals of a report: a place that isn't printed has the empty one
abbrev pub journals_of : Report → Family
journals_of r place = journal_of (find (λ (end : PlaceEnd). is_place end.place place) r.places.items)

-- P of each entry of each journal, with its place and number
abbrev pub EachEntry : Report → (Place → ℕ → Entry → Type 0) → Type 0
EachEntry r P = (place : Place) (n : ℕ) (e : Entry) → slice_get (journals_of r place) n ≡ Some e → P place n e

-- the places that are printed
abbrev pub places_of : Report → List Place
places_of r = map (λ (end : PlaceEnd). end.place) r.places.items

-- the items of a place after so many entries, and at the end
abbrev pub items_before : Script → Report → Place → ℕ → List Object
items_before s r place n = items_at (parents_of s) (journals_of r) place n

-- the items of a place at the end
abbrev pub items_left : Script → Report → Place → List Object
items_left s r place = items_of (parents_of s) (journals_of r) place

-- a place is one of the tables and the tree of a script
pub record IsThere (s : Script) (place : Place) : Type 0 where
  pub id : place.id < s.ids
  pub node : place.node < s.nodes
  pub group : place.group < length (parents_of s)

-- the entry that a reply cites
abbrev pub cited_by : Reply → Option At
cited_by (reply.Added at) = Some at
cited_by (reply.Exists at) = Some at
cited_by (reply.Hit at value) = Some at
cited_by (reply.Miss at) = Some at
cited_by (reply.Dropped at) = Some at
cited_by (reply.Pinned at) = Some at
cited_by (reply.Done at) = Some at
cited_by r = None

-- the entry that the reply to a command cites
abbrev pub cited_at : Report → Serial → Option At
cited_at r by = option_and_then cited_by (reply_at r by)

-- an entry of a place
abbrev pub at : Place → ℕ → At
at place n = record { place = place; entry = n }

-- the command of the walk or the isolation with this number in a Scan entry
abbrev pub scanning_command : Report → ℕ → ℕ → Option Serial
scanning_command r worker n = cond (nat_lt n first_isolation)
    (option_map (λ (w : WalkRecord). w.by) (walk_at r worker n))
    (option_map (λ (i : Isolation). i.by) (isolation_at r worker (n - first_isolation)))

-- the command of an entry; that of a Scan is its walk's or its isolation's
abbrev pub entry_by : Report → Entry → Option Serial
entry_by r (Add by birth added key value) = Some by
entry_by r (Look by birth key hit) = Some by
entry_by r (Drop by birth key kind) = Some by
entry_by r (Pin by birth key pinned hit) = Some by
entry_by r (Scan worker walk asked policy visits freed stopped) = scanning_command r worker walk
entry_by r (MovedIn child objects) = None
entry_by r Closed = None
entry_by r (Drained by objects) = Some by

-- the operations of a group
abbrev pub uses_at : Report → ℕ → List UseStep
uses_at r group = filter (λ (o : UseStep). o.group == group) r.uses.items

-- the printed lookups of an id
abbrev pub lookups_at : Report → ℕ → ℕ
lookups_at r id = slice_index r.lookups.items id
