-- SPDX-License-Identifier: GPL-2.0-only
-- The text of a report.
use Rattle.std.specs.Prelude.{ℕ, ◌+◌, ◌==◌, Bool, if◌then◌else◌, List, [], ◌∷◌, ◌++◌, length, flat_map, take_while, drop, codes, sum_by}
use Rattle.std.specs.List.{prefix_len}
use Rattle.shr_base.specs.declared.objects.Object.{Object}
use Rattle.shr_base.specs.declared.objects.Policy.{Policy}
use Rattle.shr_base.specs.declared.objects.Policy.TheVariants.{Plain, Clock, Halt}
use Rattle.shr_base.specs.declared.journals.DropKind.{DropKind}
use Rattle.shr_base.specs.declared.journals.DropKind.TheVariants as kind
use Rattle.shr_base.specs.declared.journals.Entry.{Entry}
use Rattle.shr_base.specs.declared.journals.Entry.TheVariants as entry
use Rattle.shr_base.specs.declared.journals.PlainEntry.{PlainEntry}
use Rattle.shr_base.specs.declared.journals.PlainEntry.TheVariants as units
use Rattle.shr_base.specs.declared.journals.PoolEntry.{PoolEntry}
use Rattle.shr_base.specs.declared.journals.PoolEntry.TheVariants as pool
use Rattle.shr_base.specs.declared.journals.TreeEntry.{TreeEntry}
use Rattle.shr_base.specs.declared.journals.TreeEntry.TheVariants as tree
use Rattle.shr_base.specs.declared.journals.UseStep.{UseStep}
use Rattle.shr_base.specs.declared.replies.Answered.{Answered}
use Rattle.shr_base.specs.Walks.{WalkRecord}
use Rattle.shr_base.specs.declared.walks.Carry.{Carry}
use Rattle.shr_base.specs.declared.walks.PlainWalk.{PlainWalk}
use Rattle.shr_base.specs.declared.walks.Isolation.{Isolation}
use Rattle.shr_base.specs.declared.ends.PlaceAmount.{PlaceAmount}
use Rattle.shr_base.specs.declared.ends.PlaceEnd.{PlaceEnd}
use Rattle.shr_base.specs.declared.ends.MapEnd.{MapEnd}
use Rattle.shr_base.specs.declared.ends.UnitsEnd.{UnitsEnd}
use Rattle.shr_base.specs.declared.ends.WorkerPart.{WorkerPart}
use Rattle.shr_laws.specs.declared.report.Report.{Report}
use Rattle.shr_laws.specs.Lines.{line, numbered, numeral, signed_numeral, hex}
use Rattle.shr_laws.specs.AnswerText.{choice, place_words, value_word, reply_line, found_lines}
use Rattle.shr_laws.specs.WalkText.{walk_lines, carry_line, plain_lines, isolation_line}

-- a group, by its number and path
abbrev pub numbered_group_line : ℕ → List ℕ → List ℕ
numbered_group_line n path = line (codes "group") (numeral n ∷ path ∷ [])

-- a cache, by its number and name
abbrev pub numbered_cache_line : ℕ → List ℕ → List ℕ
numbered_cache_line n name = line (codes "cache") (numeral n ∷ name ∷ [])

-- a pool of units, by its number and name
abbrev pub units_name_line : ℕ → List ℕ → List ℕ
units_name_line n name = line (codes "pool") (numeral n ∷ name ∷ [])

-- an entry of the journal of registrations
abbrev pub pool_entry_line : ℕ → PoolEntry → List ℕ
pool_entry_line n (pool.Registered decl id from) = line (codes "pool") (numeral n ∷ codes "registered" ∷ numeral decl ∷ numeral id ∷ numeral from ∷ [])
pool_entry_line n (pool.Unregistered decl id to) = line (codes "pool") (numeral n ∷ codes "unregistered" ∷ numeral decl ∷ numeral id ∷ numeral to ∷ [])
pool_entry_line n (pool.Idle id) = line (codes "pool") (numeral n ∷ codes "idle" ∷ numeral id ∷ [])

-- an entry of the journal of the tree
abbrev pub tree_line : ℕ → TreeEntry → List ℕ
tree_line n (tree.Begin group) = line (codes "tree") (numeral n ∷ codes "begin" ∷ numeral group ∷ [])
tree_line n (tree.Done group) = line (codes "tree") (numeral n ∷ codes "done" ∷ numeral group ∷ [])
tree_line n (tree.Made group) = line (codes "tree") (numeral n ∷ codes "made" ∷ numeral group ∷ [])

-- a walk is of this command
abbrev pub is_walk_of : ℕ → WalkRecord → Bool
is_walk_of command w = w.by.command == command

-- the same for a carry
abbrev pub is_carry_of : ℕ → Carry → Bool
is_carry_of command c = c.by.command == command

-- the same for a walk of the pools
abbrev pub is_plain_of : ℕ → PlainWalk → Bool
is_plain_of command w = w.by.command == command

-- the same for an isolation
abbrev pub is_isolation_of : ℕ → Isolation → Bool
is_isolation_of command i = i.by.command == command

-- What a worker has besides its answers, from a command on: its isolations, its walks with the
-- number of the first, its carries, and its walks of the pools with the number of the first.
pub record Logs : Type 0 where
  pub isolations : List Isolation
  pub walk : ℕ
  pub walks : List WalkRecord
  pub carries : List Carry
  pub plain_walk : ℕ
  pub plain : List PlainWalk

-- the lines of a command, whose isolations, walks and carries stand next
abbrev pub log_lines : ℕ → Logs → List ℕ
log_lines command l =
    flat_map isolation_line (take_while (is_isolation_of command) l.isolations)
    ++ numbered walk_lines l.walk (take_while (is_walk_of command) l.walks)
    ++ flat_map carry_line (take_while (is_carry_of command) l.carries)
    ++ numbered plain_lines l.plain_walk (take_while (is_plain_of command) l.plain)

-- what is left behind a command
abbrev pub after_command : ℕ → Logs → Logs
after_command command l = record {
  isolations = drop (prefix_len (is_isolation_of command) l.isolations) l.isolations;
  walk = l.walk + prefix_len (is_walk_of command) l.walks;
  walks = drop (prefix_len (is_walk_of command) l.walks) l.walks;
  carries = drop (prefix_len (is_carry_of command) l.carries) l.carries;
  plain_walk = l.plain_walk + prefix_len (is_plain_of command) l.plain;
  plain = drop (prefix_len (is_plain_of command) l.plain) l.plain;
}

-- the answers of a worker from a command on, each with what else stands of its command
unfoldable pub answer_lines : ℕ → ℕ → List Answered → Logs → List ℕ
answer_lines worker command [] l = []
answer_lines worker command (a ∷ answers) l =
    reply_line worker command a.reply ++ found_lines a.found ++ log_lines command l ++ answer_lines worker (command + 1) answers (after_command command l)

-- all that a worker has besides its answers
abbrev pub logs_of : WorkerPart → Logs
logs_of part = record {
  isolations = part.isolations.items;
  walk = 0;
  walks = part.walks.items;
  carries = part.carries.items;
  plain_walk = 0;
  plain = part.plain.items;
}

-- the part of a worker, by its number
abbrev pub worker_lines : ℕ → WorkerPart → List ℕ
worker_lines worker part = answer_lines worker 0 part.answers.items (logs_of part)

-- the policy of a scan
abbrev pub policy_word : Policy → List ℕ
policy_word Plain = codes "plain"
policy_word Clock = codes "clock"
policy_word Halt = codes "halt"

-- what became of an object that was to be dropped
abbrev pub kind_word : DropKind → List ℕ
kind_word kind.Dropped = codes "dropped"
kind_word kind.Pinned = codes "pinned"
kind_word kind.Miss = codes "miss"

-- an entry of a list's journal
abbrev pub entry_line : Entry → List ℕ
entry_line (entry.Add by birth added key value) = line (codes "add") (numeral by.worker ∷ numeral by.command ∷ numeral birth ∷ key ∷ value_word value ∷ choice added (codes "added") (codes "exists") ∷ [])
entry_line (entry.Look by birth key hit) = line (codes "look") (numeral by.worker ∷ numeral by.command ∷ numeral birth ∷ key ∷ choice hit (codes "hit") (codes "miss") ∷ [])
entry_line (entry.Drop by birth key kind) = line (codes "drop") (numeral by.worker ∷ numeral by.command ∷ numeral birth ∷ key ∷ kind_word kind ∷ [])
entry_line (entry.Pin by birth key pinned hit) = line (choice pinned (codes "pin") (codes "unpin")) (numeral by.worker ∷ numeral by.command ∷ numeral birth ∷ key ∷ choice hit (codes "done") (codes "miss") ∷ [])
entry_line (entry.Scan worker walk asked policy visits freed stopped) = line (codes "scan") (numeral worker ∷ numeral walk ∷ numeral asked ∷ policy_word policy ∷ numeral visits ∷ numeral freed ∷ choice stopped (codes "stopped") (codes "whole") ∷ [])
entry_line (entry.MovedIn child objects) = line (codes "moved") (numeral child ∷ numeral objects ∷ [])
entry_line entry.Closed = line (codes "closed") []
entry_line (entry.Drained by objects) = line (codes "drained") (numeral by.worker ∷ numeral by.command ∷ numeral objects ∷ [])

-- an object on a list
abbrev pub item_line : Object → List ℕ
item_line o = line (codes "item") (numeral o.serial.worker ∷ numeral o.serial.command ∷ numeral o.birth ∷ o.key ∷ value_word o.value ∷ choice o.marked (codes "marked") (codes "clean") ∷ choice o.pinned (codes "pinned") (codes "loose") ∷ [])

-- a list: its place, its journal, and its items from the head
abbrev pub place_lines : PlaceEnd → List ℕ
place_lines p = line (codes "list") (place_words p.place) ++ flat_map entry_line p.entries.items ++ flat_map item_line p.items.items

-- an entry of a pool's journal
abbrev pub plain_entry_line : PlainEntry → List ℕ
plain_entry_line (units.Release by units) = line (codes "release") (numeral by.worker ∷ numeral by.command ∷ numeral units ∷ [])
plain_entry_line (units.Grab by got) = line (codes "grab") (numeral by.worker ∷ numeral by.command ∷ choice got (codes "got") (codes "bare") ∷ [])
plain_entry_line (units.Reclaim worker walk asked freed) = line (codes "reclaim") (numeral worker ∷ numeral walk ∷ numeral asked ∷ numeral freed ∷ [])

-- a pool on a node: its free units, and its journal
abbrev pub units_lines : UnitsEnd → List ℕ
units_lines u = line (codes "units") (numeral u.pool ∷ numeral u.node ∷ numeral u.free ∷ []) ++ flat_map plain_entry_line u.entries.items

-- the bits of a bit word, behind their unit but in version 1
abbrev pub bits_words : ℕ → MapEnd → List (List ℕ)
bits_words version m = if version == 1 then hex m.bits ∷ [] else numeral m.unit ∷ hex m.bits ∷ []

-- a bit word, by its node and group
abbrev pub bit_line : ℕ → MapEnd → List ℕ
bit_line version m = line (codes "bit") (numeral m.node ∷ numeral m.group ∷ bits_words version m)

-- a deferred word
abbrev pub deferred_line : PlaceAmount → List ℕ
deferred_line d = line (codes "deferred") (numeral d.place.id ∷ numeral d.place.node ∷ numeral d.place.group ∷ numeral d.amount ∷ [])

-- a deferred word of a pool
abbrev pub pool_deferred_line : PlaceAmount → List ℕ
pool_deferred_line d = line (codes "pooldeferred") (numeral d.place.id ∷ numeral d.place.node ∷ numeral d.amount ∷ [])

-- a charge or an uncharge
abbrev pub use_line : UseStep → List ℕ
use_line u = line (codes "use") (numeral u.group ∷ numeral u.operation ∷ choice u.up (codes "+") (codes "-") ∷ signed_numeral u.found ∷ numeral u.by.worker ∷ numeral u.by.command ∷ [])

-- how many lookups were made of an id
abbrev pub lookups_line : ℕ → ℕ → List ℕ
lookups_line id n = line (codes "lookups") (numeral id ∷ numeral n ∷ [])

-- the number of answers, and that of walks
abbrev pub reply_count : Report → ℕ
reply_count r = sum_by (λ w. length w.answers.items) r.workers.items

-- the same for the walks
abbrev pub walk_count : Report → ℕ
walk_count r = sum_by (λ w. length w.walks.items) r.workers.items

-- the head, the groups, the caches and the pools of units
abbrev pub head_lines : Report → List ℕ
head_lines r = line (codes "report") (numeral r.version ∷ []) ++ line (codes "size") (numeral r.nodes ∷ numeral r.ids ∷ [])
    ++ numbered numbered_group_line 0 r.groups.items ++ numbered numbered_cache_line 0 r.caches.items ++ numbered units_name_line 0 r.pools.items

-- the journal of registrations, and that of the tree
abbrev pub journal_lines : Report → List ℕ
journal_lines r = numbered pool_entry_line 0 r.pool.items ++ numbered tree_line 0 r.tree.items

-- the bit words, the deferred words, the charges and the lookups
abbrev pub table_lines : Report → List ℕ
table_lines r = flat_map (bit_line r.version) r.maps.items ++ flat_map deferred_line r.deferred.items ++ flat_map pool_deferred_line r.pool_deferred.items
    ++ flat_map use_line r.uses.items ++ numbered lookups_line 0 r.lookups.items

-- the totals, and the end
abbrev pub end_lines : Report → List ℕ
end_lines r = line (codes "total") (numeral r.added ∷ numeral r.freed ∷ numeral r.listed ∷ numeral (reply_count r) ∷ numeral (walk_count r) ∷ [])
    ++ line (codes "end") []

-- the text of a report
unfoldable pub text : Report → List ℕ
text r = head_lines r ++ journal_lines r ++ numbered worker_lines 0 r.workers.items
    ++ flat_map place_lines r.places.items ++ flat_map units_lines r.units.items ++ table_lines r ++ end_lines r
