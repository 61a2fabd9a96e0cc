-- SPDX-License-Identifier: GPL-2.0-only
-- The lines of a report read back: what each says, by its first word and those behind it. No clause cites this, as with
-- `ReadWords`.
use Rattle.std.specs.Prelude.{ℕ, ◌==◌, bytes_eq, codes, if◌then◌else◌, Bool, true, false, List}
use Rattle.shr_base.specs.declared.places.Place.{Place}
use Rattle.shr_base.specs.declared.places.Serial.{Serial}
use Rattle.shr_base.specs.declared.objects.Object.{Object}
use Rattle.shr_base.specs.declared.objects.Policy.{Policy}
use Rattle.shr_base.specs.declared.objects.Policy.TheVariants.{Plain, Clock, Halt}
use Rattle.shr_base.specs.declared.journals.DropKind.{DropKind}
use Rattle.shr_base.specs.declared.journals.DropKind.TheVariants as kind
use Rattle.shr_base.specs.declared.journals.Entry.{Entry}
use Rattle.shr_base.specs.declared.journals.Entry.TheVariants as entry
use Rattle.shr_base.specs.declared.journals.PlainEntry.{PlainEntry}
use Rattle.shr_base.specs.declared.journals.PlainEntry.TheVariants as units
use Rattle.shr_base.specs.declared.journals.PoolEntry.{PoolEntry}
use Rattle.shr_base.specs.declared.journals.PoolEntry.TheVariants as pool
use Rattle.shr_base.specs.declared.journals.TreeEntry.{TreeEntry}
use Rattle.shr_base.specs.declared.journals.TreeEntry.TheVariants as tree
use Rattle.shr_base.specs.declared.journals.UseStep.{UseStep}
use Rattle.shr_base.specs.declared.replies.IsolateEnd.{IsolateEnd}
use Rattle.shr_base.specs.declared.replies.Found.{Found}
use Rattle.shr_base.specs.declared.replies.Reply.{Reply}
use Rattle.shr_base.specs.declared.replies.Reply.TheVariants as reply
use Rattle.shr_base.specs.declared.walks.GoneThen.TheVariants as gone
use Rattle.shr_base.specs.declared.walks.Outcome.{Outcome}
use Rattle.shr_base.specs.declared.walks.Outcome.TheVariants as outcome
use Rattle.shr_base.specs.Walks.{Attempt}
use Rattle.shr_base.specs.declared.walks.MapSeen.{MapSeen}
use Rattle.shr_base.specs.declared.walks.WalkAnswer.{WalkAnswer}
use Rattle.shr_base.specs.declared.walks.WalkAnswer.TheVariants as answer
use Rattle.shr_base.specs.declared.walks.PlainTry.{PlainTry}
use Rattle.shr_base.specs.declared.walks.PlainTry.TheVariants as tried
use Rattle.shr_base.specs.declared.walks.PlainAnswer.{PlainAnswer}
use Rattle.shr_base.specs.declared.walks.PlainAnswer.TheVariants as plain
use Rattle.shr_base.specs.declared.ends.PlaceAmount.{PlaceAmount}
use Rattle.shr_base.specs.declared.ends.MapEnd.{MapEnd}
use Rattle.shr_report.specs.ReadWords.{unhex, signed_num, later, is_none, bytes_later, w0, w1, w2, w3, w4, w5, w6, n0, n1, n2, n3, n4, n5, n6, read_place, read_at, read_serial, read_spent, read_why, read_isolate_end, read_pass}

-- an answer, behind its numbers
unfoldable pub read_reply : List (List ℕ) → Reply
read_reply ws =
    if bytes_eq (w0 ws) (codes "added") then reply.Added (read_at (later ws)) else
    if bytes_eq (w0 ws) (codes "exists") then reply.Exists (read_at (later ws)) else
    if bytes_eq (w0 ws) (codes "miss") then reply.Miss (read_at (later ws)) else
    if bytes_eq (w0 ws) (codes "dropped") then reply.Dropped (read_at (later ws)) else
    if bytes_eq (w0 ws) (codes "pinned") then reply.Pinned (read_at (later ws)) else
    if bytes_eq (w0 ws) (codes "hit") then reply.Hit (read_at (later ws)) (bytes_later (w5 ws)) else
    if bytes_eq (w0 ws) (codes "offline") then reply.Offline (n1 ws) else
    if bytes_eq (w0 ws) (codes "over") then reply.Over (n1 ws) (n2 ws) (n3 ws) else
    if bytes_eq (w0 ws) (codes "nocache") then reply.NoCache (n1 ws) else
    if bytes_eq (w0 ws) (codes "worn") then reply.Worn (read_spent (later ws)) else
    if bytes_eq (w0 ws) (codes "walked") then reply.Walked (n1 ws) else
    if bytes_eq (w0 ws) (codes "alreadydone") then reply.AlreadyDone (n1 ws) else
    if bytes_eq (w0 ws) (codes "root") then reply.Root else
    if bytes_eq (w0 ws) (codes "haschildren") then reply.HasChildren (n1 ws) (n2 ws) else
    if bytes_eq (w0 ws) (codes "registered") then reply.Registered (n1 ws) (n2 ws) else
    if bytes_eq (w0 ws) (codes "alreadyregistered") then reply.AlreadyRegistered (n1 ws) else
    if bytes_eq (w0 ws) (codes "noid") then reply.NoId (n1 ws) else
    if bytes_eq (w0 ws) (codes "freed") then reply.Freed (n1 ws) (n2 ws) (n3 ws) (n4 ws) (n5 ws) else
    if bytes_eq (w0 ws) (codes "done") then (if is_none (later (later (later (later ws)))) then reply.OfflineDone (n1 ws) (n2 ws) (n3 ws) else reply.Done (read_at (later ws))) else
    if bytes_eq (w0 ws) (codes "memory") then (if is_none (later ws) then reply.Memory else reply.WalkMemory (n1 ws)) else
    if bytes_eq (w0 ws) (codes "made") then reply.Made (n1 ws) else
    if bytes_eq (w0 ws) (codes "alreadymade") then reply.AlreadyMade (n1 ws) else
    if bytes_eq (w0 ws) (codes "notmade") then reply.NotMade (n1 ws) else
    if bytes_eq (w0 ws) (codes "isolated") then reply.Isolated (n1 ws) (n2 ws) (read_isolate_end (later (later (later ws)))) else
    if bytes_eq (w0 ws) (codes "released") then reply.Released (n1 ws) (n2 ws) (n3 ws) else
    if bytes_eq (w0 ws) (codes "full") then reply.Full (n1 ws) (n2 ws) (n3 ws) (n4 ws) else
    if bytes_eq (w0 ws) (codes "grabbed") then reply.Grabbed (n1 ws) (n2 ws) (n3 ws) else
    if bytes_eq (w0 ws) (codes "bare") then reply.Bare (n1 ws) (n2 ws) (n3 ws) else
    if bytes_eq (w0 ws) (codes "swept") then reply.Swept (n1 ws) (n2 ws) else
    reply.Half (n1 ws) (n2 ws) (n3 ws) (n4 ws) (n5 ws) (read_why (later (later (later (later (later (later ws)))))))

-- the worker and the reply that a line's words say
abbrev pub read_reply_line : List ℕ → List (List ℕ) → ℕ × Reply
read_reply_line f ws = (n0 ws, read_reply (later (later ws)))

-- the found cache that a line's words say
abbrev pub read_found : List ℕ → List (List ℕ) → Found
read_found f ws = record { id = n0 ws; number = n1 ws; entry = n2 ws }

-- the path that a line's words say
abbrev pub read_group : List ℕ → List (List ℕ) → List ℕ
read_group f ws = w1 ws

-- the name that a line's words say
abbrev pub read_cache : List ℕ → List (List ℕ) → List ℕ
read_cache f ws = w1 ws

-- the entry of the journal of registrations that a line's words say
abbrev pub read_pool : List ℕ → List (List ℕ) → PoolEntry
read_pool f ws = if bytes_eq (w1 ws) (codes "registered") then pool.Registered (n2 ws) (n3 ws) (n4 ws)
    else if bytes_eq (w1 ws) (codes "unregistered") then pool.Unregistered (n2 ws) (n3 ws) (n4 ws) else pool.Idle (n2 ws)

-- the entry of the journal of the tree that a line's words say
abbrev pub read_tree : List ℕ → List (List ℕ) → TreeEntry
read_tree f ws = if bytes_eq (w1 ws) (codes "begin") then tree.Begin (n2 ws) else if bytes_eq (w1 ws) (codes "done") then tree.Done (n2 ws) else tree.Made (n2 ws)

-- what an attempt came to, from the words behind its id
unfoldable pub read_outcome : List (List ℕ) → Outcome
read_outcome ws =
    if is_none (later (later ws)) then outcome.Worn (n1 ws) else
    if bytes_eq (w1 ws) (codes "gone") then outcome.Gone (n0 ws) (if bytes_eq (w2 ws) (codes "set") then gone.Set else if bytes_eq (w2 ws) (codes "clear") then gone.Clear else gone.Root) else
    if bytes_eq (w2 ws) (codes "skip") then outcome.Skip (n0 ws) (n3 ws) (n4 ws) else
    if bytes_eq (w2 ws) (codes "ran") then outcome.Ran (n0 ws) (read_pass (later (later (later ws)))) else
    if bytes_eq (w2 ws) (codes "empty") then outcome.Empty (n0 ws) (n3 ws) else
    if bytes_eq (w2 ws) (codes "cleared") then outcome.Cleared (n0 ws) (n3 ws) (n4 ws) else
    if bytes_eq (w4 ws) (codes "skip") then outcome.RestoredSkip (n0 ws) (n3 ws) (n5 ws) (n6 ws) else
    outcome.RestoredRan (n0 ws) (n3 ws) (read_pass (later (later (later (later (later ws))))))

-- the attempt that a line's words say
abbrev pub read_attempt : List ℕ → List (List ℕ) → Attempt
read_attempt f ws = record { id = n0 ws; outcome = read_outcome (later ws) }

-- the map that a line's words say
abbrev pub read_map : List ℕ → List (List ℕ) → MapSeen
read_map f ws = record { unit = n0 ws; bits = unhex (w1 ws) }

-- a walk without what it did
pub record WalkHead : Type 0 where
  pub group : ℕ
  pub node : ℕ
  pub priority : ℕ
  pub nofs : Bool
  pub answer : WalkAnswer

-- the answer of a walk that words say
unfoldable pub read_walked : List (List ℕ) → WalkAnswer
read_walked ws = if bytes_eq (w0 ws) (codes "ran") then answer.Walked (n1 ws) else if bytes_eq (w0 ws) (codes "offline") then answer.Offline (n1 ws) else answer.Memory (n1 ws)

-- the same, as a line's words say it
abbrev pub read_walk : List ℕ → List (List ℕ) → WalkHead
read_walk f ws = record { group = n1 ws; node = n2 ws; priority = n3 ws; nofs = bytes_eq (w4 ws) (codes "nofs"); answer = read_walked (later (later (later (later (later ws))))) }

-- what words say that a walk of the pools came to at one pool
unfoldable pub read_try : List (List ℕ) → PlainTry
read_try ws = if bytes_eq (w0 ws) (codes "empty") then tried.Empty (n1 ws) else if bytes_eq (w0 ws) (codes "skip") then tried.Skip (n1 ws) (n2 ws) else tried.Ran (read_pass (later ws))

-- the same, as a line's words say it
abbrev pub read_pass_line : List ℕ → List (List ℕ) → PlainTry
read_pass_line f ws = read_try (later ws)

-- the answer of a walk of the pools that words say
unfoldable pub read_plain_answer : List (List ℕ) → PlainAnswer
read_plain_answer ws = if bytes_eq (w0 ws) (codes "ran") then plain.Walked (n1 ws) else plain.Memory (n1 ws)

-- a walk of the pools without its tries
pub record PlainHead : Type 0 where
  pub node : ℕ
  pub priority : ℕ
  pub answer : PlainAnswer

-- the same, as a line's words say it
abbrev pub read_plain : List ℕ → List (List ℕ) → PlainHead
read_plain f ws = record { node = n1 ws; priority = n2 ws; answer = read_plain_answer (later (later (later ws))) }

-- an isolation without its command
pub record IsolationHead : Type 0 where
  pub place : Place
  pub budget : ℕ
  pub visits : ℕ
  pub freed : ℕ
  pub ending : IsolateEnd

-- the same, as a line's words say it
abbrev pub read_isolation : List ℕ → List (List ℕ) → IsolationHead
read_isolation f ws = record {
  place = read_place ws;
  budget = n3 ws;
  visits = n4 ws;
  freed = n5 ws;
  ending = read_isolate_end (later (later (later (later (later (later ws))))));
}

-- the name of a pool of units that a line's words say
abbrev pub read_units_name : List ℕ → List (List ℕ) → List ℕ
read_units_name f ws = w1 ws

-- the entry of a pool's journal that a line's words say
unfoldable pub read_plain_entry : List ℕ → List (List ℕ) → PlainEntry
read_plain_entry f ws =
    if bytes_eq f (codes "release") then units.Release (read_serial ws) (n2 ws) else
    if bytes_eq f (codes "grab") then units.Grab (read_serial ws) (bytes_eq (w2 ws) (codes "got")) else
    units.Reclaim (n0 ws) (n1 ws) (n2 ws) (n3 ws)

-- a pool on a node without its journal
pub record UnitsHead : Type 0 where
  pub pool : ℕ
  pub node : ℕ
  pub free : ℕ

-- the same, as a line's words say it
abbrev pub read_units : List ℕ → List (List ℕ) → UnitsHead
read_units f ws = record { pool = n0 ws; node = n1 ws; free = n2 ws }

-- the deferred word of a pool that a line's words say
abbrev pub read_pool_amount : List ℕ → List (List ℕ) → PlaceAmount
read_pool_amount f ws = record { place = record { id = n0 ws; node = n1 ws; group = 0 }; amount = n2 ws }

-- the amount of a place that a line's words say
abbrev pub read_amount : List ℕ → List (List ℕ) → PlaceAmount
read_amount f ws = record { place = read_place ws; amount = n3 ws }

-- the place that a line's words say
abbrev pub read_list : List ℕ → List (List ℕ) → Place
read_list f ws = read_place ws

-- a bit word of this node, group and unit
abbrev pub bits_of : ℕ → ℕ → ℕ → ℕ → MapEnd
bits_of node group unit bits = record { node = node; group = group; unit = unit; bits = bits }

-- the bit word that a line's words say in a version
abbrev pub read_bit : ℕ → List ℕ → List (List ℕ) → MapEnd
read_bit version f ws = if version == 1 then bits_of (n0 ws) (n1 ws) 0 (unhex (w2 ws)) else bits_of (n0 ws) (n1 ws) (n2 ws) (unhex (w3 ws))

-- the charge or uncharge that a line's words say
abbrev pub read_use : List ℕ → List (List ℕ) → UseStep
read_use f ws = record { group = n0 ws; operation = n1 ws; up = bytes_eq (w2 ws) (codes "+"); found = signed_num (w3 ws); by = read_serial (later (later (later (later ws)))) }

-- the number of lookups that a line's words say
abbrev pub read_lookups : List ℕ → List (List ℕ) → ℕ
read_lookups f ws = n1 ws

-- the numbers of a report's last line but one
pub record Totals : Type 0 where
  pub added : ℕ
  pub freed : ℕ
  pub listed : ℕ

-- totals of these numbers
abbrev pub totals : ℕ → ℕ → ℕ → Totals
totals added freed listed = record { added = added; freed = freed; listed = listed }

-- the totals that a line's words say
abbrev pub read_total : List ℕ → List (List ℕ) → Totals
read_total f ws = totals (n0 ws) (n1 ws) (n2 ws)

-- the version that a line's words say
abbrev pub read_version : List ℕ → List (List ℕ) → ℕ
read_version f ws = n0 ws

-- the numbers of nodes and ids, as a pair of a total
abbrev pub read_size : List ℕ → List (List ℕ) → Totals
read_size f ws = totals (n0 ws) (n1 ws) 0

-- what a word says became of an object that was to be dropped
unfoldable pub read_kind : List ℕ → DropKind
read_kind w = if bytes_eq w (codes "dropped") then kind.Dropped else if bytes_eq w (codes "pinned") then kind.Pinned else kind.Miss

-- the policy that a word says
unfoldable pub read_policy : List ℕ → Policy
read_policy w = if bytes_eq w (codes "plain") then Plain else if bytes_eq w (codes "clock") then Clock else Halt

-- the entry of a list's journal that a line's words say
unfoldable pub read_entry : List ℕ → List (List ℕ) → Entry
read_entry f ws =
    if bytes_eq f (codes "add") then entry.Add (read_serial ws) (n2 ws) (bytes_eq (w5 ws) (codes "added")) (w3 ws) (bytes_later (w4 ws)) else
    if bytes_eq f (codes "look") then entry.Look (read_serial ws) (n2 ws) (w3 ws) (bytes_eq (w4 ws) (codes "hit")) else
    if bytes_eq f (codes "drop") then entry.Drop (read_serial ws) (n2 ws) (w3 ws) (read_kind (w4 ws)) else
    if bytes_eq f (codes "pin") then entry.Pin (read_serial ws) (n2 ws) (w3 ws) true (bytes_eq (w4 ws) (codes "done")) else
    if bytes_eq f (codes "unpin") then entry.Pin (read_serial ws) (n2 ws) (w3 ws) false (bytes_eq (w4 ws) (codes "done")) else
    if bytes_eq f (codes "scan") then entry.Scan (n0 ws) (n1 ws) (n2 ws) (read_policy (w3 ws)) (n4 ws) (n5 ws) (bytes_eq (w6 ws) (codes "stopped")) else
    if bytes_eq f (codes "moved") then entry.MovedIn (n0 ws) (n1 ws) else
    if bytes_eq f (codes "drained") then entry.Drained (read_serial ws) (n2 ws) else
    entry.Closed

-- an object of these parts
abbrev pub object_of : Serial → ℕ → List ℕ → List ℕ → Bool → Bool → Object
object_of serial birth key value marked pinned = record { serial = serial; birth = birth; key = key; value = value; marked = marked; pinned = pinned }

-- the object that a line's words say
abbrev pub read_item : List ℕ → List (List ℕ) → Object
read_item f ws = object_of (read_serial ws) (n2 ws) (w3 ws) (bytes_later (w4 ws)) (bytes_eq (w5 ws) (codes "marked")) (bytes_eq (w6 ws) (codes "pinned"))
