-- SPDX-License-Identifier: GPL-2.0-only
-- What a draft says: the report that its lines say, as far as they were read.
use Rattle.std.specs.Prelude.{ℕ, ◌+◌, ◌-◌, ◌%◌, ◌^◌, List, [], ◌∷◌, ◌++◌, length, map, replicate, Some, None}
use Rattle.shr_base.specs.Kept.{Kept}
pub use Rattle.shr_base.specs.KeptLists.{kept}
use Rattle.shr_base.specs.declared.places.Place.{Place}
use Rattle.shr_base.specs.declared.places.Serial.{Serial}
use Rattle.shr_base.specs.declared.objects.Object.{Object}
use Rattle.shr_base.specs.declared.journals.Entry.{Entry}
use Rattle.shr_base.specs.declared.journals.PlainEntry.{PlainEntry}
use Rattle.shr_base.specs.declared.replies.Found.{Found}
use Rattle.shr_base.specs.declared.replies.Reply.{Reply}
use Rattle.shr_base.specs.declared.replies.Answered.{Answered}
use Rattle.shr_base.specs.Walks.{Attempt, WalkRecord}
use Rattle.shr_base.specs.declared.walks.MapSeen.{MapSeen}
use Rattle.shr_base.specs.declared.ends.PlaceAmount.{PlaceAmount}
use Rattle.shr_base.specs.declared.ends.PlaceEnd.{PlaceEnd}
use Rattle.shr_base.specs.declared.ends.UnitsEnd.{UnitsEnd}
use Rattle.shr_base.specs.declared.ends.WorkerPart.{WorkerPart}
use Rattle.shr_laws.specs.declared.report.Report.{Report}
use Rattle.shr_audit_text.specs.declared.walks.Head.{Head}
use Rattle.shr_audit_text.specs.declared.pools.PlainHead.{PlainHead}
use Rattle.shr_audit_text.specs.declared.pools.IsolationHead.{IsolationHead}
use Rattle.shr_audit_text.specs.declared.pools.UnitsHead.{UnitsHead}
use Rattle.shr_audit_text.specs.declared.said.Said.{Said}
use Rattle.shr_audit_text.specs.declared.said.Said.TheVariants as said
use Rattle.shr_audit_text.specs.declared.parts.WalkDraft.{WalkDraft}
use Rattle.shr_audit_text.specs.declared.parts.PlainDraft.{PlainDraft}
use Rattle.shr_audit_text.specs.declared.parts.PartDraft.{PartDraft}
use Rattle.shr_audit_text.specs.declared.lists.ListDraft.{ListDraft}
use Rattle.shr_audit_text.specs.declared.lists.UnitsDraft.{UnitsDraft}
use Rattle.shr_audit_text.specs.declared.draft.Draft.{Draft}
use Rattle.shr_base.specs.declared.walks.Isolation.{Isolation}
use Rattle.shr_base.specs.declared.walks.PlainTry.{PlainTry}
use Rattle.shr_base.specs.declared.walks.PlainWalk.{PlainWalk}

-- another item at the end
abbrev pub with_more : {X : Type 0} → X → Kept X → Kept X
with_more x xs = kept (xs.items ++ x ∷ [])

-- the last of some is changed
unfoldable pub with_last : {X : Type 0} → (X → X) → List X → List X
with_last change [] = []
with_last change (x ∷ []) = change x ∷ []
with_last change (x ∷ y ∷ ys) = x ∷ with_last change (y ∷ ys)

-- the last one of these is changed
abbrev pub last_changed : {X : Type 0} → (X → X) → Kept X → Kept X
last_changed change xs = kept (with_last change xs.items)

-- ---- what is kept of a worker and of a list

-- a walk as its draft has it
abbrev pub drafted_walk : WalkDraft → WalkRecord
drafted_walk w = record { by = w.by; group = w.head.group; node = w.head.node; priority = w.head.priority; nofs = w.head.nofs; maps = kept w.maps.items; attempts = kept w.attempts.items; answer = w.head.answer }

-- the same of each walk
abbrev pub drafted_walks : List WalkDraft → List WalkRecord
drafted_walks walks = map drafted_walk walks

-- a walk of the pools as its draft has it
abbrev pub drafted_plain : PlainDraft → PlainWalk
drafted_plain w = record { by = w.by; node = w.head.node; priority = w.head.priority; tries = kept w.tries.items; answer = w.head.answer }

-- the same of each walk of the pools
abbrev pub plains_of : List PlainDraft → List PlainWalk
plains_of walks = map drafted_plain walks

-- a worker's part as its draft has it
abbrev pub drafted_part : PartDraft → WorkerPart
drafted_part p = record { answers = kept p.answers.items; walks = kept (drafted_walks p.walks.items); carries = kept p.carries.items; plain = kept (plains_of p.plain.items); isolations = kept p.isolations.items }

-- a list as its draft has it
abbrev pub list_of : ListDraft → PlaceEnd
list_of l = record { place = l.place; entries = kept l.entries.items; items = kept l.items.items }

-- a pool's journal on a node as its draft has it
abbrev pub drafted_pool : UnitsDraft → UnitsEnd
drafted_pool u = record { pool = u.head.pool; node = u.head.node; entries = kept u.entries.items; free = u.head.free }

-- the same of each worker's part
abbrev pub drafted_parts : List PartDraft → List WorkerPart
drafted_parts parts = map drafted_part parts

-- the same of each list
abbrev pub lists_of : List ListDraft → List PlaceEnd
lists_of lists = map list_of lists

-- the same of each journal of a pool
abbrev pub pools_of : List UnitsDraft → List UnitsEnd
pools_of units = map drafted_pool units

-- ---- what a line adds to the parts of the workers

-- a part of which nothing was read
abbrev pub no_part : WorkerPart
no_part = record { answers = kept []; walks = kept []; carries = kept []; plain = kept []; isolations = kept [] }

-- parts up to that of this worker
abbrev pub padded : ℕ → List WorkerPart → List WorkerPart
padded worker parts = parts ++ replicate (worker + 1 - length parts) no_part

-- the last command of a worker that has an answer
abbrev pub last_command : ℕ → WorkerPart → Serial
last_command worker part = record { worker = worker % 2 ^ 16; command = (length part.answers.items - 1) % 2 ^ 32 }

-- an answer, of which no find was read
abbrev pub replied : Reply → Answered
replied reply = record { reply = reply; found = None }

-- an answer of this worker
abbrev pub with_reply : ℕ → Reply → List WorkerPart → List WorkerPart
with_reply worker reply parts = with_last (λ part. record part { answers = with_more (replied reply) part.answers }) (padded worker parts)

-- an answer with what `find` gave
abbrev pub found_answer : Found → Answered → Answered
found_answer found a = record a { found = Some found }

-- what `find` gave at the last answer
abbrev pub with_found : Found → List WorkerPart → List WorkerPart
with_found found parts = with_last (λ part. record part { answers = last_changed (found_answer found) part.answers }) parts

-- a walk of this command that begins with this head
abbrev pub walk_begun : Serial → Head → WalkRecord
walk_begun by h = record { by = by; group = h.group; node = h.node; priority = h.priority; nofs = h.nofs; maps = kept []; attempts = kept []; answer = h.answer }

-- a walk of the last answer
abbrev pub with_walk : Head → List WorkerPart → List WorkerPart
with_walk head parts = with_last (λ part. record part { walks = with_more (walk_begun (last_command (length parts - 1) part) head) part.walks }) parts

-- a walk that loaded another word of bits
abbrev pub seen_walk : MapSeen → WalkRecord → WalkRecord
seen_walk seen w = record w { maps = with_more seen w.maps }

-- a word of bits that the last walk loaded
abbrev pub with_seen : MapSeen → List WorkerPart → List WorkerPart
with_seen seen parts = with_last (λ part. record part { walks = last_changed (seen_walk seen) part.walks }) parts

-- a walk with another attempt
abbrev pub tried_walk : Attempt → WalkRecord → WalkRecord
tried_walk attempt w = record w { attempts = with_more attempt w.attempts }

-- an attempt of the last walk
abbrev pub with_attempt : Attempt → List WorkerPart → List WorkerPart
with_attempt attempt parts = with_last (λ part. record part { walks = last_changed (tried_walk attempt) part.walks }) parts

-- a carry of the last answer
abbrev pub with_carry : PlaceAmount → List WorkerPart → List WorkerPart
with_carry carried parts = with_last (λ part. record part { carries = with_more (record { by = last_command (length parts - 1) part; place = carried.place; amount = carried.amount }) part.carries }) parts

-- an isolation of this command
abbrev pub isolated : Serial → IsolationHead → Isolation
isolated by h = record { by = by; place = h.place; budget = h.budget; visits = h.visits; freed = h.freed; ending = h.ending }

-- an isolation of the last answer
abbrev pub with_isolation : IsolationHead → List WorkerPart → List WorkerPart
with_isolation head parts = with_last (λ part. record part { isolations = with_more (isolated (last_command (length parts - 1) part) head) part.isolations }) parts

-- a walk of the pools of this command that begins with this head
abbrev pub plain_begun : Serial → PlainHead → PlainWalk
plain_begun by h = record { by = by; node = h.node; priority = h.priority; tries = kept []; answer = h.answer }

-- a walk of the pools of the last answer
abbrev pub with_plain : PlainHead → List WorkerPart → List WorkerPart
with_plain head parts = with_last (λ part. record part { plain = with_more (plain_begun (last_command (length parts - 1) part) head) part.plain }) parts

-- a walk of the pools that came to this at another pool
abbrev pub passed_walk : PlainTry → PlainWalk → PlainWalk
passed_walk came w = record w { tries = with_more came w.tries }

-- what the last walk of the pools came to at another pool
abbrev pub with_pass : PlainTry → List WorkerPart → List WorkerPart
with_pass came parts = with_last (λ part. record part { plain = last_changed (passed_walk came) part.plain }) parts

-- ---- what a line adds to the lists

-- another list
abbrev pub with_place : Place → List PlaceEnd → List PlaceEnd
with_place place ends = ends ++ record { place = place; entries = kept []; items = kept [] } ∷ []

-- an entry of the last list
abbrev pub with_list_entry : Entry → List PlaceEnd → List PlaceEnd
with_list_entry entry ends = with_last (λ end. record end { entries = with_more entry end.entries }) ends

-- an object of the last list
abbrev pub with_item : Object → List PlaceEnd → List PlaceEnd
with_item item ends = with_last (λ end. record end { items = with_more item end.items }) ends

-- a pool on a node
abbrev pub with_units : UnitsHead → List UnitsEnd → List UnitsEnd
with_units head ends = ends ++ record { pool = head.pool; node = head.node; entries = kept []; free = head.free } ∷ []

-- an entry of the last pool's journal
abbrev pub with_unit : PlainEntry → List UnitsEnd → List UnitsEnd
with_unit entry ends = with_last (λ end. record end { entries = with_more entry end.entries }) ends

-- ---- what a line adds to a report

-- the report with what a line says of the whole
abbrev pub with_said : Said → Report → Report
with_said (said.Version version) r = record r { version = version }
with_said (said.Sizes nodes ids) r = record r { nodes = nodes; ids = ids }
with_said (said.Group path) r = record r { groups = with_more path r.groups }
with_said (said.Cache name) r = record r { caches = with_more name r.caches }
with_said (said.PoolName name) r = record r { pools = with_more name r.pools }
with_said (said.Pool entry) r = record r { pool = with_more entry r.pool }
with_said (said.Tree entry) r = record r { tree = with_more entry r.tree }
with_said (said.Reply worker reply) r = record r { workers = kept (with_reply worker reply r.workers.items) }
with_said (said.Found found) r = record r { workers = kept (with_found found r.workers.items) }
with_said (said.Isolation head) r = record r { workers = kept (with_isolation head r.workers.items) }
with_said (said.Walk head) r = record r { workers = kept (with_walk head r.workers.items) }
with_said (said.Map seen) r = record r { workers = kept (with_seen seen r.workers.items) }
with_said (said.Try attempt) r = record r { workers = kept (with_attempt attempt r.workers.items) }
with_said (said.Carry amount) r = record r { workers = kept (with_carry amount r.workers.items) }
with_said (said.Plain head) r = record r { workers = kept (with_plain head r.workers.items) }
with_said (said.Pass came) r = record r { workers = kept (with_pass came r.workers.items) }
with_said (said.List place) r = record r { places = kept (with_place place r.places.items) }
with_said (said.Entry entry) r = record r { places = kept (with_list_entry entry r.places.items) }
with_said (said.Item item) r = record r { places = kept (with_item item r.places.items) }
with_said (said.Units head) r = record r { units = kept (with_units head r.units.items) }
with_said (said.Unit entry) r = record r { units = kept (with_unit entry r.units.items) }
with_said (said.Bit map) r = record r { maps = with_more map r.maps }
with_said (said.Deferred amount) r = record r { deferred = with_more amount r.deferred }
with_said (said.PoolDeferred amount) r = record r { pool_deferred = with_more amount r.pool_deferred }
with_said (said.Use step) r = record r { uses = with_more step r.uses }
with_said (said.Lookups lookups) r = record r { lookups = with_more lookups r.lookups }
with_said (said.Totals added freed listed) r = record r { added = added; freed = freed; listed = listed }
with_said said.End r = r

-- the report that a draft says
abbrev pub drafted_report : Draft → Report
drafted_report d = record {
  version = d.version;
  nodes = d.nodes;
  ids = d.ids;
  groups = kept d.groups.items;
  caches = kept d.caches.items;
  pools = kept d.pools.items;
  pool = kept d.pool.items;
  tree = kept d.tree.items;
  workers = kept (drafted_parts d.parts.items);
  places = kept (lists_of d.lists.items);
  units = kept (pools_of d.units.items);
  maps = kept d.maps.items;
  deferred = kept d.deferred.items;
  pool_deferred = kept d.pool_deferred.items;
  uses = kept d.uses.items;
  lookups = kept d.lookups.items;
  added = d.added;
  freed = d.freed;
  listed = d.listed;
}
