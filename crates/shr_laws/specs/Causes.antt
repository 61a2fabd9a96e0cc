-- SPDX-License-Identifier: GPL-2.0-only
-- Causes: what an answer came from, in the report.
use Rattle.std.specs.Prelude.{◌≡◌, ◌≢◌, ◌⊎◌, ℕ, pos, ◌+◌, ◌-◌, ◌%◌, ◌^◌, ◌<◌, ◌≤◌, Bool, true, false, ◌==◌, cond, length, take, drop, count_by, sum_by, slice_get, Some, None, ⊤}
use Rattle.std.specs.List.{list_any}
use Rattle.std.specs.Option.{IsSomeAnd}
use Rattle.shr_base.specs.declared.places.Serial.{Serial}
use Rattle.shr_base.specs.declared.places.Place.{Place}
use Rattle.shr_base.specs.declared.journals.Entry.{Entry}
use Rattle.shr_base.specs.declared.journals.Entry.TheVariants.{MovedIn, Drained}
use Rattle.shr_base.specs.declared.journals.PoolEntry.{PoolEntry}
use Rattle.shr_base.specs.declared.journals.PoolEntry.TheVariants.{Registered, Unregistered, Idle}
use Rattle.shr_base.specs.declared.journals.TreeEntry.{TreeEntry}
use Rattle.shr_base.specs.declared.journals.TreeEntry.TheVariants.{Done}
use Rattle.shr_base.specs.declared.journals.UseStep.{UseStep}
use Rattle.shr_base.specs.declared.replies.Spent.{Spent}
use Rattle.shr_base.specs.declared.replies.Spent.TheVariants as spent
use Rattle.shr_base.specs.declared.replies.HalfWhy.{HalfWhy}
use Rattle.shr_base.specs.declared.replies.HalfWhy.TheVariants as why
use Rattle.shr_base.specs.declared.replies.Reply.{Reply}
use Rattle.shr_base.specs.declared.replies.Reply.TheVariants as reply
use Rattle.shr_base.specs.declared.scripts.Command.TheVariants as command
use Rattle.shr_base.specs.declared.scripts.Script.{Script}
use Rattle.shr_base.specs.declared.walks.Carry.{Carry}
use Rattle.shr_base.specs.declared.walks.Ending.{Ending}
use Rattle.shr_base.specs.declared.walks.Ending.TheVariants as ending
use Rattle.shr_base.specs.declared.walks.PassRecord.{PassRecord}
use Rattle.shr_model.specs.Charges.{ups, ops_by}
use Rattle.shr_model.specs.Commands.{is_serial}
use Rattle.shr_model.specs.Groups.{IsAtOrAbove, is_later}
use Rattle.shr_model.specs.Items.{is_closed}
use Rattle.shr_model.specs.Pool.{phase_of, from_of, is_live_decl, lowest_idle}
use Rattle.shr_model.specs.TreeJournal.{undone_child}
use Rattle.shr_laws.specs.declared.report.Report.{Report}
use Rattle.shr_laws.specs.UnitParts.{units_journal, free_at}
use Rattle.shr_laws.specs.Parts.{parents_of, later_of, script_hierarchy, limit_of, puts_of, command_at, reply_at, carries_by, places_of, journals_of, uses_at, lookups_at, EachEntry}

-- the operations of a worker
abbrev pub is_of_worker : ℕ → UseStep → Bool
is_of_worker worker o = o.by.worker == worker

-- how many charges a worker made
abbrev pub ups_of : Report → ℕ → ℕ
ups_of r worker = count_by (λ (o : UseStep). cond (is_of_worker worker o) o.up false) r.uses.items

-- how many uncharges a worker made
abbrev pub downs_of : Report → ℕ → ℕ
downs_of r worker = count_by (λ (o : UseStep). cond (is_of_worker worker o) (cond o.up false true) false) r.uses.items

-- a counter that a worker found used up has these numbers
abbrev pub IsSpent : Script → Report → ℕ → Spent → Type 0
IsSpent s r worker (spent.Lookups id seen) = (2 ^ 32 - 256 ≤ seen) × (seen ≤ lookups_at r id)
IsSpent s r worker (spent.List place entries items) = ((2 ^ 31 < entries) ⊎ (20000 < items)) × (entries ≤ length (journals_of r place) + 1) × (items ≤ puts_of s)
IsSpent s r worker (spent.Charges charges uncharges) =
    ((1048576 ≤ charges) ⊎ (4194304 ≤ uncharges)) × (charges ≤ ups_of r worker) × (uncharges ≤ downs_of r worker)

-- the journal of a pool that was found used up has 2^31 entries, and these leave so many units free
abbrev pub IsPoolSpent : Report → Place → Spent → Type 0
IsPoolSpent r p (spent.List place entries items) = (place ≡ p) × (entries ≡ 2 ^ 31) × (length (units_journal r p) ≡ entries) × (items ≡ free_at r p entries)
IsPoolSpent r p (spent.Lookups id seen) = ⊥
IsPoolSpent r p (spent.Charges ups downs) = ⊥

-- the entry with this number in the journal of the tree
abbrev pub StandsInTree : Report → ℕ → TreeEntry → Type 0
StandsInTree r n e = slice_get r.tree.items n ≡ Some e

-- The last of the charges of a put was refused, and each of the others of its own group.
pub record IsOver (s : Script) (r : Report) (by : Serial) (own group operation usage : ℕ) : Type 0 where
  -- the operation is an up of this put that found this usage, not below the limit
  pub up : slice_get (uses_at r group) operation ≡ Some (record { group = group; operation = operation; up = true; found = pos usage; by = by })
  pub full : IsSomeAnd (limit_of s group) (λ limit. limit ≤ usage)
  -- it is the put's last up in that group
  pub last : ups (ops_by by (drop (operation + 1) (uses_at r group))) ≡ 0
  pub tried : ups (ops_by by (uses_at r own)) ≡ 14

-- the answer speaks of so many entries of the journal of registrations, which are there
abbrev pub IsPoolKnown : Report → ℕ → Type 0
IsPoolKnown r n = n ≤ length r.pool.items

-- a declaration isn't live after so many entries of the journal of registrations; or it is
pub record IsUncached (s : Script) (r : Report) (decl entry : ℕ) : Type 0 where
  pub known : IsPoolKnown r entry
  pub none : is_live_decl s.ids decl (take entry r.pool.items) ≡ false

-- the same of a declaration that is live after them
pub record IsCached (s : Script) (r : Report) (decl entry : ℕ) : Type 0 where
  pub known : IsPoolKnown r entry
  pub live : is_live_decl s.ids decl (take entry r.pool.items) ≡ true

-- a declaration isn't live after so many entries, and no id can be registered
pub record IsFull (s : Script) (r : Report) (decl entry : ℕ) : Type 0 where
  pub known : IsPoolKnown r entry
  pub none : is_live_decl s.ids decl (take entry r.pool.items) ≡ false
  pub ids : lowest_idle s.ids (take entry r.pool.items) ≡ None

-- how many objects the Drained entries of a command held
abbrev pub drained_by : Serial → Entry → ℕ
drained_by by (Drained x objects) = cond (is_serial by x) objects 0
drained_by by e = 0

-- how many objects a command drained from all places
abbrev pub drained_of : Report → Serial → ℕ
drained_of r by = sum_by (λ place. sum_by (drained_by by) (journals_of r place)) (places_of r)

-- an id became idle after an entry
abbrev pub is_idle_entry : ℕ → PoolEntry → Bool
is_idle_entry id (Idle i) = i == id
is_idle_entry id e = false

-- the same of any entry after this one
abbrev pub became_idle : Report → ℕ → ℕ → Bool
became_idle r id entry = list_any (is_idle_entry id) (drop (entry + 1) r.pool.items)

-- An `unregister` made this entry and drained so many objects.
pub record IsUnregistered (r : Report) (by : Serial) (decl id entry from to objects : ℕ) : Type 0 where
  pub made : slice_get r.pool.items entry ≡ Some (Unregistered decl id to)
  pub from_is : from ≡ from_of id (take entry r.pool.items)
  pub drained : objects ≡ drained_of r by
  -- each place that it drained is of that id
  pub places : EachEntry r (λ place n e. (m : ℕ) → e ≡ Drained by m → place.id ≡ id)

-- why an `unregister` stopped half way
abbrev pub IsWhy : Script → Report → ℕ → HalfWhy → Type 0
IsWhy s r worker why.Memory = ⊤
IsWhy s r worker (why.Worn x) = IsSpent s r worker x

-- an `unregister` freed its id: it is idle afterwards; or it left it half way, for a reason
pub record IsFreed (r : Report) (by : Serial) (decl id entry from to objects : ℕ) : Type 0 where
  pub unregistered : IsUnregistered r by decl id entry from to objects
  pub idle : became_idle r id entry ≡ true

-- the same of an `unregister` that stopped half way: its id isn't idle afterwards, and there is a
-- reason
pub record IsHalf (s : Script) (r : Report) (by : Serial) (decl id entry from to objects : ℕ) (half : HalfWhy) : Type 0 where
  pub unregistered : IsUnregistered r by decl id entry from to objects
  pub dying : became_idle r id entry ≡ false
  pub reason : IsWhy s r by.worker half

-- a child of a group isn't done after so many entries of the journal of the tree, and each lower
-- child is
pub record IsInTheWay (s : Script) (r : Report) (group child entry : ℕ) : Type 0 where
  pub known : entry ≤ length r.tree.items
  pub child_is : undone_child (script_hierarchy s) (take entry r.tree.items) group ≡ Some child

-- an answer says that this group isn't made, and it isn't there at the start
pub record IsUnmade (s : Script) (own group : ℕ) : Type 0 where
  pub named : group ≡ own
  pub late : is_later (later_of s) own ≡ true

-- an `offline` that was answered so may have begun the group's offlining
abbrev pub MayHaveBegun : Reply → Type 0
MayHaveBegun (reply.OfflineDone entry moved deferred) = ⊤
MayHaveBegun (reply.AlreadyDone entry) = ⊤
MayHaveBegun (reply.Worn x) = ⊤
MayHaveBegun reply.Memory = ⊤
MayHaveBegun x = ⊥

-- an `offline` that was answered so may have spliced lists and told of none
abbrev pub MayHaveSpliced : Reply → Type 0
MayHaveSpliced (reply.AlreadyDone entry) = ⊤
MayHaveSpliced (reply.Worn x) = ⊤
MayHaveSpliced reply.Memory = ⊤
MayHaveSpliced x = ⊥

-- a command is an `offline` of this group, answered so
pub record IsOffline (s : Script) (r : Report) (by : Serial) (group : ℕ) (P : Reply → Type 0) : Type 0 where
  pub command_is : command_at s by ≡ Some (command.Offline group)
  pub answer : IsSomeAnd (reply_at r by) P

-- how many objects an entry moved in from a child
abbrev pub moved_of : ℕ → Entry → ℕ
moved_of child (MovedIn c objects) = cond (c == child) objects 0
moved_of child e = 0

-- how many objects were moved in from a group
abbrev pub objects_moved_from : Report → ℕ → ℕ
objects_moved_from r group = sum_by (λ place. sum_by (moved_of group) (journals_of r place)) (places_of r)

-- nobody else can have spliced lists of the group
pub record IsAloneAt (s : Script) (r : Report) (by : Serial) (group : ℕ) : Type 0 where
  pub here : (x : Serial) → x ≢ by → IsOffline s r x group MayHaveSpliced → ⊥
  pub above : (x : Serial) (g : ℕ) → x.worker ≢ by.worker → g ≢ group → IsAtOrAbove (parents_of s) g group → IsOffline s r x g MayHaveBegun → ⊥

-- An `offline` made this Done, moved so many objects and carried so much.
pub record IsOfflineDone (s : Script) (r : Report) (by : Serial) (group entry moved deferred : ℕ) : Type 0 where
  pub made : StandsInTree r entry (Done group)
  pub carried : deferred ≡ sum_by (λ (c : Carry). c.amount) (carries_by r by) % 2 ^ 64
  pub most : moved ≤ objects_moved_from r group
  pub whole : IsAloneAt s r by group → moved ≡ objects_moved_from r group

-- the counter by which a pass was worn is one that was used up
abbrev pub IsEndingRight : Script → Report → ℕ → Ending → Type 0
IsEndingRight s r worker (ending.Worn x) = IsSpent s r worker x
IsEndingRight s r worker e = ⊤

-- a pass found its list closed only where it is closed, and is worn only by a counter that was used
-- up
pub record IsPassCaused (s : Script) (r : Report) (worker : ℕ) (place : Place) (p : PassRecord) : Type 0 where
  pub closed : 0 < p.closed → is_closed (journals_of r place) ≡ true
  pub worn : IsEndingRight s r worker p.ending

-- the answer made this entry: it registered an id, or freed it, or left it half way; the Idle of a
-- Freed is the id's next entry
abbrev pub IsMadeBy : Report → PoolEntry → ℕ → Reply → Type 0
IsMadeBy r (Registered decl id from) n (reply.Registered i entry) = n ≡ entry
IsMadeBy r (Unregistered decl id to) n (reply.Freed i entry x y objects) = n ≡ entry
IsMadeBy r (Unregistered decl id to) n (reply.Half i entry x y objects half) = n ≡ entry
IsMadeBy r (Idle id) n (reply.Freed i entry x y objects) = (i ≡ id) × (entry < n) × (phase_of id (take n r.pool.items) ≡ phase_of id (take entry r.pool.items) + 1)
IsMadeBy r e n x = ⊥

-- the answer is that of an `unregister` that went so far as to drain
abbrev pub HasDrained : Reply → Type 0
HasDrained (reply.Freed id entry from to objects) = ⊤
HasDrained (reply.Half id entry from to objects half) = ⊤
HasDrained x = ⊥

-- the answer cites this Done as its own
abbrev pub is_done_by : ℕ → Reply → Bool
is_done_by n (reply.OfflineDone entry moved deferred) = entry == n
is_done_by n x = false

-- a Done is cited so, once
pub record IsDoneOnce (r : Report) (n : ℕ) : Type 0 where
  pub by : Serial
  pub cited : IsSomeAnd (reply_at r by) (λ x. is_done_by n x ≡ true)
  pub once : (x : Serial) → IsSomeAnd (reply_at r x) (λ y. is_done_by n y ≡ true) → x ≡ by

-- the answer cites this Made as its own
abbrev pub is_made_by : ℕ → Reply → Bool
is_made_by n (reply.Made entry) = entry == n
is_made_by n x = false

-- a Made is cited so, once
pub record IsMadeOnce (r : Report) (n : ℕ) : Type 0 where
  pub by : Serial
  pub cited : IsSomeAnd (reply_at r by) (λ x. is_made_by n x ≡ true)
  pub once : (x : Serial) → IsSomeAnd (reply_at r x) (λ y. is_made_by n y ≡ true) → x ≡ by
