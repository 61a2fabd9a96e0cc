-- SPDX-License-Identifier: GPL-2.0-only
-- The table of replies: which replies a command may have, which entry each cites, whether it stands
-- with a cache that was found; and the cause of each reply in the report.
use Rattle.std.specs.Prelude.{◌≡◌, ℕ, true, false, List, slice_get, Option, Some, None, option_map, ⊤, IsSomeAnd}
use Rattle.shr_base.specs.declared.places.Serial.{Serial}
use Rattle.shr_base.specs.declared.places.At.{At}
use Rattle.shr_base.specs.declared.places.Target.{Target}
use Rattle.shr_base.specs.declared.objects.Object.{Object}
use Rattle.shr_base.specs.declared.journals.DropKind.TheVariants as kind
use Rattle.shr_base.specs.declared.journals.Entry.{Entry}
use Rattle.shr_base.specs.declared.journals.Entry.TheVariants.{Add, Look, Drop, Pin}
use Rattle.shr_base.specs.declared.journals.PoolEntry.TheVariants.{Registered}
use Rattle.shr_base.specs.declared.journals.TreeEntry.TheVariants.{Begin, Done, Made}
use Rattle.shr_base.specs.declared.replies.Spent.{Spent}
use Rattle.shr_base.specs.declared.replies.Spent.TheVariants as spent
use Rattle.shr_base.specs.declared.replies.Reply.{Reply}
use Rattle.shr_base.specs.declared.replies.Reply.TheVariants as reply
use Rattle.shr_base.specs.declared.scripts.Act.{Act}
use Rattle.shr_base.specs.declared.scripts.Act.TheVariants.{Get, Del, SetPin}
use Rattle.shr_base.specs.declared.scripts.Command.{Command}
use Rattle.shr_base.specs.declared.scripts.Command.TheVariants.{Put, On, Shrink, Balance, Offline, MkGroup, Register, Unregister, Isolate, Release, Grab}
use Rattle.shr_base.specs.declared.scripts.Script.{Script}
use Rattle.shr_model.specs.Commands.{group_named, decl_named}
use Rattle.shr_model.specs.Groups.{parent_of}
use Rattle.shr_model.specs.Objects.{named_in}
use Rattle.shr_model.specs.Families.{Family, items_at}
use Rattle.shr_laws.specs.declared.report.Report.{Report}
use Rattle.shr_laws.specs.Parts.{parents_of}
use Rattle.shr_laws.specs.UnitParts.{pool_place}
use Rattle.shr_laws.specs.Causes.{IsSpent, IsPoolSpent, IsUnmade, StandsInTree, IsOver, IsUncached, IsCached, IsFull, IsFreed, IsHalf, IsInTheWay, IsOfflineDone}

-- a reply cites this entry, at this id and node
pub record Cites (family : Family) (c : At) (id node : ℕ) (e : Entry) : Type 0 where
  pub id_is : c.place.id ≡ id
  pub node_is : c.place.node ≡ node
  pub stands : slice_get (family c.place) c.entry ≡ Some e

-- the value is that of the object with this birth group and key among the items before the cited
-- entry
abbrev pub LendsValue : List ℕ → Family → At → ℕ → List ℕ → List ℕ → Type 0
LendsValue parents family c birth key value = option_map (λ (o : Object). o.value) (named_in birth key (items_at parents family c.place c.entry)) ≡ Some value

-- One reply of one command.
pub record Row : Type 1 where
  -- what it cites, where it stands with a cache that was found with this id; ⊥ where it never
  -- stands with one
  pub held : List ℕ → Family → ℕ → Type 0
  -- ⊤ where it may stand without one
  pub unheld : Type 0

-- a reply that the command can't have
abbrev never : Row
never = record { held = λ parents family id. ⊥; unheld = ⊥ }

-- the list was called, so a cache was held, and the reply cites an entry
abbrev citing : (List ℕ → Family → ℕ → Type 0) → Row
citing cites = record { held = cites; unheld = ⊥ }

-- the list was called, and changed nothing
abbrev after : Row
after = record { held = λ parents family id. ⊤; unheld = ⊥ }

-- the command ended before a cache was held, or looks none up
abbrev before : Row
before = record { held = λ parents family id. ⊥; unheld = ⊤ }

-- want of memory comes before the lookup and in the list call
abbrev free : Row
free = record { held = λ parents family id. ⊤; unheld = ⊤ }

-- what a tenant's command may be answered besides its own replies
abbrev tenant_row : Reply → Row
tenant_row (reply.Offline entry) = before
tenant_row (reply.NotMade group) = before
tenant_row (reply.NoCache entry) = before
tenant_row (reply.Worn (spent.Lookups id seen)) = before
tenant_row (reply.Worn (spent.List place entries items)) = after
tenant_row reply.Memory = free
tenant_row x = never

abbrev put_row : Serial → Target → List ℕ → List ℕ → Reply → Row
put_row by at key value (reply.Added c) = citing (λ parents family id. Cites family c id at.node (Add by at.group true key value))
put_row by at key value (reply.Exists c) = citing (λ parents family id. Cites family c id at.node (Add by at.group false key value))
put_row by at key value (reply.Over g operation usage) = before
put_row by at key value (reply.Worn (spent.Charges ups downs)) = before
put_row by at key value x = tenant_row x

-- what a command on an object may be answered, by what it does there
abbrev act_row : Serial → Target → List ℕ → Reply → Act → Row
act_row by at key (reply.Hit c value) Get = citing (λ parents family id. Cites family c id at.node (Look by at.group key true) × LendsValue parents family c at.group key value)
act_row by at key (reply.Miss c) Get = citing (λ parents family id. Cites family c id at.node (Look by at.group key false))
act_row by at key (reply.Dropped c) Del = citing (λ parents family id. Cites family c id at.node (Drop by at.group key kind.Dropped))
act_row by at key (reply.Pinned c) Del = citing (λ parents family id. Cites family c id at.node (Drop by at.group key kind.Pinned))
act_row by at key (reply.Miss c) Del = citing (λ parents family id. Cites family c id at.node (Drop by at.group key kind.Miss))
act_row by at key (reply.Worn (spent.Charges ups downs)) Del = before
act_row by at key (reply.Done c) (SetPin pinned) = citing (λ parents family id. Cites family c id at.node (Pin by at.group key pinned true))
act_row by at key (reply.Miss c) (SetPin pinned) = citing (λ parents family id. Cites family c id at.node (Pin by at.group key pinned false))
act_row by at key x act = tenant_row x

-- An isolation that found its cache is told, however it ended; the record's memory comes before the lookup. Why it
-- ended is for the law on isolations to say.
abbrev isolate_row : Reply → Row
isolate_row (reply.Isolated visits freed ending) = after
isolate_row (reply.Offline entry) = before
isolate_row (reply.NotMade group) = before
isolate_row (reply.NoCache entry) = before
isolate_row (reply.Worn (spent.Lookups id seen)) = before
isolate_row reply.Memory = before
isolate_row x = never

-- what a `shrink` and a `balance` answer is that of their walks
abbrev shrink_row : Reply → Row
shrink_row (reply.Walked freed) = before
shrink_row (reply.WalkMemory freed) = before
shrink_row (reply.Offline entry) = before
shrink_row x = never

abbrev balance_row : Reply → Row
balance_row (reply.Walked freed) = before
balance_row (reply.WalkMemory freed) = before
balance_row x = never

abbrev offline_row : Reply → Row
offline_row (reply.OfflineDone entry moved deferred) = before
offline_row (reply.AlreadyDone entry) = before
offline_row reply.Root = before
offline_row (reply.NotMade group) = before
offline_row (reply.HasChildren child entry) = before
offline_row (reply.Worn (spent.List place entries items)) = before
offline_row reply.Memory = before
offline_row x = never

abbrev mkgroup_row : Reply → Row
mkgroup_row (reply.Made entry) = before
mkgroup_row (reply.AlreadyMade entry) = before
mkgroup_row (reply.NotMade group) = before
mkgroup_row (reply.Offline entry) = before
mkgroup_row reply.Memory = before
mkgroup_row x = never

abbrev register_row : Reply → Row
register_row (reply.Registered id entry) = before
register_row (reply.AlreadyRegistered entry) = before
register_row (reply.NoId entry) = before
register_row reply.Memory = before
register_row x = never

abbrev unregister_row : Reply → Row
unregister_row (reply.Freed id entry from to objects) = before
unregister_row (reply.Half id entry from to objects half) = before
unregister_row (reply.NoCache entry) = before
unregister_row (reply.Worn (spent.Charges ups downs)) = before
unregister_row reply.Memory = before
unregister_row x = never

-- a command on a pool looks no cache up; which entry it cites is for the law on pools to say
abbrev release_row : Reply → Row
release_row (reply.Released pool node entry) = before
release_row (reply.Full pool node entries left) = before
release_row (reply.Worn (spent.List place entries items)) = before
release_row reply.Memory = before
release_row x = never

abbrev grab_row : Reply → Row
grab_row (reply.Grabbed pool node entry) = before
grab_row (reply.Bare pool node entry) = before
grab_row (reply.Worn (spent.List place entries items)) = before
grab_row reply.Memory = before
grab_row x = never

-- the row of a command and a reply
abbrev pub reply_row : Serial → Command → Reply → Row
reply_row by (Put at key value) x = put_row by at key value x
reply_row by (On at key act) x = act_row by at key x act
reply_row by (Shrink group node priority nofs) x = shrink_row x
reply_row by (Balance node priority nofs) x = balance_row x
reply_row by (Offline group) x = offline_row x
reply_row by (Register decl) x = register_row x
reply_row by (Unregister decl) x = unregister_row x
reply_row by (MkGroup group) x = mkgroup_row x
reply_row by (Isolate at budget) x = isolate_row x
reply_row by (Release node pool units) x = release_row x
reply_row by (Grab node pool) x = grab_row x

-- a command may be answered so, where this is the id of the cache that was found
abbrev pub IsReply : List ℕ → Family → Serial → Command → Option ℕ → Reply → Type 0
IsReply parents family by c (Some id) x = (reply_row by c x).held parents family id
IsReply parents family by c None x = (reply_row by c x).unheld

-- the group that an answer calls offline or not made: that of the command, and of one that makes a
-- group its parent
abbrev pub group_met : Script → Command → Option ℕ
group_met s (MkGroup group) = Some (parent_of (parents_of s) group)
group_met s c = group_named c

-- what a command found used up: the journal of its pool, or a counter of its worker at the tables of the caches
abbrev pub IsUsedUp : Script → Report → Serial → Command → Spent → Type 0
IsUsedUp s r by (Release node pool units) x = IsPoolSpent r (pool_place s pool node) x
IsUsedUp s r by (Grab node pool) x = IsPoolSpent r (pool_place s pool node) x
IsUsedUp s r by c x = IsSpent s r by.worker x

-- The answer to a command has its cause in the report: by the reply alone, of the group and the
-- declaration that the command names. A reply that the command can't have is for `IsReply`.
abbrev pub HasCause : Script → Report → Serial → Command → Reply → Type 0
HasCause s r by c (reply.Offline entry) = IsSomeAnd (group_met s c) (λ g. StandsInTree r entry (Begin g))
HasCause s r by c (reply.NotMade group) = IsSomeAnd (group_met s c) (λ g. IsUnmade s g group)
HasCause s r by c (reply.Made entry) = IsSomeAnd (group_named c) (λ g. StandsInTree r entry (Made g))
HasCause s r by c (reply.AlreadyMade entry) = IsSomeAnd (group_named c) (λ g. StandsInTree r entry (Made g))
HasCause s r by c (reply.Over h operation usage) = IsSomeAnd (group_named c) (λ g. IsOver s r by g h operation usage)
HasCause s r by c (reply.NoCache entry) = IsSomeAnd (decl_named c) (λ d. IsUncached s r d entry)
HasCause s r by c (reply.Worn x) = IsUsedUp s r by c x
HasCause s r by c (reply.OfflineDone entry moved deferred) = IsSomeAnd (group_named c) (λ g. IsOfflineDone s r by g entry moved deferred)
HasCause s r by c (reply.AlreadyDone entry) = IsSomeAnd (group_named c) (λ g. StandsInTree r entry (Done g))
HasCause s r by c reply.Root = IsSomeAnd (group_named c) (λ g. g ≡ 0)
HasCause s r by c (reply.HasChildren child entry) = IsSomeAnd (group_named c) (λ g. IsInTheWay s r g child entry)
HasCause s r by c (reply.Registered id entry) = IsSomeAnd (decl_named c) (λ d. (from : ℕ) × (slice_get r.pool.items entry ≡ Some (Registered d id from)))
HasCause s r by c (reply.AlreadyRegistered entry) = IsSomeAnd (decl_named c) (λ d. IsCached s r d entry)
HasCause s r by c (reply.NoId entry) = IsSomeAnd (decl_named c) (λ d. IsFull s r d entry)
HasCause s r by c (reply.Freed id entry from to objects) = IsSomeAnd (decl_named c) (λ d. IsFreed r by d id entry from to objects)
HasCause s r by c (reply.Half id entry from to objects half) = IsSomeAnd (decl_named c) (λ d. IsHalf s r by d id entry from to objects half)
HasCause s r by c x = ⊤
