-- SPDX-License-Identifier: GPL-2.0-only
-- What an answer came from, in what its command did and its worker knew.
use Rattle.std.specs.Prelude.{◌≡◌, ℕ, pos, ◌%◌, ◌^◌, ◌<◌, ◌≤◌, ◌⊎◌, nat_lt, true, false, [], length, map, take, filter, sum_by, Option, Some, None, option_and_then, All}
use Rattle.std.specs.Option.{IsSomeAnd}
use Rattle.shr_base.specs.declared.ends.PlaceAmount.{PlaceAmount}
use Rattle.shr_base.specs.declared.journals.PoolEntry.TheVariants.{Registered, Unregistered, Idle}
use Rattle.shr_base.specs.declared.journals.TreeEntry.TheVariants.{Done, Made as MadeEntry}
use Rattle.shr_base.specs.declared.journals.UseStep.{UseStep}
use Rattle.shr_base.specs.declared.replies.HalfWhy.{HalfWhy}
use Rattle.shr_base.specs.declared.replies.HalfWhy.TheVariants as why
use Rattle.shr_base.specs.declared.replies.Reply.{Reply}
use Rattle.shr_base.specs.declared.replies.Reply.TheVariants as reply
use Rattle.shr_base.specs.declared.replies.Spent.{Spent}
use Rattle.shr_base.specs.declared.scripts.Command.{Command}
use Rattle.shr_base.specs.declared.scripts.Command.TheVariants.{Release, Grab}
use Rattle.shr_base.specs.declared.scripts.Script.{Script}
use Rattle.shr_base.specs.declared.walks.Carry.{Carry}
use Rattle.shr_model.specs.Charges.{ups}
use Rattle.shr_model.specs.Commands.{group_named, decl_named}
use Rattle.shr_model.specs.Groups.{IsAtOrAbove, is_later}
use Rattle.shr_model.specs.Pool.{from_of, is_live_decl, lowest_idle}
use Rattle.shr_model.specs.TreeJournal.{begin_of, done_of, made_of, undone_child}
use Rattle.shr_core.specs.Parts.{Made}
use Rattle.shr_charge.specs.Offlining.{IsNamed}
use Rattle.shr_charge.specs.declared.answers.GroupState.TheVariants as state
use Rattle.shr_charge.specs.Views.{LoadedState}
use Rattle.shr_deferred.specs.Moves.{takes_of}
use Rattle.shr_laws.specs.Takes.{places_offlined}
use Rattle.shr_laws.specs.Parts.{parents_of, later_of, script_hierarchy, limit_of}
use Rattle.shr_laws.specs.ReplyTable.{group_met}
use Rattle.shr_laws.specs.Causes.{drained_by, moved_of}
use Rattle.shr_lawful.specs.Steps.{Step, IsAmong}
use Rattle.shr_lawful.specs.Charges.{ops_at}
use Rattle.shr_lawful.specs.Worn.{IsWornBy}

-- the group that the command met began to go offline by this entry: its word was loaded and told so, or the entry stands
-- among those that the worker knows
pub record HasMetOffline (s : Script) (x : Step) (entry : ℕ) : Type 0 where
  pub group : ℕ
  pub met : option_and_then (group_met s) x.command ≡ Some group
  pub told : IsAmong (record { group = group; state = state.Offline entry }) x.work.words ⊎ (begin_of x.after.tree.known group ≡ Some entry)

-- this is the group that the command met, and it isn't there at the start
pub record IsUnmadeBy (s : Script) (x : Step) (group : ℕ) : Type 0 where
  pub met : option_and_then (group_met s) x.command ≡ Some group
  pub late : is_later (later_of s) group ≡ true

-- the group was made by this entry
pub record IsGroupMadeBy (x : Step) (entry : ℕ) : Type 0 where
  pub group : ℕ
  pub named : option_and_then group_named x.command ≡ Some group
  pub made : IsAmong (record { number = entry; entry = MadeEntry group }) x.work.tree
  pub known : entry < length x.after.tree.known

-- the group's Made stands in the journal of the tree that the worker knows
pub record WasMade (x : Step) (entry : ℕ) : Type 0 where
  pub group : ℕ
  pub named : option_and_then group_named x.command ≡ Some group
  pub made : made_of x.after.tree.known group ≡ Some entry

-- The last charge of a `put` was refused: this operation of its own found this usage, not below the limit, in a group at or
-- above the put's. It is its last up in that group, and in its own group it has 14.
pub record IsOverBy (s : Script) (x : Step) (group operation usage : ℕ) : Type 0 where
  pub own : ℕ
  pub named : option_and_then group_named x.command ≡ Some own
  pub above : IsAtOrAbove (parents_of s) group own
  pub up : IsAmong (record { group = group; operation = operation; up = true; found = pos usage; by = x.by }) x.work.ops
  pub full : IsSomeAnd (limit_of s group) (λ limit. limit ≤ usage)
  pub last : ups (filter (λ (o : UseStep). nat_lt operation o.operation) (ops_at group x.work.ops)) ≡ 0
  pub tried : ups (ops_at own x.work.ops) ≡ 14

-- after so many entries of the journal of registrations, which the worker knows, the command's declaration isn't live; or it
-- is; or it isn't and no id can be registered
pub record IsUncachedBy (s : Script) (x : Step) (entry : ℕ) : Type 0 where
  pub decl : ℕ
  pub named : option_and_then decl_named x.command ≡ Some decl
  pub known : entry ≤ length x.after.core.turns.known
  pub none : is_live_decl s.ids decl (take entry x.after.core.turns.known) ≡ false

-- after so many entries, which the worker knows, the command's declaration is live
pub record IsCachedBy (s : Script) (x : Step) (entry : ℕ) : Type 0 where
  pub decl : ℕ
  pub named : option_and_then decl_named x.command ≡ Some decl
  pub known : entry ≤ length x.after.core.turns.known
  pub live : is_live_decl s.ids decl (take entry x.after.core.turns.known) ≡ true

-- the command's declaration isn't live, and each id is taken or on its way out
pub record IsFullBy (s : Script) (x : Step) (entry : ℕ) : Type 0 where
  pub uncached : IsUncachedBy s x entry
  pub ids : lowest_idle s.ids (take entry x.after.core.turns.known) ≡ None

-- the declaration was registered by this entry
pub record IsRegisteredBy (x : Step) (id entry : ℕ) : Type 0 where
  pub decl : ℕ
  pub named : option_and_then decl_named x.command ≡ Some decl
  pub from : ℕ
  pub made : IsAmong (record { number = entry; entry = Registered decl id from }) x.work.core.turns

-- the registration of the declaration ended by this entry, and so many objects were drained
pub record IsUnregisteredBy (x : Step) (id entry from to objects : ℕ) : Type 0 where
  pub decl : ℕ
  pub named : option_and_then decl_named x.command ≡ Some decl
  pub made : IsAmong (record { number = entry; entry = Unregistered decl id to }) x.work.core.turns
  pub known : entry < length x.after.core.turns.known
  pub began : from ≡ from_of id (take entry x.after.core.turns.known)
  pub drained : objects ≡ sum_by (λ (m : Made). drained_by x.by m.entry) x.work.core.made

-- and the id became idle; or it didn't, for a reason
pub record IsFreedBy (x : Step) (id entry from to objects : ℕ) : Type 0 where
  pub unregistered : IsUnregisteredBy x id entry from to objects
  pub number : ℕ
  pub idle : IsAmong (record { number = number; entry = Idle id }) x.work.core.turns

-- why the lists of an id weren't all emptied: want of memory, which needs no more, or what was used up
abbrev pub IsWhyBy : Script → Step → HalfWhy → Type 0
IsWhyBy s x why.Memory = Unit {0}
IsWhyBy s x (why.Worn spent) = IsWornBy s x spent

-- the registration ended, and the id didn't become idle, for this reason
pub record IsHalfBy (s : Script) (x : Step) (id entry from to objects : ℕ) (half : HalfWhy) : Type 0 where
  pub unregistered : IsUnregisteredBy x id entry from to objects
  pub reason : IsWhyBy s x half

-- the group's Done stands in the journal of the tree that the worker knows
pub record IsDoneKnown (x : Step) (entry : ℕ) : Type 0 where
  pub group : ℕ
  pub named : option_and_then group_named x.command ≡ Some group
  pub done : done_of x.after.tree.known group ≡ Some entry

-- A child that is made isn't done among all entries that the worker knows, and each lower one is. They hold all that it was
-- shown of groups.
pub record IsInTheWayBy (s : Script) (x : Step) (child entry : ℕ) : Type 0 where
  pub group : ℕ
  pub below : 0 < group
  pub named : option_and_then group_named x.command ≡ Some group
  pub all : entry ≡ length x.after.tree.known
  pub lowest : undone_child (script_hierarchy s) x.after.tree.known group ≡ Some child
  pub shown : All (λ (l : LoadedState). IsNamed (script_hierarchy s) x.after.tree.known l) x.after.tree.loaded

-- the group was done by this entry, with what was moved in from its lists and what was carried
pub record IsOfflinedBy (s : Script) (x : Step) (entry moved deferred : ℕ) : Type 0 where
  pub group : ℕ
  pub named : option_and_then group_named x.command ≡ Some group
  pub made : IsAmong (record { number = entry; entry = Done group }) x.work.tree
  pub known : entry < length x.after.tree.known
  pub moved_is : moved ≡ sum_by (λ (m : Made). moved_of group m.entry) x.work.core.made
  pub deferred_is : deferred ≡ sum_by (λ (c : Carry). c.amount) x.work.carries % 2 ^ 64
  -- it took once at each place of the group
  pub took : map (λ (a : PlaceAmount). a.place) (takes_of x.work.moves) ≡ places_offlined s x.command
  pub unwalked : x.work.walks ≡ []

-- what the command found used up: a counter at the tables of the caches, or the journal of a pool, of which this says no more
abbrev pub IsUsedUpBy : Script → Step → Option Command → Spent → Type 0
IsUsedUpBy s x (Some (Release node pool units)) y = Unit {0}
IsUsedUpBy s x (Some (Grab node pool)) y = Unit {0}
IsUsedUpBy s x c y = IsWornBy s x y

-- a reply has its cause in what the step did or knows
abbrev pub IsCausedBy : Script → Step → Reply → Type 0
IsCausedBy s x (reply.Offline entry) = HasMetOffline s x entry
IsCausedBy s x (reply.NotMade group) = IsUnmadeBy s x group
IsCausedBy s x (reply.Made entry) = IsGroupMadeBy x entry
IsCausedBy s x (reply.AlreadyMade entry) = WasMade x entry
IsCausedBy s x (reply.Over group operation usage) = IsOverBy s x group operation usage
IsCausedBy s x (reply.NoCache entry) = IsUncachedBy s x entry
IsCausedBy s x (reply.Worn spent) = IsUsedUpBy s x x.command spent
IsCausedBy s x (reply.OfflineDone entry moved deferred) = IsOfflinedBy s x entry moved deferred
IsCausedBy s x (reply.AlreadyDone entry) = IsDoneKnown x entry
IsCausedBy s x reply.Root = option_and_then group_named x.command ≡ Some 0
IsCausedBy s x (reply.HasChildren child entry) = IsInTheWayBy s x child entry
IsCausedBy s x (reply.Registered id entry) = IsRegisteredBy x id entry
IsCausedBy s x (reply.AlreadyRegistered entry) = IsCachedBy s x entry
IsCausedBy s x (reply.NoId entry) = IsFullBy s x entry
IsCausedBy s x (reply.Freed id entry from to objects) = IsFreedBy x id entry from to objects
IsCausedBy s x (reply.Half id entry from to objects half) = IsHalfBy s x id entry from to objects half
IsCausedBy s x c = Unit {0}
