-- SPDX-License-Identifier: GPL-2.0-only
-- The steps that the commands share, each from the state of the worker's seats before it to that
-- after it.
use Rattle.std.specs.Prelude.{◌≡◌, ℕ, ◌<◌, [], ◌++◌, List, None, Some}
use Rattle.shr_base.specs.declared.places.Serial.{Serial}
use Rattle.shr_base.specs.declared.places.Target.{Target}
use Rattle.shr_base.specs.declared.journals.UseStep.{UseStep}
use Rattle.shr_base.specs.declared.replies.Found.{Found}
use Rattle.shr_base.specs.declared.replies.Reply.{Reply}
use Rattle.shr_base.specs.declared.replies.Reply.TheVariants as reply
use Rattle.shr_base.specs.declared.replies.Spent.{Spent}
use Rattle.shr_model.specs.Groups.{path_of}
use Rattle.shr_core.specs.declared.view.View.{View}
use Rattle.shr_core.specs.Parts.{no_rooms}
use Rattle.shr_seats.specs.Shapes.{groups_in, hierarchy_of}
use Rattle.shr_seats.specs.declared.shape.Shape.{Shape}
use Rattle.shr_core.specs.Seats.{view_of, shape_of}
use Rattle.shr_core.specs.Steps.{with_put}
use Rattle.shr_charge.specs.Charging.{AreDowns, AreRising, calls_with}
use Rattle.shr_charge.specs.Seat.{spent_by}
use Rattle.shr_charge.specs.Steps.{with_load}
use Rattle.shr_charge.specs.declared.answers.GroupState.{GroupState}
use Rattle.shr_charge.specs.declared.answers.GroupState.TheVariants.{Online, Offline, NotMade}
use Rattle.shr_charge.specs.Told.{Shows}
use Rattle.shr_charge.specs.Views.{both_uses}
use Rattle.shr_registry.specs.declared.answers.FindAnswer.{FindAnswer}
use Rattle.shr_registry.specs.declared.answers.FindAnswer.TheVariants as find
use Rattle.shr_registry.specs.Answers.{FindGives, IsDatedBy}
use Rattle.shr_walk.specs.declared.seats.Seats.{Seats}
use Rattle.shr_walk.specs.declared.seats.Shared.{Shared}
use Rattle.shr_walk.specs.Keeping.{shared_parents}
use Rattle.shr_walk.specs.State.{WorkerState, IsRested}
use Rattle.shr_cache.specs.declared.opening.Opened.{Opened}
use Rattle.shr_cache.specs.declared.opening.Opened.TheVariants.{Held, Refused}

-- there are such a group, such a node and such a declaration
pub record IsTargetOf (shape : Shape) (t : Target) : Type 0 where
  pub group : t.group < groups_in shape
  pub node : t.node < shape.nodes
  pub decl : t.decl < shape.decls

-- The word of the group was loaded, and told this state, which agrees with what the worker knew of
-- the group. Nothing else was done.
pub record LoadsWord (x : Shared) (group : ℕ) (state : GroupState) (s t : WorkerState) : Type 0 where
  pub shows : Shows (hierarchy_of (shape_of x.core)) s.tree group state
  pub rest : t ≡ record s { tree = with_load s.tree group state }

-- the cache of a declaration was looked for, with this answer by the pool's journal, which the
-- worker knows then, and an id that is held is dated; nothing else was done
pub record LooksForCache (x : Shared) (decl : ℕ) (answer : FindAnswer) (s t : WorkerState) : Type 0 where
  pub answers : FindGives (shape_of x.core) s.core decl t.core.turns.known 1 answer t.core
  pub dated : IsDatedBy answer t.core
  pub rest : t ≡ record s { core = t.core }

-- the cache was found: its id is held by the lookup with this number
abbrev pub HoldsCache : Shared → ℕ → Found → WorkerState → WorkerState → Type 0
HoldsCache x decl f s t = LooksForCache x decl (find.Held f.id f.number f.entry) s t

-- a call was made on a list of the cache that is held, and then the reference was given back;
-- nothing else was done
pub record Calls (call : View → View → Type 0) (s t : WorkerState) : Type 0 where
  pub called : View
  pub made : call s.core called
  pub rest : t ≡ record s { core = with_put called }

-- one object was uncharged: each level from this group up went down by one, and each operation was
-- noted; nothing else was done
pub record Uncharges (x : Shared) (by : Serial) (group : ℕ) (s t : WorkerState) : Type 0 where
  pub ops : List UseStep
  pub downs : AreDowns by (path_of (shared_parents x) group) ops
  pub rise : AreRising s.uses.ops → AreRising t.uses.ops
  pub rest : t ≡ record s { uses = both_uses s.uses (calls_with ops 0 1); noted = s.noted ++ ops }

-- the worker may still charge and uncharge
abbrev pub MayCharge : WorkerState → Type 0
MayCharge s = spent_by s.uses ≡ None

-- its charges or its uncharges are used up, with these numbers, and nothing was done
pub record IsWorkerSpent (spent : Spent) (s t : WorkerState) : Type 0 where
  pub numbers : spent_by s.uses ≡ Some spent
  pub rest : t ≡ s

-- the group was online, the cache was found, a call was made on its list, and the reference was
-- given back
pub record OnCache (x : Shared) (group decl : ℕ) (f : Found) (call : View → View → Type 0)
    (s t : WorkerState) : Type 0 where
  pub loaded : WorkerState
  pub held : WorkerState
  pub online : LoadsWord x group Online s loaded
  pub holds : HoldsCache x decl f loaded held
  pub calls : Calls call held t

-- what is so where the cache was looked for, by the reply that came of it
abbrev pub MissesAs : Shared → ℕ → Reply → WorkerState → WorkerState → Type 0
MissesAs x decl (reply.NoCache entry) s t = LooksForCache x decl (find.NoCache entry) s t
MissesAs x decl (reply.Worn spent) s t = LooksForCache x decl (find.Worn spent) s t
MissesAs x decl r s t = ⊥

-- the group was online, and the cache wasn't found
pub record MissesCache (x : Shared) (group decl : ℕ) (r : Reply) (s t : WorkerState) : Type 0 where
  pub loaded : WorkerState
  pub online : LoadsWord x group Online s loaded
  pub misses : MissesAs x decl r loaded t

-- what was done by a command that was refused before its list call, by its reply
abbrev pub RefusedAs : Shared → ℕ → ℕ → Reply → WorkerState → WorkerState → Type 0
RefusedAs x group decl (reply.Offline entry) s t = LoadsWord x group (Offline entry) s t
RefusedAs x group decl (reply.NotMade g) s t = (g ≡ group) × LoadsWord x group NotMade s t
RefusedAs x group decl (reply.NoCache entry) s t = MissesCache x group decl (reply.NoCache entry) s t
RefusedAs x group decl (reply.Worn spent) s t = MissesCache x group decl (reply.Worn spent) s t
RefusedAs x group decl r s t = ⊥

-- the seats are of the tables, have no room in hand and owe nothing, and this id is held
pub record AreHolding (x : Shared) (id : ℕ) (s : Seats) : Type 0 where
  pub core : s.cache.core.core ≡ x.core
  pub near : id < (shape_of x.core).ids
  pub rooms : (view_of s.cache.core).holding ≡ no_rooms
  pub held : (view_of s.cache.core).claims.held ≡ Some id
  pub owner : (view_of s.cache.core).claims.owner ≡ None
  pub owed : (view_of s.cache.core).marks.owed ≡ []
  pub charge : s.cache.charge.charge ≡ x.charge
  pub deferred : s.deferred.deferred ≡ x.deferred

-- nothing was charged or noted
pub record IsSameCharge (s t : Seats) : Type 0 where
  pub charge : t.cache.charge ≡ s.cache.charge
  pub noted : t.cache.uses ≡ s.cache.uses

-- what is so of the seats once a cache was looked for
abbrev pub IsAfterFinding : Shared → Opened → Seats → Type 0
IsAfterFinding x (Held f) s = AreHolding x f.id s
IsAfterFinding x (Refused r) s = IsRested x s

-- what looking for the cache did
abbrev pub FindsAs : Shared → ℕ → Opened → WorkerState → WorkerState → Type 0
FindsAs x decl (Held f) s t = HoldsCache x decl f s t
FindsAs x decl (Refused r) s t = MissesAs x decl r s t

-- the group was online and the cache was found
pub record Opens (x : Shared) (group decl : ℕ) (f : Found) (s t : WorkerState) : Type 0 where
  pub loaded : WorkerState
  pub online : LoadsWord x group Online s loaded
  pub holds : HoldsCache x decl f loaded t

-- what loading the word of the group, and then looking for the cache, did
abbrev pub OpensAs : Shared → ℕ → ℕ → Opened → WorkerState → WorkerState → Type 0
OpensAs x group decl (Held f) s t = Opens x group decl f s t
OpensAs x group decl (Refused r) s t = RefusedAs x group decl r s t
