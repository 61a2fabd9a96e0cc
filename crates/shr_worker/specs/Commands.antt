-- SPDX-License-Identifier: GPL-2.0-only
-- What each command does, by its kind and its answer.
use Rattle.std.specs.Prelude.{◌≡◌, ◌⊎◌, ℕ, Bool, length}
use Rattle.shr_base.specs.declared.places.Serial.{Serial}
use Rattle.shr_base.specs.declared.replies.Answered.{Answered}
use Rattle.shr_base.specs.declared.replies.Reply.TheVariants as reply
use Rattle.shr_base.specs.declared.replies.Spent.{Spent}
use Rattle.shr_base.specs.declared.scripts.Act.TheVariants.{Get, Del, SetPin}
use Rattle.shr_base.specs.declared.scripts.Command.{Command}
use Rattle.shr_base.specs.declared.scripts.Command.TheVariants.{Put, On, Shrink, Balance, Offline, MkGroup, Register, Unregister, Isolate, Release, Grab}
use Rattle.shr_base.specs.declared.walks.WalkAnswer.{WalkAnswer}
use Rattle.shr_charge.specs.declared.answers.MakeAnswer.{MakeAnswer}
use Rattle.shr_charge.specs.Answers.{MakeTells, MakeLeaves, KnowsTree}
use Rattle.shr_cache.specs.Dels.{DelGives}
use Rattle.shr_cache.specs.Gets.{GetGives}
use Rattle.shr_cache.specs.Opening.{IsWorkerSpent, MayCharge}
use Rattle.shr_cache.specs.Pins.{SetPinGives}
use Rattle.shr_cache.specs.Puts.{PutGives}
use Rattle.shr_core.specs.Seats.{shape_of}
use Rattle.shr_seats.specs.Shapes.{hierarchy_of}
use Rattle.shr_offline.specs.declared.answers.OfflineAnswer.{OfflineAnswer}
use Rattle.shr_offline.specs.Offlined.{OfflineGives}
use Rattle.shr_registry.specs.declared.answers.RegisterAnswer.{RegisterAnswer}
use Rattle.shr_registry.specs.declared.answers.UnregisterAnswer.{UnregisterAnswer}
use Rattle.shr_registry.specs.Answers.{RegisterGives}
use Rattle.shr_registry.specs.Ending.{UnregisterGives}
use Rattle.shr_walk.specs.declared.seats.Shared.{Shared}
use Rattle.shr_walk.specs.declared.walking.Walk.{Walk}
use Rattle.shr_walk.specs.Balances.{OneGives, BalanceGives}
use Rattle.shr_walk.specs.Keeping.{shared_parents}
use Rattle.shr_walk.specs.State.{WorkerState}
use Rattle.shr_worker.specs.Replies.{unfound, walk_reply, offline_reply, make_reply, register_reply, unregister_reply, objects_drained}
use Rattle.shr_worker.specs.Uncharging.{UnchargesEach}

-- the walk of a command, which gets the next number among the worker's walks
abbrev pub next_walk : Serial → WorkerState → ℕ → ℕ → ℕ → Bool → Walk
next_walk by s group node priority nofs = record {
  by = by;
  number = length s.walks;
  group = group;
  node = node;
  priority = priority;
  nofs = nofs;
}

-- the group was walked once, and the answer is that walk's
pub record Shrinks (x : Shared) (by : Serial) (group node priority : ℕ) (nofs : Bool) (a : Answered)
    (s t : WorkerState) : Type 0 where
  pub answer : WalkAnswer
  pub told : a ≡ unfound (walk_reply answer)
  pub walked : OneGives x (next_walk by s group node priority nofs) answer s t

-- all groups were walked, and the answer is their balance's
pub record Balances (x : Shared) (by : Serial) (node priority : ℕ) (nofs : Bool) (a : Answered)
    (s t : WorkerState) : Type 0 where
  pub answer : WalkAnswer
  pub told : a ≡ unfound (walk_reply answer)
  pub balanced : BalanceGives x (next_walk by s 0 node priority nofs) answer s t

-- the group was taken offline, or it was told why not
pub record Offlines (x : Shared) (by : Serial) (group : ℕ) (a : Answered) (s t : WorkerState)
    : Type 0 where
  pub answer : OfflineAnswer
  pub told : a ≡ unfound (offline_reply answer)
  pub offlined : OfflineGives x by group answer s t

-- the later group was made, or it was told why not, and nothing but what is known of the tree changed
pub record MakesGroup (x : Shared) (group : ℕ) (a : Answered) (s t : WorkerState) : Type 0 where
  pub answer : MakeAnswer
  pub told : a ≡ unfound (make_reply answer)
  pub tells : MakeTells (hierarchy_of (shape_of x.core)) group answer s.tree t.tree.known
  pub leaves : MakeLeaves group answer s.tree t.tree
  pub knows : KnowsTree (hierarchy_of (shape_of x.core)) s.tree t.tree
  pub rest : t ≡ record s { tree = t.tree }

-- the cache was registered, or it was told why not, and nothing but the core's part changed
pub record RegistersCache (x : Shared) (decl : ℕ) (a : Answered) (s t : WorkerState) : Type 0 where
  pub answer : RegisterAnswer
  pub told : a ≡ unfound (register_reply answer)
  pub registered : RegisterGives x.core.setting s.core decl t.core.turns.known 1 answer t.core
  pub rest : t ≡ record s { core = t.core }

-- the worker's charges were used up before, and nothing was done
pub record UnregistersNone (a : Answered) (s t : WorkerState) : Type 0 where
  pub spent : Spent
  pub told : a ≡ unfound (reply.Worn spent)
  pub used_up : IsWorkerSpent spent s t

-- the cache was unregistered, or it was told why not; each object that was drained was uncharged
pub record Unregisters (x : Shared) (by : Serial) (decl : ℕ) (a : Answered) (s t : WorkerState)
    : Type 0 where
  pub charges : MayCharge s
  pub answer : UnregisterAnswer
  pub told : a ≡ unfound (unregister_reply answer)
  pub ended : UnregisterGives (shape_of x.core) s.core decl by answer t.core
  pub uncharged : UnchargesEach (shared_parents x) by (objects_drained answer) s t

-- there was no memory for a copy of the key and the value, and nothing was done
pub record PutsNone (a : Answered) (s t : WorkerState) : Type 0 where
  pub told : a ≡ unfound reply.Memory
  pub rest : t ≡ s

-- what a command did at the tables of the caches between two states of its worker, by its answer
abbrev pub CommandGives : Shared → Serial → Command → Answered → WorkerState → WorkerState
    → Type 0
CommandGives x by (Put at key value) a s t =
    PutsNone a s t ⊎ PutGives x by at.group at.node at.decl key value a s t
CommandGives x by (On at key Get) a s t = GetGives x by at.group at.node at.decl key a s t
CommandGives x by (On at key Del) a s t = DelGives x by at.group at.node at.decl key a s t
CommandGives x by (On at key (SetPin pinned)) a s t =
    SetPinGives x by at.group at.node at.decl key pinned a s t
CommandGives x by (Shrink group node priority nofs) a s t =
    Shrinks x by group node priority nofs a s t
CommandGives x by (Balance node priority nofs) a s t = Balances x by node priority nofs a s t
CommandGives x by (Offline group) a s t = Offlines x by group a s t
CommandGives x by (MkGroup group) a s t = MakesGroup x group a s t
CommandGives x by (Register decl) a s t = RegistersCache x decl a s t
CommandGives x by (Unregister decl) a s t = UnregistersNone a s t ⊎ Unregisters x by decl a s t
-- what an isolation did is told with the isolations that its worker recorded
CommandGives x by (Isolate at budget) a s t = Unit {0}
-- nothing was done at the tables of the caches
CommandGives x by (Release node pool units) a s t = t ≡ s
CommandGives x by (Grab node pool) a s t = t ≡ s
