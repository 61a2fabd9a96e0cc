-- SPDX-License-Identifier: GPL-2.0-only
-- Rounds of walks after a refused charge, each with another try of it.
use Rattle.std.specs.Prelude.{◌≡◌, ◌⊎◌, ℕ, ◌-◌, true, List, [], ◌∷◌, ◌++◌, All, length, map}
use Rattle.shr_base.specs.declared.places.Serial.{Serial}
use Rattle.shr_base.specs.declared.walks.WalkAnswer.{WalkAnswer}
use Rattle.shr_model.specs.Commands.{round_of}
use Rattle.shr_model.specs.Prefixes.{IsPrefixOf}
use Rattle.shr_model.specs.Walks.{Job}
use Rattle.shr_charge.specs.declared.answers.ChargeAnswer.{ChargeAnswer}
use Rattle.shr_core.specs.Seats.{shape_of}
use Rattle.shr_walk.specs.declared.seats.Shared.{Shared}
use Rattle.shr_walk.specs.declared.walking.Walk.{Walk}
use Rattle.shr_walk.specs.Balances.{OneGives, HadMemory, lacked_memory}
use Rattle.shr_walk.specs.State.{WorkerState}
use Rattle.shr_walk.specs.Trying.{IsChargeTried, Refusal, refused}

-- a walk that was made: what it was of, its answer, and the state after it
pub record Visit : Type 0 where
  pub job : Job
  pub answer : WalkAnswer
  pub after : WorkerState

-- what a walk was of
abbrev pub job_in : Visit → Job
job_in v = v.job

-- the walk of this command over a job, of this number among the worker's walks
abbrev pub walk_for : Serial → ℕ → Job → Walk
walk_for by number j = record {
  by = by;
  number = number;
  group = j.group;
  node = j.node;
  priority = j.priority;
  nofs = j.nofs;
}

-- a walk was made from this state, the root's by the walk of its own
abbrev pub IsVisited : Shared → Serial → Visit → WorkerState → Type 0
IsVisited x by v s = OneGives x (walk_for by (length s.walks) v.job) v.answer s v.after

-- these walks were made, each from where the one before it ended
abbrev pub AreVisited : Shared → Serial → List Visit → WorkerState → WorkerState → Type 0
AreVisited x by [] s t = s ≡ t
AreVisited x by (v ∷ vs) s t = IsVisited x by v s × AreVisited x by vs v.after t

-- a walk did not end for want of memory; one over a group that is offline did not either
abbrev pub VisitHadMemory : Visit → Type 0
VisitHadMemory v = HadMemory v.answer

-- the last walk alone ended for want of memory
pub record IsLastVisitCut (vs : List Visit) : Type 0 where
  pub front : List Visit
  pub last : Visit
  pub whole : vs ≡ front ++ last ∷ []
  pub had : All VisitHadMemory front
  pub lacked : lacked_memory last.answer ≡ true

-- the walks over all these jobs were made, and each had memory
pub record WalksAll (x : Shared) (by : Serial) (jobs : List Job) (walks : List Visit)
    (s t : WorkerState) : Type 0 where
  pub visited : AreVisited x by walks s t
  pub all : map job_in walks ≡ jobs
  pub had : All VisitHadMemory walks

-- The walks over the first of these jobs were made, perhaps over none or all: memory lacked in
-- the last walk, or behind it.
pub record WalksFirst (x : Shared) (by : Serial) (jobs : List Job) (walks : List Visit)
    (s t : WorkerState) : Type 0 where
  pub visited : AreVisited x by walks s t
  pub first : IsPrefixOf (map job_in walks) jobs
  pub cut : All VisitHadMemory walks ⊎ IsLastVisitCut walks

-- what is walked in a round over a group: on each node in rising order the group's subtree in
-- preorder, with `fs`
abbrev pub due_in : Shared → ℕ → ℕ → List Job
due_in x priority group = round_of x.tree.parents (shape_of x.core).nodes priority group

-- a round: its priority, the refusal before it, its walks and the state after them, and the
-- answer of the try that ends it and the state after that
pub record Round : Type 0 where
  pub priority : ℕ
  pub over : Refusal
  pub walks : List Visit
  pub walked : WorkerState
  pub answer : ChargeAnswer
  pub tried : WorkerState

-- A round of this priority followed a try with this answer, from this state: the try was refused,
-- the walks over the group that had no room then were made, and the charge of this group was
-- tried again.
pub record IsRound (x : Shared) (by : Serial) (group priority : ℕ) (answer : ChargeAnswer)
    (k : Round) (s : WorkerState) : Type 0 where
  pub priority_is : k.priority ≡ priority
  pub refused_so : answer ≡ refused k.over
  pub walks : WalksAll x by (due_in x k.priority k.over.group) k.walks s k.walked
  pub try : IsChargeTried x by group k.answer k.walked k.tried

-- rounds of falling priority, the first of this one, after a try with this answer, to the last
-- try and its answer
abbrev pub AreRounds : Shared → Serial → ℕ → ℕ → ChargeAnswer → List Round → ChargeAnswer
    → WorkerState → WorkerState → Type 0
AreRounds x by group priority first [] last s t = (first ≡ last) × (s ≡ t)
AreRounds x by group priority first (k ∷ ks) last s t = IsRound x by group priority first k s
    × AreRounds x by group (priority - 1) k.answer ks last k.tried t

-- The charge was tried, and after each refusal came a round, the first of priority 12, and
-- another try. The last try had this answer.
pub record TriesInRounds (x : Shared) (by : Serial) (group : ℕ) (rounds : List Round)
    (last : ChargeAnswer) (s t : WorkerState) : Type 0 where
  pub first : ChargeAnswer
  pub tried : WorkerState
  pub try : IsChargeTried x by group first s tried
  pub follow : AreRounds x by group 12 first rounds last tried t
