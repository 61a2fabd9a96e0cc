-- SPDX-License-Identifier: GPL-2.0-only
-- The walks of all groups on a node, one after another.
use Rattle.std.specs.Prelude.{◌≡◌, ◌⊎◌, ℕ, ◌+◌, ◌<◌, Bool, true, false, List, [], ◌∷◌, ◌++◌, All, length, map, sum, take}
use Rattle.shr_base.specs.declared.walks.WalkAnswer.{WalkAnswer}
use Rattle.shr_base.specs.declared.walks.WalkAnswer.TheVariants as answered
use Rattle.shr_model.specs.Groups.{preorder_of}
use Rattle.shr_walk.specs.declared.seats.Shared.{Shared}
use Rattle.shr_walk.specs.declared.walking.Walk.{Walk}
use Rattle.shr_walk.specs.State.{WorkerState, no_work, Does}
use Rattle.shr_walk.specs.Walked.{WalkGives, RootGives}

-- what a walk says that it freed
abbrev pub walk_freed : WalkAnswer → ℕ
walk_freed (answered.Walked freed) = freed
walk_freed (answered.Offline entry) = 0
walk_freed (answered.Memory freed) = freed

-- the walk ended for want of memory
abbrev pub lacked_memory : WalkAnswer → Bool
lacked_memory (answered.Walked freed) = false
lacked_memory (answered.Offline entry) = false
lacked_memory (answered.Memory freed) = true

-- the walk didn't end for want of memory
abbrev pub HadMemory : WalkAnswer → Type 0
HadMemory a = lacked_memory a ≡ false

-- a walk of this kind over another group, of this number among the worker's walks
abbrev pub walk_over : Walk → ℕ → ℕ → Walk
walk_over walk group number = record { by = walk.by; number = number; group = group; node = walk.node; priority = walk.priority; nofs = walk.nofs }

-- a group's walk: the root has a walk of its own
pub record OneGives (x : Shared) (walk : Walk) (answer : WalkAnswer) (s t : WorkerState) : Type 0 where
  pub root : walk.group ≡ 0 → RootGives x walk answer s t
  pub below : 0 < walk.group → WalkGives x walk answer s t

-- each of these groups was walked once, in this order, each walk from where the one before it
-- ended, with these answers
abbrev pub AreWalked : Shared → Walk → List ℕ → List WalkAnswer → WorkerState → WorkerState → Type 0
AreWalked x walk [] answers s t = (answers ≡ []) × (s ≡ t)
AreWalked x walk (g ∷ gs) answers s t = (a : WalkAnswer) × (rest : List WalkAnswer) × (u : WorkerState) × (answers ≡ a ∷ rest) × OneGives x (walk_over walk g (length s.walks)) a s u × AreWalked x walk gs rest u t

-- all groups, the root first and then in preorder
abbrev pub all_groups : Shared → List ℕ
all_groups x = preorder_of x.tree.parents 0

-- every group was walked, and no walk ended for want of memory
pub record IsBalanced (x : Shared) (walk : Walk) (freed : ℕ) (s t : WorkerState) : Type 0 where
  pub answers : List WalkAnswer
  pub walked : AreWalked x walk (all_groups x) answers s t
  pub had : All HadMemory answers
  pub sum_freed : freed ≡ sum (map walk_freed answers)

-- the groups up to one were walked, and that one's walk was the first that ended for want of memory
pub record IsBalanceCut (x : Shared) (walk : Walk) (freed : ℕ) (s t : WorkerState) : Type 0 where
  pub n : ℕ
  pub within : n < length (all_groups x)
  pub answers : List WalkAnswer
  pub last : WalkAnswer
  pub walked : AreWalked x walk (take (n + 1) (all_groups x)) (answers ++ last ∷ []) s t
  pub had : All HadMemory answers
  pub lacked : lacked_memory last ≡ true
  pub sum_freed : freed ≡ sum (map walk_freed (answers ++ last ∷ []))

-- what a balance did, by its answer: it is never offline, and without room for the order of the
-- groups it did nothing
abbrev pub BalanceGives : Shared → Walk → WalkAnswer → WorkerState → WorkerState → Type 0
BalanceGives x walk (answered.Walked freed) s t = IsBalanced x walk freed s t
BalanceGives x walk (answered.Offline entry) s t = ⊥
BalanceGives x walk (answered.Memory freed) s t = ((freed ≡ 0) × Does s t no_work) ⊎ IsBalanceCut x walk freed s t
