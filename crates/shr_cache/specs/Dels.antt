-- SPDX-License-Identifier: GPL-2.0-only
-- What a del does, by its answer.
use Rattle.std.specs.Prelude.{◌≡◌, ℕ, List, Option, None}
use Rattle.shr_base.specs.declared.places.Serial.{Serial}
use Rattle.shr_base.specs.declared.replies.Answered.{Answered}
use Rattle.shr_base.specs.declared.replies.Found.{Found}
use Rattle.shr_base.specs.declared.replies.Reply.{Reply}
use Rattle.shr_base.specs.declared.replies.Reply.TheVariants as reply
use Rattle.shr_base.specs.declared.replies.Spent.TheVariants as spent
use Rattle.shr_core.specs.Seats.{shape_of}
use Rattle.shr_node.specs.Answers.{DropGives}
use Rattle.shr_walk.specs.declared.seats.Shared.{Shared}
use Rattle.shr_walk.specs.State.{WorkerState}
use Rattle.shr_cache.specs.Opening.{MayCharge, IsWorkerSpent}
use Rattle.shr_cache.specs.Replies.{AsksList, UnchargesIf, drop_says, has_dropped}

-- the object of the key was asked for in the cache that was found
abbrev pub AsksToDrop : Shared → Serial → ℕ → ℕ → ℕ → List ℕ → Option Found → Reply → WorkerState
    → WorkerState → Type 0
AsksToDrop x by group node decl key =
    AsksList x group decl drop_says
    (λ id v answer w. DropGives (shape_of x.core) v id node by group key answer w)

-- and then the group that it was born in, which is the command's, was uncharged if it was dropped
pub record Drops (x : Shared) (by : Serial) (group node decl : ℕ) (key : List ℕ)
    (found : Option Found) (r : Reply) (s t : WorkerState) : Type 0 where
  pub charges : MayCharge s
  pub after : WorkerState
  pub asked : AsksToDrop x by group node decl key found r s after
  pub uncharged : UnchargesIf x by group (has_dropped r) after t

-- the charges weren't used up, there was no memory, and nothing was done
pub record DelLacksMemory (s t : WorkerState) : Type 0 where
  pub charges : MayCharge s
  pub rest : t ≡ s

-- by whether the cache was found and by the reply: charges that are used up come first, then memory
-- to note an uncharge
abbrev pub DroppedAs : Shared → Serial → ℕ → ℕ → ℕ → List ℕ → Option Found → Reply → WorkerState
    → WorkerState → Type 0
DroppedAs x by group node decl key None (reply.Worn (spent.Charges charges uncharges)) s t =
    IsWorkerSpent (spent.Charges charges uncharges) s t
DroppedAs x by group node decl key None reply.Memory s t = DelLacksMemory s t
DroppedAs x by group node decl key found r s t = Drops x by group node decl key found r s t

-- What a del did. The cache is told where it was found, and nowhere else.
abbrev pub DelGives : Shared → Serial → ℕ → ℕ → ℕ → List ℕ → Answered → WorkerState → WorkerState
    → Type 0
DelGives x by group node decl key a s t = DroppedAs x by group node decl key a.found a.reply s t
