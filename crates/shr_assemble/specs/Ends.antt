-- SPDX-License-Identifier: GPL-2.0-only
-- What is known of a run once all workers are done: how the tables were opened, what each worker did, and how the tables
-- ended.
use Rattle.std.specs.Prelude.{◌≡◌, ℕ, ◌+◌, ◌<◌, ◌^◌, List, [], ◌∷◌, ◌++◌, length, slice_get, Option, Some, None, All, fold}
use Rattle.shr_base.specs.declared.ends.MapEnd.{MapEnd}
use Rattle.shr_base.specs.declared.places.Serial.{Serial}
use Rattle.shr_base.specs.declared.replies.Answered.{Answered}
use Rattle.shr_base.specs.declared.replies.Reply.{Reply}
use Rattle.shr_base.specs.declared.replies.Reply.TheVariants as reply
use Rattle.shr_base.specs.declared.scripts.Sweep.{Sweep}
use Rattle.shr_seats.specs.Standing.{Standing}
use Rattle.shr_core.specs.declared.view.View.{View}
use Rattle.shr_core.specs.Gained.{IsIdle}
use Rattle.shr_core.specs.Leaving.{IsLeft}
use Rattle.shr_core.specs.Rule.{opener}
use Rattle.shr_core.specs.Steps.{split_off, with_joined}
use Rattle.shr_seats.specs.Shapes.{hierarchy_of}
use Rattle.shr_charge.specs.Ends.{IsEndOf}
use Rattle.shr_charge.specs.Steps.{joined_tree}
use Rattle.shr_charge.specs.Views.{Uses, TreeView, own_uses, no_tree, both_uses}
use Rattle.shr_deferred.specs.History.{HasHistory}
use Rattle.shr_deferred.specs.Left.{left_over}
use Rattle.shr_deferred.specs.Moves.{Moves, no_moves, both}
use Rattle.shr_plain.specs.Ending.{IsPoolsEnd}
use Rattle.shr_plain.specs.Opening.{pool_sizes}
use Rattle.shr_plain.specs.Seat.{PlainState, no_state, joined_state}
use Rattle.shr_walk.specs.declared.seats.Shared.{Shared}
use Rattle.shr_walk.specs.Sharing.{IsShared, IsFromStart}
use Rattle.shr_worker.specs.Chain.{CrewState, IsWorkOf, worker_commands, command_serial}
use Rattle.shr_worker.specs.Replies.{unfound}
use Rattle.shr_pool.specs.declared.items.SweepItem.{SweepItem}
use Rattle.shr_pool.specs.declared.view.PassView.{PassView}
use Rattle.shr_pool.specs.declared.answers.SweepAnswer.{SweepAnswer}
use Rattle.shr_pool.specs.declared.answers.SweepAnswer.TheVariants as sweep
use Rattle.shr_pool.specs.Helping.{HelpGives}
use Rattle.shr_tables.specs.declared.ending.Ends.{Ends}
use Rattle.shr_tables.specs.Opened.{AreEntered}
use Rattle.shr_assemble.specs.declared.logs.WorkerLog.{WorkerLog}
use Rattle.shr_lawful.specs.Sweeps.{ArePoppedOnce, all_popped}

-- what the first seats of the tables have done and seen
pub record Firsts : Type 0 where
  pub core : View
  pub uses : Uses
  pub tree : TreeView
  pub moves : Moves
  -- by themselves, and what each worker's then did
  pub strands : List Moves
  -- at the pools of units
  pub plain : PlainState

-- what they have done and seen once a worker's seats were joined into them
abbrev pub with_worker : Firsts → CrewState → Firsts
with_worker f w = record {
  core = with_joined f.core w.seats.core;
  uses = both_uses f.uses w.seats.uses;
  tree = joined_tree f.tree w.seats.tree;
  moves = both f.moves w.seats.moves;
  strands = f.strands ++ w.seats.moves ∷ [];
  plain = joined_state f.plain w.plain;
}

-- once those of these workers were, in order
abbrev pub with_workers : Firsts → List CrewState → Firsts
with_workers f ws = fold with_worker f ws

-- what they have done and seen when the workers start: the caches that are on were registered by this view, which was then
-- split so often
abbrev pub firsts_at_start : View → Standing → Firsts
firsts_at_start opened standing = record { core = record opened { standing = standing }; uses = own_uses; tree = no_tree; moves = no_moves; strands = no_moves ∷ []; plain = no_state }

-- a worker's state at the start, by its number: the first seats have number 0, and the workers' were
-- split off them in order
abbrev pub new_worker : View → ℕ → CrewState
new_worker opened number = record {
  seats = record { core = record (split_off opened) { seat = 1 + number }; uses = own_uses; tree = no_tree; moves = no_moves; noted = []; walks = []; carries = [] };
  plain = no_state;
  isolations = [];
}

-- the answer of a helper, as a reply
abbrev pub sweep_reply : SweepAnswer → Reply
sweep_reply (sweep.Swept jobs freed) = reply.Swept jobs freed
sweep_reply (sweep.Memory freed) = reply.WalkMemory freed

-- A worker helped with this sweep behind its commands, with a pass that had popped nothing. These are its answer and the
-- items that it popped.
pub record HasHelped (x : Shared) (z : Sweep) (by : Serial) (told : List Answered) (popped : List SweepItem) (s t : CrewState) : Type 0 where
  pub answer : SweepAnswer
  pub told_is : told ≡ unfound (sweep_reply answer) ∷ []
  pub pass : PassView
  pub fresh : pass.popped ≡ []
  pub ended : PassView
  pub popped_is : ended.popped ≡ popped
  pub gives : HelpGives x by z.priority z.nofs answer pass ended s.seats t.seats
  pub plain : t.plain ≡ s.plain
  pub isolations : t.isolations ≡ s.isolations

-- it did so if its script has a sweep, and nothing otherwise
abbrev pub HelpsWith : Shared → Option Sweep → Serial → List Answered → List SweepItem → CrewState → CrewState → Type 0
HelpsWith x None by told popped s t = (told ≡ []) × (t ≡ s)
HelpsWith x (Some z) by told popped s t = HasHelped x z by told popped s t

-- a worker has answered all its commands, and then the sweep of its script; this is what it noted and its last state
pub record HasWorked (x : Shared) (opened : View) (number : ℕ) (log : WorkerLog) (popped : List SweepItem) (last : CrewState) : Type 0 where
  pub own : List Answered
  pub told : List Answered
  pub answers : log.answers.items ≡ own ++ told
  pub all : length own ≡ length (worker_commands x.script number)
  pub done : CrewState
  pub work : IsWorkOf x number own (new_worker opened number) done
  pub helped : HelpsWith x x.script.sweep (command_serial number (length (worker_commands x.script number))) told popped done last
  pub walks : log.walks.items ≡ last.seats.walks
  pub carries : log.carries.items ≡ last.seats.carries
  pub uses : log.uses.items ≡ last.seats.noted
  pub plain : log.plain.items ≡ last.plain.walks
  pub isolations : log.isolations.items ≡ last.isolations

-- The tables of a script were opened with its caches, each worker ran to its end, and the tables were ended so.
pub record AreEndsOf (x : Shared) (logs : List WorkerLog) (e : Ends) : Type 0 where
  pub shared : IsShared x
  pub from_start : IsFromStart x
  pub script : e.script ≡ x.script
  -- the first view once the caches that are on were registered
  pub opened : View
  pub entered : AreEntered x.script.caches.items (length x.script.caches.items) opener opened
  -- it holds nothing
  pub idle : IsIdle opened
  pub standing : Standing
  -- the last states of the workers
  pub lasts : List CrewState
  pub workers : length logs ≡ length x.script.workers.items
  pub last_states : length lasts ≡ length logs
  -- what the pass of each popped of the sweep's jobs
  pub popped : ℕ → List SweepItem
  pub worked : (i : ℕ) (log : WorkerLog) (last : CrewState) → slice_get logs i ≡ Some log → slice_get lasts i ≡ Some last → HasWorked x opened i log (popped i) last
  pub swept : (z : Sweep) → x.script.sweep ≡ Some z → ArePoppedOnce x.script (all_popped popped (length logs))
  -- what is left
  pub core : IsLeft x.core.setting (with_workers (firsts_at_start opened standing) lasts).core e.core
  -- each bit word is one of 64 bits
  pub words : All (λ (m : MapEnd). m.bits < 2 ^ 64) e.core.maps.items
  pub deferred : e.deferred.items ≡ left_over x.deferred.sizes (with_workers (firsts_at_start opened standing) lasts).moves
  pub history : HasHistory x.deferred.sizes (with_workers (firsts_at_start opened standing) lasts).strands e.deferred.items
  pub charge : IsEndOf (hierarchy_of x.charge.shape) (with_workers (firsts_at_start opened standing) lasts).uses (with_workers (firsts_at_start opened standing) lasts).tree e.charge
  pub pools : IsPoolsEnd (pool_sizes x.script) (with_workers (firsts_at_start opened standing) lasts).plain e.pools
