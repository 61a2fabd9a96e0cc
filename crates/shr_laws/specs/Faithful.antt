-- SPDX-License-Identifier: GPL-2.0-only
-- When a report is faithful: what its workers told stands in the order of their commands, and nothing is told twice. The
-- laws of a lawful report say nothing of it.
use Rattle.std.specs.Prelude.{◌≡◌, ◌≢◌, ℕ, ◌+◌, ◌<◌, ◌≤◌, List, [], ◌∷◌, ◌++◌, length, map, slice_get, Some, true, ⊤}
use Rattle.std.specs.List.{AllByRecursion}
use Rattle.std.specs.Option.{IsSomeAnd}
use Rattle.shr_base.specs.declared.journals.PoolEntry.{PoolEntry}
use Rattle.shr_base.specs.declared.journals.UseStep.{UseStep}
use Rattle.shr_base.specs.declared.places.Serial.{Serial}
use Rattle.shr_base.specs.declared.replies.Answered.{Answered}
use Rattle.shr_base.specs.declared.replies.Reply.{Reply}
use Rattle.shr_base.specs.declared.replies.Reply.TheVariants as reply
use Rattle.shr_base.specs.declared.scripts.Command.{Command}
use Rattle.shr_base.specs.declared.scripts.Command.TheVariants.{Offline}
use Rattle.shr_base.specs.declared.scripts.Script.{Script}
use Rattle.shr_base.specs.declared.walks.Carry.{Carry}
use Rattle.shr_base.specs.declared.walks.WalkAnswer.{WalkAnswer}
use Rattle.shr_base.specs.declared.walks.WalkAnswer.TheVariants as walk
use Rattle.shr_model.specs.Commands.{group_named}
use Rattle.shr_model.specs.Groups.{IsAtOrAbove}
use Rattle.shr_model.specs.Pool.{last_number}
use Rattle.shr_laws.specs.declared.report.Report.{Report}
use Rattle.shr_laws.specs.Parts.{parents_of, decls_on, serial_of, reply_at, lookups_at, all_carries, EachAnswer, EachWalk}
use Rattle.shr_laws.specs.Freshness.{pool_seen, pool_made, of_answer, pool_made_by, shows_offline}
use Rattle.shr_laws.specs.BitsTold.{AreBitsTold}
use Rattle.shr_laws.specs.Causes.{IsMadeBy, is_done_by}
use Rattle.shr_laws.specs.Climbs.{AreClimbing}
use Rattle.shr_laws.specs.Cuts.{AreCutsTold}
use Rattle.shr_laws.specs.OneOrder.{IsInOneOrder}
use Rattle.shr_laws.specs.Takes.{AreTakesInOrder}
use Rattle.shr_laws.specs.Tries.{AreAllTries}

-- how many entries of the journal of registrations an answer shows to be there: those that it
-- speaks of, and the one that it made
abbrev pub pool_reached : Answered → List ℕ
pool_reached a = pool_seen a ++ map (λ n. n + 1) (pool_made a.reply)

-- the same of the journal of the tree
abbrev pub tree_reached : Reply → List ℕ
tree_reached (reply.HasChildren child entry) = entry ∷ []
tree_reached (reply.AlreadyDone entry) = (entry + 1) ∷ []
tree_reached (reply.OfflineDone entry moved deferred) = (entry + 1) ∷ []
tree_reached x = []

-- the entry of the journal of the tree that a reply tells as its own
abbrev pub tree_made : Reply → List ℕ
tree_made (reply.OfflineDone entry moved deferred) = entry ∷ []
tree_made x = []

-- no number of the first list is above one of the second
abbrev pub AreNotAbove : List ℕ → List ℕ → Type 0
AreNotAbove ns ms = AllByRecursion (λ n. AllByRecursion (λ m. n ≤ m) ms) ns

-- the group that an Over names is the command's own or above it
abbrev pub IsOverOnPath : Script → Command → Reply → Type 0
IsOverOnPath s c (reply.Over group operation usage) = IsSomeAnd (group_named c) (λ own. IsAtOrAbove (parents_of s) group own)
IsOverOnPath s c x = ⊤

-- a walk found its group offline
abbrev pub IsWalkRefused : WalkAnswer → Type 0
IsWalkRefused (walk.Offline entry) = ⊤
IsWalkRefused a = ⊥

-- the Done with this number was made by an answer of another worker
pub record IsDoneElsewhere (r : Report) (worker entry : ℕ) : Type 0 where
  pub by : Serial
  pub apart : by.worker ≢ worker
  pub cited : IsSomeAnd (reply_at r by) (λ x. is_done_by entry x ≡ true)

-- each worker's answers stand in the order of its commands, and what was made was made once
pub record IsFaithful (s : Script) (r : Report) : Type 0 where
  -- no number of the journal of registrations is above the lookups of its id
  pub reached : (id : ℕ) → last_number id r.pool.items ≤ lookups_at r id
  -- no two answers made one entry of that journal, and none made one of the caches that are `on`
  pub made_once : (v i w j n : ℕ) → pool_made_by r v i ≡ n ∷ [] → pool_made_by r w j ≡ n ∷ [] → (v ≡ w) × (i ≡ j)
  pub made_later : (worker k n : ℕ) → pool_made_by r worker k ≡ n ∷ [] → length (decls_on s) ≤ n
  -- what a worker made there, it made behind all that it had known there before
  pub pool_later : (worker k later : ℕ) → k < later → AreNotAbove (of_answer r (serial_of worker k) pool_reached) (pool_made_by r worker later)
  -- and what it made there, the Idle of a Freed too, lies below all that it knew later
  pub pool_past : (worker k later n : ℕ) (e : PoolEntry) → k < later → slice_get r.pool.items n ≡ Some e → IsSomeAnd (reply_at r (serial_of worker k)) (IsMadeBy r e n)
      → AllByRecursion (λ m. n < m) (of_answer r (serial_of worker later) pool_seen)
  -- and so it is with the journal of the tree
  pub tree_later : (worker k later : ℕ) → k < later
      → AreNotAbove (of_answer r (serial_of worker k) (λ (a : Answered). tree_reached a.reply)) (of_answer r (serial_of worker later) (λ (a : Answered). tree_made a.reply))
  -- once a worker was shown Begin or Done of a group, the walks there of its later commands find it offline
  pub walks_refused : EachWalk r (λ worker n w. (k : ℕ) → k < w.by.command → shows_offline r (serial_of worker k) w.group ≡ true → IsWalkRefused w.answer)
  -- the operations of a group rise along a worker's commands
  pub uses_rise : (m n : ℕ) (o p : UseStep) → slice_get r.uses.items m ≡ Some o → slice_get r.uses.items n ≡ Some p
      → o.group ≡ p.group → o.by.worker ≡ p.by.worker → o.by.command < p.by.command → o.operation < p.operation
  -- a put was refused at a group of its own path
  pub over : EachAnswer s r (λ by c a. IsOverOnPath s c a.reply)
  -- only of a group below the root a child is in the way
  pub below_root : EachAnswer s r (λ by c a. (group child entry : ℕ) → c ≡ Offline group → a.reply ≡ reply.HasChildren child entry → 0 < group)
  -- a carry is of something
  pub carried : AllByRecursion (λ (c : Carry). 0 < c.amount) (all_carries r)
  -- there is one order of all entries, lookups, registrations and counts that it tells
  pub order : IsInOneOrder r
  -- and one of all that was taken from the deferred words and given to them
  pub takes : AreTakesInOrder s r
  -- a walk that memory cut short ended its command
  pub cuts : AreCutsTold s r
  -- an `offline` that found its group done carried something only if another worker had done it
  pub handed : AllByRecursion (λ (c : Carry). (entry : ℕ) → reply_at r c.by ≡ Some (reply.AlreadyDone entry) → IsDoneElsewhere r c.by.worker entry) (all_carries r)
  -- the lists on which a worker acts for one group go up only
  pub climbs : AreClimbing s r
  -- a put's charges are those of its tries, which its rounds follow
  pub tries : AreAllTries s r
  -- the bits that are told are of ids that are there, have a reason, and aren't lost
  pub bits : AreBitsTold s r
