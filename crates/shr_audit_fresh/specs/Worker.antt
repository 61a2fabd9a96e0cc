-- SPDX-License-Identifier: GPL-2.0-only
-- Freshness, worker by worker.
use Rattle.std.specs.Prelude.{◌≡◌, ℕ, ◌<◌, ◌≤◌, Bool, true, false, ◌++◌, nat_lt, List, length, flat_map, Option, Some, None, option_and_then}
use Rattle.std.specs.List.{AllByRecursion}
use Rattle.std.specs.Option.{IsSomeAnd}
use Rattle.shr_base.specs.declared.places.Serial.{Serial}
use Rattle.shr_base.specs.declared.replies.Answered.{Answered}
use Rattle.shr_base.specs.declared.replies.Reply.{Reply}
use Rattle.shr_base.specs.declared.replies.Reply.TheVariants as reply
use Rattle.shr_base.specs.declared.scripts.Command.{Command}
use Rattle.shr_base.specs.declared.scripts.Command.TheVariants.{MkGroup}
use Rattle.shr_base.specs.declared.scripts.Script.{Script}
use Rattle.shr_base.specs.Walks.{WalkRecord}
use Rattle.shr_model.specs.Commands.{asks_online}
use Rattle.shr_laws.specs.declared.report.Report.{Report}
use Rattle.shr_laws.specs.Causes.{IsOffline, MayHaveBegun}
use Rattle.shr_laws.specs.Freshness.{AreBelow, MayBeOffline, of_answer, pool_made, pool_seen, shown_by, shows_begin, shows_made, shows_offline, tree_cited, tree_seen}
use Rattle.shr_laws.specs.Parts.{answer_at, answers_of, command_at, decls_on, reply_at, serial_of}
use Rattle.shr_laws.specs.WellFormed.{AreNotFalling}
use Rattle.shr_audit_fresh.specs.Firsts.{shows_in}
use Rattle.shr_audit_fresh.specs.Floors.{walks_cite}

-- what its answers say of the journal of registrations is above what it made before
abbrev pub IsOwnBelow : Report → ℕ → Type 0
IsOwnBelow r worker = (k later : ℕ) → k < later → AreBelow (of_answer r (serial_of worker k) (λ (a : Answered). pool_made a.reply)) (of_answer r (serial_of worker later) pool_seen)

-- and not below the number of caches that are `on`, for a command that the script has
abbrev pub IsOnSeenAt : Script → Report → ℕ → ℕ → Type 0
IsOnSeenAt s r worker k = (c : Command) (a : Answered) → command_at s (serial_of worker k) ≡ Some c → answer_at r (serial_of worker k) ≡ Some a → AllByRecursion (λ n. length (decls_on s) ≤ n) (pool_seen a)

-- the same of all answers of the worker
abbrev pub IsOnSeen : Script → Report → ℕ → Type 0
IsOnSeen s r worker = (k : ℕ) → IsOnSeenAt s r worker k

-- what they say of the journal of the tree is above what an answer or a walk cited before
abbrev pub IsShownBelow : Report → ℕ → Type 0
IsShownBelow r worker = (k later : ℕ) → k < later → AreBelow (shown_by r (serial_of worker k)) (of_answer r (serial_of worker later) tree_seen)

-- of these groups a command shows that they are offline, by its answer or by one of these walks
abbrev pub ShownByWalks : Report → ℕ → List WalkRecord → ℕ → ℕ → Type 0
ShownByWalks r worker walks group k = shows_in r group (of_answer r (serial_of worker k) (λ (a : Answered). tree_cited a.reply) ++ walks_cite worker walks k) ≡ true

-- by its answer or one of its walks
abbrev pub ShownOffline : Report → ℕ → ℕ → ℕ → Type 0
ShownOffline r worker group k = shows_offline r (serial_of worker k) group ≡ true

-- there is a command, and it is before another
abbrev pub is_first_before : Option ℕ → ℕ → Bool
is_first_before None command = false
is_first_before (Some first) command = nat_lt first command

-- a command finds a group offline which an earlier answer or walk showed to be
abbrev pub IsRefusedAt : Script → Report → ℕ → ℕ → Type 0
IsRefusedAt s r worker later = (k group : ℕ) → k < later → shows_offline r (serial_of worker k) group ≡ true
    → option_and_then asks_online (command_at s (serial_of worker later)) ≡ Some group → IsSomeAnd (reply_at r (serial_of worker later)) MayBeOffline

-- each does
abbrev pub IsWorkerRefused : Script → Report → ℕ → Type 0
IsWorkerRefused s r worker = (later : ℕ) → IsRefusedAt s r worker later

-- somebody may have begun a group's offlining by this command
abbrev pub MayShow : Script → Report → ℕ → ℕ → ℕ → Type 0
MayShow s r worker k group = ((by : Serial) → IsOffline s r by group MayHaveBegun → (by.worker ≡ worker) × (k < by.command)) → ⊥

-- no Begin is shown before somebody may have begun
abbrev pub IsBeginStarted : Script → Report → ℕ → Type 0
IsBeginStarted s r worker = (k group : ℕ) → ((by : Serial) → IsOffline s r by group MayHaveBegun → (by.worker ≡ worker) × (k < by.command)) → shows_begin r (serial_of worker k) group ≡ false

-- the group that a command makes, and the one that a reply calls not made
abbrev pub makes : Command → Option ℕ
makes (MkGroup group) = Some group
makes c = None

-- the group that a reply says is not made, if it says so
abbrev pub unmade : Reply → Option ℕ
unmade (reply.NotMade group) = Some group
unmade x = None

-- an answer doesn't say that a group isn't made which an earlier one showed to be
abbrev pub StaysMadeAt : Script → Report → ℕ → ℕ → Type 0
StaysMadeAt s r worker later = (k group : ℕ) → k < later → shows_made s r (serial_of worker k) ≡ Some group → reply_at r (serial_of worker later) ≡ Some (reply.NotMade group) → ⊥

-- none does
abbrev pub StaysMade : Script → Report → ℕ → Type 0
StaysMade s r worker = (later : ℕ) → StaysMadeAt s r worker later

-- the numbers of entries that answers speak of are as what the worker knew before asks
pub record AreNumbersFresh (s : Script) (r : Report) (worker : ℕ) : Type 0 where
  pub pool : AreNotFalling (flat_map pool_seen (answers_of r worker))
  pub pool_own : IsOwnBelow r worker
  pub pool_on : IsOnSeen s r worker
  pub tree : AreNotFalling (flat_map tree_seen (answers_of r worker))
  pub tree_shown : IsShownBelow r worker

-- no answer and no walk of a worker knew less than the worker had known before
pub record IsWorkerFresh (s : Script) (r : Report) (worker : ℕ) : Type 0 where
  pub numbers : AreNumbersFresh s r worker
  pub refused : IsWorkerRefused s r worker
  pub first : IsBeginStarted s r worker
  pub made : StaysMade s r worker
