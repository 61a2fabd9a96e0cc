-- SPDX-License-Identifier: GPL-2.0-only
-- Which puts must be answered Added, where there is memory and no counter is used up.
use Rattle.std.specs.Prelude.{◌≡◌, ◌⊎◌, ℕ, ◌<◌, false, List, slice_get, Some, None, Contains}
use Rattle.shr_base.specs.declared.journals.PoolEntry.TheVariants.{Unregistered}
use Rattle.shr_base.specs.declared.places.Serial.{Serial}
use Rattle.shr_base.specs.declared.places.Target.{Target}
use Rattle.shr_base.specs.declared.replies.Answered.{Answered}
use Rattle.shr_base.specs.declared.replies.Reply.{Reply}
use Rattle.shr_base.specs.declared.replies.Reply.TheVariants.{Added, Memory, Worn}
use Rattle.shr_base.specs.declared.scripts.Command.TheVariants.{Put}
use Rattle.shr_base.specs.declared.scripts.Script.{Script}
use Rattle.shr_model.specs.Groups.{IsAtOrAbove, is_later}
use Rattle.shr_model.specs.TreeJournal.{begin_of}
use Rattle.shr_laws.specs.declared.report.Report.{Report}
use Rattle.shr_laws.specs.Causes.{IsOffline, MayHaveBegun}
use Rattle.shr_laws.specs.Parts.{parents_of, later_of, limit_of, decls_on, commands_of, answers_of}

-- no other put of the script names this group and key
pub record IsOnlyPut (s : Script) (worker k group : ℕ) (key : List ℕ) : Type 0 where
  pub worker_is : (w j node decl : ℕ) (value : List ℕ) → slice_get (commands_of s w) j ≡ Some (Put (record { group = group; node = node; decl = decl }) key value) → w ≡ worker
  pub command_is : (w j node decl : ℕ) (value : List ℕ) → slice_get (commands_of s w) j ≡ Some (Put (record { group = group; node = node; decl = decl }) key value) → j ≡ k

-- no group at or above this one has a limit
abbrev pub IsUnlimited : Script → ℕ → Type 0
IsUnlimited s group = (g : ℕ) → IsAtOrAbove (parents_of s) g group → limit_of s g ≡ None

-- the cache is `on`, and no registration of it ended
pub record StaysOn (s : Script) (r : Report) (decl : ℕ) : Type 0 where
  pub on : Contains (decls_on s) decl
  pub kept : (n id to : ℕ) → slice_get r.pool.items n ≡ Some (Unregistered decl id to) → ⊥

-- A group isn't taken offline before a command: no Begin of it stands in the journal, or each
-- `offline` that may have begun it is a later command of the same worker.
abbrev pub StaysOnline : Script → Report → ℕ → ℕ → ℕ → Type 0
StaysOnline s r worker k group = (begin_of r.tree.items group ≡ None) ⊎ ((by : Serial) → IsOffline s r by group MayHaveBegun → (by.worker ≡ worker) × (k < by.command))

-- Nothing is in the way of this put: no limit, its group is there from the start and isn't taken
-- offline before it, its cache stays on, and no other put names its group and key.
pub record IsFreePut (s : Script) (r : Report) (worker k group decl : ℕ) (key : List ℕ) : Type 0 where
  pub unlimited : IsUnlimited s group
  pub there : is_later (later_of s) group ≡ false
  pub online : StaysOnline s r worker k group
  pub cached : StaysOn s r decl
  pub only : IsOnlyPut s worker k group key

-- a put was answered that its object was added, that there was no memory, or that a counter is
-- used up
abbrev pub IsAddedOrSpent : Reply → Type 0
IsAddedOrSpent (Added at) = Unit {0}
IsAddedOrSpent Memory = Unit {0}
IsAddedOrSpent (Worn spent) = Unit {0}
IsAddedOrSpent r = ⊥

-- each put that nothing is in the way of was answered so
abbrev pub AreFreePutsAdded : Script → Report → Type 0
AreFreePutsAdded s r = (worker k : ℕ) (at : Target) (key value : List ℕ) (a : Answered) → slice_get (commands_of s worker) k ≡ Some (Put at key value) → slice_get (answers_of r worker) k ≡ Some a
    → IsFreePut s r worker k at.group at.decl key → IsAddedOrSpent a.reply
