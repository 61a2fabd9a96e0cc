-- SPDX-License-Identifier: GPL-2.0-only
-- The walks of commands. No public clause cites this.
use Rattle.std.specs.Prelude.{◌≡◌, ℕ, ◌<◌, Bool, true, false, List, [], length, slice_get, Option, Some, None}
use Rattle.std.specs.List.{AllByRecursion}
use Rattle.shr_base.specs.declared.ends.WorkerPart.{WorkerPart}
use Rattle.shr_base.specs.declared.journals.UseStep.{UseStep}
use Rattle.shr_base.specs.declared.places.Serial.{Serial}
use Rattle.shr_base.specs.declared.replies.Answered.{Answered}
use Rattle.shr_base.specs.declared.replies.Reply.{Reply}
use Rattle.shr_base.specs.declared.replies.Reply.TheVariants as reply
use Rattle.shr_base.specs.declared.scripts.Command.{Command}
use Rattle.shr_base.specs.declared.scripts.Command.TheVariants.{Put}
use Rattle.shr_base.specs.declared.scripts.Script.{Script}
use Rattle.shr_base.specs.Walks.{WalkRecord}
use Rattle.shr_model.specs.Commands.{jobs_of}
use Rattle.shr_model.specs.Walks.{Job}
use Rattle.shr_laws.specs.Parts.{parents_of, serial_of}
use Rattle.shr_audit_passes.specs.Commands.{walks_with}
use Rattle.shr_audit_walks.specs.declared.commands.Dues.{Dues}
use Rattle.shr_audit_walks.specs.declared.refusals.Refusal.{Refusal}
use Rattle.shr_audit_walks.specs.Orders.{AreSubtrees}
use Rattle.shr_audit_walks.specs.Refusals.{AreRefusals, StandByKey, refused_groups, refusals_with, refusal_key}
use Rattle.shr_audit_walks.specs.Rounds.{IsPutMade}
use Rattle.shr_audit_walks.specs.RoundRows.{IsMadeAsDue, jobs_made}

-- the group that an answer names as the one that refused last
abbrev pub over_of : Reply → Option ℕ
over_of (reply.Over group operation usage) = Some group
over_of x = None

-- all walks that were due were made: the answer isn't want of memory
abbrev pub is_whole : Reply → Bool
is_whole reply.Memory = false
is_whole (reply.WalkMemory freed) = false
is_whole x = true

-- a command that was answered so, and whose charges these groups refused, made the walks that were due
abbrev pub IsCommandMade : List ℕ → ℕ → List ℕ → Command → Reply → List Job → Type 0
IsCommandMade parents nodes refused (Put at key value) x walks = IsPutMade parents nodes at.group (over_of x) (is_whole x) refused walks
IsCommandMade parents nodes refused c x walks = IsMadeAsDue (is_whole x) (jobs_of parents nodes [] c) walks

-- groups that are a tree, some nodes, and refused charges by their commands, each of a group that is there
pub record CanBeDue (dues : Dues) : Type 0 where
  pub nodes : 0 < dues.nodes
  pub subtrees : AreSubtrees dues.subtrees
  pub order : StandByKey dues.refusals.items
  pub there : AllByRecursion (λ (x : Refusal). x.group < length dues.subtrees.parents.items) dues.refusals.items

-- they are those of a script, with the refused charges of these operations
pub record AreDues (s : Script) (uses : List UseStep) (dues : Dues) : Type 0 where
  pub nodes : dues.nodes ≡ s.nodes
  pub parents : dues.subtrees.parents.items ≡ parents_of s
  pub refusals : AreRefusals s uses dues.refusals.items
  pub can : CanBeDue dues

-- a command made, of its worker's walks, those that were due
abbrev pub IsAnswerMade : Dues → Serial → List WalkRecord → Command → Reply → Type 0
IsAnswerMade dues by walks c x = IsCommandMade dues.subtrees.parents.items dues.nodes (refused_groups (refusals_with (refusal_key by) dues.refusals.items)) c x (jobs_made (walks_with walks by.command))

-- each command of a worker did
abbrev pub IsPartMade : Dues → ℕ → List Command → WorkerPart → Type 0
IsPartMade dues worker commands part = (n : ℕ) (a : Answered) → slice_get part.answers.items n ≡ Some a → (c : Command) → slice_get commands n ≡ Some c → IsAnswerMade dues (serial_of worker n) part.walks.items c a.reply
