-- SPDX-License-Identifier: GPL-2.0-only
-- What a command made and knew of the journal of the tree.
use Rattle.std.specs.Prelude.{◌≡◌, ℕ, ◌<◌, ◌≤◌, ◌⊎◌, true, false, length, Some, option_and_then, All}
use Rattle.shr_base.specs.declared.places.Place.{Place}
use Rattle.shr_base.specs.declared.journals.TreeEntry.{TreeEntry}
use Rattle.shr_base.specs.declared.journals.TreeEntry.TheVariants.{Begin, Done, Made as MadeEntry}
use Rattle.shr_base.specs.declared.replies.Reply.TheVariants as reply
use Rattle.shr_base.specs.declared.scripts.Command.TheVariants.{Offline, MkGroup}
use Rattle.shr_base.specs.declared.scripts.Script.{Script}
use Rattle.shr_model.specs.Commands.{asks_online}
use Rattle.shr_model.specs.PlaceNumbers.{place_number}
use Rattle.shr_model.specs.Groups.{Hierarchy}
use Rattle.shr_model.specs.TreeJournal.{begin_of, is_made}
use Rattle.shr_charge.specs.declared.answers.GroupState.{GroupState}
use Rattle.shr_charge.specs.declared.answers.GroupState.TheVariants as state
use Rattle.shr_charge.specs.Told.{is_there}
use Rattle.shr_charge.specs.Views.{TreeMade, LoadedState, TreeView}
use Rattle.shr_node.specs.Gains.{KnowsClosed}
use Rattle.shr_laws.specs.Parts.{script_hierarchy, IsThere}
use Rattle.shr_laws.specs.Causes.{MayHaveBegun, is_done_by}
use Rattle.shr_laws.specs.Freshness.{MayBeOffline, made_shown}
use Rattle.shr_lawful.specs.Steps.{Step, IsAmong}

-- a worker doesn't know that a group went offline: no word that it loaded, and no Begin that it knows, says so
pub record KnowsOnline (t : TreeView) (group : ℕ) : Type 0 where
  pub loaded : All (λ (l : LoadedState). l.group ≡ group → (entry : ℕ) → l.state ≡ state.Offline entry → ⊥) t.loaded
  pub known : (entry : ℕ) → begin_of t.known group ≡ Some entry → ⊥

-- a worker doesn't know that a group is made: no word that it loaded, and no Made that it knows, says so
pub record KnowsUnmade (h : Hierarchy) (t : TreeView) (group : ℕ) : Type 0 where
  pub loaded : All (λ (l : LoadedState). l.group ≡ group → is_there l.state ≡ false) t.loaded
  pub known : is_made h t.known group ≡ false

-- a command met a group: its worker knows after it that the group is made, or a word that it loaded said so
abbrev pub HasMet : Script → Step → ℕ → Type 0
HasMet s x group = (is_made (script_hierarchy s) x.after.tree.known group ≡ true) ⊎ ((found : GroupState) × (is_there found ≡ true) × IsAmong (record { group = group; state = found }) x.work.words)

-- what a command's answer says of groups that are made or not its worker met, or didn't know
pub record MeetsGroups (s : Script) (x : Step) : Type 0 where
  -- a group that it names as not made its worker didn't know to be made
  pub unmade : (group : ℕ) → x.answered.reply ≡ reply.NotMade group → KnowsUnmade (script_hierarchy s) x.before.tree group
  -- a group that it shows to be made was met
  pub met : (group : ℕ) → option_and_then (λ c. made_shown c x.answered.reply) x.command ≡ Some group → HasMet s x group

-- a Begin is of an `offline` that was answered so, whose worker didn't know that the group went offline
pub record IsBeginOf (x : Step) (group : ℕ) : Type 0 where
  pub command : x.command ≡ Some (Offline group)
  pub answer : MayHaveBegun x.answered.reply
  pub first : KnowsOnline x.before.tree group

-- A Done is of an `offline` whose answer cites it. The worker knows that each list of the group is closed.
pub record IsEnded (s : Script) (x : Step) (group n : ℕ) : Type 0 where
  pub command : x.command ≡ Some (Offline group)
  pub answer : is_done_by n x.answered.reply ≡ true
  pub closed : (place : Place) → IsThere s place → place.group ≡ group → KnowsClosed x.after.core (place_number place)

-- a Made is of a `mkgroup` whose answer cites it
pub record IsMaking (x : Step) (group n : ℕ) : Type 0 where
  pub command : x.command ≡ Some (MkGroup group)
  pub answer : x.answered.reply ≡ reply.Made n

-- an entry of the journal of the tree is of the command that made it
abbrev pub IsEntryOf : Script → Step → ℕ → TreeEntry → Type 0
IsEntryOf s x n (Begin group) = IsBeginOf x group
IsEntryOf s x n (Done group) = IsEnded s x group n
IsEntryOf s x n (MadeEntry group) = IsMaking x group n

-- what a command entered in the journal of the tree, and what it knew of it
pub record DidTree (s : Script) (x : Step) : Type 0 where
  -- each entry comes after all that the worker knew
  pub each : All (λ (m : TreeMade). (length x.before.tree.known ≤ m.number) × IsEntryOf s x m.number m.entry) x.work.tree
  -- a command that asks whether its group is online, and isn't answered as where it isn't, didn't know that it went offline
  pub online : (group : ℕ) → option_and_then asks_online x.command ≡ Some group → 0 < group → MayBeOffline x.answered.reply ⊎ KnowsOnline x.before.tree group
  pub meets : MeetsGroups s x
