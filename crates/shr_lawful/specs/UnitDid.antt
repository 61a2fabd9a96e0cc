-- SPDX-License-Identifier: GPL-2.0-only
-- What a command did at the pools of units.
use Rattle.std.specs.Prelude.{◌≡◌, ℕ, ◌<◌, List, [], ◌∷◌, ⊤}
use Rattle.shr_base.specs.declared.places.Place.{Place}
use Rattle.shr_base.specs.declared.places.Serial.{Serial}
use Rattle.shr_base.specs.declared.replies.Reply.{Reply}
use Rattle.shr_base.specs.declared.replies.Reply.TheVariants as reply
use Rattle.shr_base.specs.declared.scripts.Command.{Command}
use Rattle.shr_base.specs.declared.scripts.Command.TheVariants.{Release, Grab}
use Rattle.shr_base.specs.declared.scripts.Script.{Script}
use Rattle.shr_base.specs.declared.walks.PlainAnswer.{PlainAnswer}
use Rattle.shr_plain.specs.declared.answers.ReleaseAnswer.{ReleaseAnswer}
use Rattle.shr_plain.specs.declared.answers.ReleaseAnswer.TheVariants as release
use Rattle.shr_plain.specs.declared.answers.GrabAnswer.{GrabAnswer}
use Rattle.shr_plain.specs.declared.answers.GrabAnswer.TheVariants as grab
use Rattle.shr_plain.specs.Answers.{ReleaseGives, GrabGives}
use Rattle.shr_plain.specs.Opening.{settings_of, pool_sizes}
use Rattle.shr_plain.specs.Seat.{PlainState}
use Rattle.shr_plain.specs.Settings.{IsPoolOf, home_place, room_of}
use Rattle.shr_plain.specs.Walks.{PlainWalkGives}
use Rattle.shr_laws.specs.UnitParts.{PlainJob, plain_due}
use Rattle.shr_lawful.specs.UnitSteps.{UnitsStep}

-- the place of a pool for a node, and its room
abbrev pub home_of : Script → ℕ → ℕ → Place
home_of s pool node = home_place (settings_of s) pool node

-- its room
abbrev pub home_room : Script → ℕ → ℕ → ℕ
home_room s pool node = room_of (settings_of s) (pool_sizes s) pool node

-- the reply to a `release` by what the call at this place answered
abbrev pub units_release_reply : Place → ReleaseAnswer → Reply
units_release_reply p (release.Full entries free) = reply.Full p.id p.node entries free
units_release_reply p (release.Worn x) = reply.Worn x
units_release_reply p release.Memory = reply.Memory
units_release_reply p (release.Released entry) = reply.Released p.id p.node entry

-- the reply to a `grab`
abbrev pub units_grab_reply : Place → GrabAnswer → Reply
units_grab_reply p (grab.Worn x) = reply.Worn x
units_grab_reply p grab.Memory = reply.Memory
units_grab_reply p (grab.Grabbed entry) = reply.Grabbed p.id p.node entry
units_grab_reply p (grab.Bare entry) = reply.Bare p.id p.node entry

-- a `release` was one call at its pool's place, and told what that answered
pub record DidRelease (s : Script) (by : Serial) (node pool n : ℕ) (x : Reply) (t u : PlainState) : Type 0 where
  pub there : IsPoolOf (settings_of s) (pool_sizes s) pool node
  pub answer : ReleaseAnswer
  pub told : x ≡ units_release_reply (home_of s pool node) answer
  pub gives : ReleaseGives (home_of s pool node) (home_room s pool node) by n answer t u

-- a `grab`, likewise
pub record DidGrab (s : Script) (by : Serial) (node pool : ℕ) (x : Reply) (t u : PlainState) : Type 0 where
  pub there : IsPoolOf (settings_of s) (pool_sizes s) pool node
  pub answer : GrabAnswer
  pub told : x ≡ units_grab_reply (home_of s pool node) answer
  pub gives : GrabGives (home_of s pool node) (home_room s pool node) by answer t u

-- one walk of all pools
pub record DidPoolWalk (s : Script) (by : Serial) (job : PlainJob) (t u : PlainState) : Type 0 where
  pub node : job.node < s.nodes
  pub answer : PlainAnswer
  pub gives : PlainWalkGives (settings_of s) (pool_sizes s) by job.node job.priority answer t u

-- the walk of the pools that is due, of which a command has one at most
abbrev pub DidPoolWalks : Script → Serial → List PlainJob → PlainState → PlainState → Type 0
DidPoolWalks s by [] t u = u ≡ t
DidPoolWalks s by (job ∷ jobs) t u = (jobs ≡ []) × DidPoolWalk s by job t u

-- a reply that says nothing of a pool
abbrev pub IsOther : Reply → Type 0
IsOther (reply.Released pool node entry) = ⊥
IsOther (reply.Full pool node entries free) = ⊥
IsOther (reply.Grabbed pool node entry) = ⊥
IsOther (reply.Bare pool node entry) = ⊥
IsOther x = ⊤

-- what a command did: the call of a `release` and of a `grab`, and after any other the walk that is due
abbrev pub DidUnitsOf : Script → Serial → Command → Reply → PlainState → PlainState → Type 0
DidUnitsOf s by (Release node pool n) x t u = DidRelease s by node pool n x t u
DidUnitsOf s by (Grab node pool) x t u = DidGrab s by node pool x t u
DidUnitsOf s by c x t u = IsOther x × DidPoolWalks s by (plain_due s c x) t u

-- what the command of a step did
abbrev pub DidUnits : Script → UnitsStep → Type 0
DidUnits s x = DidUnitsOf s x.by x.command x.reply x.before x.after
