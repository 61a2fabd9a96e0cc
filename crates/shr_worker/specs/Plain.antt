-- SPDX-License-Identifier: GPL-2.0-only
-- What each command does at the pools of units.
use Rattle.std.specs.Prelude.{◌≡◌, ℕ, Bool, true, false, not, ◌&&◌, ◌==◌, length}
use Rattle.shr_base.specs.declared.places.Place.{Place}
use Rattle.shr_base.specs.declared.places.Serial.{Serial}
use Rattle.shr_base.specs.declared.replies.Answered.{Answered}
use Rattle.shr_base.specs.declared.replies.Reply.{Reply}
use Rattle.shr_base.specs.declared.replies.Reply.TheVariants.{Walked}
use Rattle.shr_base.specs.declared.scripts.Command.{Command}
use Rattle.shr_base.specs.declared.scripts.Command.TheVariants.{Shrink, Balance, Release, Grab}
use Rattle.shr_base.specs.declared.scripts.Script.{Script}
use Rattle.shr_base.specs.declared.walks.PlainAnswer.{PlainAnswer}
use Rattle.shr_plain.specs.declared.answers.GrabAnswer.{GrabAnswer}
use Rattle.shr_plain.specs.declared.answers.ReleaseAnswer.{ReleaseAnswer}
use Rattle.shr_plain.specs.Answers.{ReleaseGives, GrabGives}
use Rattle.shr_plain.specs.Opening.{settings_of, pool_sizes}
use Rattle.shr_plain.specs.Seat.{PlainState}
use Rattle.shr_plain.specs.Settings.{home_place, room_of}
use Rattle.shr_plain.specs.Walks.{PlainWalkGives}
use Rattle.shr_worker.specs.Replies.{unfound, release_reply, grab_reply}

-- the script has a pool
abbrev pub has_pools : Script → Bool
has_pools s = not (length s.pools.items == 0)

-- the place of a pool's units for a node, and its room
abbrev pub worker_units_place : Script → ℕ → ℕ → Place
worker_units_place s pool node = home_place (settings_of s) pool node

-- the room of a pool's units for a node
abbrev pub units_room : Script → ℕ → ℕ → ℕ
units_room s pool node = room_of (settings_of s) (pool_sizes s) pool node

-- units were released at the pool's place for the node, or it was told why not
pub record Releases (s : Script) (by : Serial) (node pool units : ℕ) (a : Answered)
    (t u : PlainState) : Type 0 where
  pub answer : ReleaseAnswer
  pub told : a ≡ unfound (release_reply (worker_units_place s pool node) answer)
  pub released : ReleaseGives (worker_units_place s pool node) (units_room s pool node) by units answer t u

-- a unit was grabbed there, or it was told why not
pub record Grabs (s : Script) (by : Serial) (node pool : ℕ) (a : Answered) (t u : PlainState)
    : Type 0 where
  pub answer : GrabAnswer
  pub told : a ≡ unfound (grab_reply (worker_units_place s pool node) answer)
  pub grabbed : GrabGives (worker_units_place s pool node) (units_room s pool node) by answer t u

-- all pools were walked once for the node, however that ended
pub record WalksPools (s : Script) (by : Serial) (node priority : ℕ) (t u : PlainState)
    : Type 0 where
  pub answer : PlainAnswer
  pub walked : PlainWalkGives (settings_of s) (pool_sizes s) by node priority answer t u

-- they were walked if that is due, and otherwise nothing was done
abbrev pub WalksIf : Bool → Script → Serial → ℕ → ℕ → PlainState → PlainState → Type 0
WalksIf true s by node priority t u = WalksPools s by node priority t u
WalksIf false s by node priority t u = u ≡ t

-- the reply is that of walks which no want of memory cut short
abbrev pub is_walked : Reply → Bool
is_walked (Walked freed) = true
is_walked r = false

-- a walk of the pools is due after a walk of the root that was answered so, if the script has a pool
abbrev pub is_due : Script → Reply → Bool
is_due s r = has_pools s && is_walked r

-- what comes after a walk of the root: where it is due, a walk of the pools of its node and priority
abbrev pub PlainAfter : Script → Serial → ℕ → ℕ → Answered → PlainState → PlainState → Type 0
PlainAfter s by node priority a t u = WalksIf (is_due s a.reply) s by node priority t u

-- what a command did at the pools between two states of its worker's seat there, by its answer
abbrev pub PlainGives : Script → Serial → Command → Answered → PlainState → PlainState → Type 0
PlainGives s by (Shrink group node priority nofs) a t u =
    WalksIf ((group == 0) && is_due s a.reply) s by node priority t u
PlainGives s by (Balance node priority nofs) a t u = PlainAfter s by node priority a t u
PlainGives s by (Release node pool units) a t u = Releases s by node pool units a t u
PlainGives s by (Grab node pool) a t u = Grabs s by node pool a t u
PlainGives s by c a t u = u ≡ t
