-- SPDX-License-Identifier: GPL-2.0-only
-- What a release and a grab did at the tables of the caches: nothing.
use Rattle.shr_assemble.proofs.Common.{◌≡◌, ℕ, [], refl, sym, subst, Some, None, none-some, Place, Serial, Answered, Reply, Spent, Command, Release, Grab, Script, Family, GrabAnswer, ReleaseAnswer, PlainState, Shared, WorkerState, no_work, CrewState, DeedGives, worker_units_place, unfound, pool_told, pool_made, made_shown, parents_of, cited_by, IsReply, IsCausedBy, units_room, release_reply, grab_reply}
use Rattle.shr_base.specs.declared.replies.Reply.TheVariants as reply
use Rattle.shr_base.specs.declared.replies.Spent.TheVariants as spent
use Rattle.shr_plain.specs.declared.answers.GrabAnswer.TheVariants as grab
use Rattle.shr_plain.specs.declared.answers.ReleaseAnswer.TheVariants as release
use Rattle.shr_plain.specs.Answers.{ReleaseGives, GrabGives}
use Rattle.shr_assemble.proofs.QuietSteps.{step_of, HasDid, meets_none}
use Rattle.shr_assemble.proofs.QuietCharges.{nothing_did}
use Rattle.shr_assemble.proofs.QuietTenant.{without}

-- a reply of no object, no registration and no group
record IsOfPool (s : Script) (by : Serial) (c : Command) (r : Reply) : Type 0 where
  pub row : (family : Family) → IsReply (parents_of s) family by c None r
  pub uncited : cited_by r ≡ None
  pub untold : pool_told r ≡ []
  pub unmade : pool_made r ≡ []
  pub apart : (g : ℕ) → r ≡ reply.NotMade g → ⊥
  pub unshown : (g : ℕ) → made_shown c r ≡ Some g → ⊥

-- a list that is used up is one of the replies of such a command
list_row : (s : Script) (by : Serial) (c : Command) (y : Spent) (place : Place) (entries items : ℕ) → y ≡ spent.List place entries items → ((family : Family) → IsReply (parents_of s) family by c None (reply.Worn (spent.List place entries items)))
    → (family : Family) → IsReply (parents_of s) family by c None (reply.Worn y)
list_row s by c y place entries items e row family = subst (λ (z : Spent). IsReply (parents_of s) family by c None (reply.Worn z)) (sym e) (row family)

module _ (s : Script) (by : Serial) (node pool n : ℕ) (before after : WorkerState) (same : after ≡ before) where
  abbrev released : Command
  released = Release node pool n

  none_released : (r : Reply) → IsOfPool s by released r → IsCausedBy s (step_of by released (without r) before after no_work) r → HasDid s by released (without r) before after
  none_released r is cause = nothing_did s by released r before after same tt is.row is.uncited (λ g. refl) is.untold is.unmade (λ g asks above. absurd (none-some g asks))
      (meets_none s (step_of by released (without r) before after no_work) is.apart is.unshown) cause

  pub release_none : (p : Place) (i : ℕ) (a : ReleaseAnswer) (t u : PlainState) → ReleaseGives p i by n a t u → HasDid s by released (unfound (release_reply p a)) before after
  release_none p i (release.Full entries free) t u g = none_released (reply.Full p.id p.node entries free) (record { row = λ family. tt; uncited = refl; untold = refl; unmade = refl; apart = λ m e. absurd (cc); unshown = λ m e. none-some m e }) tt
  release_none p i (release.Worn y) t u g = none_released (reply.Worn y) (record { row = list_row s by released y p _ _ g.2.spent (λ family. tt); uncited = refl; untold = refl; unmade = refl; apart = λ m e. absurd (cc); unshown = λ m e. none-some m e }) tt
  release_none p i release.Memory t u g = none_released reply.Memory (record { row = λ family. tt; uncited = refl; untold = refl; unmade = refl; apart = λ m e. absurd (cc); unshown = λ m e. none-some m e }) tt
  release_none p i (release.Released entry) t u g = none_released (reply.Released p.id p.node entry) (record { row = λ family. tt; uncited = refl; untold = refl; unmade = refl; apart = λ m e. absurd (cc); unshown = λ m e. none-some m e }) tt

module _ (s : Script) (by : Serial) (node pool : ℕ) (before after : WorkerState) (same : after ≡ before) where
  abbrev grabbed : Command
  grabbed = Grab node pool

  none_grabbed : (r : Reply) → IsOfPool s by grabbed r → IsCausedBy s (step_of by grabbed (without r) before after no_work) r → HasDid s by grabbed (without r) before after
  none_grabbed r is cause = nothing_did s by grabbed r before after same tt is.row is.uncited (λ g. refl) is.untold is.unmade (λ g asks above. absurd (none-some g asks))
      (meets_none s (step_of by grabbed (without r) before after no_work) is.apart is.unshown) cause

  pub grab_none : (p : Place) (i : ℕ) (a : GrabAnswer) (t u : PlainState) → GrabGives p i by a t u → HasDid s by grabbed (unfound (grab_reply p a)) before after
  grab_none p i (grab.Worn y) t u g = none_grabbed (reply.Worn y) (record { row = list_row s by grabbed y p _ _ g.2.spent (λ family. tt); uncited = refl; untold = refl; unmade = refl; apart = λ m e. absurd (cc); unshown = λ m e. none-some m e }) tt
  grab_none p i grab.Memory t u g = none_grabbed reply.Memory (record { row = λ family. tt; uncited = refl; untold = refl; unmade = refl; apart = λ m e. absurd (cc); unshown = λ m e. none-some m e }) tt
  grab_none p i (grab.Grabbed entry) t u g = none_grabbed (reply.Grabbed p.id p.node entry) (record { row = λ family. tt; uncited = refl; untold = refl; unmade = refl; apart = λ m e. absurd (cc); unshown = λ m e. none-some m e }) tt
  grab_none p i (grab.Bare entry) t u g = none_grabbed (reply.Bare p.id p.node entry) (record { row = λ family. tt; uncited = refl; untold = refl; unmade = refl; apart = λ m e. absurd (cc); unshown = λ m e. none-some m e }) tt

-- a release
pub release_did : (x : Shared) (by : Serial) (node pool n : ℕ) (a : Answered) (t u : CrewState) → DeedGives x by (Release node pool n) a t u → HasDid x.script by (Release node pool n) a t.seats u.seats
release_did x by node pool n a t u g = subst (λ (b : Answered). HasDid x.script by (Release node pool n) b t.seats u.seats) (sym g.plain.told)
    (release_none x.script by node pool n t.seats u.seats g.seats (worker_units_place x.script pool node) (units_room x.script pool node) g.plain.answer t.plain u.plain g.plain.released)

-- a grab
pub grab_did : (x : Shared) (by : Serial) (node pool : ℕ) (a : Answered) (t u : CrewState) → DeedGives x by (Grab node pool) a t u → HasDid x.script by (Grab node pool) a t.seats u.seats
grab_did x by node pool a t u g = subst (λ (b : Answered). HasDid x.script by (Grab node pool) b t.seats u.seats) (sym g.plain.told)
    (grab_none x.script by node pool t.seats u.seats g.seats (worker_units_place x.script pool node) (units_room x.script pool node) g.plain.answer t.plain u.plain g.plain.grabbed)
