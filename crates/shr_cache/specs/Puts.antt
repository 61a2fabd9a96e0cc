-- SPDX-License-Identifier: GPL-2.0-only
-- What a put does, by its answer.
use Rattle.std.specs.Prelude.{◌≡◌, ℕ, Bool, List, Option, None, Some}
use Rattle.shr_base.specs.declared.objects.Object.{Object}
use Rattle.shr_base.specs.declared.places.Serial.{Serial}
use Rattle.shr_base.specs.declared.replies.Answered.{Answered}
use Rattle.shr_base.specs.declared.replies.Found.{Found}
use Rattle.shr_base.specs.declared.replies.Reply.{Reply}
use Rattle.shr_base.specs.declared.replies.Reply.TheVariants as reply
use Rattle.shr_base.specs.declared.replies.Spent.TheVariants as spent
use Rattle.shr_model.specs.Objects.{fresh}
use Rattle.shr_core.specs.Seats.{shape_of}
use Rattle.shr_charge.specs.declared.answers.GroupState.TheVariants.{Online, Offline, NotMade}
use Rattle.shr_node.specs.declared.answers.NodeAnswer.{NodeAnswer}
use Rattle.shr_node.specs.Answers.{AddGives}
use Rattle.shr_walk.specs.declared.admission.Admission.{Admission}
use Rattle.shr_walk.specs.declared.admission.Admission.TheVariants as admission
use Rattle.shr_walk.specs.Admitting.{AdmissionGives}
use Rattle.shr_walk.specs.declared.seats.Shared.{Shared}
use Rattle.shr_walk.specs.State.{WorkerState}
use Rattle.shr_cache.specs.Opening.{LoadsWord, HoldsCache, MissesAs, Calls, Uncharges, MayCharge, IsWorkerSpent}
use Rattle.shr_cache.specs.Replies.{ListReplies, add_says}

-- the group was online, and then its charge was asked for with this answer, with rounds of reclaim
-- where it was refused
pub record Asks (x : Shared) (by : Serial) (group : ℕ) (answer : Admission)
    (s t : WorkerState) : Type 0 where
  pub charges : MayCharge s
  pub loaded : WorkerState
  pub online : LoadsWord x group Online s loaded
  pub admission : AdmissionGives x by group answer loaded t

-- the cache was found, the object was offered to its list with this answer, and the reference was
-- given back
pub record Offers (x : Shared) (node decl : ℕ) (o : Object) (f : Found) (answer : NodeAnswer Bool)
    (s t : WorkerState) : Type 0 where
  pub held : WorkerState
  pub holds : HoldsCache x decl f s held
  pub calls : Calls (λ v w. AddGives (shape_of x.core) v f.id node o answer w) held t

-- what offering an object did, by whether the cache was found
abbrev pub OfferedAs : Shared → ℕ → ℕ → Object → Option Found → Reply → WorkerState → WorkerState
    → Type 0
OfferedAs x node decl o None r s t = MissesAs x decl r s t
OfferedAs x node decl o (Some f) r s t =
    ListReplies add_says (λ answer. Offers x node decl o f answer s t) r

-- the charge was made, and then the object was offered, with this answer
pub record Puts (x : Shared) (by : Serial) (group node decl : ℕ) (o : Object) (found : Option Found)
    (r : Reply) (s t : WorkerState) : Type 0 where
  pub charged : WorkerState
  pub asks : Asks x by group admission.Charged s charged
  pub offered : OfferedAs x node decl o found r charged t

-- it wasn't added, and the charge was taken back
pub record PutsInVain (x : Shared) (by : Serial) (group node decl : ℕ) (o : Object)
    (found : Option Found) (r : Reply) (s t : WorkerState) : Type 0 where
  pub refused : WorkerState
  pub puts : Puts x by group node decl o found r s refused
  pub back : Uncharges x by group refused t

-- the charges weren't used up, and the group was offline
pub record GroupWasOffline (x : Shared) (group entry : ℕ) (s t : WorkerState) : Type 0 where
  pub charges : MayCharge s
  pub offline : LoadsWord x group (Offline entry) s t

-- the charges weren't used up, and the group, which the answer names, wasn't made
pub record IsNotMade (x : Shared) (group named : ℕ) (s t : WorkerState) : Type 0 where
  pub charges : MayCharge s
  pub same : named ≡ group
  pub not_made : LoadsWord x group NotMade s t

-- where the cache was found: the charge stays with an object that was added, and with no other
abbrev pub PutFrom : Shared → Serial → ℕ → ℕ → ℕ → Object → Found → Reply → WorkerState
    → WorkerState → Type 0
PutFrom x by group node decl o f (reply.Added at) s t =
    Puts x by group node decl o (Some f) (reply.Added at) s t
PutFrom x by group node decl o f r s t = PutsInVain x by group node decl o (Some f) r s t

-- where it wasn't, by the reply
abbrev pub PutNone : Shared → Serial → ℕ → ℕ → ℕ → Object → Reply → WorkerState → WorkerState
    → Type 0
PutNone x by group node decl o (reply.Worn (spent.Charges charges uncharges)) s t =
    IsWorkerSpent (spent.Charges charges uncharges) s t
PutNone x by group node decl o (reply.Offline entry) s t = GroupWasOffline x group entry s t
PutNone x by group node decl o (reply.NotMade named) s t = IsNotMade x group named s t
PutNone x by group node decl o (reply.Over over operation usage) s t =
    Asks x by group (admission.Over over operation usage) s t
PutNone x by group node decl o reply.Memory s t = Asks x by group admission.Memory s t
PutNone x by group node decl o r s t = PutsInVain x by group node decl o None r s t

-- by whether the cache was found
abbrev pub PutAs : Shared → Serial → ℕ → ℕ → ℕ → Object → Option Found → Reply → WorkerState
    → WorkerState → Type 0
PutAs x by group node decl o None r s t = PutNone x by group node decl o r s t
PutAs x by group node decl o (Some f) r s t = PutFrom x by group node decl o f r s t

-- What a put did. The cache is told where it was found, and nowhere else.
abbrev pub PutGives : Shared → Serial → ℕ → ℕ → ℕ → List ℕ → List ℕ → Answered → WorkerState
    → WorkerState → Type 0
PutGives x by group node decl key value a s t =
    PutAs x by group node decl (fresh by group key value) a.found a.reply s t
