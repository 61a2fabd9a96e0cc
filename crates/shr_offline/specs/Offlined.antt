-- SPDX-License-Identifier: GPL-2.0-only
-- What taking a group offline does, by its answer.
use Rattle.std.specs.Prelude.{◌≡◌, ◌⊎◌, ℕ, ◌<◌}
use Rattle.shr_base.specs.declared.places.Serial.{Serial}
use Rattle.shr_model.specs.Groups.{IsAtOrAbove}
use Rattle.shr_model.specs.PlaceNumbers.{place_number}
use Rattle.shr_core.specs.declared.view.View.{View}
use Rattle.shr_seats.specs.declared.shape.Shape.{Shape}
use Rattle.shr_seats.specs.Shapes.{groups_in, hierarchy_of}
use Rattle.shr_core.specs.Seats.{shape_of}
use Rattle.shr_charge.specs.declared.answers.BeginAnswer.{BeginAnswer}
use Rattle.shr_charge.specs.declared.answers.BeginAnswer.TheVariants as began
use Rattle.shr_charge.specs.declared.answers.DoneAnswer.{DoneAnswer}
use Rattle.shr_charge.specs.declared.answers.DoneAnswer.TheVariants as ended
use Rattle.shr_charge.specs.Answers.{BeginTells, BeginLeaves, IfGiven, DoneTells, DoneLeaves, KnowsTree}
use Rattle.shr_node.specs.declared.answers.SpliceAnswer.{SpliceAnswer}
use Rattle.shr_node.specs.declared.answers.SpliceAnswer.TheVariants as splice
use Rattle.shr_node.specs.Gains.{KnowsClosed, IsKnownClosed}
use Rattle.shr_node.specs.Splicing.{group_place}
use Rattle.shr_walk.specs.declared.seats.Shared.{Shared}
use Rattle.shr_walk.specs.State.{WorkerState}
use Rattle.shr_offline.specs.declared.answers.OfflineAnswer.{OfflineAnswer}
use Rattle.shr_offline.specs.declared.answers.OfflineAnswer.TheVariants as answered
use Rattle.shr_offline.specs.Splices.{AllGives, count_of_places}
use Rattle.shr_offline.specs.Carries.{AreCarriedBy}

-- the call began to take the group offline, or said why not, and did nothing else
pub record BeginsOffline (x : Shared) (group : ℕ) (answer : BeginAnswer) (s t : WorkerState) : Type 0 where
  pub tells : BeginTells (hierarchy_of (shape_of x.core)) group answer s.tree t.tree.known
  pub leaves : BeginLeaves group answer s.tree t.tree
  pub knows : IfGiven answer (KnowsTree (hierarchy_of (shape_of x.core)) s.tree t.tree)
  pub rest : t ≡ record s { tree = t.tree }

-- it may go on after these answers: the group began by this entry, now or before
abbrev pub MayGoOn : BeginAnswer → Type 0
MayGoOn (began.Begun entry) = Unit {0}
MayGoOn (began.Resumed entry) = Unit {0}
MayGoOn answer = ⊥

-- the lists were spliced so, and nothing else was done
pub record Splices (x : Shared) (group : ℕ) (answer : SpliceAnswer) (s t : WorkerState) : Type 0 where
  pub spliced : AllGives (shape_of x.core) group answer s.core t.core
  pub rest : t ≡ record s { core = t.core }

-- the deferred work was carried to the parent's places, and nothing else was done
pub record Carries (x : Shared) (by : Serial) (group total : ℕ) (s t : WorkerState) : Type 0 where
  pub carried : AreCarriedBy (shape_of x.core) by group (count_of_places (shape_of x.core)) total s.moves t.moves s.carries t.carries
  pub rest : t ≡ record s { moves = t.moves; carries = t.carries }

-- the call ended to take the group offline, and did nothing else
pub record EndsOffline (x : Shared) (group : ℕ) (answer : DoneAnswer) (s t : WorkerState) : Type 0 where
  pub tells : DoneTells (hierarchy_of (shape_of x.core)) group answer s.tree t.tree.known
  pub leaves : DoneLeaves group answer s.tree t.tree
  pub knows : KnowsTree (hierarchy_of (shape_of x.core)) s.tree t.tree
  pub rest : t ≡ record s { tree = t.tree }

-- the group's own list of each id on each node is closed in a journal that the seat knows, and with
-- it each list at or below the group is known to be closed
pub record AreClosed (shape : Shape) (group : ℕ) (v : View) : Type 0 where
  pub own : (id node : ℕ) → id < shape.ids → node < shape.nodes → KnowsClosed v (place_number (group_place id node group))
  pub closed : (id node child : ℕ) → id < shape.ids → node < shape.nodes → child < groups_in shape → IsAtOrAbove shape.parents.items group child → IsKnownClosed shape.parents.items v (group_place id node child)

-- All was handed over, in order: the lists, then the deferred work, and then the end came, which is
-- this answer.
pub record HandsOver (x : Shared) (by : Serial) (group moved deferred : ℕ) (answer : DoneAnswer) (s t : WorkerState) : Type 0 where
  pub listed : WorkerState
  pub carried : WorkerState
  pub splices : Splices x group (splice.Spliced moved) s listed
  pub closed : AreClosed (shape_of x.core) group listed.core
  pub carries : Carries x by group deferred listed carried
  pub ends : EndsOffline x group answer carried t

-- the group began, now or before, and then came this
pub record BegunThen (x : Shared) (group : ℕ) (then : WorkerState → Type 0) (s : WorkerState) : Type 0 where
  pub answer : BeginAnswer
  pub goes_on : MayGoOn answer
  pub begun : WorkerState
  pub begins : BeginsOffline x group answer s begun
  pub next : then begun

-- it was done before, or another worker has ended it while this call handed over all
pub record WasDoneBefore (x : Shared) (by : Serial) (group entry : ℕ) (s t : WorkerState) : Type 0 where
  pub moved : ℕ
  pub deferred : ℕ
  pub handed : HandsOver x by group moved deferred (ended.AlreadyDone entry) s t

-- what came of a group that began
abbrev pub HandsOverAs : Shared → Serial → ℕ → OfflineAnswer → WorkerState → WorkerState → Type 0
HandsOverAs x by group (answered.Done entry moved deferred) s t = HandsOver x by group moved deferred (ended.Done entry) s t
HandsOverAs x by group (answered.AlreadyDone entry) s t = WasDoneBefore x by group entry s t
HandsOverAs x by group answered.Root s t = ⊥
HandsOverAs x by group (answered.NotMade named) s t = ⊥
HandsOverAs x by group (answered.HasChildren child entry) s t = ⊥
HandsOverAs x by group (answered.Worn spent) s t = Splices x group (splice.Worn spent) s t
HandsOverAs x by group answered.Memory s t = Splices x group splice.Memory s t

-- What a call did. Each refusal before the begin leaves all but what is known of the journal of
-- the tree.
abbrev pub OfflineGives : Shared → Serial → ℕ → OfflineAnswer → WorkerState → WorkerState → Type 0
OfflineGives x by group (answered.Done entry moved deferred) s t = BegunThen x group (λ u. HandsOver x by group moved deferred (ended.Done entry) u t) s
OfflineGives x by group (answered.AlreadyDone entry) s t = BeginsOffline x group (began.AlreadyDone entry) s t ⊎ BegunThen x group (λ u. WasDoneBefore x by group entry u t) s
OfflineGives x by group answered.Root s t = BeginsOffline x group began.Root s t
OfflineGives x by group (answered.NotMade named) s t = BeginsOffline x group (began.NotMade named) s t
OfflineGives x by group (answered.HasChildren child entry) s t = BeginsOffline x group (began.HasChildren child entry) s t
OfflineGives x by group (answered.Worn spent) s t = BegunThen x group (λ u. Splices x group (splice.Worn spent) u t) s
OfflineGives x by group answered.Memory s t = (t ≡ s) ⊎ (BeginsOffline x group began.Memory s t ⊎ BegunThen x group (λ u. Splices x group splice.Memory u t) s)
