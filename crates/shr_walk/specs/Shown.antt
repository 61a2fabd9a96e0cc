-- SPDX-License-Identifier: GPL-2.0-only
-- What a walk showed beside what its record says: what its passes told is known when it has ended.
use Rattle.std.specs.Prelude.{◌≡◌, ◌⊎◌, ℕ, ◌+◌, ◌<◌, ◌≤◌, ◌^◌, List, length}
use Rattle.std.specs.Option.{IfSome}
use Rattle.shr_base.specs.declared.journals.Entry.{Entry}
use Rattle.shr_base.specs.declared.objects.Object.{Object}
use Rattle.shr_base.specs.declared.places.Place.{Place}
use Rattle.shr_base.specs.declared.replies.Spent.{Spent}
use Rattle.shr_base.specs.declared.replies.Spent.TheVariants as spent
use Rattle.shr_base.specs.Walks.{Attempt}
use Rattle.shr_base.specs.declared.walks.Ending.TheVariants as ending
use Rattle.shr_base.specs.declared.walks.MapSeen.{MapSeen}
use Rattle.shr_base.specs.declared.walks.Outcome.{Outcome}
use Rattle.shr_base.specs.declared.walks.PassRecord.{PassRecord}
use Rattle.shr_model.specs.Attempts.{pass_of}
use Rattle.shr_model.specs.Items.{HasJournal}
use Rattle.shr_model.specs.PlaceNumbers.{place_number}
use Rattle.shr_seats.specs.Views.{Each}
use Rattle.shr_seats.specs.Weights.{Begins}
use Rattle.shr_core.specs.Parts.{Made, Mapped}
use Rattle.shr_core.specs.Rule.{AreBorn}
use Rattle.shr_seats.specs.Shapes.{groups_in}
use Rattle.shr_core.specs.Seats.{shape_of}
use Rattle.shr_seats.specs.declared.shape.Shape.{Shape}
use Rattle.shr_node.specs.Gains.{Knows, KnowsClosed}
use Rattle.shr_walk.specs.Keeping.{objects_freed}
use Rattle.shr_walk.specs.Records.{place_of_walk}
use Rattle.shr_walk.specs.State.{WorkerState, Work}
use Rattle.shr_walk.specs.declared.seats.Shared.{Shared}
use Rattle.shr_walk.specs.declared.walking.Walk.{Walk}

-- a list was told to be worn: it is that of the place, it would pass a limit, and the worker knows
-- its journal, which leaves as many objects
pub record IsListSeen (shape : Shape) (place at : Place) (entries items : ℕ) (t : WorkerState) : Type 0 where
  pub here : at ≡ place
  pub over : (shape.most_entries < entries) ⊎ (shape.most_items < items)
  pub known : List Entry
  pub knows : Knows t.core (place_number place) known
  pub one_more : entries ≡ length known + 1
  pub held : List Object
  pub journal : HasJournal known held
  pub there : items ≤ length held

-- charges were told to be used up: one of the two numbers is reached, and the worker has made so
-- many of both
pub record AreChargesSeen (charges uncharges : ℕ) (t : WorkerState) : Type 0 where
  pub over : (1048576 ≤ charges) ⊎ (4194304 ≤ uncharges)
  pub charged : charges ≤ t.uses.charges
  pub uncharged : uncharges ≤ t.uses.uncharges

-- what was told to be worn is so: the list of the place, or the charges, and never a lookup
abbrev pub WornSeen : Shape → Place → Spent → WorkerState → Type 0
WornSeen shape place (spent.List at entries items) t = IsListSeen shape place at entries items t
WornSeen shape place (spent.Charges charges uncharges) t = AreChargesSeen charges uncharges t
WornSeen shape place (spent.Lookups id seen) t = ⊥

-- what a pass told is known: that its list is closed, and why it ended for what is used up
pub record PassSeen (x : Shared) (place : Place) (t : WorkerState) (p : PassRecord) : Type 0 where
  pub closed : 0 < p.closed → KnowsClosed t.core (place_number place)
  pub worn : (spent : Spent) → p.ending ≡ ending.Worn spent → WornSeen (shape_of x.core) place spent t

-- what an attempt showed that made these entries: its id is one of the table, what its pass told is
-- known, and each object that it freed was born in a group of the tree
pub record HasShown (x : Shared) (place : Place) (o : Outcome) (made : List Made) (t : WorkerState) : Type 0 where
  pub id : place.id < (shape_of x.core).ids
  pub pass : IfSome (pass_of o) (PassSeen x place t)
  pub born : AreBorn (groups_in (shape_of x.core)) (objects_freed made)

-- what these maps and attempts showed, by the states before and after them and the work between
pub record IsWalkSeen (x : Shared) (walk : Walk) (maps : List MapSeen) (attempts : List Attempt) (s t : WorkerState) (w : Work) : Type 0 where
  -- each id that was tried is one of the table, and each map is a word of 64 bits
  pub ids : Each (λ (a : Attempt). a.id < (shape_of x.core).ids) attempts
  pub bits : Each (λ (m : MapSeen). m.bits < 2 ^ 64) maps
  -- each map stands with all bits that the worker had set before
  pub set : Each (λ (m : Mapped). Begins s.core.marks.sets m.set) w.core.maps
  -- what a pass told is known after the walk
  pub passes : Each (λ (a : Attempt). IfSome (pass_of a.outcome) (PassSeen x (place_of_walk walk a.id) t)) attempts
  -- each object that was freed was born in a group of the tree
  pub born : AreBorn (groups_in (shape_of x.core)) (objects_freed w.core.made)
