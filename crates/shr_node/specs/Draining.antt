-- SPDX-License-Identifier: GPL-2.0-only
-- What draining the lists of an id on a node makes.
use Rattle.std.specs.Prelude.{◌≡◌, ◌≢◌, ◌⊎◌, ℕ, ◌+◌, ◌<◌, ◌≤◌, List, [], ◌∷◌, ◌++◌, length, AllPairs}
use Rattle.shr_base.specs.declared.objects.Object.{Object}
use Rattle.shr_base.specs.declared.places.Place.{Place}
use Rattle.shr_base.specs.declared.places.Serial.{Serial}
use Rattle.shr_base.specs.declared.journals.Entry.TheVariants.{Drained}
use Rattle.shr_base.specs.declared.replies.Spent.{Spent}
use Rattle.shr_base.specs.declared.replies.Spent.TheVariants as spent
use Rattle.shr_model.specs.PlaceNumbers.{place_number}
use Rattle.shr_list.specs.Listed.{Listed}
use Rattle.shr_list.specs.Answers.{HasRoom, IsWorn, drain_entry}
use Rattle.shr_seats.specs.Views.{Each}
use Rattle.shr_core.specs.declared.view.View.{View}
use Rattle.shr_seats.specs.declared.shape.Shape.{Shape}
use Rattle.shr_core.specs.Parts.{Made}
use Rattle.shr_core.specs.Rule.{mark_of, AreBorn}
use Rattle.shr_seats.specs.Shapes.{groups_in}
use Rattle.shr_core.specs.Steps.{IsCounted, drained_after}
use Rattle.shr_node.specs.declared.answers.NodeDrain.{NodeDrain}
use Rattle.shr_node.specs.declared.answers.NodeDrain.TheVariants as drain
use Rattle.shr_node.specs.Gains.{Gains}
use Rattle.shr_node.specs.Opening.{WasMet}
use Rattle.shr_node.specs.Splicing.{group_place}

-- one list was emptied: its group, the number of its Drained, and its items before
pub record Draw : Type 0 where
  pub group : ℕ
  pub number : ℕ
  pub items : List Object

-- the entries of one draw after another
abbrev pub made_by_draws : ℕ → ℕ → Serial → List Draw → List Made
made_by_draws id node by [] = []
made_by_draws id node by (d ∷ ds) = record { place = place_number (group_place id node d.group); number = d.number; entry = Drained by (length d.items); items = d.items } ∷ made_by_draws id node by ds

-- the objects of one draw after another
abbrev pub drawn : List Draw → List Object
drawn [] = []
drawn (d ∷ ds) = d.items ++ drawn ds

-- a list that held an object was emptied, and its entry comes after all that was seen there
pub record IsDraw (shape : Shape) (v : View) (id node : ℕ) (d : Draw) : Type 0 where
  pub there : d.group < groups_in shape
  pub some : 0 < length d.items
  pub born : AreBorn (groups_in shape) d.items
  pub later : IsCounted shape v (place_number (group_place id node d.group)) (length d.items) d.number
  pub room : d.number + 1 ≤ shape.most_entries

-- the lists were emptied from the highest group down, and their objects stand at the end of what
-- was drained before
pub record AreDraws (shape : Shape) (v w : View) (id node : ℕ) (by : Serial) (before after : List Object) (ds : List Draw) : Type 0 where
  pub each : Each (IsDraw shape v id node) ds
  pub falling : AllPairs (λ (a b : Draw). b.group < a.group) ds
  pub gains : Gains v w (made_by_draws id node by ds) []
  pub objects : after ≡ before ++ drawn ds
  -- the drain marks of the other nodes stay
  pub others : (n : ℕ) → n ≢ node → mark_of w.claims n ≡ mark_of v.claims n

-- an open list of the id on the node held an object; the seat knows its journal
pub record IsFilled (shape : Shape) (v w : View) (id node group : ℕ) (old : Listed) : Type 0 where
  pub there : group < groups_in shape
  pub some : 0 < length old.items
  pub met : WasMet shape v w (place_number (group_place id node group)) old

-- a list that held an object had no room for a Drained
pub record IsFilledUp (shape : Shape) (v w : View) (id node group : ℕ) (by : Serial) (place : Place) (entries items : ℕ) : Type 0 where
  pub old : Listed
  pub here : place ≡ group_place id node group
  pub filled : IsFilled shape v w id node group old
  pub worn : IsWorn old [] (drain_entry old by) entries items

-- a drain tells of no counter but the full list of this group
abbrev pub DrainWorn : Shape → View → View → ℕ → ℕ → ℕ → Serial → Spent → Type 0
DrainWorn shape v w id node group by (spent.List place entries items) = IsFilledUp shape v w id node group by place entries items
DrainWorn shape v w id node group by (spent.Lookups i seen) = ⊥
DrainWorn shape v w id node group by (spent.Charges charges uncharges) = ⊥

-- a drain stopped at the list of this group: those of higher groups are empty, and from it down
-- none was touched
pub record StopsAt (shape : Shape) (v w : View) (id node : ℕ) (by : Serial) (before after : List Object) (group : ℕ) : Type 0 where
  pub ds : List Draw
  pub draws : AreDraws shape v w id node by before after ds
  pub above : Each (λ d. group < d.group) ds
  -- a mark that was above all lists is just above this one
  pub mark : mark_of v.claims node ≡ groups_in shape → mark_of w.claims node ≡ group + 1

-- no list of the id on the node holds an object: its mark is down
pub record IsDrained (shape : Shape) (v w : View) (id node : ℕ) (by : Serial) (before after : List Object) : Type 0 where
  pub ds : List Draw
  pub draws : AreDraws shape v w id node by before after ds
  pub mark : mark_of v.claims node ≤ groups_in shape → mark_of w.claims node ≡ 0

-- the drain stopped at a list without room for a Drained
pub record DrainIsWorn (shape : Shape) (v w : View) (id node : ℕ) (by : Serial) (before after : List Object) (s : Spent) : Type 0 where
  pub group : ℕ
  pub stops : StopsAt shape v w id node by before after group
  pub worn : DrainWorn shape v w id node group by s

-- the drain stopped for want of memory at a list that held an object
pub record DrainLacks (shape : Shape) (v w : View) (id node : ℕ) (by : Serial) (before after : List Object) : Type 0 where
  pub group : ℕ
  pub old : Listed
  pub stops : StopsAt shape v w id node by before after group
  pub filled : IsFilled shape v w id node group old
  -- and had room for its Drained
  pub room : HasRoom old [] (drain_entry old by)

-- what `drain` answers
abbrev pub DrainGives : Shape → View → ℕ → ℕ → Serial → List Object → NodeDrain → List Object → View → Type 0
DrainGives shape v id node by before drain.Drained after w = IsDrained shape v w id node by before after
DrainGives shape v id node by before (drain.Worn s) after w = DrainIsWorn shape v w id node by before after s
DrainGives shape v id node by before drain.Memory after w = DrainLacks shape v w id node by before after

-- a list held no object and gained no entry
pub record DrawsNone (v w : View) (before after : List Object) : Type 0 where
  pub gains : Gains v w [] []
  pub objects : after ≡ before

-- a list was emptied
pub record DrawsOne (shape : Shape) (v w : View) (place : Place) (by : Serial) (before after : List Object) : Type 0 where
  pub draw : Draw
  pub here : draw.group ≡ place.group
  pub is : IsDraw shape v place.id place.node draw
  pub gains : Gains v w (made_by_draws place.id place.node by (draw ∷ [])) []
  pub objects : after ≡ before ++ draw.items

-- a list held no object, or was emptied
abbrev pub IsListDrawn : Shape → View → View → Place → Serial → List Object → List Object → Type 0
IsListDrawn shape v w place by before after = DrawsNone v w before after ⊎ DrawsOne shape v w place by before after

-- once a list is empty the mark falls over it
pub record EmptiesOne (shape : Shape) (v w : View) (place : Place) (by : Serial) (before after : List Object) : Type 0 where
  pub drawn : IsListDrawn shape v w place by before after
  pub marks : w.claims.drained ≡ drained_after v.claims (place_number place) []

-- a list that held an object was left as it was
pub record LeavesOne (shape : Shape) (v w : View) (place : Place) (before after : List Object) : Type 0 where
  pub none : DrawsNone v w before after
  pub marks : w.claims.drained ≡ v.claims.drained
  pub old : Listed
  pub filled : IsFilled shape v w place.id place.node place.group old

-- the same, and it had room for a Drained
pub record LacksOne (shape : Shape) (v w : View) (place : Place) (by : Serial) (before after : List Object) : Type 0 where
  pub none : DrawsNone v w before after
  pub marks : w.claims.drained ≡ v.claims.drained
  pub old : Listed
  pub filled : IsFilled shape v w place.id place.node place.group old
  pub room : HasRoom old [] (drain_entry old by)

-- what emptying one list answers
abbrev pub DrawGives : Shape → View → Place → Serial → List Object → NodeDrain → List Object → View → Type 0
DrawGives shape v place by before drain.Drained after w = EmptiesOne shape v w place by before after
DrawGives shape v place by before (drain.Worn s) after w = LeavesOne shape v w place before after × DrainWorn shape v w place.id place.node place.group by s
DrawGives shape v place by before drain.Memory after w = LacksOne shape v w place by before after
