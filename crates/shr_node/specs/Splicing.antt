-- SPDX-License-Identifier: GPL-2.0-only
-- What closing the lists of a subtree makes.
use Rattle.std.specs.Prelude.{◌≡◌, ℕ, ◌+◌, ◌<◌, ◌≤◌, List, [], ◌∷◌, ◌++◌, length, cond, ◌==◌, ◌&&◌, true, nat_lt, slice_index, AllPairs, Contains}
use Rattle.shr_base.specs.declared.objects.Object.{Object}
use Rattle.shr_base.specs.declared.places.Place.{Place}
use Rattle.shr_base.specs.declared.journals.Entry.TheVariants.{MovedIn, Closed}
use Rattle.shr_base.specs.declared.replies.Spent.{Spent}
use Rattle.shr_base.specs.declared.replies.Spent.TheVariants as spent
use Rattle.shr_model.specs.PlaceNumbers.{place_number}
use Rattle.shr_model.specs.Groups.{is_child, parent_of, IsAtOrAbove}
use Rattle.shr_list.specs.Listed.{Listed}
use Rattle.shr_model.specs.Families.{moved_in}
use Rattle.shr_list.specs.Answers.{HasRoom, IsWorn, moved_entry}
use Rattle.shr_seats.specs.Views.{Each}
use Rattle.shr_core.specs.declared.view.View.{View}
use Rattle.shr_seats.specs.declared.shape.Shape.{Shape}
use Rattle.shr_core.specs.Parts.{Made}
use Rattle.shr_seats.specs.Shapes.{groups_in}
use Rattle.shr_core.specs.Steps.{IsCounted}
use Rattle.shr_node.specs.declared.answers.SpliceAnswer.{SpliceAnswer}
use Rattle.shr_node.specs.declared.answers.SpliceAnswer.TheVariants as splice
use Rattle.shr_node.specs.declared.splicing.Children.{Children}
use Rattle.shr_node.specs.Gains.{Gains, KnowsClosed, IsKnownClosed}
use Rattle.shr_node.specs.Opening.{WasMet}

-- One list was closed into its parent's: the child's group, the numbers of its Closed and of the
-- parent's MovedIn, and the items of both before
pub record Closing : Type 0 where
  pub child : ℕ
  pub number : ℕ
  pub items : List Object
  pub above_number : ℕ
  pub above_items : List Object

-- the first so many numbers are those of a group's children: each is that of a child, and each child
-- is among them
pub record AreChildren (parents : List ℕ) (group : ℕ) (c : Children) : Type 0 where
  pub few : c.count ≤ length c.groups
  pub each : (i : ℕ) → i < c.count → is_child parents group (slice_index c.groups i) ≡ true
  pub all : (child : ℕ) → is_child parents group child ≡ true → (i : ℕ) × (i < c.count) × (slice_index c.groups i ≡ child)

-- the place of a group at an id and node
abbrev pub group_place : ℕ → ℕ → ℕ → Place
group_place id node group = record { id = id; node = node; group = group }

-- the number of the child's place
abbrev pub own_number : ℕ → ℕ → Closing → ℕ
own_number id node c = place_number (group_place id node c.child)

-- the number of the place of the child's parent
abbrev pub above_place : List ℕ → ℕ → ℕ → Closing → ℕ
above_place parents id node c = place_number (group_place id node (parent_of parents c.child))

-- the parent's MovedIn and then the child's Closed
abbrev pub made_by_closing : List ℕ → ℕ → ℕ → Closing → List Made
made_by_closing parents id node c =
    record { place = above_place parents id node c; number = c.above_number; entry = MovedIn c.child (length c.items); items = c.above_items }
    ∷ record { place = own_number id node c; number = c.number; entry = Closed; items = c.items } ∷ []

-- the parent's bit is set if the child had an object and the parent is not the root
abbrev pub bits_by : List ℕ → ℕ → ℕ → Closing → List ℕ
bits_by parents id node c = cond (nat_lt 0 (length c.items) && nat_lt 0 (parent_of parents c.child)) (above_place parents id node c ∷ []) []

-- the entries of one closing after another
abbrev pub made_by_closings : List ℕ → ℕ → ℕ → List Closing → List Made
made_by_closings parents id node [] = []
made_by_closings parents id node (c ∷ cs) = made_by_closing parents id node c ++ made_by_closings parents id node cs

-- the places whose bit one closing after another sets
abbrev pub bits_of_closings : List ℕ → ℕ → ℕ → List Closing → List ℕ
bits_of_closings parents id node [] = []
bits_of_closings parents id node (c ∷ cs) = bits_by parents id node c ++ bits_of_closings parents id node cs

-- a closed list is that of a group at or below the one that is spliced, both entries come after all
-- that was seen, and the parent's list had room
pub record IsClosing (shape : Shape) (v : View) (id node group : ℕ) (c : Closing) : Type 0 where
  pub below : IsAtOrAbove shape.parents.items group c.child
  pub low : 0 < c.child
  pub there : c.child < groups_in shape
  pub later : IsCounted shape v (own_number id node c) (length c.items) c.number
  pub above_later : IsCounted shape v (above_place shape.parents.items id node c) (length c.above_items) c.above_number
  pub room_entries : c.above_number + 1 ≤ shape.most_entries
  pub room_items : length c.items + length c.above_items ≤ shape.most_items

-- the lists were closed from the highest group down, each once
pub record AreClosings (shape : Shape) (v w : View) (id node group : ℕ) (cs : List Closing) : Type 0 where
  pub each : Each (IsClosing shape v id node group) cs
  pub falling : AllPairs (λ (a b : Closing). b.child < a.child) cs
  pub gains : Gains v w (made_by_closings shape.parents.items id node cs) (bits_of_closings shape.parents.items id node cs)

-- the objects that this group's own list gave
abbrev pub moved_from_group : ℕ → List Closing → ℕ
moved_from_group group [] = 0
moved_from_group group (c ∷ cs) = cond (c.child == group) (length c.items) (moved_from_group group cs)

-- the group's own list is known to be closed, and with it each at or below the group
pub record IsSpliced (shape : Shape) (v w : View) (id node group moved : ℕ) : Type 0 where
  pub cs : List Closing
  pub closings : AreClosings shape v w id node group cs
  pub moved_is : moved ≡ moved_from_group group cs
  pub own : KnowsClosed w (place_number (group_place id node group))
  pub closed : (child : ℕ) → child < groups_in shape → IsAtOrAbove shape.parents.items group child → IsKnownClosed shape.parents.items w (group_place id node child)

-- a splice stopped at the list of a child: those of higher groups at or below the spliced one are
-- known to be closed, and from it down none was touched
pub record SpliceStopsAt (shape : Shape) (v w : View) (id node group child : ℕ) : Type 0 where
  pub cs : List Closing
  pub closings : AreClosings shape v w id node group cs
  pub below : IsAtOrAbove shape.parents.items group child
  pub there : child < groups_in shape
  pub above : Each (λ c. child < c.child) cs
  pub closed : (higher : ℕ) → child < higher → higher < groups_in shape → IsAtOrAbove shape.parents.items group higher → IsKnownClosed shape.parents.items w (group_place id node higher)

-- the open lists of a child and of its parent, met at one moment: the child's had not been moved
-- in; the seat knows both journals
pub record IsPair (shape : Shape) (v w : View) (id node child : ℕ) (given old : Listed) : Type 0 where
  pub met : WasMet shape v w (place_number (group_place id node child)) given
  pub above_met : WasMet shape v w (place_number (group_place id node (parent_of shape.parents.items child))) old
  pub apart : ¬ Contains (moved_in old.entries) child

-- the parent's list had no room for the child's objects
pub record ParentWasFull (shape : Shape) (v w : View) (id node child : ℕ) (place : Place) (entries items : ℕ) : Type 0 where
  pub given : Listed
  pub old : Listed
  pub here : place ≡ group_place id node (parent_of shape.parents.items child)
  pub pair : IsPair shape v w id node child given old
  pub worn : IsWorn old given.items (moved_entry given child) entries items

-- a splice tells of no counter but the full list of the child's parent
abbrev pub SpliceWorn : Shape → View → View → ℕ → ℕ → ℕ → Spent → Type 0
SpliceWorn shape v w id node child (spent.List place entries items) = ParentWasFull shape v w id node child place entries items
SpliceWorn shape v w id node child (spent.Lookups i seen) = ⊥
SpliceWorn shape v w id node child (spent.Charges charges uncharges) = ⊥

-- the parent's list had room for the child's objects, and there was no memory
pub record ParentHadRoom (shape : Shape) (v w : View) (id node child : ℕ) : Type 0 where
  pub given : Listed
  pub old : Listed
  pub pair : IsPair shape v w id node child given old
  pub room : HasRoom old given.items (moved_entry given child)

-- the splice stopped at a child whose parent's list had no room for its objects
pub record SpliceIsWorn (shape : Shape) (v w : View) (id node group : ℕ) (s : Spent) : Type 0 where
  pub child : ℕ
  pub stops : SpliceStopsAt shape v w id node group child
  pub worn : SpliceWorn shape v w id node child s

-- the splice stopped for want of memory at a child whose parent's list had room
pub record SpliceLacks (shape : Shape) (v w : View) (id node group : ℕ) : Type 0 where
  pub child : ℕ
  pub stops : SpliceStopsAt shape v w id node group child
  pub free : ParentHadRoom shape v w id node child

-- what `splice` answers
abbrev pub SpliceGives : Shape → View → ℕ → ℕ → ℕ → SpliceAnswer → View → Type 0
SpliceGives shape v id node group (splice.Spliced moved) w = IsSpliced shape v w id node group moved
SpliceGives shape v id node group (splice.Worn s) w = SpliceIsWorn shape v w id node group s
SpliceGives shape v id node group splice.Memory w = SpliceLacks shape v w id node group
