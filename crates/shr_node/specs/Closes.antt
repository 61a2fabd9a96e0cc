-- SPDX-License-Identifier: GPL-2.0-only
-- What closing one list into its parent's answers.
use Rattle.std.specs.Prelude.{◌≡◌, ℕ, [], length}
use Rattle.shr_base.specs.declared.replies.Spent.{Spent}
use Rattle.shr_model.specs.PlaceNumbers.{place_number}
use Rattle.shr_core.specs.declared.view.View.{View}
use Rattle.shr_seats.specs.declared.shape.Shape.{Shape}
use Rattle.shr_node.specs.declared.answers.OneClose.{OneClose}
use Rattle.shr_node.specs.declared.answers.OneClose.TheVariants as close
use Rattle.shr_node.specs.Gains.{Gains, KnowsClosed}
use Rattle.shr_node.specs.Splicing.{Closing, group_place, made_by_closing, bits_by, IsClosing, SpliceWorn, ParentHadRoom}

-- the list is closed now: the parent's MovedIn and then the child's Closed were made, and the
-- parent's bit was set if an object moved and the parent is not the root
pub record ClosesOne (shape : Shape) (v w : View) (id node group objects : ℕ) : Type 0 where
  pub closing : Closing
  pub here : closing.child ≡ group
  pub count : objects ≡ length closing.items
  pub is : IsClosing shape v id node group closing
  pub gains : Gains v w (made_by_closing shape.parents.items id node closing) (bits_by shape.parents.items id node closing)
  pub known : KnowsClosed w (place_number (group_place id node group))

-- it was closed before
pub record WasClosed (v w : View) (id node group : ℕ) : Type 0 where
  pub gains : Gains v w [] []
  pub known : KnowsClosed w (place_number (group_place id node group))

-- both lists were left as they were, and the parent's had no room
pub record LeavesWorn (shape : Shape) (v w : View) (id node group : ℕ) (s : Spent) : Type 0 where
  pub gains : Gains v w [] []
  pub worn : SpliceWorn shape v w id node group s

-- both lists were left as they were, and the parent's had room
pub record LeavesFree (shape : Shape) (v w : View) (id node group : ℕ) : Type 0 where
  pub gains : Gains v w [] []
  pub free : ParentHadRoom shape v w id node group

-- what `close_one` answers
abbrev pub CloseOneGives : Shape → View → ℕ → ℕ → ℕ → OneClose → View → Type 0
CloseOneGives shape v id node group (close.Closed objects) w = ClosesOne shape v w id node group objects
CloseOneGives shape v id node group close.WasClosed w = WasClosed v w id node group
CloseOneGives shape v id node group (close.Worn s) w = LeavesWorn shape v w id node group s
CloseOneGives shape v id node group close.Memory w = LeavesFree shape v w id node group
