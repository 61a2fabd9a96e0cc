-- SPDX-License-Identifier: GPL-2.0-only
-- The child's list and its parent's once the objects moved, and the steps that store them.
use Rattle.shr_node.proofs.Common.{◌≡◌, ◌≤◌, ◌&&◌, nat_lt, Bool, false, cond, [], length, Contains, Closed, place_number, is_closed, moved_in, AreChildrenMovedIn, Listed, View, Shape, Room, with_stored, with_set, last_entry, AreBothTaken, with_both_left}
use Rattle.shr_list.specs.Answers as answer

-- the parent's list took the child's objects, and the child's is closed
pub record BothReady (shape : Shape) (before v : View) (child above : Room) (filled : Bool) : Type 0 where
  pub old : Listed
  pub old_above : Listed
  pub rooms : AreBothTaken shape before v child.place above.place old old_above
  pub was_open : is_closed old.entries ≡ false
  pub few : length old.entries ≤ shape.most_entries
  pub children : AreChildrenMovedIn shape.parents.items child.place.group old.entries
  pub above_open : is_closed old_above.entries ≡ false
  pub apart : ¬ Contains (moved_in old_above.entries) child.place.group
  pub room : answer.HasRoom old_above old.items (answer.moved_entry old child.place.group)
  pub closed : answer.ListGains old child.list [] Closed
  pub moved : answer.ListGains old_above above.list old.items (answer.moved_entry old child.place.group)
  pub filling : filled ≡ (nat_lt 0 (length old.items) && nat_lt 0 above.place.group)

-- the view once both counts were stored, and once the bit was set if the parent's list was given
-- an object
abbrev pub with_both_stored : View → Room → Room → Bool → View
with_both_stored v child above filled = let w : View = with_stored (with_stored v (place_number above.place) (last_entry above.list.entries) above.list.items) (place_number child.place) (last_entry child.list.entries) child.list.items in
    cond filled (with_set w (place_number above.place)) w

-- the view once both counts were stored, the bit was set, and both rooms were given back
abbrev pub with_both_kept : View → Room → Room → Bool → View
with_both_kept v child above filled = with_both_left (with_both_stored v child above filled) child above
