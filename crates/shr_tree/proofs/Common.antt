-- SPDX-License-Identifier: GPL-2.0-only
-- The names that the proofs of this crate cite most, passed on from one place. Declares nothing.
pub use Rattle.std.proofs.Common.{Bool, List, None, [], ap, append_assoc, arith, false, get_or, length, map, not, refl, set, subst, sym, take, true, ℕ, ◌++◌, ◌-◌, ◌<◌, ◌||◌, ◌∙◌, ◌∷◌, ◌≡◌, ◌≤◌}
pub use Rattle.std.proofs.lemmas.List.{get_or-map, length-map, length_push, map_push, take_all}
pub use Rattle.std.specs.Prelude.{Option, Some, flat_map, unwrap_or}
pub use Rattle.shr_model.specs.Trees.{IsHierarchy, IsTree, depth_of}
pub use Rattle.shr_model.specs.Groups.{children_of, is_later, parent_of, preorder_of}
pub use Rattle.shr_words.specs.Classes.{Word, place_of}
pub use Rattle.shr_tree.specs.Children.{ChildrenOfAll}
pub use Rattle.shr_tree.specs.Tree.{Groups, IsSubtree, IsTreeWhole, hierarchy_in, is_parent, may_hold, groups_seen}
pub use Rattle.shr_tree.specs.declared.tree.Group.{Group}
