-- SPDX-License-Identifier: GPL-2.0-only
use Rattle.shr_node.proofs.Common.{◌≡◌, ℕ, ◌<◌, ◌≤◌, true, length, is_child, slice_index, shape_of}
use Rattle.shr_node.proofs.splicing.children_of.Given as goal

abbrev pub invariant-loop-at : goal.invariant-loop-at
invariant-loop-at l = record {
  long : length l.children.groups ≡ 256;
  few : l.children.count ≤ l.at;
  room : l.children.count ≤ 256;
  each : (i : ℕ) → i < l.children.count → is_child (shape_of l.core).parents.items l.group (slice_index l.children.groups i) ≡ true;
  all : (child : ℕ) → child < l.at → is_child (shape_of l.core).parents.items l.group child ≡ true → (i : ℕ) × (i < l.children.count) × (slice_index l.children.groups i ≡ child);
}
