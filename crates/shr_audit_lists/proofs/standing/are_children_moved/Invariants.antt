-- SPDX-License-Identifier: GPL-2.0-only
use Rattle.shr_audit_lists.proofs.Common.{◌<◌, ℕ, List, Entry, AreMovesTold, IsMovedChild}
use Rattle.shr_audit_lists.proofs.standing.are_children_moved.Given as goal

abbrev pub invariant-loop-child : goal.invariant-loop-child
invariant-loop-child l = (before : List Entry) → AreMovesTold before l.moved → (child : ℕ) → 0 < child → child < l.child → IsMovedChild l.parents l.group before child
