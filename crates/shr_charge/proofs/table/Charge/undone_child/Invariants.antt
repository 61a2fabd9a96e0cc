-- SPDX-License-Identifier: GPL-2.0-only
use Rattle.shr_charge.proofs.Common.{◌≡◌, None, find, range_with_len, is_undone_child, hierarchy_of}
use Rattle.shr_charge.proofs.table.Charge.undone_child.Given as goal

abbrev pub invariant-loop-child : goal.invariant-loop-child
invariant-loop-child l = find (is_undone_child (hierarchy_of l.self.shape) l.entries l.group) (range_with_len 0 l.child) ≡ None
