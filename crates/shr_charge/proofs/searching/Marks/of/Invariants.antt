-- SPDX-License-Identifier: GPL-2.0-only
use Rattle.shr_charge.proofs.Common.{take, AreMarkedGroups}
use Rattle.shr_charge.proofs.searching.Marks.of.Given as goal

abbrev pub invariant-loop-i : goal.invariant-loop-i
invariant-loop-i l = AreMarkedGroups (take l.i l.entries) l.marks
