-- SPDX-License-Identifier: GPL-2.0-only
use Rattle.shr_audit_lists.proofs.Distinct.{AreNextApart}
use Rattle.shr_audit_lists.proofs.bags.are_apart.Given as goal

abbrev pub invariant-loop-i : goal.invariant-loop-i
invariant-loop-i l = AreNextApart l.serials l.i
