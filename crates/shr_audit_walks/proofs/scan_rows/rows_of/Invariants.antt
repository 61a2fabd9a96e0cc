-- SPDX-License-Identifier: GPL-2.0-only
use Rattle.shr_audit_walks.proofs.ScansCommon.{take, AreRowsOf}
use Rattle.shr_audit_walks.proofs.scan_rows.rows_of.Given as goal

abbrev pub invariant-loop-k : goal.invariant-loop-k
invariant-loop-k l = AreRowsOf (take l.k l.ends) l.rows.items
