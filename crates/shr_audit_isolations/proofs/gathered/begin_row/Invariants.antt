-- SPDX-License-Identifier: GPL-2.0-only
use Rattle.shr_audit_isolations.proofs.Common.{◌≡◌, map, take, begun, told_of}
use Rattle.shr_audit_isolations.proofs.gathered.begin_row.Given as goal

abbrev pub invariant-loop-isolation : goal.invariant-loop-isolation
invariant-loop-isolation l = map told_of l.row.items ≡ map begun (take l.isolation-index l.isolations)
