-- SPDX-License-Identifier: GPL-2.0-only
use Rattle.shr_audit_isolations.proofs.Common.{take, IsGatheringBegun}
use Rattle.shr_audit_isolations.proofs.gathered.begin_table.Given as goal

abbrev pub invariant-loop-part : goal.invariant-loop-part
invariant-loop-part l = IsGatheringBegun (take l.part-index l.parts) l.table.items
