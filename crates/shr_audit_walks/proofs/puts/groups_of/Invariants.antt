-- SPDX-License-Identifier: GPL-2.0-only
use Rattle.shr_audit_walks.proofs.RoundsCommon.{◌≡◌, take, refused_groups}
use Rattle.shr_audit_walks.proofs.puts.groups_of.Given as goal

abbrev pub invariant-loop-refusal : goal.invariant-loop-refusal
invariant-loop-refusal l = l.groups.items ≡ refused_groups (take l.refusal-index l.refusals)
