-- SPDX-License-Identifier: GPL-2.0-only
use Rattle.shr_audit_fresh.proofs.Common.{Some, take, flat_map, tree_seen, After}
use Rattle.shr_audit_fresh.proofs.rising.is_tree_rising.Given as goal

abbrev pub invariant-loop-answer : goal.invariant-loop-answer
invariant-loop-answer l = After 0 (flat_map tree_seen (take l.answer-index l.answers)) (Some l.low)
