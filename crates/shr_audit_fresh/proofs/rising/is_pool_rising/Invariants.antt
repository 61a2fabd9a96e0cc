-- SPDX-License-Identifier: GPL-2.0-only
use Rattle.shr_audit_fresh.proofs.Common.{Some, take, flat_map, pool_seen, After}
use Rattle.shr_audit_fresh.proofs.rising.is_pool_rising.Given as goal

abbrev pub invariant-loop-answer : goal.invariant-loop-answer
invariant-loop-answer l = After 0 (flat_map pool_seen (take l.answer-index l.answers)) (Some l.low)
