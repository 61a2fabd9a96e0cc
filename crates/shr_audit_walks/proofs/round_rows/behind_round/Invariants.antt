-- SPDX-License-Identifier: GPL-2.0-only
use Rattle.shr_audit_walks.proofs.RoundsCommon.{ℕ, flat_map, take, range_with_len, IsBehind, jobs_made, jobs_over, round_control}
use Rattle.shr_audit_walks.proofs.round_rows.behind_round.Given as goal

abbrev pub invariant-loop-node : goal.invariant-loop-node
invariant-loop-node l = IsBehind l.whole (flat_map (λ (node : ℕ). jobs_over (round_control l.priority node) l.groups) (take l.node (range_with_len 0 l.nodes))) (jobs_made l.walks) (jobs_made l.rest)
