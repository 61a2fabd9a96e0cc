-- SPDX-License-Identifier: GPL-2.0-only
use Rattle.shr_audit_walks.proofs.RoundsCommon.{ℕ, [], ◌∷◌, flat_map, take, IsBehind, job_with, jobs_made}
use Rattle.shr_audit_walks.proofs.round_rows.behind_row.Given as goal

abbrev pub invariant-loop-group : goal.invariant-loop-group
invariant-loop-group l = IsBehind l.whole (flat_map (λ (g : ℕ). job_with l.control g ∷ []) (take l.group-index l.groups)) (jobs_made l.walks) (jobs_made l.rest)
