-- SPDX-License-Identifier: GPL-2.0-only
use Rattle.shr_audit_walks.proofs.RoundsCommon.{◌<◌, ℕ, length, ◌↔◌, AllByRecursion, FitsRounds, jobs_made}
use Rattle.shr_audit_walks.proofs.rounds.are_rounds.Given as goal

abbrev pub invariant-loop-rest : goal.invariant-loop-rest
invariant-loop-rest l = record {
  there : AllByRecursion (λ (g : ℕ). g < length l.subtrees.parents.items) l.groups.items;
  same : FitsRounds l.subtrees.parents.items l.nodes l.whole l.priority l.groups.items (jobs_made l.rest) ↔ FitsRounds l.subtrees.parents.items l.nodes l.whole 12 l.fn.groups.items (jobs_made l.fn.walks);
}

abbrev pub decreases-loop-rest : goal.decreases-loop-rest
decreases-loop-rest l = length l.groups.items
