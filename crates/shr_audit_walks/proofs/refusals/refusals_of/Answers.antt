-- SPDX-License-Identifier: GPL-2.0-only
use Rattle.shr_audit_walks.proofs.RoundsCommon.{rules, Refusal, answers_always, IsNonDecreasingBy-from_sort}
use Rattle.shr_audit_walks.proofs.refusals.refusals_of.Goals as goal

pub returns-clause-order : goal.returns-clause-order
returns-clause-order c = IsNonDecreasingBy-from_sort (λ (x : Refusal). x.key) _ (c.in_ok-sort_by_key.ensures.sorted (λ (x : Refusal). x.key) (answers_always _ _ _ (λ f a r g h. search rules)))
