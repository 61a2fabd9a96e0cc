-- SPDX-License-Identifier: GPL-2.0-only
use Rattle.shr_audit_walks.proofs.ScansCommon.{rules, IsNonDecreasingBy-from_sort, row_key, answers_always}
use Rattle.shr_audit_walks.proofs.Ordered.{same_order}
use Rattle.shr_audit_walks.proofs.scan_table.sorted.Goals as goal

pub returns-clause-order : goal.returns-clause-order
returns-clause-order c = IsNonDecreasingBy-from_sort row_key _ (c.in_ok-sort_by_key.ensures.sorted row_key (answers_always _ _ _ (λ f a r g h. search rules)))

pub returns-clause-same : goal.returns-clause-same
returns-clause-same c = same_order c.args.rows.items _ (c.in_ok-sort_by_key.ensures.stable row_key (answers_always _ _ _ (λ f a r g h. search rules)))
