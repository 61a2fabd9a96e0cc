-- SPDX-License-Identifier: GPL-2.0-only
use Rattle.std.proofs.Common.{rules}
use Rattle.std.proofs.lemmas.List.Sorted.{answers_always, IsNonDecreasingBy-from_sort}
use Rattle.shr_audit_lists.specs.Keys.{serial_key}
use Rattle.shr_audit_lists.proofs.bags.sorted.Goals as goal

pub returns-clause-order : goal.returns-clause-order
returns-clause-order c = IsNonDecreasingBy-from_sort serial_key _ (c.in_ok-sort_by_key.ensures.sorted serial_key (answers_always _ _ _ (λ f a r g h. search rules)))
