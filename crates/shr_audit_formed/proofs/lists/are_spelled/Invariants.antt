-- SPDX-License-Identifier: GPL-2.0-only
use Rattle.shr_audit_formed.proofs.Common.{◌≡◌, ◌+◌, length, AllByRecursion, IsSpelled}
use Rattle.shr_audit_formed.proofs.lists.are_spelled.Given as goal

abbrev pub invariant-loop : goal.invariant-loop
invariant-loop l = (AllByRecursion IsSpelled l.walk → AllByRecursion IsSpelled l.items.items) × ((AllByRecursion IsSpelled l.items.items → AllByRecursion IsSpelled l.walk) × (l.counter + length l.walk ≡ length l.items.items))
