-- SPDX-License-Identifier: GPL-2.0-only
use Rattle.shr_audit_walks.proofs.RoundsCommon.{◌≡◌, true, false, subst, arith, rules, nat_lt, nat_tests, IsPartitionPoint-from_clause, get_or_from_slice_get, slice_get_within, Refusal, IsPartitionedBy-ltb}
use Rattle.shr_audit_walks.proofs.refusals.first_of.Goals as goal

pub returns-clause-before : goal.returns-clause-before
returns-clause-before c = λ n x lt at.
    let point = IsPartitionPoint-from_clause (λ (y : Refusal). nat_lt y.key c.args.key) _ _ c.partition_point.ensures.partitioned (IsPartitionedBy-ltb (λ (y : Refusal). y.key) c.args.refusals.now c.args.key c.requires) (λ a r q k. search rules) in
    let t : nat_lt x.key c.args.key ≡ true = subst (λ (y : Refusal). nat_lt y.key c.args.key ≡ true) (get_or_from_slice_get c.args.refusals.now n x x at) (point.0 n x (omega arith) lt) in
    grind (arith, nat_tests)

pub returns-clause-behind : goal.returns-clause-behind
returns-clause-behind c = λ n x le at.
    let point = IsPartitionPoint-from_clause (λ (y : Refusal). nat_lt y.key c.args.key) _ _ c.partition_point.ensures.partitioned (IsPartitionedBy-ltb (λ (y : Refusal). y.key) c.args.refusals.now c.args.key c.requires) (λ a r q k. search rules) in
    let t : nat_lt x.key c.args.key ≡ false = subst (λ (y : Refusal). nat_lt y.key c.args.key ≡ false) (get_or_from_slice_get c.args.refusals.now n x x at) (point.1 n x le (slice_get_within c.args.refusals.now n x at)) in
    grind (arith, nat_tests)
