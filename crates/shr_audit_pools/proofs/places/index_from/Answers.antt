-- SPDX-License-Identifier: GPL-2.0-only
use Rattle.shr_audit_pools.proofs.Common.{◌≡◌, true, false, subst, arith, rules, nat_lt, nat_tests, IsPartitionPoint-from_clause, get_or_from_slice_get, slice_get_within, UnitsEnd, units_key}
use Rattle.shr_audit_pools.proofs.Shelved.{parted}
use Rattle.shr_audit_pools.proofs.places.index_from.Goals as goal

pub returns-clause-before : goal.returns-clause-before
returns-clause-before c = λ n x lt at.
    let point = IsPartitionPoint-from_clause (λ (u : UnitsEnd). nat_lt (units_key u) c.args.key) _ _ c.partition_point.ensures.partitioned (parted c.args.ends.now c.args.key c.requires) (λ a r q k. search rules) in
    let t : nat_lt (units_key x) c.args.key ≡ true = subst (λ (u : UnitsEnd). nat_lt (units_key u) c.args.key ≡ true) (get_or_from_slice_get c.args.ends.now n x x at) (point.0 n x (omega arith) lt) in
    grind (arith, nat_tests)

pub returns-clause-behind : goal.returns-clause-behind
returns-clause-behind c = λ n x le at.
    let point = IsPartitionPoint-from_clause (λ (u : UnitsEnd). nat_lt (units_key u) c.args.key) _ _ c.partition_point.ensures.partitioned (parted c.args.ends.now c.args.key c.requires) (λ a r q k. search rules) in
    let t : nat_lt (units_key x) c.args.key ≡ false = subst (λ (u : UnitsEnd). nat_lt (units_key u) c.args.key ≡ false) (get_or_from_slice_get c.args.ends.now n x x at) (point.1 n x le (slice_get_within c.args.ends.now n x at)) in
    grind (arith, nat_tests)
