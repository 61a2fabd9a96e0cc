-- SPDX-License-Identifier: GPL-2.0-only
use Rattle.shr_audit_walks.proofs.ScansCommon.{◌≡◌, true, false, subst, arith, rules, nat_tests, IsPartitionPoint-from_clause, get_or_from_slice_get, slice_get_within, ScanSeen, row_key, nat_le, IsPartitionedBy-leb}
use Rattle.shr_audit_walks.proofs.scan_table.behind_of.Goals as goal

pub returns-clause-before : goal.returns-clause-before
returns-clause-before c = λ n x lt at.
    let point = IsPartitionPoint-from_clause (λ (y : ScanSeen). nat_le (row_key y) c.args.key) _ _ c.partition_point.ensures.partitioned (IsPartitionedBy-leb row_key c.args.rows.now c.args.key c.requires) (λ a r q k. search rules) in
    let t : nat_le (row_key x) c.args.key ≡ true = subst (λ (y : ScanSeen). nat_le (row_key y) c.args.key ≡ true) (get_or_from_slice_get c.args.rows.now n x x at) (point.0 n x (omega arith) lt) in
    grind (arith, nat_tests)

pub returns-clause-behind : goal.returns-clause-behind
returns-clause-behind c = λ n x le at.
    let point = IsPartitionPoint-from_clause (λ (y : ScanSeen). nat_le (row_key y) c.args.key) _ _ c.partition_point.ensures.partitioned (IsPartitionedBy-leb row_key c.args.rows.now c.args.key c.requires) (λ a r q k. search rules) in
    let t : nat_le (row_key x) c.args.key ≡ false = subst (λ (y : ScanSeen). nat_le (row_key y) c.args.key ≡ false) (get_or_from_slice_get c.args.rows.now n x x at) (point.1 n x le (slice_get_within c.args.rows.now n x at)) in
    grind (arith, nat_tests)
