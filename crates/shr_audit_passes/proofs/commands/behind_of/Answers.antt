-- SPDX-License-Identifier: GPL-2.0-only
use Rattle.shr_audit_passes.proofs.Common.{◌≡◌, true, false, subst, arith, rules, nat_le, nat_tests, IsPartitionPoint-from_clause, get_or_from_slice_get, slice_get_within, WalkRecord}
use Rattle.shr_audit_passes.proofs.Ranged.{parted_up_to}
use Rattle.shr_audit_passes.proofs.commands.behind_of.Goals as goal

pub returns-clause-before : goal.returns-clause-before
returns-clause-before c = λ n x lt at.
    let point = IsPartitionPoint-from_clause (λ (w : WalkRecord). nat_le w.by.command c.args.command) _ _ c.partition_point.ensures.partitioned (parted_up_to c.args.walks.now c.args.command c.requires) (λ a r q k. search rules) in
    let t : nat_le x.by.command c.args.command ≡ true = subst (λ (w : WalkRecord). nat_le w.by.command c.args.command ≡ true) (get_or_from_slice_get c.args.walks.now n x x at) (point.0 n x (omega arith) lt) in
    grind (arith, nat_tests)

pub returns-clause-behind : goal.returns-clause-behind
returns-clause-behind c = λ n x le at.
    let point = IsPartitionPoint-from_clause (λ (w : WalkRecord). nat_le w.by.command c.args.command) _ _ c.partition_point.ensures.partitioned (parted_up_to c.args.walks.now c.args.command c.requires) (λ a r q k. search rules) in
    let t : nat_le x.by.command c.args.command ≡ false = subst (λ (w : WalkRecord). nat_le w.by.command c.args.command ≡ false) (get_or_from_slice_get c.args.walks.now n x x at) (point.1 n x le (slice_get_within c.args.walks.now n x at)) in
    grind (arith, nat_tests)
