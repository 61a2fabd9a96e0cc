-- SPDX-License-Identifier: GPL-2.0-only
use Rattle.shr_audit_isolations.proofs.Common.{◌≡◌, true, false, subst, arith, rules, nat_le, nat_tests, IsPartitionPoint-from_clause, get_or_from_slice_get, slice_get_within, Isolation}
use Rattle.shr_audit_isolations.proofs.Commanded.{parted_up_to}
use Rattle.shr_audit_isolations.proofs.commands.behind_of.Goals as goal

pub returns-clause-before : goal.returns-clause-before
returns-clause-before c = λ n x lt at.
    let point = IsPartitionPoint-from_clause (λ (w : Isolation). nat_le w.by.command c.args.command) _ _ c.partition_point.ensures.partitioned (parted_up_to c.args.isolations.now c.args.command c.requires) (λ a r q k. search rules) in
    let t : nat_le x.by.command c.args.command ≡ true = subst (λ (w : Isolation). nat_le w.by.command c.args.command ≡ true) (get_or_from_slice_get c.args.isolations.now n x x at) (point.0 n x (omega arith) lt) in
    grind (arith, nat_tests)

pub returns-clause-behind : goal.returns-clause-behind
returns-clause-behind c = λ n x le at.
    let point = IsPartitionPoint-from_clause (λ (w : Isolation). nat_le w.by.command c.args.command) _ _ c.partition_point.ensures.partitioned (parted_up_to c.args.isolations.now c.args.command c.requires) (λ a r q k. search rules) in
    let t : nat_le x.by.command c.args.command ≡ false = subst (λ (w : Isolation). nat_le w.by.command c.args.command ≡ false) (get_or_from_slice_get c.args.isolations.now n x x at) (point.1 n x le (slice_get_within c.args.isolations.now n x at)) in
    grind (arith, nat_tests)
