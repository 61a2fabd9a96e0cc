-- SPDX-License-Identifier: GPL-2.0-only
use Rattle.shr_audit_case.proofs.Common.{◌≡◌, true, false, subst, arith, get_or_from_slice_get, slice_get_within, PlaceEnd, comes_before, rules}
use Rattle.std.proofs.lemmas.List.Sorted.{IsPartitionPoint-from_clause}
use Rattle.shr_audit_case.proofs.Order.{parted}
use Rattle.shr_audit_case.proofs.places.index_from.Goals as goal

pub returns-clause-before : goal.returns-clause-before
returns-clause-before c = λ n x lt at.
    let point = IsPartitionPoint-from_clause (λ (end : PlaceEnd). comes_before end.place c.args.place) _ _ c.partition_point.ensures.partitioned (parted c.args.ends.now c.args.place c.requires) (λ a r q k. search rules) in
    subst (λ (e : PlaceEnd). comes_before e.place c.args.place ≡ true) (get_or_from_slice_get c.args.ends.now n x x at) (point.0 n x (omega arith) lt)

pub returns-clause-behind : goal.returns-clause-behind
returns-clause-behind c = λ n x le at.
    let point = IsPartitionPoint-from_clause (λ (end : PlaceEnd). comes_before end.place c.args.place) _ _ c.partition_point.ensures.partitioned (parted c.args.ends.now c.args.place c.requires) (λ a r q k. search rules) in
    subst (λ (e : PlaceEnd). comes_before e.place c.args.place ≡ false) (get_or_from_slice_get c.args.ends.now n x x at) (point.1 n x le (slice_get_within c.args.ends.now n x at))
