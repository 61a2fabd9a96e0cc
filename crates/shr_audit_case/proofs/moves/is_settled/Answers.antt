-- SPDX-License-Identifier: GPL-2.0-only
use Rattle.std.proofs.Common.{◌≡◌, rules}
use Rattle.std.proofs.lemmas.List.Sorted.{answers_always, IsNonDecreasingBy-from_sort}
use Rattle.shr_audit_case.proofs.Settling.{decided}
use Rattle.shr_audit_case.proofs.moves.is_settled.Goals as goal

pub returns : goal.returns
returns c =
    let sorted = IsNonDecreasingBy-from_sort (λ m. m.key) _ (c.in_ok-sort_by_key.ensures.sorted (λ m. m.key) (answers_always _ _ _ (λ f a r g h. search rules))) in
    let p = c.in_ok-sort_by_key.ensures.permutation in
    let v = c.as_slice.ensures.value in
    let e = c.runs_settle.ensures in
    decided _ _ _ p sorted (rw v at e)
