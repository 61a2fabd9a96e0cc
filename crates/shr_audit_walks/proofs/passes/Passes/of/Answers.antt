-- SPDX-License-Identifier: GPL-2.0-only
use Rattle.shr_audit_walks.proofs.ScansCommon.{ℕ, List, subst, IsPermutation, IsNonDecreasingBy-from_sort}
use Rattle.shr_audit_walks.proofs.passes.Passes.of.Goals as goal

pub returns : goal.returns
returns c = record {
  order = IsNonDecreasingBy-from_sort (λ (x : ℕ). x) _ c.sort_unstable.ensures.sorted;
  same = subst (λ (xs : List ℕ). IsPermutation xs c.sort_unstable.new.self.items) c.in_ok-keys.ensures c.sort_unstable.ensures.permutation;
}
