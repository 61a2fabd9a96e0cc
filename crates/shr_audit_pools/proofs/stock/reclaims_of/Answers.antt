-- SPDX-License-Identifier: GPL-2.0-only
use Rattle.shr_audit_pools.proofs.Common.{rules, Reclaimed, IsNonDecreasingBy-from_sort_by_key, answers_always}
use Rattle.shr_audit_pools.proofs.Stocked.{reclaims_sorted}
use Rattle.shr_audit_pools.proofs.stock.reclaims_of.Goals as goal

pub returns : goal.returns
returns c =
    reclaims_sorted c.args.entries.now _ c.sort_by_key.new.self.items c.requires c.in_ok-reclaims.ensures
    (IsNonDecreasingBy-from_sort_by_key (λ (x : Reclaimed). x.key) _ c.in_ok-sort_by_key.ensures.sorted (λ a r q k. search rules))
    (c.sort_by_key.ensures.stable (λ (x : Reclaimed). x.key) (answers_always _ _ _ (λ f a r q k. search rules)))
