-- SPDX-License-Identifier: GPL-2.0-only
use Rattle.shr_audit_pools.proofs.Common.{ap, sym, ◌∙◌, arith, get_or_from_slice_get, slice_get_within, units_key}
use Rattle.shr_audit_pools.proofs.Shelved.{index_none, index_some}
use Rattle.shr_audit_pools.proofs.places.index_of.Goals as goal

pub returns-then-k-ends-clause-none : goal.returns-then-k-ends-clause-none
returns-then-k-ends-clause-none c =
    let key = c.key_of-key.ensures.key in
    index_none c.args.ends.now c.args.place c.index_from-k.result c.requires (λ n u lt at. let b = c.index_from-k.ensures.before n u lt at in omega (arith, b, key)) (λ n u le at. let b = c.index_from-k.ensures.behind n u le at in omega (arith, b, key))
    (λ u at. absurd (let lt = slice_get_within c.args.ends.now c.index_from-k.result u at in let over = c.if-k-ends.true in omega (arith, lt, over)))

pub returns-then-units_key-key-clause-none : goal.returns-then-units_key-key-clause-none
returns-then-units_key-key-clause-none c =
    let key = c.key_of-key.ensures.key in
    index_none c.args.ends.now c.args.place c.index_from-k.result c.requires (λ n u lt at. let b = c.index_from-k.ensures.before n u lt at in omega (arith, b, key)) (λ n u le at. let b = c.index_from-k.ensures.behind n u le at in omega (arith, b, key))
    (λ u at same. c.if-units_key-key.true (c.units_key.ensures ∙ (ap units_key (c.index-ends-k.is ∙ get_or_from_slice_get c.args.ends.now c.index_from-k.result u c.index-ends-k.result at) ∙ (same ∙ sym key))))

pub returns-clause-some : goal.returns-clause-some
returns-clause-some c =
    let key = c.key_of-key.ensures.key in
    index_some c.args.ends.now c.args.place c.index_from-k.result c.index-ends-k.result c.requires c.key_of-key.ensures.node c.if-k-ends.false (ap units_key (sym c.index-ends-k.is) ∙ (sym c.units_key.ensures ∙ (c.if-units_key-key.false ∙ key)))
    (λ n u lt at. let b = c.index_from-k.ensures.before n u lt at in omega (arith, b, key))
