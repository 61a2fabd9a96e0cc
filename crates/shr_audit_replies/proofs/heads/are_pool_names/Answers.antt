-- SPDX-License-Identifier: GPL-2.0-only
use Rattle.shr_base.specs.declared.scripts.PoolDecl.{PoolDecl}
use Rattle.shr_audit_replies.proofs.Mapped.{other_at, mapped_more, mapped_end}
use Rattle.shr_audit_replies.proofs.heads.are_pool_names.Goals as goal

pub returns-then-not-is_pool_name_of : goal.returns-then-not-is_pool_name_of
returns-then-not-is_pool_name_of c = other_at (λ (d : PoolDecl). d.name) c.args.names.now c.args.pools.now c.loop-i.i c.index-names-i.result c.index-pools-i.result c.loop-i-test.true c.index-names-i.is c.index-pools-i.is
    c.is_pool_name_of.result c.is_pool_name_of.ensures c.if-not-is_pool_name_of.true

pub loop-i-preserved : goal.loop-i-preserved
loop-i-preserved c = mapped_more (λ (d : PoolDecl). d.name) c.args.names.now c.args.pools.now c.loop-i.i c.index-names-i.result c.index-pools-i.result c.index-names-i.is c.index-pools-i.is c.loop-i.invariant
    (c.is_pool_name_of.ensures.0 c.if-not-is_pool_name_of.false)

pub returns : goal.returns
returns c = mapped_end (λ (d : PoolDecl). d.name) c.args.names.now c.args.pools.now c.loop-i.i c.if-names-pools.false c.loop-i-test.false c.loop-i.invariant
