-- SPDX-License-Identifier: GPL-2.0-only
use Rattle.shr_base.specs.declared.scripts.CacheDecl.{CacheDecl}
use Rattle.shr_audit_replies.proofs.Mapped.{other_at, mapped_more, mapped_end}
use Rattle.shr_audit_replies.proofs.heads.are_names.Goals as goal

pub returns-then-not-is_name_of : goal.returns-then-not-is_name_of
returns-then-not-is_name_of c = other_at (λ (d : CacheDecl). d.name) c.args.names.now c.args.caches.now c.loop-i.i c.index-names-i.result c.index-caches-i.result c.loop-i-test.true c.index-names-i.is c.index-caches-i.is
    c.is_name_of.result c.is_name_of.ensures c.if-not-is_name_of.true

pub loop-i-preserved : goal.loop-i-preserved
loop-i-preserved c = mapped_more (λ (d : CacheDecl). d.name) c.args.names.now c.args.caches.now c.loop-i.i c.index-names-i.result c.index-caches-i.result c.index-names-i.is c.index-caches-i.is c.loop-i.invariant
    (c.is_name_of.ensures.0 c.if-not-is_name_of.false)

pub returns : goal.returns
returns c = mapped_end (λ (d : CacheDecl). d.name) c.args.names.now c.args.caches.now c.loop-i.i c.if-names-caches.false c.loop-i-test.false c.loop-i.invariant
