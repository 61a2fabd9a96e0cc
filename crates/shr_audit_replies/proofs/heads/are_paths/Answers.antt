-- SPDX-License-Identifier: GPL-2.0-only
use Rattle.shr_base.specs.declared.scripts.GroupDecl.{GroupDecl}
use Rattle.shr_audit_replies.proofs.Mapped.{other_at, mapped_more, mapped_end}
use Rattle.shr_audit_replies.proofs.heads.are_paths.Goals as goal

pub returns-then-not-is_path_of : goal.returns-then-not-is_path_of
returns-then-not-is_path_of c = other_at (λ (d : GroupDecl). d.path) c.args.paths.now c.args.groups.now c.loop-i.i c.index-paths-i.result c.index-groups-i.result c.loop-i-test.true c.index-paths-i.is c.index-groups-i.is
    c.is_path_of.result c.is_path_of.ensures c.if-not-is_path_of.true

pub loop-i-preserved : goal.loop-i-preserved
loop-i-preserved c = mapped_more (λ (d : GroupDecl). d.path) c.args.paths.now c.args.groups.now c.loop-i.i c.index-paths-i.result c.index-groups-i.result c.index-paths-i.is c.index-groups-i.is c.loop-i.invariant
    (c.is_path_of.ensures.0 c.if-not-is_path_of.false)

pub returns : goal.returns
returns c = mapped_end (λ (d : GroupDecl). d.path) c.args.paths.now c.args.groups.now c.loop-i.i c.if-paths-groups.false c.loop-i-test.false c.loop-i.invariant
