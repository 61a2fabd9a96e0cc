-- SPDX-License-Identifier: GPL-2.0-only
use Rattle.std.proofs.Common.{◌≤◌, ◌<◌, length, arith}
use Rattle.std.proofs.lemmas.Bool.Decides.{Decides-eqb}
use Rattle.shr_audit_rows.proofs.MomentsLaws.{way_none, way_of, way_past}
use Rattle.shr_audit_rows.proofs.children.Moments.is_in_the_way.Goals as goal

pub returns-then-entry-len : goal.returns-then-entry-len
returns-then-entry-len c =
    let l = c.len.ensures in
    let lt = c.if-entry-len.true in
    let over : length c.args.report.now.tree.items < c.args.entry = omega (arith, l, lt) in
    way_past c.args.script.now c.args.report.now c.args.group c.args.child c.args.entry over

pub returns-in-Some : goal.returns-in-Some
returns-in-Some c =
    let l = c.len.ensures in
    let le = c.if-entry-len.false in
    let known : c.args.entry ≤ length c.args.report.now.tree.items = omega (arith, l, le) in
    way_of c.args.script.now c.args.report.now c.args.self.now c.requires c.args.group c.args.entry known c.in-Some.first c.args.child _ c.in-Some.ensures (Decides-eqb c.in-Some.first c.args.child)

pub returns-in-None : goal.returns-in-None
returns-in-None c =
    let l = c.len.ensures in
    let le = c.if-entry-len.false in
    let known : c.args.entry ≤ length c.args.report.now.tree.items = omega (arith, l, le) in
    way_none c.args.script.now c.args.report.now c.args.self.now c.requires c.args.group c.args.entry known c.args.child c.in-None.ensures
