-- SPDX-License-Identifier: GPL-2.0-only
use Rattle.std.proofs.Common.{arith}
use Rattle.shr_audit_causes.proofs.OfflineRowLaws.{move_over, move_part, move_whole, whole_is}
use Rattle.shr_audit_causes.proofs.offline_rows.is_move_right.Goals as goal

pub returns-then-told-whole : goal.returns-then-told-whole
returns-then-told-whole c =
    let s = c.args.script.now in
    let r = c.args.report.now in
    let few = c.ranges.group in
    let narrow = c.ranges.moved in
    let whole = c.index-whole.result.now in
    move_whole s r c.args.worker c.args.group c.args.moved whole (whole_is s r c.args.notes.now c.requires c.args.group (omega (arith, few)) whole c.index-whole.ensures) (omega (arith, narrow)) c.if-told-whole.true

pub returns-then-told-whole-2 : goal.returns-then-told-whole-2
returns-then-told-whole-2 c =
    let s = c.args.script.now in
    let r = c.args.report.now in
    let few = c.ranges.group in
    let narrow = c.ranges.moved in
    let whole = c.index-whole.result.now in
    move_over s r c.args.worker c.args.group c.args.moved whole (whole_is s r c.args.notes.now c.requires c.args.group (omega (arith, few)) whole c.index-whole.ensures) (omega (arith, narrow)) c.if-told-whole-2.true

pub returns : goal.returns
returns c =
    let s = c.args.script.now in
    let r = c.args.report.now in
    let few = c.ranges.group in
    let narrow = c.ranges.moved in
    let whole = c.index-whole.result.now in
    move_part s r c.args.worker c.args.group c.args.moved whole (whole_is s r c.args.notes.now c.requires c.args.group (omega (arith, few)) whole c.index-whole.ensures) (omega (arith, narrow)) c.if-told-whole.false c.if-told-whole-2.false c.is_alone.result c.is_alone.ensures
