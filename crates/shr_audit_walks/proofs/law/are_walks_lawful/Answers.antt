-- SPDX-License-Identifier: GPL-2.0-only
use Rattle.std.specs.Bool.{Decides}
use Rattle.shr_audit_walks.proofs.Whole.{Later, Lawful, Made, NoOthers, Rising, Told, all_lawful}
use Rattle.shr_audit_walks.proofs.law.are_walks_lawful.Goals as goal

pub returns : goal.returns
returns c =
    let s = c.args.script.now in
    let r = c.args.report.now in
    let each : Decides c.in_ok-is_each_lawful.field-0 (Lawful s r) = c.in_ok-is_each_lawful.ensures in
    let others : Decides c.in_ok-are_no_others.field-0 (NoOthers r) = c.in_ok-are_no_others.ensures in
    let made : Decides c.in_ok-are_walks_made.field-0 (Made s r) = c.in_ok-are_walks_made.ensures in
    let told : Decides c.in_ok-is_each_told.field-0 (Told s r) = c.in_ok-is_each_told.ensures in
    let rising : Decides c.in_ok-versions_never_fall.field-0 (Rising r) = c.in_ok-versions_never_fall.ensures in
    let later : Decides c.in_ok-are_versions_later.field-0 (Later r) = c.in_ok-are_versions_later.ensures in
    all_lawful s r c.in_ok-seen.seen (each.0 c.if-not-branch.false) (others.0 c.if-not-branch-2.false) (made.0 c.if-not-branch-3.false) (told.0 c.if-not-branch-4.false)
    (rising.0 c.if-not-branch-5.false) (later.0 c.if-not-branch-6.false) c.in_ok-seen.ensures
