-- SPDX-License-Identifier: GPL-2.0-only
use Rattle.std.proofs.Common.{◌+◌}
use Rattle.shr_audit_sweep.proofs.Marking.{once_walked, parents_count, whole_walked}
use Rattle.shr_audit_sweep.proofs.marks.are_walked.Goals as goal

pub returns-then-not-whole : goal.returns-then-not-whole
returns-then-not-whole c = once_walked c.args.script.now c.args.report.now c.args.whole c.mark_all.result c.if-not-whole.true c.mark_all.ensures.once c.if-not-mark_all.false

pub returns : goal.returns
returns c =
    whole_walked c.args.script.now c.args.report.now c.args.whole (c.len-groups.result + 1) c.mark_all.new.marks.items c.as_slice.result.now c.are_marked-marked.result c.if-not-whole.false
    (parents_count c.args.script.now c.len-groups.result c.len-groups.ensures) c.as_slice.ensures.value (c.mark_all.ensures.marked c.if-not-mark_all.false) c.are_marked-marked.ensures
