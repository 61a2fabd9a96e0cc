-- SPDX-License-Identifier: GPL-2.0-only
use Rattle.shr_audit_causes.proofs.UnregistersCommon.{◌+◌, ◌*◌, take, sum_by, Serial, drained_by}
use Rattle.shr_audit_causes.proofs.SumsLaws.{entries_more}
use Rattle.shr_audit_causes.proofs.sums.note_all.Goals as goal

pub loop-entry-preserved : goal.loop-entry-preserved
loop-entry-preserved c = λ total h.
    let es = c.args.entries.now in
    let i = c.loop-entry.entry-index in
    let times = c.args.times in
    entries_more c.note.new.sums es i c.entry-item.result times total c.loop-entry-test.true c.entry-item.is
    (c.in_ok-note.ensures (λ (x : Serial). total x + times * sum_by (drained_by x) (take i es)) (c.loop-entry.invariant total h))
