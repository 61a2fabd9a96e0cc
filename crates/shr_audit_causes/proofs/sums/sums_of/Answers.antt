-- SPDX-License-Identifier: GPL-2.0-only
use Rattle.shr_audit_causes.proofs.SumsLaws.{drained_upto, run_more}
use Rattle.shr_audit_causes.proofs.sums.sums_of.Goals as goal

pub loop-k-preserved : goal.loop-k-preserved
loop-k-preserved c =
    let r = c.args.report.now in
    let ends = c.as_slice-ends.result.now in
    let k = c.loop-k.k in
    let run = c.run_end-stop.ensures in
    record {
      within = run.within;
      summed = run_more c.note_all.new.sums r ends k c.run_end-stop.result c.index-ends-k.result c.journal_at-entries.result.now run c.loop-k-test.true c.journal_at-entries.ensures
          (c.in_ok-note_all.ensures (drained_upto r ends k) c.loop-k.invariant.summed);
    }
