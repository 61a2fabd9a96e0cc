-- SPDX-License-Identifier: GPL-2.0-only
use Rattle.std.proofs.Common.{arith}
use Rattle.shr_audit_case.proofs.Noting.{noted_next, noted_start}
use Rattle.shr_audit_case.proofs.met.spans_of.Goals as goal

pub loop-left-init : goal.loop-left-init
loop-left-init c = record { within = omega arith; noted = noted_start c.args.pool.now c.new-spans.result.items c.new-ends.result c.new-spans.ensures.items c.new-ends.ensures.empty }

pub loop-left-preserved : goal.loop-left-preserved
loop-left-preserved c =
    let t = c.loop-left-test.true in
    let w = c.loop-left.invariant.within in
    record {
      within = omega (arith, w);
      noted = noted_next c.args.pool.now c.loop-left.left _ c.loop-left.spans.items c.note_entry.new.spans.items c.loop-left.ends c.note_entry.new.ends t w c.loop-left.invariant.noted c.in_ok-note_entry.ensures;
    }
