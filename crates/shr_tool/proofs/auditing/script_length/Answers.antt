-- SPDX-License-Identifier: GPL-2.0-only
use Rattle.std.proofs.Common.{◌≡◌, ◌∙◌, ◌+◌, codes, sym, subst, arith}
use lib.Pointwise.{bytes_decides}
use Rattle.shr_tool.proofs.Splits.{IsReading, between, split_at_end, past_line, same_line, none_read}
use Rattle.shr_tool.proofs.auditing.script_length.Goals as goal
use Rattle.shr_tool.proofs.auditing.script_length.Goals.{then-byte-eq10+else-eq, else-byte-eq10}

pub loop-at-init : goal.loop-at-init
loop-at-init c = none_read c.args.bytes.now

pub returns-then-eq-clause-split : goal.returns-then-eq-clause-split
returns-then-eq-clause-split c =
    let line : between c.args.bytes.now c.loop-at.start c.loop-at.at ≡ codes "end" = (bytes_decides _ c.as_slice.result.now).0 (sym c.eq.ensures ∙ c.if-eq.true) ∙ c.as_slice.ensures in
    split_at_end c.args.bytes.now c.loop-at.start c.loop-at.at c.loop-at.invariant (omega arith) c.if-byte-eq10.true line

pub loop-at-preserved : goal.loop-at-preserved
loop-at-preserved c =
    let bytes = c.args.bytes.now in
    let at = c.loop-at.at in
    let from = c.loop-at.start in
    elim c.if-byte-eq10.branch [
      | then-byte-eq10+else-eq w ↦ subst (λ start. IsReading bytes start (at + 1)) (sym w.start-is) (past_line bytes from at c.loop-at.invariant c.loop-at-test.true w.if-byte-eq10.true
          (λ e. let yes = (bytes_decides _ w.as_slice.result.now).1 (e ∙ sym w.as_slice.ensures) in let no = w.if-eq.false in let is = w.eq.ensures in cc))
      | else-byte-eq10 w ↦ subst (λ start. IsReading bytes start (at + 1)) (sym w.start-is) (same_line bytes from at c.loop-at.invariant c.loop-at-test.true w.if-byte-eq10.false)
    ]
