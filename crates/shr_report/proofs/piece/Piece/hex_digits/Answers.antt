-- SPDX-License-Identifier: GPL-2.0-only
use Rattle.shr_report.proofs.Common.{sym, ap, ◌∙◌, ◌++◌, ◌-◌, ◌/◌, arith, codes, hex_digits}
use Rattle.shr_report.proofs.HexLaws.{hex_next, hex_done, hex_low}
use Rattle.shr_report.proofs.piece.Piece.hex_digits.Goals as goal

pub returns-then-n-lt16-clause-text : goal.returns-then-n-lt16-clause-text
returns-then-n-lt16-clause-text c =
    c.exactly.ensures.text
    ∙ ap (λ t. codes "000000000000000" ++ t) c.byte-start.ensures.text
    ∙ hex_low c.args.n c.hex_digit_of.result _ c.if-n-lt16.true c.hex_digit_of.ensures

pub loop-digits-preserved : goal.loop-digits-preserved
loop-digits-preserved c =
    let n = c.loop-digits.left in
    let digits = c.loop-digits.digits in
    record {
      within = omega arith;
      start = omega arith;
      text = ap (λ t. hex_digits (digits - 1) (n / 16) ++ t) c.byte-start-in-loop-digits.ensures.text
          ∙ hex_next digits n c.hex_digit_of-in-loop-digits.result _ c.loop-digits-test.true c.hex_digit_of-in-loop-digits.ensures
          ∙ c.loop-digits.invariant.text;
    }

pub returns-clause-text : goal.returns-clause-text
returns-clause-text c = sym (hex_done c.loop-digits.digits c.loop-digits.left _ c.loop-digits-test.false) ∙ c.loop-digits.invariant.text
