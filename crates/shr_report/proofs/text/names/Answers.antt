-- SPDX-License-Identifier: GPL-2.0-only
use Rattle.shr_report.proofs.Common.{refl, ◌∷◌, [], prints_part, prints_all, line, numeral}
use Rattle.shr_report.proofs.Numbered.{numbered_next, numbered_end}
use Rattle.shr_report.proofs.text.names.Goals as goal

pub loop-i-preserved : goal.loop-i-preserved
loop-i-preserved g c =
    prints_part _ _ _ _ _ _ _ _ _ c.loop-i.invariant (rw c.bytes.ensures at c.put_line.ensures) (numbered_next (λ n name. line c.args.first.now (numeral n ∷ name ∷ [])) c.args.names.now c.loop-i.i c.loop-i.i _ c.index-names-i.result c.loop-i-test.true c.index-names-i.is refl)

pub returns : goal.returns
returns g c = prints_all _ _ _ _ _ _ c.loop-i.invariant (numbered_end (λ n name. line c.args.first.now (numeral n ∷ name ∷ [])) c.args.names.now c.loop-i.i c.loop-i.i c.loop-i-test.false)
