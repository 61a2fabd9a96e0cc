-- SPDX-License-Identifier: GPL-2.0-only
use Rattle.shr_report.proofs.Common.{◌∷◌, [], ap, decimal, prints_both, prints_as, numeral}
use Rattle.shr_report.proofs.Numerals.{decimal_is}
use Rattle.shr_report.proofs.lines.add_number.Goals as goal

pub returns : goal.returns
returns g c =
    let n = c.args.n in
    let both = prints_both _ _ c.args.out.now c.put.new.self c.put-2.new.self (32 ∷ []) (decimal n) c.put.ensures (rw (c.as_bytes.ensures.value, c.format.ensures.text) at c.put-2.ensures) in
    prints_as _ _ c.args.out.now c.put-2.new.self (32 ∷ decimal n) (32 ∷ numeral n) both (ap (λ t. 32 ∷ t) (decimal_is n c.ranges.n.fits))
