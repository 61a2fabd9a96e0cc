-- SPDX-License-Identifier: GPL-2.0-only
use Rattle.std.proofs.Common.{◌-◌, length, arith}
use Rattle.shr_print.proofs.Cutting.{risen}
use Rattle.shr_print.proofs.parts.print_turn.Goals as goal

pub put_parts-requires-clause-parts : goal.put_parts-requires-clause-parts
put_parts-requires-clause-parts g c = rw c.as_slice.ensures.value c.in-Ok.ensures.parts

pub print-requires : goal.print-requires
print-requires g c =
    let cuts = c.args.cuts.now in
    let some = c.requires.some in
    (risen cuts _ 0 (length cuts - 1) c.requires (omega arith) (omega (arith, some)), c.requires.within (length cuts - 1) (omega (arith, some)))
