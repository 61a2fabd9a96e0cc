-- SPDX-License-Identifier: GPL-2.0-only
use Rattle.shr_report.proofs.Common.{get_or, refl, prints_part, prints_all, lookups_line}
use Rattle.shr_report.proofs.Numbered.{numbered_next_at, numbered_end}
use Rattle.shr_report.proofs.text.lookups.Goals as goal

pub loop-id-preserved : goal.loop-id-preserved
loop-id-preserved g c = prints_part _ _ c.args.out.now c.loop-id.out c.put_line.new.out _ _ (lookups_line c.loop-id.id (get_or c.args.numbers.now c.loop-id.id 0)) _ c.loop-id.invariant c.put_line.ensures (numbered_next_at lookups_line c.args.numbers.now c.loop-id.id c.loop-id.id _ 0 c.loop-id-test.true refl)

pub returns : goal.returns
returns g c = prints_all _ _ _ _ _ _ c.loop-id.invariant (numbered_end lookups_line c.args.numbers.now c.loop-id.id c.loop-id.id c.loop-id-test.false)
