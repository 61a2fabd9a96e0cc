-- SPDX-License-Identifier: GPL-2.0-only
use Rattle.shr_report.proofs.Common.{refl, prints_part, prints_all, Begin, tree_line}
use Rattle.shr_report.proofs.Numbered.{numbered_next_at, numbered_end}
use Rattle.shr_report.proofs.text.tree.Goals as goal

pub loop-i-preserved : goal.loop-i-preserved
loop-i-preserved g c = prints_part _ _ _ _ _ _ _ _ _ c.loop-i.invariant c.tree_entry.ensures (numbered_next_at tree_line c.args.entries.now c.loop-i.i c.loop-i.i _ (Begin 0) c.loop-i-test.true refl)

pub returns : goal.returns
returns g c = prints_all _ _ _ _ _ _ c.loop-i.invariant (numbered_end tree_line c.args.entries.now c.loop-i.i c.loop-i.i c.loop-i-test.false)
