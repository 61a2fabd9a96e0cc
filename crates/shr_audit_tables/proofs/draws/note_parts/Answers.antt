-- SPDX-License-Identifier: GPL-2.0-only
use Rattle.shr_audit_tables.proofs.Common.{part_draws, flat_all}
use Rattle.shr_audit_tables.proofs.draws.note_parts.Goals as goal
use Rattle.shr_model.proofs.Lists.{flat_more}

pub loop-part-preserved : goal.loop-part-preserved
loop-part-preserved c = flat_more part_draws c.args.parts.now c.loop-part.part-index c.part-item.result c.args.keys.now.items c.loop-part.keys.items c.note_part.new.keys.items c.loop-part-test.true c.part-item.is c.loop-part.invariant c.in_ok-note_part.ensures

pub returns : goal.returns
returns c = flat_all part_draws c.args.parts.now c.loop-part.part-index c.args.keys.now.items c.loop-part.keys.items c.loop-part-test.false c.loop-part.invariant
