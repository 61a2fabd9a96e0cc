-- SPDX-License-Identifier: GPL-2.0-only
use Rattle.shr_audit_tables.proofs.Common.{drawn_move, map_end}
use Rattle.shr_audit_tables.proofs.draws.add_drawn.Goals as goal
use Rattle.shr_model.proofs.Lists.{map_step}

pub loop-key-preserved : goal.loop-key-preserved
loop-key-preserved c = map_step drawn_move c.args.keys.now c.loop-key.key-index _ c.args.moves.now.items c.loop-key.moves.items c.push.new.self.items c.loop-key-test.true c.loop-key.invariant c.in_ok-push.ensures.items

pub returns : goal.returns
returns c = map_end drawn_move c.args.keys.now c.loop-key.key-index c.args.moves.now.items c.loop-key.moves.items c.loop-key-test.false c.loop-key.invariant
