-- SPDX-License-Identifier: GPL-2.0-only
use Rattle.shr_audit_charges.proofs.Common.{ap, ◌∙◌, [], ◌∷◌, ◌++◌, Move, unit, map_end}
use Rattle.shr_audit_charges.proofs.balance.note_units.Goals as goal
use Rattle.shr_model.proofs.Lists.{map_step}

pub loop-key-preserved : goal.loop-key-preserved
loop-key-preserved c = map_step (unit c.args.up) c.args.keys.now c.loop-key.key-index _ c.args.moves.now.items c.loop-key.moves.items c.push.new.self.items c.loop-key-test.true c.loop-key.invariant (c.in_ok-push.ensures.items ∙ ap (λ (m : Move). c.loop-key.moves.items ++ m ∷ []) c.unit.ensures)

pub returns : goal.returns
returns c = map_end (unit c.args.up) c.args.keys.now c.loop-key.key-index c.args.moves.now.items c.loop-key.moves.items c.loop-key-test.false c.loop-key.invariant
