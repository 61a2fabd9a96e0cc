-- SPDX-License-Identifier: GPL-2.0-only
use Rattle.shr_audit_tables.proofs.Common.{◌++◌, ◌∷◌, [], ap, ◌∙◌, draw_key, wanted_move}
use Rattle.shr_audit_tables.proofs.Rows.{range_step}
use Rattle.shr_audit_tables.proofs.draws.add_numbers.Goals as goal

pub loop-number-preserved : goal.loop-number-preserved
loop-number-preserved c =
    let added = c.in_ok-push.ensures.items ∙ ap (λ k. c.loop-number.moves.items ++ wanted_move k ∷ []) c.draw_key.ensures in
    range_step (λ n. wanted_move (draw_key c.args.id n)) c.loop-number.number c.args.moves.now.items c.loop-number.moves.items c.push.new.self.items c.loop-number.invariant added
