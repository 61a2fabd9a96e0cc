-- SPDX-License-Identifier: GPL-2.0-only
use Rattle.shr_gen.proofs.Common.{◌∙◌, ◌+◌, ap, drawn_after, chosen_by, generated_command}
use Rattle.shr_gen.proofs.Making.{made_more, one_more_drawn}
use Rattle.shr_gen.proofs.generating.commands_of.Goals as goal

pub loop-number-preserved : goal.loop-number-preserved
loop-number-preserved c = let inv = c.loop-number.invariant in let n = c.loop-number.number in let start = c.args.draws.now.state in
    let drawn = one_more_drawn start n c.loop-number.draws.state c.next-drawn.new.self.state inv.drawn c.next-drawn.ensures.drawn in record {
      made = made_more (λ j. generated_command c.args.worker c.args.commands j (chosen_by (drawn_after start (j + 1)))) n _ _ _ inv.made (c.in_ok-command_at.ensures ∙ ap (generated_command c.args.worker c.args.commands n) (c.next-drawn.ensures.chosen ∙ ap chosen_by drawn)) c.in_ok-add.ensures.added;
      drawn = drawn;
    }
