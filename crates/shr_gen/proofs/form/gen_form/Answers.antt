-- SPDX-License-Identifier: GPL-2.0-only
use Rattle.shr_gen.proofs.Reading.{no_commands, no_sizes}
use Rattle.shr_gen.proofs.form.gen_form.Goals as goal

pub returns-in_err-commands : goal.returns-in_err-commands
returns-in_err-commands c = rw c.from_residual-in_err-commands.ensures (no_commands c.args.seed.now c.args.workers.now c.args.commands.now c.in_err-commands.ensures)

pub returns-then-not-may_be_made : goal.returns-then-not-may_be_made
returns-then-not-may_be_made c = no_sizes c.args.seed.now c.args.workers.now c.args.commands.now c.in_ok-workers.workers c.in_ok-commands.commands c.in_ok-workers.ensures c.in_ok-commands.ensures
    (λ may. let yes = c.may_be_made.ensures.1 may in let no = c.if-not-may_be_made.true in cc)
