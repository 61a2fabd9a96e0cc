-- SPDX-License-Identifier: GPL-2.0-only
use Rattle.shr_audit_charges.proofs.Workers.{commands_more, commands_all}
use Rattle.shr_audit_charges.proofs.nets.note_commands.Goals as goal

pub loop-number-preserved : goal.loop-number-preserved
loop-number-preserved c = commands_more c.args.parents.now c.args.report.now c.args.worker c.args.commands.now c.loop-number.number c.index-commands-number.result c.args.keys.now.items c.loop-number.keys.items c.note_answer.new.keys.items c.loop-number-test.true c.index-commands-number.is c.loop-number.invariant c.in_ok-note_answer.ensures

pub returns : goal.returns
returns c = commands_all c.args.parents.now c.args.report.now c.args.worker c.args.commands.now c.loop-number.number c.args.keys.now.items c.loop-number.keys.items c.loop-number-test.false c.loop-number.invariant
