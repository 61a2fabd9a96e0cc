-- SPDX-License-Identifier: GPL-2.0-only
use Rattle.shr_laws.specs.Parts.{serial_of}
use Rattle.shr_audit_fresh.proofs.MadeLaws.{no_answer_shown, no_command_shown, shown_here}
use Rattle.shr_audit_fresh.proofs.made.made_at.Goals as goal

pub returns-in_default : goal.returns-in_default
returns-in_default c = no_command_shown c.args.script.now c.args.report.now (serial_of c.args.worker c.args.number) c.in_default.ensures

pub returns-in_default-answer_of : goal.returns-in_default-answer_of
returns-in_default-answer_of c = no_answer_shown c.args.script.now c.args.report.now (serial_of c.args.worker c.args.number) c.in-Some.command.now c.in-Some.ensures c.in_default-answer_of.ensures

pub returns : goal.returns
returns c = shown_here c.args.script.now c.args.report.now (serial_of c.args.worker c.args.number) c.in-Some.command.now c.in-Some-answer_of.answer.now c.made_shown.result c.in-Some.ensures c.in-Some-answer_of.ensures c.made_shown.ensures
