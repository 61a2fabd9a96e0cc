-- SPDX-License-Identifier: GPL-2.0-only
use Rattle.shr_base.specs.declared.scripts.Command.{Command}
use Rattle.shr_laws.specs.Parts.{command_at, serial_of}
use Rattle.shr_audit_tables.specs.Found.{IsFindRight}
use Rattle.shr_audit_tables.proofs.found.is_find_at.Goals as goal
use Rattle.shr_audit_formed.proofs.Eachs.{at_some}

pub returns-in-Some : goal.returns-in-Some
returns-in-Some c =
    at_some (command_at c.args.script.now (serial_of c.args.worker c.args.number)) c.in-Some.command.now (λ (d : Command). IsFindRight c.args.report.now d c.args.answer.now) c.is_find_right.result c.in-Some.ensures c.is_find_right.ensures
