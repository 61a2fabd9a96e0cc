-- SPDX-License-Identifier: GPL-2.0-only
use Rattle.shr_laws.specs.Parts.{serial_of}
use Rattle.shr_audit_fresh.proofs.MadeLaws.{says_none, says_so}
use Rattle.shr_audit_fresh.proofs.made.unmade_at.Goals as goal

pub returns-in-Some : goal.returns-in-Some
returns-in-Some c = says_so c.args.report.now (serial_of c.args.worker c.args.number) c.in-Some.answer.now c.unmade.result c.in-Some.ensures c.unmade.ensures

pub returns-in-None : goal.returns-in-None
returns-in-None c = says_none c.args.report.now (serial_of c.args.worker c.args.number) c.in-None.ensures
