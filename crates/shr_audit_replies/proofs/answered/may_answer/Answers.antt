-- SPDX-License-Identifier: GPL-2.0-only
use Rattle.shr_laws.specs.Parts.{journals_of, parents_of, serial_of}
use Rattle.shr_audit_replies.proofs.answered.may_answer.Goals as goal

pub returns-in-None : goal.returns-in-None
returns-in-None c = rw c.in-None.is (c.may_unheld.ensures (parents_of c.args.script.now) (journals_of c.args.report.now) (serial_of c.args.worker c.args.number))
