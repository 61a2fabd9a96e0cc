-- SPDX-License-Identifier: GPL-2.0-only
use Rattle.shr_audit_fresh.proofs.Common.{sym, ◌∙◌, tree_seen, serial_of}
use Rattle.shr_audit_fresh.proofs.Answering.{of_answered, of_none}
use Rattle.shr_audit_fresh.proofs.told.tree_seen.Goals as goal

pub returns-in-Some : goal.returns-in-Some
returns-in-Some c = c.tree_told.ensures ∙ sym (of_answered c.args.report.now (serial_of c.args.worker c.args.number) tree_seen c.in-Some.answer.now c.in-Some.ensures)

pub returns-in-None : goal.returns-in-None
returns-in-None c = sym (of_none c.args.report.now (serial_of c.args.worker c.args.number) tree_seen c.in-None.ensures)
