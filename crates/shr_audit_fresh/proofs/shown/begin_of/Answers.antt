-- SPDX-License-Identifier: GPL-2.0-only
use Rattle.std.proofs.Common.{sym, ◌∙◌}
use Rattle.shr_audit_fresh.proofs.FirstLaws.{begin_none, begin_shown}
use Rattle.shr_audit_fresh.proofs.shown.begin_of.Goals as goal

pub returns-in-Some : goal.returns-in-Some
returns-in-Some c = λ g. c.begun.ensures g ∙ sym (begin_shown c.args.report.now g c.args.n c.in-Some.entry.now c.in-Some.ensures)

pub returns-in-None : goal.returns-in-None
returns-in-None c = λ g. sym (begin_none c.args.report.now g c.args.n c.in-None.ensures)
