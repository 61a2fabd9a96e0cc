-- SPDX-License-Identifier: GPL-2.0-only
use Rattle.std.proofs.Common.{sym, ◌∙◌}
use Rattle.shr_audit_fresh.proofs.FirstLaws.{offline_none, offline_shown}
use Rattle.shr_audit_fresh.proofs.shown.offline_of.Goals as goal

pub returns-in-Some : goal.returns-in-Some
returns-in-Some c = λ g. c.ended.ensures g ∙ sym (offline_shown c.args.report.now g c.args.n c.in-Some.entry.now c.in-Some.ensures)

pub returns-in-None : goal.returns-in-None
returns-in-None c = λ g. sym (offline_none c.args.report.now g c.args.n c.in-None.ensures)
