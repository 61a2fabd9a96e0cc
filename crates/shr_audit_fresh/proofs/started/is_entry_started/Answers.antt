-- SPDX-License-Identifier: GPL-2.0-only
use Rattle.shr_audit_fresh.proofs.Common.{ap, ◌∙◌, option_to_list, Cited, may_show}
use Rattle.shr_audit_fresh.proofs.StartedLaws.{entry_none, entry_one}
use Rattle.shr_audit_fresh.proofs.started.is_entry_started.Goals as goal

pub returns-in-Some : goal.returns-in-Some
returns-in-Some c = entry_one c.args.report.now c.args.begun.now c.args.worker c.args.command (option_to_list c.args.entry) c.may_show.result c.in-Some.group c.in-Some.ensures
    (c.may_show.ensures ∙ ap (λ (x : Cited). may_show x c.args.worker c.args.command) c.cited_at.ensures)

pub returns-in-None : goal.returns-in-None
returns-in-None c = entry_none c.args.report.now c.args.begun.now c.args.worker c.args.command (option_to_list c.args.entry) c.in-None.ensures
