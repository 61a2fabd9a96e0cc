-- SPDX-License-Identifier: GPL-2.0-only
use Rattle.shr_audit_fresh.proofs.Common.{ℕ, Option, ap, sym, ◌∙◌, option_and_then, asks_online, is_first_before}
use Rattle.shr_audit_fresh.proofs.RefusedLaws.{asks_none, not_shown, was_shown}
use Rattle.shr_audit_fresh.proofs.refused.is_refused_at.Goals as goal

pub returns-in_default : goal.returns-in_default
returns-in_default c = asks_none c.args.script.now c.args.report.now c.args.worker c.args.number (c.in_default.ensures ∙ ap (option_and_then asks_online) c.command_of.ensures)

pub returns-then-not-is_before : goal.returns-then-not-is_before
returns-then-not-is_before c = not_shown c.args.script.now c.args.report.now c.args.worker c.args.number c.args.firsts.now c.requires c.in-Some.group (c.in-Some.ensures ∙ ap (option_and_then asks_online) c.command_of.ensures)
    (ap (λ (o : Option ℕ). is_first_before o c.args.number) (sym c.first_of.ensures) ∙ sym c.is_before.ensures ∙ c.if-not-is_before.true)

pub returns : goal.returns
returns c = was_shown c.args.script.now c.args.report.now c.args.worker c.args.number c.args.firsts.now c.requires c.in-Some.group (c.in-Some.ensures ∙ ap (option_and_then asks_online) c.command_of.ensures) c.may_be_offline_at.result
    (ap (λ (o : Option ℕ). is_first_before o c.args.number) (sym c.first_of.ensures) ∙ sym c.is_before.ensures ∙ c.if-not-is_before.false) c.may_be_offline_at.ensures
