-- SPDX-License-Identifier: GPL-2.0-only
use Rattle.std.proofs.Common.{ℕ, ◌<◌, ◌≤◌, subst}
use Rattle.shr_audit_fresh.proofs.OnLaws.{no_answer, no_command, on_seen}
use Rattle.shr_audit_fresh.proofs.onset.is_on_seen_at.Goals as goal

pub returns-then-number-count_commands : goal.returns-then-number-count_commands
returns-then-number-count_commands c = no_command c.args.script.now c.args.report.now c.args.worker c.args.number (subst (λ (n : ℕ). n ≤ c.args.number) c.count_commands.ensures c.if-number-count_commands.true)

pub returns-in-Some : goal.returns-in-Some
returns-in-Some c = on_seen c.args.script.now c.args.report.now c.args.worker c.args.number c.pool_reaches.result c.args.on c.in-Some.answer.now
    (subst (λ (n : ℕ). c.args.number < n) c.count_commands.ensures c.if-number-count_commands.false) c.requires c.in-Some.ensures c.pool_reaches.ensures

pub returns-in-None : goal.returns-in-None
returns-in-None c = no_answer c.args.script.now c.args.report.now c.args.worker c.args.number c.in-None.ensures
