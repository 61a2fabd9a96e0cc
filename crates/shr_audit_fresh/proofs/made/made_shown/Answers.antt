-- SPDX-License-Identifier: GPL-2.0-only
use Rattle.std.proofs.Common.{◌∙◌}
use Rattle.shr_audit_fresh.proofs.MadeLaws.{found_shown, made_group}
use Rattle.shr_audit_fresh.proofs.made.made_shown.Goals as goal

pub returns-in-Some : goal.returns-in-Some
returns-in-Some c = c.made_now.ensures ∙ made_group c.args.command.now c.args.reply.now c.in-Some.group c.in-Some.ensures

pub returns-in-None : goal.returns-in-None
returns-in-None c = c.found_made.ensures ∙ found_shown c.args.command.now c.args.reply.now c.in-None.ensures
