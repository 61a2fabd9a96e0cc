-- SPDX-License-Identifier: GPL-2.0-only
use Rattle.shr_audit_fresh.proofs.RefusedLaws.{shown_offline}
use Rattle.shr_audit_fresh.proofs.refused.offline_firsts.Goals as goal

pub returns : goal.returns
returns c = shown_offline c.args.report.now c.args.worker c.note_walks.new.firsts (c.in_ok-note_walks.ensures (c.in_ok-note_answers.ensures c.no_firsts-firsts.ensures))
