-- SPDX-License-Identifier: GPL-2.0-only
use Rattle.shr_audit_fresh.proofs.Common.{ap, ◌∙◌, WalkRecord, walk_cited}
use Rattle.shr_audit_fresh.proofs.RefusedLaws.{other_walk, own_walk}
use Rattle.shr_audit_fresh.proofs.refused.note_walk.Goals as goal

pub returns-then-by-worker : goal.returns-then-by-worker
returns-then-by-worker c = λ before. other_walk c.args.report.now c.args.worker before c.args.walk.now c.args.firsts.now (rw (ap (λ (w : WalkRecord). w.by.worker) c.walk.view_is) at c.if-by-worker.true)

pub returns : goal.returns
returns c = λ before. own_walk c.args.report.now c.args.worker before c.args.walk.now c.offline_at-group.result c.walk_cited.result c.args.firsts.now c.note.new.firsts
    (rw (ap (λ (w : WalkRecord). w.by.worker) c.walk.view_is) at c.if-by-worker.false) c.offline_at-group.ensures (c.walk_cited.ensures ∙ ap walk_cited c.answer.ensures) (rw (ap (λ (w : WalkRecord). w.by.command) c.walk.view_is) at c.in_ok-note.ensures)
