-- SPDX-License-Identifier: GPL-2.0-only
use Rattle.shr_audit_fresh.proofs.Common.{ℕ, List, refl, ap, subst, ◌∙◌, Decides, WalkRecord, walk_cited, IsEntryStarted}
use Rattle.shr_audit_fresh.proofs.started.is_walk_started.Goals as goal

pub returns-then-by-worker : goal.returns-then-by-worker
returns-then-by-worker c = let other = rw (ap (λ (w : WalkRecord). w.by.worker) c.walk.view_is) at c.if-by-worker.true in (λ t mine. absurd (other mine), λ h. refl)

pub returns : goal.returns
returns c =
    let w = c.args.walk.now in
    let mine = rw (ap (λ (w : WalkRecord). w.by.worker) c.walk.view_is) at c.if-by-worker.false in
    let told = rw (ap (λ (w : WalkRecord). w.by.command) c.walk.view_is) at c.is_entry_started.ensures in
    let d : Decides c.is_entry_started.result (IsEntryStarted c.args.report.now c.args.begun.now c.args.worker w.by.command (walk_cited w.answer)) = subst (λ (ns : List ℕ). Decides c.is_entry_started.result (IsEntryStarted c.args.report.now c.args.begun.now c.args.worker w.by.command ns)) (c.walk_cited-cited.ensures ∙ ap walk_cited c.answer.ensures) told in
    (λ t mine'. d.0 t, λ h. d.1 (h mine))
