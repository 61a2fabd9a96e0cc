-- SPDX-License-Identifier: GPL-2.0-only
use Rattle.shr_audit_sweep.proofs.Common.{List, ap, subst, sym, ◌∙◌, WorkerPart, WalkRecord}
use Rattle.shr_audit_passes.specs.Commands.{StandByCommand}
use Rattle.shr_audit_sweep.proofs.Sweeping.{swept_are, swept_stand}
use Rattle.shr_audit_sweep.proofs.walks.sweep_walks.Goals as goal

pub walks_of-requires : goal.walks_of-requires
walks_of-requires c =
    subst (λ (ws : List WalkRecord). StandByCommand ws) (sym (c.as_slice-walks.ensures ∙ ap (λ (p : WorkerPart). p.walks.items) (sym c.index-parts-worker.is)))
    (swept_stand c.args.report.now c.as_slice-parts.result.now c.args.worker c.index-parts-worker.result c.requires c.as_slice-parts.ensures c.if-worker-parts.false c.index-parts-worker.is)

pub returns : goal.returns
returns c =
    swept_are c.args.script.now c.args.report.now c.as_slice-parts.result.now c.args.worker c.count_commands.result c.index-parts-worker.result c.as_slice-walks.result.now c.walks_of.result.now c.requires c.as_slice-parts.ensures c.if-worker-parts.false
    c.index-parts-worker.is (c.as_slice-walks.ensures ∙ ap (λ (p : WorkerPart). p.walks.items) (sym c.index-parts-worker.is)) c.count_commands.ensures c.walks_of.ensures
