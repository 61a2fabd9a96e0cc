-- SPDX-License-Identifier: GPL-2.0-only
use Rattle.shr_audit_charges.proofs.Common.{◌++◌, List, ap, sym, ◌∙◌, Command, WorkerScript, commands_keys}
use Rattle.shr_audit_charges.proofs.Workers.{workers_more, workers_all}
use Rattle.shr_audit_charges.proofs.nets.note_workers.Goals as goal

pub loop-worker-preserved : goal.loop-worker-preserved
loop-worker-preserved c =
    let added = c.in_ok-note_commands.ensures ∙ ap (λ (cs : List Command). c.loop-worker.keys.items ++ commands_keys c.args.parents.now c.args.report.now c.loop-worker.worker 0 cs) c.as_slice-commands.ensures ∙ ap (λ (w : WorkerScript). c.loop-worker.keys.items ++ commands_keys c.args.parents.now c.args.report.now c.loop-worker.worker 0 w.commands.items) (sym c.index-workers-worker.is) in
    workers_more c.args.parents.now c.args.report.now c.args.workers.now c.loop-worker.worker c.index-workers-worker.result c.args.keys.now.items c.loop-worker.keys.items c.note_commands.new.keys.items c.loop-worker-test.true c.index-workers-worker.is c.loop-worker.invariant added

pub returns : goal.returns
returns c = workers_all c.args.parents.now c.args.report.now c.args.workers.now c.loop-worker.worker c.args.keys.now.items c.loop-worker.keys.items c.loop-worker-test.false c.loop-worker.invariant
