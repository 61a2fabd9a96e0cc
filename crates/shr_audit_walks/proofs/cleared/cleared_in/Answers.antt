-- SPDX-License-Identifier: GPL-2.0-only
use Rattle.shr_audit_walks.proofs.LaterCommon.{subst, ap, List, flat_map, nat_eq, list_any, WorkerPart, WalkRecord, clearings_of, Clears}
use Rattle.shr_audit_walks.proofs.Clearing.{all_cleared, clears_all, clears_more, clears_none}
use Rattle.shr_audit_walks.proofs.cleared.cleared_in.Goals as goal

pub loop-worker-init : goal.loop-worker-init
loop-worker-init c = clears_none c.new-cleared.result

pub loop-worker-preserved : goal.loop-worker-preserved
loop-worker-preserved c = clears_more (λ (part : WorkerPart). flat_map clearings_of part.walks.items) c.as_slice-parts.result.now c.new-cleared.result c.loop-worker.cleared c.note_walks.new.cleared c.loop-worker.worker c.index-parts-worker.result c.loop-worker-test.true c.loop-worker.invariant
    (subst (λ (ws : List WalkRecord). Clears c.loop-worker.cleared c.note_walks.new.cleared (flat_map clearings_of ws)) c.as_slice-walks.ensures c.in_ok-note_walks.ensures)

pub returns : goal.returns
returns c = all_cleared c.args.report.now c.as_slice-parts.result.now c.new-cleared.result c.loop-worker.cleared c.as_slice-parts.ensures (λ q. ap (list_any (nat_eq q)) c.new-cleared.ensures.empty)
    (clears_all (λ (part : WorkerPart). flat_map clearings_of part.walks.items) c.as_slice-parts.result.now c.new-cleared.result c.loop-worker.cleared c.loop-worker.cleared c.loop-worker.worker c.loop-worker-test.false c.loop-worker.invariant)
