-- SPDX-License-Identifier: GPL-2.0-only
use Rattle.shr_audit_walks.proofs.ScansCommon.{ℕ, [], List, ◌++◌, ap, sym, ◌∙◌, flat_map, enumerate_from, WorkerPart, WalkRecord, keys_of_part}
use Rattle.shr_audit_walks.proofs.Added.{numbered_all, numbered_more}
use Rattle.shr_audit_walks.proofs.passes.keys_of.Goals as goal

pub loop-worker-preserved : goal.loop-worker-preserved
loop-worker-preserved c =
    numbered_more (λ (x : ℕ × WorkerPart). keys_of_part x.0 x.1.walks.items) c.as_slice-parts.result.now c.loop-worker.worker c.index-parts-worker.result [] c.loop-worker.keys.items c.note_part.new.keys.items c.loop-worker-test.true c.index-parts-worker.is c.loop-worker.invariant
    (c.in_ok-note_part.ensures ∙ ap (λ (ws : List WalkRecord). c.loop-worker.keys.items ++ keys_of_part c.loop-worker.worker ws) (c.as_slice.ensures ∙ ap (λ (part : WorkerPart). part.walks.items) (sym c.index-parts-worker.is)))

pub returns : goal.returns
returns c =
    numbered_all (λ (x : ℕ × WorkerPart). keys_of_part x.0 x.1.walks.items) c.as_slice-parts.result.now c.loop-worker.worker [] c.loop-worker.keys.items c.loop-worker-test.false c.loop-worker.invariant
    ∙ ap (λ (xs : List WorkerPart). flat_map (λ (x : ℕ × WorkerPart). keys_of_part x.0 x.1.walks.items) (enumerate_from 0 xs)) c.as_slice-parts.ensures
