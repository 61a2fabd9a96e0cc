-- SPDX-License-Identifier: GPL-2.0-only
use Rattle.std.proofs.Common.{◌≡◌, ◌∙◌, List, length, map, get_or, sym, ap, arith}
use Rattle.std.proofs.lemmas.List.{get_or-map, length-map}
use Rattle.std.proofs.lemmas.List.Sums.{sum_by_more}
use Rattle.shr_base.specs.declared.scripts.Command.{Command}
use Rattle.shr_base.specs.declared.scripts.WorkerScript.{WorkerScript}
use Rattle.shr_reading.proofs.joining.room_behind.Goals as goal

pub loop-worker-preserved : goal.loop-worker-preserved
loop-worker-preserved c =
    let i = c.loop-worker.worker-index in
    let ws = c.args.workers.now in
    let w = c.worker-item.result in
    let f : WorkerScript → List Command = λ v. v.commands.items in
    let lt = c.loop-worker-test.true in
    let sum = sum_by_more length (map f ws) i (f w) (omega (arith, lt, length-map ws f)) in
    let one : length (get_or (map f ws) i (f w)) ≡ length (f w) = ap length (get_or-map f ws i w (f w) lt ∙ ap f (sym c.worker-item.is)) in
    let fits = c.if-commands-left.false in
    let before = c.loop-worker.invariant in
    omega (arith, sum, one, fits, before, c.len-commands.ensures)
