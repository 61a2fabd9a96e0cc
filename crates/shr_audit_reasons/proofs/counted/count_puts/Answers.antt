-- SPDX-License-Identifier: GPL-2.0-only
use Rattle.shr_audit_reasons.proofs.SpentCommon.{ℕ, ◌≤◌, List, [], ◌∷◌, ◌++◌, ap, ◌∙◌, length, take, sym, subst, refl, arith, filter, sum_by, take_more, take_all, WorkerScript, is_put, IsCapped}
use Rattle.shr_audit_reasons.proofs.counted.count_puts.Goals as goal

abbrev puts_in : WorkerScript → ℕ
puts_in w = length (filter is_put w.commands.items)

pub loop-worker-init : goal.loop-worker-init
loop-worker-init c = record { most = omega arith; same = λ few. refl }

pub loop-worker-preserved : goal.loop-worker-preserved
loop-worker-preserved c = let i = c.loop-worker.worker-index in let ws = c.as_slice-worker-items.result.now in
    subst (λ (xs : List WorkerScript). IsCapped c.add_worker-puts.result (sum_by puts_in xs)) (sym (take_more ws i c.worker-item.result c.loop-worker-test.true ∙ ap (λ (x : WorkerScript). take i ws ++ x ∷ []) (sym c.worker-item.is))) (c.add_worker-puts.ensures (take i ws) c.loop-worker.invariant)

pub returns : goal.returns
returns c = subst (λ (xs : List WorkerScript). IsCapped c.loop-worker.puts (sum_by puts_in xs)) (take_all c.loop-worker.worker-index c.args.script.now.workers.items (subst (λ (xs : List WorkerScript). length xs ≤ c.loop-worker.worker-index) c.as_slice-worker-items.ensures c.loop-worker-test.false))
    (subst (λ (xs : List WorkerScript). IsCapped c.loop-worker.puts (sum_by puts_in (take c.loop-worker.worker-index xs))) c.as_slice-worker-items.ensures c.loop-worker.invariant)
