-- SPDX-License-Identifier: GPL-2.0-only
use Rattle.shr_run.proofs.Common.{◌≡◌, sym, subst, ◌∙◌, slice_get_within, Starting, WorkerResult, rules, get_or_from_slice_get}
use Rattle.shr_run.specs.Tasks.{HasRun}
use Rattle.shr_run.proofs.working.run_all.Goals as goal

-- each worker ran its task, by the call that was made with it
pub returns-clause-run : goal.returns-clause-run
returns-clause-run g c = λ i s w at_s at_w.
    let each = c.in_ok-map_vec.ensures.each i w (slice_get_within c.args.starts.items i s at_s) in
    let job : Starting = each.1.job in
    let call = each.1.call in
    let is_job : job ≡ s = sym (each.1.job_is s) ∙ get_or_from_slice_get c.args.starts.items i s s at_s in
    let is_result = get_or_from_slice_get c.in_ok-map_vec.field-0.items i w w at_w in
    subst (λ (x : Starting). HasRun x w) is_job (subst (λ (y : WorkerResult). HasRun job y) is_result (search (rules, call)))
