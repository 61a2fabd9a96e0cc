-- SPDX-License-Identifier: GPL-2.0-only
use Rattle.shr_run.proofs.Common.{◌≡◌, sym, subst, ◌∙◌, slice_get_within, Helped, Helping, HasHelpedOut, rules, get_or_from_slice_get}
use Rattle.shr_run.proofs.sweeping.help_all.Goals as goal

-- each helper helped out, by the call that was made with it
pub returns-clause-helped : goal.returns-clause-helped
returns-clause-helped g c = λ i h k at_h at_k.
    let each = c.in_ok-map_vec.ensures.each i k (slice_get_within c.args.helpers.items i h at_h) in
    let job : Helping = each.1.job in
    let call = each.1.call in
    let is_job : job ≡ h = sym (each.1.job_is h) ∙ get_or_from_slice_get c.args.helpers.items i h h at_h in
    let is_result = get_or_from_slice_get c.in_ok-map_vec.field-0.items i k k at_k in
    subst (λ (x : Helping). HasHelpedOut c.args.queue.now c.args.sweep x k) is_job
    (subst (λ (y : Helped). HasHelpedOut c.args.queue.now c.args.sweep job y) is_result (search (rules, call)))
