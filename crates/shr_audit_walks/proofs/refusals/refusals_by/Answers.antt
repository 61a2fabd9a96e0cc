-- SPDX-License-Identifier: GPL-2.0-only
use Rattle.shr_audit_walks.proofs.RoundsCommon.{ℕ, ap, ◌∙◌, arith, Refusal, refusals_with}
use Rattle.shr_audit_passes.proofs.Ranged.{range_filter, none_filter}
use Rattle.shr_audit_walks.proofs.refusals.refusals_by.Goals as goal

pub returns-then-low-high : goal.returns-then-low-high
returns-then-low-high c =
    range_filter (λ (x : Refusal). x.key) c.serial_key-key.result c.args.refusals.now c.first_of-low.result c.behind_of-high.result (omega arith) c.behind_of-high.ensures.within
    c.first_of-low.ensures.before c.first_of-low.ensures.behind c.behind_of-high.ensures.before c.behind_of-high.ensures.behind
    ∙ ap (λ (key : ℕ). refusals_with key c.args.refusals.now) c.serial_key-key.ensures.key

pub returns-else-low-high : goal.returns-else-low-high
returns-else-low-high c =
    none_filter (λ (x : Refusal). x.key) c.serial_key-key.result c.args.refusals.now c.first_of-low.result c.first_of-low.ensures.within
    c.first_of-low.ensures.before (λ n x le e. c.behind_of-high.ensures.behind n x (omega arith) e)
    ∙ ap (λ (key : ℕ). refusals_with key c.args.refusals.now) c.serial_key-key.ensures.key
