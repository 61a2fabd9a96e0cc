-- SPDX-License-Identifier: GPL-2.0-only
use Rattle.shr_audit_causes.proofs.OfflinesCommon.{◌<◌, ◌+◌, ◌-◌, ◌^◌, ◌∙◌, ℕ, ap, length, arith, min, get_or_default}
use Rattle.shr_audit_causes.proofs.MovedLaws.{sums_more}
use Rattle.shr_audit_causes.proofs.moved.add.Goals as goal

pub returns-then-group-len-clause-added : goal.returns-then-group-len-clause-added
returns-then-group-len-clause-added c =
    let table = c.args.moved.now.items in
    let l = c.len.ensures in
    let ok = c.args.moved.now.ok.0 in
    let lt = c.if-group-len.true in
    let there : c.args.group < length table = omega (arith, l, ok, lt) in
    sums_more table c.args.group c.args.objects c.args.times c.saturating_mul-more.result c.saturating_add-sum.result there c.saturating_mul-more.ensures
    (c.saturating_add-sum.ensures ∙ ap (λ (n : ℕ). min (n + c.saturating_mul-more.result) (2 ^ 128 - 1)) (c.index.ensures ∙ get_or_default table c.args.group c.index.result.now 0 there))
