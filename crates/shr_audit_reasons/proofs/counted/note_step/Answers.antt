-- SPDX-License-Identifier: GPL-2.0-only
use Rattle.shr_audit_reasons.proofs.SpentCommon.{ℕ, sym, ◌∙◌, subst, arith, IsCapped, get_or_default}
use Rattle.shr_audit_reasons.proofs.Counting.{no_part, one_noted, other_kind}
use Rattle.shr_audit_reasons.proofs.counted.note_step.Goals as goal

pub returns-then-not-is_of_kind-clause-noted : goal.returns-then-not-is_of_kind-clause-noted
returns-then-not-is_of_kind-clause-noted c = other_kind c.args.kind c.args.step c.args.counts.now.items (sym c.is_of_kind.ensures ∙ c.if-not-is_of_kind.true)

pub returns-then-worker-len-clause-noted : goal.returns-then-worker-len-clause-noted
returns-then-worker-len-clause-noted c = one_noted c.args.kind c.args.step c.args.counts.now.items c.one_more-more.result (let l = c.len.ensures in let ok = c.args.counts.now.ok.0 in let lt = c.if-worker-len.true in omega (arith, l, ok, lt)) (sym c.is_of_kind.ensures ∙ c.if-not-is_of_kind.false)
    (λ count h. c.one_more-more.ensures count (subst (λ (n : ℕ). IsCapped n count) (sym (c.index.ensures ∙ get_or_default c.args.counts.now.items c.args.step.by.worker c.index.result.now 0 (let l = c.len.ensures in let ok = c.args.counts.now.ok.0 in let lt = c.if-worker-len.true in omega (arith, l, ok, lt)))) h))

pub returns-else-worker-len-clause-noted : goal.returns-else-worker-len-clause-noted
returns-else-worker-len-clause-noted c = no_part c.args.kind c.args.step c.args.counts.now.items (let l = c.len.ensures in let ok = c.args.counts.now.ok.0 in let le = c.if-worker-len.false in omega (arith, l, ok, le))
