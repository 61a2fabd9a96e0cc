-- SPDX-License-Identifier: GPL-2.0-only
use Rattle.shr_audit_lists.proofs.BitsCommon.{length, sym, ap, ◌∙◌, eqb-true, eq-eqb}
use Rattle.shr_audit_lists.proofs.Setting.{nothing_left, not_live, live, clash}
use Rattle.shr_audit_lists.proofs.bits.is_place_set.Goals as goal

pub returns-then-is_empty : goal.returns-then-is_empty
returns-then-is_empty c = nothing_left c.args.case.now.parents.items c.args.report.now c.args.place (sym (ap length c.left.ensures) ∙ eqb-true (length c.left.result.now) 0 (sym c.is_empty.ensures ∙ c.if-is_empty.true))

pub returns : goal.returns
returns c = live c.args.case.now.parents.items c.args.report.now c.args.place c.if-place-eq0.false
    (λ none. clash c.is_empty.result (c.is_empty.ensures ∙ eq-eqb (length c.left.result.now) 0 (ap length c.left.ensures ∙ none)) c.if-is_empty.false)
    c.phase_at.result (c.phase_at.ensures c.args.report.now.pool.items c.requires.phases) c.if-phase_at-ne1.false c.is_set_at.result c.is_set_at.ensures

pub returns-then-phase_at-ne1 : goal.returns-then-phase_at-ne1
returns-then-phase_at-ne1 c = not_live c.args.case.now.parents.items c.args.report.now c.args.place c.phase_at.result (c.phase_at.ensures c.args.report.now.pool.items c.requires.phases) c.if-phase_at-ne1.true
