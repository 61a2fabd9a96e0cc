-- SPDX-License-Identifier: GPL-2.0-only
use Rattle.shr_audit_formed.proofs.Common.{ℕ, ◌+◌, ◌++◌, List, [], ◌∷◌, sym, ap, subst, ◌∙◌, arith, range_with_len, Where, at_unit, wheres, IsNotStripped}
use Rattle.shr_audit_formed.proofs.Strip.{met, not_met, singles}
use Rattle.shr_audit_formed.proofs.maps.strip_units.Goals as goal

pub returns-in_default-clause-none : goal.returns-in_default-clause-none
returns-in_default-clause-none c =
    let f : ℕ → Where = λ unit. at_unit c.args.node c.args.group unit in
    subst (λ (ps : List Where). IsNotStripped ps (wheres c.args.maps.now)) (singles f (range_with_len 0 c.args.units))
    (not_met (λ unit. f unit ∷ []) 0 c.args.units c.loop-unit.unit c.loop-unit.unit (wheres c.args.maps.now) (wheres c.loop-unit.rest.now) (omega arith) c.loop-unit-test.true
    (c.loop-unit.invariant ∙ ap (λ (ps : List Where). ps ++ wheres c.loop-unit.rest.now) (sym (singles f (range_with_len 0 c.loop-unit.unit)))) c.in_default.ensures.none)

pub loop-unit-preserved : goal.loop-unit-preserved
loop-unit-preserved c =
    let f : ℕ → Where = λ unit. at_unit c.args.node c.args.group unit in
    met (λ unit. f unit ∷ []) 0 c.loop-unit.unit c.loop-unit.unit (wheres c.args.maps.now) (wheres c.loop-unit.rest.now) (wheres c.in-Some.more.now) (omega arith)
    (c.loop-unit.invariant ∙ ap (λ (ps : List Where). ps ++ wheres c.loop-unit.rest.now) (sym (singles f (range_with_len 0 c.loop-unit.unit)))) c.in-Some.ensures.some
    ∙ ap (λ (ps : List Where). ps ++ wheres c.in-Some.more.now) (singles f (range_with_len 0 (c.loop-unit.unit + 1)))
