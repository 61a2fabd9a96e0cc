-- SPDX-License-Identifier: GPL-2.0-only
use Rattle.shr_audit_tables.proofs.Common.{ap, subst, ◌∙◌, arith, IsPoolJournal, AreStatesOf, on_from, MatchOption-at_some}
use Rattle.shr_audit_tables.proofs.Steps.{failed}
use Rattle.shr_audit_tables.proofs.Replay.{opens_of, pool_of}
use Rattle.shr_audit_tables.proofs.lookups.lawful_pool.Goals as goal

pub returns-then-not-opens-clause-none : goal.returns-then-not-opens-clause-none
returns-then-not-opens-clause-none c =
    let on_is = c.as_slice-2.ensures.value ∙ c.in_ok-on.ensures ∙ ap (on_from 0) c.as_slice.ensures in
    λ law. failed _ c.opens.result c.opens.ensures c.if-not-opens.true (opens_of c.args.script.now c.args.report.now c.as_slice-2.result.now c.as_slice-pool.result.now c.as_slice-pool.ensures on_is law)

pub returns-clause-some : goal.returns-clause-some
returns-clause-some c =
    let s = c.args.script.now in
    let pool = c.as_slice-pool.result.now in
    let xs = c.in-Some.states.items in
    let on_is = c.as_slice-2.ensures.value ∙ c.in_ok-on.ensures ∙ ap (on_from 0) c.as_slice.ensures in
    let said = MatchOption-at_some _ _ c.in-Some.states c.in-Some.is c.in_ok-states.ensures.some in
    let legal = subst (λ decls. IsPoolJournal s.ids decls pool × AreStatesOf s.ids pool xs) c.len-2.ensures said in
    let l = c.len.ensures in
    let same = c.if-len-script.false in
    pool_of s c.args.report.now c.as_slice-2.result.now pool xs c.as_slice-4.result.now c.as_slice-3.result.now c.as_slice-pool.ensures c.as_slice-4.ensures c.as_slice-3.ensures.value on_is (omega (arith, l, same)) (c.opens.ensures.0 c.if-not-opens.false) legal (c.are_last_reached.ensures.0 c.if-not-are_last_reached.false)
