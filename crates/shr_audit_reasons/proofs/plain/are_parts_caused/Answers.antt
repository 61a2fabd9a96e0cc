-- SPDX-License-Identifier: GPL-2.0-only
use Rattle.shr_audit_reasons.proofs.SpentCommon.{◌≡◌, ℕ, List, Some, slice_get, length, refl, subst, Decides, slice_get_read, WorkerPart, Script, PlainTry, PlainWalk, EachItem, each_all, each_more, fails, Report, IsTryCaused}
use Rattle.shr_audit_reasons.proofs.plain.are_parts_caused.Goals as goal

abbrev walks : Script → Report → List PlainWalk → Type 0
walks s r ws = EachItem (λ w. (pool : ℕ) (x : PlainTry) → slice_get w.tries.items pool ≡ Some x → IsTryCaused s r w.node pool x) ws

abbrev part : Script → Report → WorkerPart → Type 0
part s r p = walks s r p.plain.items

pub returns-then-not-are_walks_caused : goal.returns-then-not-are_walks_caused
returns-then-not-are_walks_caused c =
    let s = c.args.script.now in
    let r = c.args.report.now in
    let ps = c.args.parts.now in
    let p = c.part-item.result in
    let b = c.are_walks_caused.result in
    let here : Decides b (part s r p) = subst (λ (ws : List PlainWalk). Decides b (walks s r ws)) c.as_slice.ensures c.are_walks_caused.ensures in
    fails (part s r p) (EachItem (part s r) ps) b here c.if-not-are_walks_caused.true (λ all. all c.loop-part.part-index p (slice_get_read ps (length ps) c.loop-part.part-index p refl c.loop-part-test.true c.part-item.is))

pub loop-part-preserved : goal.loop-part-preserved
loop-part-preserved c =
    let s = c.args.script.now in
    let r = c.args.report.now in
    let b = c.are_walks_caused.result in
    let here : Decides b (part s r c.part-item.result) = subst (λ (ws : List PlainWalk). Decides b (walks s r ws)) c.as_slice.ensures c.are_walks_caused.ensures in
    each_more (part s r) c.args.parts.now c.loop-part.part-index c.part-item.result c.loop-part-test.true c.part-item.is c.loop-part.invariant (here.0 c.if-not-are_walks_caused.false)

pub returns : goal.returns
returns c = each_all (part c.args.script.now c.args.report.now) c.args.parts.now c.loop-part.part-index c.loop-part-test.false c.loop-part.invariant
