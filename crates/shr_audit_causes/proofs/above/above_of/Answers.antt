-- SPDX-License-Identifier: GPL-2.0-only
use Rattle.shr_audit_causes.proofs.OfflinesCommon.{◌≡◌, ◌∙◌, ◌++◌, ◌∷◌, [], ℕ, List, get_or, ap, arith, parent_of, parents_of, Cited, cited_in, Whose, Nobody, either, whose_of}
use Rattle.shr_audit_causes.proofs.AboveLaws.{upto_all, upto_more, upto_one, whose_next}
use Rattle.shr_audit_causes.proofs.PathLaws.{parent_lower}
use Rattle.shr_audit_causes.proofs.above.above_of.Goals as goal

pub loop-group-init : goal.loop-group-init
loop-group-init c = upto_one c.args.script.now c.args.report.now c.requires c.push.new.self.items (c.in_ok-push.ensures.items ∙ ap (λ (xs : List Whose). xs ++ Nobody ∷ []) c.new-above.ensures.items)

pub next_of-whose-requires : goal.next_of-whose-requires
next_of-whose-requires c =
    let parents = parents_of c.args.script.now in
    let group = c.loop-group.group in
    let at : c.parent_in-parent.result ≡ parent_of parents group = c.parent_in-parent.ensures ∙ ap (λ (ps : List ℕ). parent_of ps group) (c.as_slice.ensures.value ∙ c.in_ok-parents.ensures) in
    let low = c.loop-group.auto.group in
    let lower = parent_lower parents c.requires group (omega (arith, low)) in
    let long = c.loop-group.invariant.count in
    omega (arith, at, lower, long)

pub loop-group-preserved : goal.loop-group-preserved
loop-group-preserved c =
    let s = c.args.script.now in
    let r = c.args.report.now in
    let group = c.loop-group.group in
    let table = c.loop-group.above.items in
    let parent = c.parent_in-parent.result in
    let low = c.loop-group.auto.group in
    upto_more s r c.requires group table c.push-in-loop-group.new.self.items c.next_of-whose.result c.in_ok-push-2.ensures.items c.loop-group.invariant
    (whose_next s r c.requires c.in_ok-begun.begun.items table group parent c.next_of-whose.result c.in_ok-begun.ensures (omega (arith, low)) c.loop-group-test.true
    (c.parent_in-parent.ensures ∙ ap (λ (ps : List ℕ). parent_of ps group) (c.as_slice.ensures.value ∙ c.in_ok-parents.ensures))
    (c.next_of-whose.ensures ∙ ap (λ (begun : List Cited). either (get_or table parent Nobody) (whose_of (cited_in begun parent))) c.as_slice-in-loop-group.ensures.value)
    c.loop-group.invariant)

pub returns : goal.returns
returns c =
    let over = c.loop-group-test.false in
    let few = c.loop-group.auto.group-end in
    upto_all c.args.script.now c.args.report.now c.requires c.loop-group.group c.loop-group.above.items (omega (arith, over, few)) c.loop-group.invariant
