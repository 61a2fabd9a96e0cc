-- SPDX-License-Identifier: GPL-2.0-only
use Rattle.shr_audit_walks.proofs.RoundsCommon.{◌<◌, ℕ, Bool, List, length, refl, subst, Decides, AllByRecursion, IsAtOrAbove, is_whole, over_of, refused_groups, FitsRounds, jobs_made}
use Rattle.shr_audit_walks.proofs.Due.{above_put, due_found, due_so, groups_there, none_put, put_decided}
use Rattle.shr_audit_walks.proofs.puts.is_put_made.Goals as goal

pub returns-then-not-leave_rounds : goal.returns-then-not-leave_rounds
returns-then-not-leave_rounds c =
    none_put c.args.dues.now.subtrees.parents.items c.args.dues.now.nodes c.args.group (over_of c.args.reply.now) (is_whole c.args.reply.now) (refused_groups c.args.refusals.now) (jobs_made c.args.walks.now) c.over_of.result c.in_ok-groups.groups.items c.over_of.ensures c.in_ok-groups.ensures (c.if-not-leave_rounds.ensures.none refl)

pub returns-then-not-are_above : goal.returns-then-not-are_above
returns-then-not-are_above c =
    let parents = c.args.dues.now.subtrees.parents.items in
    let group = c.args.group in
    let new = c.leave_rounds.new.groups.items in
    let refused = refused_groups c.args.refusals.now in
    let over = over_of c.args.reply.now in
    let due = due_found over c.over_of.result refused c.in_ok-groups.groups.items new c.over_of.ensures c.in_ok-groups.ensures (c.if-not-leave_rounds.ensures.due refl) in
    let b = c.are_above.result in
    let d : Decides b (AllByRecursion (λ (h : ℕ). IsAtOrAbove parents h group) new) =
    subst (λ (ps : List ℕ). Decides b (AllByRecursion (λ (h : ℕ). IsAtOrAbove ps h group) new)) c.as_slice.ensures.value
    (subst (λ (gs : List ℕ). Decides b (AllByRecursion (λ (h : ℕ). IsAtOrAbove c.as_slice.result.now h group) gs)) c.as_slice-2.ensures.value c.are_above.ensures) in
    above_put parents c.args.dues.now.nodes group over (is_whole c.args.reply.now) refused (jobs_made c.args.walks.now) new due b d c.if-not-are_above.true

pub are_rounds-made-requires-clause-there : goal.are_rounds-made-requires-clause-there
are_rounds-made-requires-clause-there c =
    let n = length c.args.dues.now.subtrees.parents.items in
    let new = c.leave_rounds.new.groups.items in
    let refused = refused_groups c.args.refusals.now in
    let over = over_of c.args.reply.now in
    let due = due_found over c.over_of.result refused c.in_ok-groups.groups.items new c.over_of.ensures c.in_ok-groups.ensures (c.if-not-leave_rounds.ensures.due refl) in
    due_so (λ (g : ℕ). g < n) over refused new due (groups_there n c.args.refusals.now c.requires.there)

pub returns : goal.returns
returns c =
    let parents = c.args.dues.now.subtrees.parents.items in
    let group = c.args.group in
    let new = c.leave_rounds.new.groups.items in
    let refused = refused_groups c.args.refusals.now in
    let over = over_of c.args.reply.now in
    let whole = is_whole c.args.reply.now in
    let walks = jobs_made c.args.walks.now in
    let due = due_found over c.over_of.result refused c.in_ok-groups.groups.items new c.over_of.ensures c.in_ok-groups.ensures (c.if-not-leave_rounds.ensures.due refl) in
    let b = c.are_above.result in
    let d : Decides b (AllByRecursion (λ (h : ℕ). IsAtOrAbove parents h group) new) =
    subst (λ (ps : List ℕ). Decides b (AllByRecursion (λ (h : ℕ). IsAtOrAbove ps h group) new)) c.as_slice.ensures.value
    (subst (λ (gs : List ℕ). Decides b (AllByRecursion (λ (h : ℕ). IsAtOrAbove c.as_slice.result.now h group) gs)) c.as_slice-2.ensures.value c.are_above.ensures) in
    let fits : Decides c.are_rounds-made.result (FitsRounds parents c.args.dues.now.nodes whole 12 new walks) =
    subst (λ (w : Bool). Decides c.are_rounds-made.result (FitsRounds parents c.args.dues.now.nodes w 12 new walks)) c.is_whole.ensures c.are_rounds-made.ensures in
    put_decided parents c.args.dues.now.nodes group over whole refused walks new due c.are_rounds-made.result (d.0 c.if-not-are_above.false) fits
