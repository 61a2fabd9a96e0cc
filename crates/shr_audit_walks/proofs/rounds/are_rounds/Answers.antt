-- SPDX-License-Identifier: GPL-2.0-only
use Rattle.shr_audit_walks.proofs.RoundsCommon.{◌≡◌, ℕ, Bool, true, false, refl, Vec, length, ap, subst, ◌∙◌, arith, Global, ◌==◌, ◌||◌, not, Decides, FitsRounds, WalkRecord, jobs_made, vec_len}
use Rattle.shr_audit_walks.proofs.Fitting.{all_rounds, group_fails, group_there, nothing_left, round_fails, round_more, some_left, still_there}
use Rattle.shr_audit_walks.proofs.rounds.are_rounds.Goals as goal

long_as : (v : Vec ℕ Global) → vec_len v ≡ length v.items
long_as v = omega (arith, v.ok.0)

-- where not the whole need be there, nothing else is asked
not_needed : (w e : Bool) → w ≡ false → (not w || e) ≡ not w
not_needed true e is = absurd cc
not_needed false e is = refl

pub returns-then-not-take_out : goal.returns-then-not-take_out
returns-then-not-take_out c = let group = ap (λ (w : WalkRecord). w.group) c.first.view_is in let taken = rw group at c.take_out.ensures in
    group_fails c.args.subtrees.now.parents.items c.args.nodes c.requires.subtrees.tree c.requires.nodes c.args.whole c.loop-rest.priority c.loop-rest.groups.items c.take_out.new.groups.items c.loop-rest.rest.now c.index-rest-0.result c.take_out.result
    (FitsRounds c.args.subtrees.now.parents.items c.args.nodes c.args.whole 12 c.args.groups.now.items (jobs_made c.args.walks.now)) c.loop-rest.invariant.there c.loop-rest.invariant.same (some_left (length c.loop-rest.rest.now) c.loop-rest-test.ensures) c.index-rest-0.is taken c.if-not-take_out.true

pub order-order-requires-clause-there : goal.order-order-requires-clause-there
order-order-requires-clause-there c = let group = ap (λ (w : WalkRecord). w.group) c.first.view_is in let taken = rw group at c.take_out.ensures in
    rw group (group_there c.args.subtrees.now.parents.items c.args.nodes c.requires.subtrees.tree c.requires.nodes c.args.whole c.loop-rest.priority c.loop-rest.groups.items c.take_out.new.groups.items c.loop-rest.rest.now c.index-rest-0.result c.take_out.result
    (FitsRounds c.args.subtrees.now.parents.items c.args.nodes c.args.whole 12 c.args.groups.now.items (jobs_made c.args.walks.now)) c.loop-rest.invariant.there c.loop-rest.invariant.same (some_left (length c.loop-rest.rest.now) c.loop-rest-test.ensures) c.index-rest-0.is taken c.if-not-take_out.false)

pub returns-in_default : goal.returns-in_default
returns-in_default c = let group = ap (λ (w : WalkRecord). w.group) c.first.view_is in let taken = rw group at c.take_out.ensures in let ordered = rw group at c.order-order.ensures in
    round_fails c.args.subtrees.now.parents.items c.args.nodes c.requires.subtrees.tree c.requires.nodes c.args.whole c.loop-rest.priority c.loop-rest.groups.items c.take_out.new.groups.items c.loop-rest.rest.now c.index-rest-0.result c.take_out.result
    (FitsRounds c.args.subtrees.now.parents.items c.args.nodes c.args.whole 12 c.args.groups.now.items (jobs_made c.args.walks.now)) c.loop-rest.invariant.there c.loop-rest.invariant.same (some_left (length c.loop-rest.rest.now) c.loop-rest-test.ensures) c.index-rest-0.is taken
    c.order-order.result.now ordered c.in_default.ensures.none

pub loop-rest-preserved : goal.loop-rest-preserved
loop-rest-preserved c = let group = ap (λ (w : WalkRecord). w.group) c.first.view_is in let taken = rw group at c.take_out.ensures in let ordered = rw group at c.order-order.ensures in record {
  there = still_there c.args.subtrees.now.parents.items c.args.nodes c.requires.subtrees.tree c.requires.nodes c.args.whole c.loop-rest.priority c.loop-rest.groups.items c.take_out.new.groups.items c.loop-rest.rest.now c.index-rest-0.result c.take_out.result
      (FitsRounds c.args.subtrees.now.parents.items c.args.nodes c.args.whole 12 c.args.groups.now.items (jobs_made c.args.walks.now)) c.loop-rest.invariant.there c.loop-rest.invariant.same (some_left (length c.loop-rest.rest.now) c.loop-rest-test.ensures) c.index-rest-0.is taken c.if-not-take_out.false;
  same = round_more c.args.subtrees.now.parents.items c.args.nodes c.requires.subtrees.tree c.requires.nodes c.args.whole c.loop-rest.priority c.loop-rest.groups.items c.take_out.new.groups.items c.loop-rest.rest.now c.index-rest-0.result c.take_out.result
      (FitsRounds c.args.subtrees.now.parents.items c.args.nodes c.args.whole 12 c.args.groups.now.items (jobs_made c.args.walks.now)) c.loop-rest.invariant.there c.loop-rest.invariant.same (some_left (length c.loop-rest.rest.now) c.loop-rest-test.ensures) c.index-rest-0.is taken
      c.order-order.result.now ordered (jobs_made c.in-Some.more.now) c.saturating_sub-priority.result c.if-not-take_out.false c.saturating_sub-priority.ensures c.in-Some.ensures.some;
}

pub returns-then-not-whole : goal.returns-then-not-whole
returns-then-not-whole c =
    let Whole = FitsRounds c.args.subtrees.now.parents.items c.args.nodes c.args.whole 12 c.args.groups.now.items (jobs_made c.args.walks.now) in
    subst (λ (b : Bool). Decides b Whole) (not_needed c.args.whole c.is_empty-empty.result c.if-not-whole.true)
    (all_rounds c.args.subtrees.now.parents.items c.args.nodes c.requires.subtrees.tree c.requires.nodes c.args.whole c.loop-rest.priority c.loop-rest.groups.items c.loop-rest.rest.now c.is_empty-empty.result
    Whole c.loop-rest.invariant.there c.loop-rest.invariant.same (nothing_left (length c.loop-rest.rest.now) c.loop-rest-test.ensures) (c.is_empty-empty.ensures ∙ ap (λ (n : ℕ). n == 0) (long_as c.loop-rest.groups)))

pub returns-else-not-whole : goal.returns-else-not-whole
returns-else-not-whole c =
    let Whole = FitsRounds c.args.subtrees.now.parents.items c.args.nodes c.args.whole 12 c.args.groups.now.items (jobs_made c.args.walks.now) in
    subst (λ (b : Bool). Decides b Whole) (ap (λ (w : Bool). not w || c.is_empty-empty.result) c.if-not-whole.false)
    (all_rounds c.args.subtrees.now.parents.items c.args.nodes c.requires.subtrees.tree c.requires.nodes c.args.whole c.loop-rest.priority c.loop-rest.groups.items c.loop-rest.rest.now c.is_empty-empty.result
    Whole c.loop-rest.invariant.there c.loop-rest.invariant.same (nothing_left (length c.loop-rest.rest.now) c.loop-rest-test.ensures) (c.is_empty-empty.ensures ∙ ap (λ (n : ℕ). n == 0) (long_as c.loop-rest.groups)))
