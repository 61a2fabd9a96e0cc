-- SPDX-License-Identifier: GPL-2.0-only
use Rattle.shr_audit_case.proofs.ReplayCommon.{◌≡◌, ◌∷◌, ◌∙◌, true, false, List, Option, Some, sym, ap, subst, Decides, Object, IsAt}
use Rattle.shr_audit_case.proofs.Matching.{matched_none, matched_at, matched_more, matched_all, too_many, other_object}
use Rattle.shr_audit_case.proofs.items.are_items.Goals as goal

pub objects-init : goal.objects-init
objects-init c = matched_none c.args.queue.now.nodes c.head-at.result c.args.printed.now.items c.walk-walk.result c.head-at.ensures.first c.walk-walk.ensures

pub objects-preserved : goal.objects-preserved
objects-preserved c = matched_more c.args.queue.now.nodes c.objects.at c.args.printed.now.items c.objects.walk c.objects.invariant c.in-Some-at.node c.in-Some-at.is c.in-Some.object.now c.next.new.self c.in-Some.ensures.met c.is_object-same.result
    (λ xs o ys e. subst (λ (x : Object). Decides c.is_object-same.result (c.in-Some.object.now ≡ x)) (c.object.ensures xs o ys e) c.is_object-same.ensures) c.if-not-same.false c.next-at.result c.next-at.ensures

pub returns-then-not-same : goal.returns-then-not-same
returns-then-not-same c = other_object c.args.queue.now.nodes c.objects.at c.args.printed.now.items c.objects.walk c.objects.invariant c.in-Some-at.node c.in-Some-at.is c.in-Some.object.now c.next.new.self c.in-Some.ensures.met c.is_object-same.result
    (λ xs o ys e. subst (λ (x : Object). Decides c.is_object-same.result (c.in-Some.object.now ≡ x)) (c.object.ensures xs o ys e) c.is_object-same.ensures) c.args.queue.now.items c.head-at.ensures.whole.items c.if-not-same.true

pub object-requires : goal.object-requires
object-requires c = matched_at c.args.queue.now.nodes c.objects.at c.args.printed.now.items c.objects.walk c.objects.invariant c.in-Some-at.node c.in-Some-at.is
