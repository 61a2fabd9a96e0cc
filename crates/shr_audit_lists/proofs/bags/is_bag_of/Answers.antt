-- SPDX-License-Identifier: GPL-2.0-only
use Rattle.shr_audit_lists.proofs.SerialsCommon.{List, Bool, map, sym, ap, subst, ◌∙◌, Decides, Serial, AreDistinct, serial_key}
use Rattle.shr_audit_lists.proofs.Sorting.{bag_decided, not_apart}
use Rattle.shr_audit_lists.proofs.bags.is_bag_of.Goals as goal

pub returns-then-not-are_apart : goal.returns-then-not-are_apart
returns-then-not-are_apart c = not_apart c.args.added.items c.args.parts.items c.in_ok-ups.ups.items c.in_ok-downs.downs.items c.in_ok-ups.ensures.same c.in_ok-downs.ensures.same
    (subst (λ (b : Bool). Decides b (AreDistinct c.in_ok-ups.ups.items)) c.if-not-are_apart.true (subst (λ (xs : List Serial). Decides c.are_apart.result (AreDistinct xs)) c.as_slice.ensures.value c.are_apart.ensures))

pub returns : goal.returns
returns c = bag_decided c.args.added.items c.args.parts.items c.in_ok-ups.ups.items c.in_ok-downs.downs.items c.in_ok-ups.ensures.same c.in_ok-downs.ensures.same
    (subst (λ (b : Bool). Decides b (AreDistinct c.in_ok-ups.ups.items)) c.if-not-are_apart.false (subst (λ (xs : List Serial). Decides c.are_apart.result (AreDistinct xs)) c.as_slice.ensures.value c.are_apart.ensures))
    c.in_ok-ups.ensures.order c.in_ok-downs.ensures.order c.are_same-same.result
    (λ t. sym c.as_slice-2.ensures.value ∙ (c.are_same-same.ensures.same t ∙ c.as_slice-3.ensures.value))
    (λ f e. c.are_same-same.ensures.other f (ap (map serial_key) c.as_slice-2.ensures.value ∙ (e ∙ sym (ap (map serial_key) c.as_slice-3.ensures.value))))
