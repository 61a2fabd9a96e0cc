-- SPDX-License-Identifier: GPL-2.0-only
use Rattle.shr_node.proofs.Common.{sym, subst, ap, ◌∙◌, ◌&&◌, nat_lt, Spent, Listed, Core, View, Room, Seated, IsPlaceOfShape, view_of, shape_of, place_number, parent_of, last_entry, with_given, with_stored, MayStore, group_place, SpliceWorn, AreBothTaken}
use Rattle.shr_node.proofs.Pairing.{may_above, may_child, stored_raised, back_has, back_same, back_whole, last_has, last_same, last_whole}
use Rattle.shr_node.proofs.Closing.{above_opens, both_met, both_gain}
use Rattle.shr_node.proofs.ClosingOne.{may_take_above, pair_taken, was_closed, pair_ready, closes_one}
use Rattle.shr_node.proofs.splicing.close_one.Goals as goal

pub take_room-above-requires-clause-rooms : goal.take_room-above-requires-clause-rooms
take_room-above-requires-clause-rooms g c = may_take_above c.args.seat.now c.take_room-child.new.self c.core.result.now c.args.id c.args.node c.args.group c.parent.result _ c.requires.rooms c.take_room-child.ensures.taken c.requires.group c.core.ensures c.parent.ensures

pub close_into-requires-clause-parent_open : goal.close_into-requires-clause-parent_open
close_into-requires-clause-parent_open g c = let v : View = view_of c.args.seat.now in let child : Room = c.take_room-child.result in let above : Room = c.take_room-above.result in let e = c.take_room-child.ensures in let f = c.take_room-above.ensures in
    let taken = pair_taken c.args.seat.now c.take_room-child.new.self c.take_room-above.new.self c.core.result.now c.args.id c.args.node c.args.group c.parent.result child above c.requires.rooms c.requires.place c.requires.group c.core.ensures c.parent.ensures e.place e.taken e.told f.place f.taken f.told in
    let opens = sym c.is_closed_list.ensures.closed ∙ c.if-is_closed_list.false in
    above_opens (shape_of c.args.seat.now.core) v (view_of c.take_room-above.new.self) child.place above.place child.list above.list c.args.seat.now.core.tree c.args.seat.now.core.limits.2 c.args.seat.now.core.limits.4 taken opens

pub store_count-requires-clause-may : goal.store_count-requires-clause-may
store_count-requires-clause-may g c = let v : View = view_of c.args.seat.now in let child : Room = c.take_room-child.result in let above : Room = c.take_room-above.result in let e = c.take_room-child.ensures in let f = c.take_room-above.ensures in
    let taken = pair_taken c.args.seat.now c.take_room-child.new.self c.take_room-above.new.self c.core.result.now c.args.id c.args.node c.args.group c.parent.result child above c.requires.rooms c.requires.place c.requires.group c.core.ensures c.parent.ensures e.place e.taken e.told f.place f.taken f.told in
    let opens = sym c.is_closed_list.ensures.closed ∙ c.if-is_closed_list.false in
    let ready = pair_ready c.args.seat.now.core v (view_of c.take_room-above.new.self) c.args.id c.args.node c.args.group child above taken c.requires.group e.place e.told opens c.is_closed_list.ensures.sound c.requires.children c.close_into.new.self c.close_into.new.parent c.in-Moved.objects c.is_filled-filled.result c.in-Moved.ensures (c.is_filled-filled.ensures ∙ λ i. nat_lt 0 c.in-Moved.objects && nat_lt 0 (sym f.place i).group) in
    subst (λ (x : Core). MayStore (shape_of x) (view_of c.take_room-above.new.self) (place_number above.place) c.close_into.new.parent) (sym (ap (λ (s : Seated). s.core) f.taken ∙ ap (λ (s : Seated). s.core) e.taken))
    (may_above (shape_of c.args.seat.now.core) v (view_of c.take_room-above.new.self) (record { place = child.place; list = c.close_into.new.self }) (record { place = above.place; list = c.close_into.new.parent }) c.is_filled-filled.result c.args.seat.now.core.tree c.args.seat.now.core.limits.2 c.args.seat.now.core.limits.4 ready)

pub store_count-requires-in-Moved-clause-may : goal.store_count-requires-in-Moved-clause-may
store_count-requires-in-Moved-clause-may g c = let v : View = view_of c.args.seat.now in let child : Room = c.take_room-child.result in let above : Room = c.take_room-above.result in let e = c.take_room-child.ensures in let f = c.take_room-above.ensures in
    let taken = pair_taken c.args.seat.now c.take_room-child.new.self c.take_room-above.new.self c.core.result.now c.args.id c.args.node c.args.group c.parent.result child above c.requires.rooms c.requires.place c.requires.group c.core.ensures c.parent.ensures e.place e.taken e.told f.place f.taken f.told in
    let opens = sym c.is_closed_list.ensures.closed ∙ c.if-is_closed_list.false in
    let ready = pair_ready c.args.seat.now.core v (view_of c.take_room-above.new.self) c.args.id c.args.node c.args.group child above taken c.requires.group e.place e.told opens c.is_closed_list.ensures.sound c.requires.children c.close_into.new.self c.close_into.new.parent c.in-Moved.objects c.is_filled-filled.result c.in-Moved.ensures (c.is_filled-filled.ensures ∙ λ i. nat_lt 0 c.in-Moved.objects && nat_lt 0 (sym f.place i).group) in
    subst (λ (x : Seated). MayStore (shape_of x.core) (view_of x) (place_number child.place) c.close_into.new.self) (sym c.store_count.ensures.stored)
    (subst (λ (x : Core). MayStore (shape_of x) (with_stored (view_of c.take_room-above.new.self) (place_number above.place) (last_entry c.close_into.new.parent.entries) c.close_into.new.parent.items) (place_number child.place) c.close_into.new.self) (sym (ap (λ (s : Seated). s.core) f.taken ∙ ap (λ (s : Seated). s.core) e.taken))
    (may_child (shape_of c.args.seat.now.core) v (view_of c.take_room-above.new.self) (record { place = child.place; list = c.close_into.new.self }) (record { place = above.place; list = c.close_into.new.parent }) c.is_filled-filled.result c.args.seat.now.core.tree c.args.seat.now.core.limits.2 c.args.seat.now.core.limits.4 ready))

pub raise-requires-clause-place : goal.raise-requires-clause-place
raise-requires-clause-place g c = let v : View = view_of c.args.seat.now in let child : Room = c.take_room-child.result in let above : Room = c.take_room-above.result in let e = c.take_room-child.ensures in let f = c.take_room-above.ensures in
    let taken = pair_taken c.args.seat.now c.take_room-child.new.self c.take_room-above.new.self c.core.result.now c.args.id c.args.node c.args.group c.parent.result child above c.requires.rooms c.requires.place c.requires.group c.core.ensures c.parent.ensures e.place e.taken e.told f.place f.taken f.told in
    subst (λ (x : Core). IsPlaceOfShape (shape_of x) above.place) (sym (ap (λ (s : Seated). s.core) c.store_count-in-Moved.ensures.stored ∙ (ap (λ (s : Seated). s.core) c.store_count.ensures.stored ∙ (ap (λ (s : Seated). s.core) f.taken ∙ ap (λ (s : Seated). s.core) e.taken)))) taken.above_place

pub give_room-requires-clause-place : goal.give_room-requires-clause-place
give_room-requires-clause-place g c = let v : View = view_of c.args.seat.now in let child : Room = c.take_room-child.result in let above : Room = c.take_room-above.result in let e = c.take_room-child.ensures in let f = c.take_room-above.ensures in
    let taken = pair_taken c.args.seat.now c.take_room-child.new.self c.take_room-above.new.self c.core.result.now c.args.id c.args.node c.args.group c.parent.result child above c.requires.rooms c.requires.place c.requires.group c.core.ensures c.parent.ensures e.place e.taken e.told f.place f.taken f.told in
    subst (λ (x : Core). IsPlaceOfShape (shape_of x) above.place) (sym (ap (λ (s : Seated). s.core) c.raise.ensures.set ∙ (ap (λ (s : Seated). s.core) c.store_count-in-Moved.ensures.stored ∙ (ap (λ (s : Seated). s.core) c.store_count.ensures.stored ∙ (ap (λ (s : Seated). s.core) f.taken ∙ ap (λ (s : Seated). s.core) e.taken))))) taken.above_place

pub give_room-requires-clause-has : goal.give_room-requires-clause-has
give_room-requires-clause-has g c = let v : View = view_of c.args.seat.now in let child : Room = c.take_room-child.result in let above : Room = c.take_room-above.result in let e = c.take_room-child.ensures in let f = c.take_room-above.ensures in
    let taken = pair_taken c.args.seat.now c.take_room-child.new.self c.take_room-above.new.self c.core.result.now c.args.id c.args.node c.args.group c.parent.result child above c.requires.rooms c.requires.place c.requires.group c.core.ensures c.parent.ensures e.place e.taken e.told f.place f.taken f.told in
    let opens = sym c.is_closed_list.ensures.closed ∙ c.if-is_closed_list.false in
    let ready = pair_ready c.args.seat.now.core v (view_of c.take_room-above.new.self) c.args.id c.args.node c.args.group child above taken c.requires.group e.place e.told opens c.is_closed_list.ensures.sound c.requires.children c.close_into.new.self c.close_into.new.parent c.in-Moved.objects c.is_filled-filled.result c.in-Moved.ensures (c.is_filled-filled.ensures ∙ λ i. nat_lt 0 c.in-Moved.objects && nat_lt 0 (sym f.place i).group) in
    back_has (shape_of c.args.seat.now.core) v (view_of c.take_room-above.new.self) (record { place = child.place; list = c.close_into.new.self }) (record { place = above.place; list = c.close_into.new.parent }) c.is_filled-filled.result c.args.seat.now.core.tree c.args.seat.now.core.limits.2 c.args.seat.now.core.limits.4 ready _ _
    (stored_raised (shape_of c.args.seat.now.core) v (view_of c.take_room-above.new.self) (record { place = child.place; list = c.close_into.new.self }) (record { place = above.place; list = c.close_into.new.parent }) c.is_filled-filled.result c.args.seat.now.core.tree c.args.seat.now.core.limits.2 c.args.seat.now.core.limits.4 ready _ _ _ _ (ap view_of c.store_count.ensures.stored) (ap view_of c.store_count-in-Moved.ensures.stored) (ap view_of c.raise.ensures.set))

pub give_room-requires-clause-same : goal.give_room-requires-clause-same
give_room-requires-clause-same g c = let v : View = view_of c.args.seat.now in let child : Room = c.take_room-child.result in let above : Room = c.take_room-above.result in let e = c.take_room-child.ensures in let f = c.take_room-above.ensures in
    let taken = pair_taken c.args.seat.now c.take_room-child.new.self c.take_room-above.new.self c.core.result.now c.args.id c.args.node c.args.group c.parent.result child above c.requires.rooms c.requires.place c.requires.group c.core.ensures c.parent.ensures e.place e.taken e.told f.place f.taken f.told in
    let opens = sym c.is_closed_list.ensures.closed ∙ c.if-is_closed_list.false in
    let ready = pair_ready c.args.seat.now.core v (view_of c.take_room-above.new.self) c.args.id c.args.node c.args.group child above taken c.requires.group e.place e.told opens c.is_closed_list.ensures.sound c.requires.children c.close_into.new.self c.close_into.new.parent c.in-Moved.objects c.is_filled-filled.result c.in-Moved.ensures (c.is_filled-filled.ensures ∙ λ i. nat_lt 0 c.in-Moved.objects && nat_lt 0 (sym f.place i).group) in
    back_same (shape_of c.args.seat.now.core) v (view_of c.take_room-above.new.self) (record { place = child.place; list = c.close_into.new.self }) (record { place = above.place; list = c.close_into.new.parent }) c.is_filled-filled.result c.args.seat.now.core.tree c.args.seat.now.core.limits.2 c.args.seat.now.core.limits.4 ready _ _
    (stored_raised (shape_of c.args.seat.now.core) v (view_of c.take_room-above.new.self) (record { place = child.place; list = c.close_into.new.self }) (record { place = above.place; list = c.close_into.new.parent }) c.is_filled-filled.result c.args.seat.now.core.tree c.args.seat.now.core.limits.2 c.args.seat.now.core.limits.4 ready _ _ _ _ (ap view_of c.store_count.ensures.stored) (ap view_of c.store_count-in-Moved.ensures.stored) (ap view_of c.raise.ensures.set))

pub give_room-requires-clause-whole : goal.give_room-requires-clause-whole
give_room-requires-clause-whole g c = let v : View = view_of c.args.seat.now in let child : Room = c.take_room-child.result in let above : Room = c.take_room-above.result in let e = c.take_room-child.ensures in let f = c.take_room-above.ensures in
    let taken = pair_taken c.args.seat.now c.take_room-child.new.self c.take_room-above.new.self c.core.result.now c.args.id c.args.node c.args.group c.parent.result child above c.requires.rooms c.requires.place c.requires.group c.core.ensures c.parent.ensures e.place e.taken e.told f.place f.taken f.told in
    let opens = sym c.is_closed_list.ensures.closed ∙ c.if-is_closed_list.false in
    let ready = pair_ready c.args.seat.now.core v (view_of c.take_room-above.new.self) c.args.id c.args.node c.args.group child above taken c.requires.group e.place e.told opens c.is_closed_list.ensures.sound c.requires.children c.close_into.new.self c.close_into.new.parent c.in-Moved.objects c.is_filled-filled.result c.in-Moved.ensures (c.is_filled-filled.ensures ∙ λ i. nat_lt 0 c.in-Moved.objects && nat_lt 0 (sym f.place i).group) in
    back_whole (shape_of c.args.seat.now.core) v (view_of c.take_room-above.new.self) (record { place = child.place; list = c.close_into.new.self }) (record { place = above.place; list = c.close_into.new.parent }) c.is_filled-filled.result c.args.seat.now.core.tree c.args.seat.now.core.limits.2 c.args.seat.now.core.limits.4 ready _ _
    (stored_raised (shape_of c.args.seat.now.core) v (view_of c.take_room-above.new.self) (record { place = child.place; list = c.close_into.new.self }) (record { place = above.place; list = c.close_into.new.parent }) c.is_filled-filled.result c.args.seat.now.core.tree c.args.seat.now.core.limits.2 c.args.seat.now.core.limits.4 ready _ _ _ _ (ap view_of c.store_count.ensures.stored) (ap view_of c.store_count-in-Moved.ensures.stored) (ap view_of c.raise.ensures.set))

pub give_room-requires-in-Moved-clause-has : goal.give_room-requires-in-Moved-clause-has
give_room-requires-in-Moved-clause-has g c = let v : View = view_of c.args.seat.now in let child : Room = c.take_room-child.result in let above : Room = c.take_room-above.result in let e = c.take_room-child.ensures in let f = c.take_room-above.ensures in
    let taken = pair_taken c.args.seat.now c.take_room-child.new.self c.take_room-above.new.self c.core.result.now c.args.id c.args.node c.args.group c.parent.result child above c.requires.rooms c.requires.place c.requires.group c.core.ensures c.parent.ensures e.place e.taken e.told f.place f.taken f.told in
    let opens = sym c.is_closed_list.ensures.closed ∙ c.if-is_closed_list.false in
    let ready = pair_ready c.args.seat.now.core v (view_of c.take_room-above.new.self) c.args.id c.args.node c.args.group child above taken c.requires.group e.place e.told opens c.is_closed_list.ensures.sound c.requires.children c.close_into.new.self c.close_into.new.parent c.in-Moved.objects c.is_filled-filled.result c.in-Moved.ensures (c.is_filled-filled.ensures ∙ λ i. nat_lt 0 c.in-Moved.objects && nat_lt 0 (sym f.place i).group) in
    last_has (shape_of c.args.seat.now.core) v (view_of c.take_room-above.new.self) (record { place = child.place; list = c.close_into.new.self }) (record { place = above.place; list = c.close_into.new.parent }) c.is_filled-filled.result c.args.seat.now.core.tree c.args.seat.now.core.limits.2 c.args.seat.now.core.limits.4 ready _ _
    (ap view_of c.give_room.ensures.given ∙ ap (λ (w : View). with_given w (place_number above.place))
    (stored_raised (shape_of c.args.seat.now.core) v (view_of c.take_room-above.new.self) (record { place = child.place; list = c.close_into.new.self }) (record { place = above.place; list = c.close_into.new.parent }) c.is_filled-filled.result c.args.seat.now.core.tree c.args.seat.now.core.limits.2 c.args.seat.now.core.limits.4 ready _ _ _ _ (ap view_of c.store_count.ensures.stored) (ap view_of c.store_count-in-Moved.ensures.stored) (ap view_of c.raise.ensures.set)))

pub give_room-requires-in-Moved-clause-same : goal.give_room-requires-in-Moved-clause-same
give_room-requires-in-Moved-clause-same g c = let v : View = view_of c.args.seat.now in let child : Room = c.take_room-child.result in let above : Room = c.take_room-above.result in let e = c.take_room-child.ensures in let f = c.take_room-above.ensures in
    let taken = pair_taken c.args.seat.now c.take_room-child.new.self c.take_room-above.new.self c.core.result.now c.args.id c.args.node c.args.group c.parent.result child above c.requires.rooms c.requires.place c.requires.group c.core.ensures c.parent.ensures e.place e.taken e.told f.place f.taken f.told in
    let opens = sym c.is_closed_list.ensures.closed ∙ c.if-is_closed_list.false in
    let ready = pair_ready c.args.seat.now.core v (view_of c.take_room-above.new.self) c.args.id c.args.node c.args.group child above taken c.requires.group e.place e.told opens c.is_closed_list.ensures.sound c.requires.children c.close_into.new.self c.close_into.new.parent c.in-Moved.objects c.is_filled-filled.result c.in-Moved.ensures (c.is_filled-filled.ensures ∙ λ i. nat_lt 0 c.in-Moved.objects && nat_lt 0 (sym f.place i).group) in
    last_same (shape_of c.args.seat.now.core) v (view_of c.take_room-above.new.self) (record { place = child.place; list = c.close_into.new.self }) (record { place = above.place; list = c.close_into.new.parent }) c.is_filled-filled.result c.args.seat.now.core.tree c.args.seat.now.core.limits.2 c.args.seat.now.core.limits.4 ready _ _
    (ap view_of c.give_room.ensures.given ∙ ap (λ (w : View). with_given w (place_number above.place))
    (stored_raised (shape_of c.args.seat.now.core) v (view_of c.take_room-above.new.self) (record { place = child.place; list = c.close_into.new.self }) (record { place = above.place; list = c.close_into.new.parent }) c.is_filled-filled.result c.args.seat.now.core.tree c.args.seat.now.core.limits.2 c.args.seat.now.core.limits.4 ready _ _ _ _ (ap view_of c.store_count.ensures.stored) (ap view_of c.store_count-in-Moved.ensures.stored) (ap view_of c.raise.ensures.set)))

pub give_room-requires-in-Moved-clause-whole : goal.give_room-requires-in-Moved-clause-whole
give_room-requires-in-Moved-clause-whole g c = let v : View = view_of c.args.seat.now in let child : Room = c.take_room-child.result in let above : Room = c.take_room-above.result in let e = c.take_room-child.ensures in let f = c.take_room-above.ensures in
    let taken = pair_taken c.args.seat.now c.take_room-child.new.self c.take_room-above.new.self c.core.result.now c.args.id c.args.node c.args.group c.parent.result child above c.requires.rooms c.requires.place c.requires.group c.core.ensures c.parent.ensures e.place e.taken e.told f.place f.taken f.told in
    let opens = sym c.is_closed_list.ensures.closed ∙ c.if-is_closed_list.false in
    let ready = pair_ready c.args.seat.now.core v (view_of c.take_room-above.new.self) c.args.id c.args.node c.args.group child above taken c.requires.group e.place e.told opens c.is_closed_list.ensures.sound c.requires.children c.close_into.new.self c.close_into.new.parent c.in-Moved.objects c.is_filled-filled.result c.in-Moved.ensures (c.is_filled-filled.ensures ∙ λ i. nat_lt 0 c.in-Moved.objects && nat_lt 0 (sym f.place i).group) in
    last_whole (shape_of c.args.seat.now.core) v (view_of c.take_room-above.new.self) (record { place = child.place; list = c.close_into.new.self }) (record { place = above.place; list = c.close_into.new.parent }) c.is_filled-filled.result c.args.seat.now.core.tree c.args.seat.now.core.limits.2 c.args.seat.now.core.limits.4 ready _ _
    (ap view_of c.give_room.ensures.given ∙ ap (λ (w : View). with_given w (place_number above.place))
    (stored_raised (shape_of c.args.seat.now.core) v (view_of c.take_room-above.new.self) (record { place = child.place; list = c.close_into.new.self }) (record { place = above.place; list = c.close_into.new.parent }) c.is_filled-filled.result c.args.seat.now.core.tree c.args.seat.now.core.limits.2 c.args.seat.now.core.limits.4 ready _ _ _ _ (ap view_of c.store_count.ensures.stored) (ap view_of c.store_count-in-Moved.ensures.stored) (ap view_of c.raise.ensures.set)))

pub leave_both-requires : goal.leave_both-requires
leave_both-requires g c = let v : View = view_of c.args.seat.now in let child : Room = c.take_room-child.result in let above : Room = c.take_room-above.result in let e = c.take_room-child.ensures in let f = c.take_room-above.ensures in
    let taken = pair_taken c.args.seat.now c.take_room-child.new.self c.take_room-above.new.self c.core.result.now c.args.id c.args.node c.args.group c.parent.result child above c.requires.rooms c.requires.place c.requires.group c.core.ensures c.parent.ensures e.place e.taken e.told f.place f.taken f.told in
    let opens = sym c.is_closed_list.ensures.closed ∙ c.if-is_closed_list.false in let same = c.in-Worn.ensures in
    record {
      untouched = (
        v,
        subst (λ (x : Core). AreBothTaken (shape_of x) v (view_of c.take_room-above.new.self) child.place above.place c.close_into.new.self c.close_into.new.parent) (sym (ap (λ (s : Seated). s.core) f.taken ∙ ap (λ (s : Seated). s.core) e.taken))
            (subst (λ (l : Listed). AreBothTaken (shape_of c.args.seat.now.core) v (view_of c.take_room-above.new.self) child.place above.place c.close_into.new.self l) (sym same.2) (subst (λ (l : Listed). AreBothTaken (shape_of c.args.seat.now.core) v (view_of c.take_room-above.new.self) child.place above.place l above.list) (sym same.1) taken)),
      );
    }

pub leave_both-requires-in-Memory : goal.leave_both-requires-in-Memory
leave_both-requires-in-Memory g c = let v : View = view_of c.args.seat.now in let child : Room = c.take_room-child.result in let above : Room = c.take_room-above.result in let e = c.take_room-child.ensures in let f = c.take_room-above.ensures in
    let taken = pair_taken c.args.seat.now c.take_room-child.new.self c.take_room-above.new.self c.core.result.now c.args.id c.args.node c.args.group c.parent.result child above c.requires.rooms c.requires.place c.requires.group c.core.ensures c.parent.ensures e.place e.taken e.told f.place f.taken f.told in
    let opens = sym c.is_closed_list.ensures.closed ∙ c.if-is_closed_list.false in let same = c.in-Memory.ensures in
    record {
      untouched = (
        v,
        subst (λ (x : Core). AreBothTaken (shape_of x) v (view_of c.take_room-above.new.self) child.place above.place c.close_into.new.self c.close_into.new.parent) (sym (ap (λ (s : Seated). s.core) f.taken ∙ ap (λ (s : Seated). s.core) e.taken))
            (subst (λ (l : Listed). AreBothTaken (shape_of c.args.seat.now.core) v (view_of c.take_room-above.new.self) child.place above.place c.close_into.new.self l) (sym same.2) (subst (λ (l : Listed). AreBothTaken (shape_of c.args.seat.now.core) v (view_of c.take_room-above.new.self) child.place above.place l above.list) (sym same.1) taken)),
      );
    }

pub returns-then-is_closed_list-clause-answer : goal.returns-then-is_closed_list-clause-answer
returns-then-is_closed_list-clause-answer g c = let e = c.take_room-child.ensures in
    was_closed (view_of c.args.seat.now) (view_of c.take_room-child.new.self) (view_of c.leave.new.seat) c.args.id c.args.node c.args.group c.take_room-child.result e.place (ap view_of e.taken) (ap view_of c.leave.ensures.left) (sym c.is_closed_list.ensures.closed ∙ c.if-is_closed_list.true)

pub returns-in-Moved-clause-answer : goal.returns-in-Moved-clause-answer
returns-in-Moved-clause-answer g c = let v : View = view_of c.args.seat.now in let child : Room = c.take_room-child.result in let above : Room = c.take_room-above.result in let e = c.take_room-child.ensures in let f = c.take_room-above.ensures in
    let taken = pair_taken c.args.seat.now c.take_room-child.new.self c.take_room-above.new.self c.core.result.now c.args.id c.args.node c.args.group c.parent.result child above c.requires.rooms c.requires.place c.requires.group c.core.ensures c.parent.ensures e.place e.taken e.told f.place f.taken f.told in
    let opens = sym c.is_closed_list.ensures.closed ∙ c.if-is_closed_list.false in
    let filling = c.is_filled-filled.ensures ∙ λ i. nat_lt 0 c.in-Moved.objects && nat_lt 0 (sym f.place i).group in
    let ready = pair_ready c.args.seat.now.core v (view_of c.take_room-above.new.self) c.args.id c.args.node c.args.group child above taken c.requires.group e.place e.told opens c.is_closed_list.ensures.sound c.requires.children c.close_into.new.self c.close_into.new.parent c.in-Moved.objects c.is_filled-filled.result c.in-Moved.ensures filling in
    let stored = stored_raised (shape_of c.args.seat.now.core) v (view_of c.take_room-above.new.self) (record { place = child.place; list = c.close_into.new.self }) (record { place = above.place; list = c.close_into.new.parent }) c.is_filled-filled.result c.args.seat.now.core.tree c.args.seat.now.core.limits.2 c.args.seat.now.core.limits.4 ready c.is_filled-filled.result _ _ _ (ap view_of c.store_count.ensures.stored) (ap view_of c.store_count-in-Moved.ensures.stored) (ap view_of c.raise.ensures.set) in
    let kept = ap view_of c.give_room-in-Moved.ensures.given ∙ ap (λ (w : View). with_given w (place_number child.place)) (ap view_of c.give_room.ensures.given ∙ ap (λ (w : View). with_given w (place_number above.place)) stored) in
    closes_one c.args.seat.now.core v (view_of c.take_room-above.new.self) c.args.id c.args.node c.args.group child above taken c.requires.group e.place e.told opens c.is_closed_list.ensures.sound c.requires.children c.close_into.new.self c.close_into.new.parent c.in-Moved.objects c.is_filled-filled.result c.in-Moved.ensures filling _ kept

pub returns-in-Worn-clause-answer : goal.returns-in-Worn-clause-answer
returns-in-Worn-clause-answer g c = let v : View = view_of c.args.seat.now in let child : Room = c.take_room-child.result in let above : Room = c.take_room-above.result in let e = c.take_room-child.ensures in let f = c.take_room-above.ensures in
    let taken = pair_taken c.args.seat.now c.take_room-child.new.self c.take_room-above.new.self c.core.result.now c.args.id c.args.node c.args.group c.parent.result child above c.requires.rooms c.requires.place c.requires.group c.core.ensures c.parent.ensures e.place e.taken e.told f.place f.taken f.told in
    let opens = sym c.is_closed_list.ensures.closed ∙ c.if-is_closed_list.false in record {
      gains = both_gain (shape_of c.args.seat.now.core) v (view_of c.take_room-above.new.self) child.place above.place child.list above.list c.args.seat.now.core.tree c.args.seat.now.core.limits.2 c.args.seat.now.core.limits.4 taken _ (ap view_of c.leave_both.ensures.left);
      worn = subst (λ (s : Spent). SpliceWorn (shape_of c.args.seat.now.core) v (view_of c.leave_both.new.seat) c.args.id c.args.node c.args.group s) (sym c.list_spent.ensures) (record {
        given = child.list;
        old = above.list;
        here = ap (group_place c.args.id c.args.node) (c.parent.ensures ∙ ap (λ (x : Core). parent_of (shape_of x).parents.items c.args.group) (c.core.ensures ∙ ap (λ (s : Seated). s.core) e.taken));
        pair = both_met (shape_of c.args.seat.now.core) v (view_of c.take_room-above.new.self) child.place above.place child.list above.list c.args.seat.now.core.tree c.args.seat.now.core.limits.2 c.args.seat.now.core.limits.4 taken _ (ap view_of c.leave_both.ensures.left) opens c.args.id c.args.node c.args.group e.place;
        worn = c.in-Worn.ensures.0;
      });
    }

pub returns-in-Memory-clause-answer : goal.returns-in-Memory-clause-answer
returns-in-Memory-clause-answer g c = let v : View = view_of c.args.seat.now in let child : Room = c.take_room-child.result in let above : Room = c.take_room-above.result in let e = c.take_room-child.ensures in let f = c.take_room-above.ensures in
    let taken = pair_taken c.args.seat.now c.take_room-child.new.self c.take_room-above.new.self c.core.result.now c.args.id c.args.node c.args.group c.parent.result child above c.requires.rooms c.requires.place c.requires.group c.core.ensures c.parent.ensures e.place e.taken e.told f.place f.taken f.told in
    let opens = sym c.is_closed_list.ensures.closed ∙ c.if-is_closed_list.false in record {
      gains = both_gain (shape_of c.args.seat.now.core) v (view_of c.take_room-above.new.self) child.place above.place child.list above.list c.args.seat.now.core.tree c.args.seat.now.core.limits.2 c.args.seat.now.core.limits.4 taken _ (ap view_of c.leave_both-in-Memory.ensures.left);
      free = record {
        given = child.list;
        old = above.list;
        pair = both_met (shape_of c.args.seat.now.core) v (view_of c.take_room-above.new.self) child.place above.place child.list above.list c.args.seat.now.core.tree c.args.seat.now.core.limits.2 c.args.seat.now.core.limits.4 taken _ (ap view_of c.leave_both-in-Memory.ensures.left) opens c.args.id c.args.node c.args.group e.place;
        room = c.in-Memory.ensures.0;
      };
    }
