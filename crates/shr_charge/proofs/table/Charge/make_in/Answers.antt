-- SPDX-License-Identifier: GPL-2.0-only
use Rattle.shr_charge.proofs.Common.{◌≡◌, ap, sym, refl, subst, ◌∙◌, None, true, Some, ChargeToken, hierarchy_of, begin_of, is_made, made_of, state_at}
use Rattle.shr_charge.proofs.States.{offline_begun, offline_made, online_made, online_fresh, absent_not_made}
use Rattle.shr_charge.proofs.table.Charge.make_in.Goals as goal

pub returns-in-NotMade-clause-settles : goal.returns-in-NotMade-clause-settles
returns-in-NotMade-clause-settles c = let h = hierarchy_of c.args.self.now.shape in let es = c.args.room.now.items in let g = c.parent-parent.result in
    let hand = ap (λ (t : ChargeToken). t.me.0.tree.hand) c.made_in.ensures.same ∙ c.requires.journal in
    let is = sym (ap (λ l. state_at h l g) hand) ∙ (sym c.state_in_hand.ensures.state ∙ c.in-NotMade.is) in
    let fresh = ap (λ l. made_of l c.args.group) (sym c.as_slice.ensures) ∙ (sym c.made_in.ensures.made ∙ c.in_default.is) in
    (refl, fresh, c.parent-parent.ensures, absent_not_made h es g is)

pub returns-in-Offline-clause-settles : goal.returns-in-Offline-clause-settles
returns-in-Offline-clause-settles c = let h = hierarchy_of c.args.self.now.shape in let es = c.args.room.now.items in let g = c.parent-parent.result in let e = c.in-Offline.entry in
    let hand = ap (λ (t : ChargeToken). t.me.0.tree.hand) c.made_in.ensures.same ∙ c.requires.journal in
    let is = sym (ap (λ l. state_at h l g) hand) ∙ (sym c.state_in_hand.ensures.state ∙ c.in-Offline.is) in
    let fresh = ap (λ l. made_of l c.args.group) (sym c.as_slice.ensures) ∙ (sym c.made_in.ensures.made ∙ c.in_default.is) in
    (refl, fresh, subst (λ k. is_made h es k ≡ true) c.parent-parent.ensures (offline_made h es g e is), subst (λ k. begin_of es k ≡ Some e) c.parent-parent.ensures (offline_begun h es g e is))

pub make_online-requires-clause-may : goal.make_online-requires-clause-may
make_online-requires-clause-may c = let h = hierarchy_of c.args.self.now.shape in let es = c.args.room.now.items in let g = c.parent-parent.result in
    let hand = ap (λ (t : ChargeToken). t.me.0.tree.hand) c.made_in.ensures.same ∙ c.requires.journal in
    let is = sym (ap (λ l. state_at h l g) hand) ∙ (sym c.state_in_hand.ensures.state ∙ c.in-Online.is) in record {
      there = c.requires.group;
      late = c.requires.late;
      once = ap (λ l. made_of l c.args.group) (sym c.as_slice.ensures) ∙ (sym c.made_in.ensures.made ∙ c.in_default.is);
      parent = subst (λ k. is_made h es k ≡ true) c.parent-parent.ensures (online_made h es g is);
      online = subst (λ k. begin_of es k ≡ None) c.parent-parent.ensures (online_fresh h es g is);
    }

pub returns-in-NotMade-clause-view : goal.returns-in-NotMade-clause-view
returns-in-NotMade-clause-view c = c.state_in_hand.ensures.same ∙ c.made_in.ensures.same

pub returns-in-Offline-clause-view : goal.returns-in-Offline-clause-view
returns-in-Offline-clause-view c = c.state_in_hand.ensures.same ∙ c.made_in.ensures.same
