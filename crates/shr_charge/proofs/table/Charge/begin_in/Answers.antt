-- SPDX-License-Identifier: GPL-2.0-only
use Rattle.shr_charge.proofs.Common.{ap, sym, refl, ◌∙◌, ChargeToken, hierarchy_of, done_of, state_at}
use Rattle.shr_charge.proofs.States.{offline_begun, online_made, online_fresh, absent_not_made, absent_fresh}
use Rattle.shr_charge.proofs.table.Charge.begin_in.Goals as goal

pub returns-in-Offline-clause-decides : goal.returns-in-Offline-clause-decides
returns-in-Offline-clause-decides c = let h = hierarchy_of c.args.self.now.shape in let es = c.args.room.now.items in let g = c.args.group in
    let hand = ap (λ (t : ChargeToken). t.me.0.tree.hand) c.done_in.ensures.same ∙ c.requires.journal in
    let is = sym (ap (λ l. state_at h l g) hand) ∙ (sym c.state_in_hand.ensures.state ∙ c.in-Offline.is) in
    let undone = ap (λ l. done_of l g) (sym c.as_slice.ensures) ∙ (sym c.done_in.ensures.done ∙ c.in_default.is) in
    (refl, undone, offline_begun h es g c.in-Offline.entry is)

pub returns-in-NotMade-clause-decides : goal.returns-in-NotMade-clause-decides
returns-in-NotMade-clause-decides c = let h = hierarchy_of c.args.self.now.shape in let es = c.args.room.now.items in let g = c.args.group in
    let hand = ap (λ (t : ChargeToken). t.me.0.tree.hand) c.done_in.ensures.same ∙ c.requires.journal in
    let is = sym (ap (λ l. state_at h l g) hand) ∙ (sym c.state_in_hand.ensures.state ∙ c.in-NotMade.is) in
    let undone = ap (λ l. done_of l g) (sym c.as_slice.ensures) ∙ (sym c.done_in.ensures.done ∙ c.in_default.is) in
    (refl, undone, absent_fresh h es g c.args.self.now.hierarchy c.requires.legal is, refl, absent_not_made h es g is)

pub begin_online-requires-clause-made : goal.begin_online-requires-clause-made
begin_online-requires-clause-made c = let h = hierarchy_of c.args.self.now.shape in let es = c.args.room.now.items in let g = c.args.group in
    let hand = ap (λ (t : ChargeToken). t.me.0.tree.hand) c.done_in.ensures.same ∙ c.requires.journal in
    let is = sym (ap (λ l. state_at h l g) hand) ∙ (sym c.state_in_hand.ensures.state ∙ c.in-Online.is) in online_made h es g is

pub begin_online-requires-clause-fresh : goal.begin_online-requires-clause-fresh
begin_online-requires-clause-fresh c = let h = hierarchy_of c.args.self.now.shape in let es = c.args.room.now.items in let g = c.args.group in
    let hand = ap (λ (t : ChargeToken). t.me.0.tree.hand) c.done_in.ensures.same ∙ c.requires.journal in
    let is = sym (ap (λ l. state_at h l g) hand) ∙ (sym c.state_in_hand.ensures.state ∙ c.in-Online.is) in online_fresh h es g is

pub returns-in-Offline-clause-view : goal.returns-in-Offline-clause-view
returns-in-Offline-clause-view c = c.state_in_hand.ensures.same ∙ c.done_in.ensures.same

pub returns-in-NotMade-clause-view : goal.returns-in-NotMade-clause-view
returns-in-NotMade-clause-view c = c.state_in_hand.ensures.same ∙ c.done_in.ensures.same
