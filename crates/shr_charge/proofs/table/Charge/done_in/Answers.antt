-- SPDX-License-Identifier: GPL-2.0-only
use Rattle.shr_charge.proofs.Common.{◌≡◌, ap, sym, ◌∙◌, ⊎_elim, hierarchy_of, state_at, begin_of, None}
use Rattle.shr_charge.proofs.States.{offline_begun, online_fresh, absent_fresh, fresh_undone, done_behind}
use Rattle.shr_charge.proofs.table.Charge.done_in.Goals as goal

pub first_like-requires-clause-before : goal.first_like-requires-clause-before
first_like-requires-clause-before c = let h = hierarchy_of c.args.self.now.shape in let es = c.args.entries.now in let g = c.args.group in
    let is = ap (λ l. state_at h l g) (sym c.requires.journal) ∙ (sym c.state_in_hand.ensures.state ∙ c.in-Offline.is) in
    done_behind h es g c.args.self.now.hierarchy c.requires.legal c.in-Offline.entry (offline_begun h es g c.in-Offline.entry is)

pub returns-in-Online-clause-done : goal.returns-in-Online-clause-done
returns-in-Online-clause-done c = let h = hierarchy_of c.args.self.now.shape in let es = c.args.entries.now in let g = c.args.group in let groups = c.args.self.now.hierarchy in let legal = c.requires.legal in
    let was = ap (λ l. state_at h l g) (sym c.requires.journal) ∙ sym c.state_in_hand.ensures.state in
    let fresh : begin_of es g ≡ None = ⊎_elim (λ online. online_fresh h es g (was ∙ online)) (λ absent. absent_fresh h es g groups legal (was ∙ absent)) c.in-Online.is in sym (fresh_undone h es g groups legal fresh)
