-- SPDX-License-Identifier: GPL-2.0-only
use Rattle.shr_cache.proofs.Common.{sym, ◌∙◌, fresh, same_for, same_then, Uncharges}
use Rattle.shr_cache.proofs.Charged.{puts, taken_back, stays_charged}
use Rattle.shr_cache.proofs.puts.put.Goals as goal

pub returns-then-is_added-clause-put : goal.returns-then-is_added-clause-put
returns-then-is_added-clause-put g c = let a = c.args in let t = a.target in let w = a.worker.now in let l = c.group_state.new.self in let h = c.try_charge.new.worker in let v = c.offer-answered.new.worker in let said = c.offer-answered.result in
    stays_charged w.shared w.by t.group t.node t.decl (fresh w.by t.group a.key a.value) said.found said.reply w.state v.state (sym c.is_added.ensures ∙ c.if-is_added.true)
    (puts w l h v t a.key a.value said.found said.reply (sym c.spent.ensures ∙ c.in_default.is) c.group_state.ensures.still (record { shows = c.in-Online.ensures.shows; rest = c.in-Online.ensures.rest }) c.try_charge.ensures.same c.in-Charged.ensures.admitted c.offer-answered.ensures.offered)

pub returns-clause-put : goal.returns-clause-put
returns-clause-put g c = let a = c.args in let t = a.target in let w = a.worker.now in let l = c.group_state.new.self in let h = c.try_charge.new.worker in let v = c.offer-answered.new.worker in let last = c.uncharge.new.worker in let said = c.offer-answered.result in
    let still = c.group_state.ensures.still in let kept = c.offer-answered.ensures.kept in
    let same = same_then w h v (same_then w l h (record { shared = still.shared; by = still.by }) c.try_charge.ensures.same) (record { shared = kept.shared; by = kept.by }) in
    taken_back w.shared w.by t.group t.node t.decl (fresh w.by t.group a.key a.value) said.found said.reply w.state v.state last.state (sym c.is_added.ensures ∙ c.if-is_added.false)
    (puts w l h v t a.key a.value said.found said.reply (sym c.spent.ensures ∙ c.in_default.is) still (record { shows = c.in-Online.ensures.shows; rest = c.in-Online.ensures.rest }) c.try_charge.ensures.same c.in-Charged.ensures.admitted c.offer-answered.ensures.offered)
    (same_for (λ x b. Uncharges x b t.group v.state last.state) w v same c.uncharge.ensures.uncharged)
