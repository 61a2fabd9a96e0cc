-- SPDX-License-Identifier: GPL-2.0-only
use Rattle.shr_cache.proofs.Common.{ap, sym, subst, ◌∙◌, Acting, IsSame, same_for, Uncharges, AsksToDrop}
use Rattle.shr_cache.proofs.Told.{stayed, dropped}
use Rattle.shr_cache.proofs.dels.del.Goals as goal

pub returns-then-not-is_dropped-clause-deleted : goal.returns-then-not-is_dropped-clause-deleted
returns-then-not-is_dropped-clause-deleted g c = let a = c.args in let t = a.target in let w = a.worker.now in let last = c.take_out-answered.new.worker in let said = c.take_out-answered.result in
    let asked = subst (λ (v : Acting). AsksToDrop v.shared v.by t.group t.node t.decl a.key.now said.found said.reply v.state last.state) c.reserve_uses.ensures.rest c.take_out-answered.ensures.asked in
    stayed w.shared w.by t.group t.node t.decl a.key.now said.found said.reply w.state last.state (sym c.is_dropped.ensures ∙ c.if-not-is_dropped.true) (sym c.spent.ensures ∙ c.in_default.is) asked

pub returns-clause-deleted : goal.returns-clause-deleted
returns-clause-deleted g c = let a = c.args in let t = a.target in let w = a.worker.now in let v = c.take_out-answered.new.worker in let last = c.uncharge.new.worker in let said = c.take_out-answered.result in
    let room = c.reserve_uses.ensures.rest in let kept = c.take_out-answered.ensures.kept in
    let same : IsSame w v = record { shared = kept.shared ∙ ap (λ (y : Acting). y.shared) room; by = kept.by ∙ ap (λ (y : Acting). y.by) room } in
    let asked = subst (λ (y : Acting). AsksToDrop y.shared y.by t.group t.node t.decl a.key.now said.found said.reply y.state v.state) room c.take_out-answered.ensures.asked in
    dropped w.shared w.by t.group t.node t.decl a.key.now said.found said.reply w.state v.state last.state (sym c.is_dropped.ensures ∙ c.if-not-is_dropped.false) (sym c.spent.ensures ∙ c.in_default.is) asked
    (same_for (λ x b. Uncharges x b t.group v.state last.state) w v same c.uncharge.ensures.uncharged)
