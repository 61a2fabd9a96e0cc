-- SPDX-License-Identifier: GPL-2.0-only
use Rattle.shr_cache.proofs.Common.{◌<◌, Some, sym, subst, Object, View, view_of, shape_of, fresh, AddGives, Acting, state_of, OfferedAs}
use Rattle.shr_core.specs.declared.table.Core.{Core}
use Rattle.shr_seats.specs.Shapes.{groups_in}
use Rattle.shr_cache.specs.Opening.{IsTargetOf}
use Rattle.shr_cache.proofs.Links.{place_there, with_core, called, fit_called}
use Rattle.shr_cache.proofs.Stays.{stays}
use Rattle.shr_cache.proofs.puts.offer.Goals as goal

pub add-answer-requires-clause-place : goal.add-answer-requires-clause-place
add-answer-requires-clause-place g c = let s = c.find_cache.new.seats in let p = place_there c.worker.inside.shared.now c.in-Held.found.id s c.args.target c.in-Held.ensures.after
    (subst (λ (w : Acting). IsTargetOf (shape_of w.shared.core) c.args.target) (sym c.worker.view_is) c.requires.target) in
    (p.0, p.1, subst (λ (o : Object). o.birth < groups_in (shape_of s.cache.core.core)) (sym c.new_object-object.ensures) p.2)

pub invariant_of-worker-2 : goal.invariant_of-worker-2
invariant_of-worker-2 g c = let a = c.args in let at = c.worker.inside in let x = at.shared.now in let f = c.in-Held.found in let s = c.find_cache.new.seats in let e = c.add-answer in
    fit_called x f.id s e.new.seat c.put.new.self c.worker.invariant.shared c.in-Held.ensures.after
    (stays (shape_of s.cache.core.core) (view_of s.cache.core) (view_of e.new.seat) _ _ _ _ _ e.result e.ensures.answer) e.ensures.table c.put.ensures.back

pub returns-clause-offered : goal.returns-clause-offered
returns-clause-offered g c = let a = c.args in let t = a.target in let at = c.worker.inside in let x = at.shared.now in let f = c.in-Held.found in let s = state_of at.seats in let found = c.find_cache.new.seats in let e = c.add-answer in let o = c.new_object-object in
    let last = state_of (with_core found c.put.new.self) in
    let call = λ (v w : View). AddGives (shape_of x.core) v f.id t.node o.result e.result w in
    subst (λ (w : Acting). OfferedAs w.shared t.node t.decl (fresh w.by t.group a.key a.value) (Some f) c.reply_of.result w.state last) c.worker.view_is
    (subst (λ (y : Object). OfferedAs x t.node t.decl y (Some f) c.reply_of.result s last) o.ensures (record {
      answer = e.result;
      told = c.reply_of.ensures;
      did = record { held = state_of found; holds = c.in-Held.ensures.found; calls = called call found e.new.seat c.put.new.self (subst (λ (k : Core). AddGives (shape_of k) (view_of found.cache.core) f.id t.node o.result e.result (view_of e.new.seat)) c.in-Held.ensures.after.core e.ensures.answer) c.put.ensures.back };
    }))
