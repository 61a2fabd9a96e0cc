-- SPDX-License-Identifier: GPL-2.0-only
use Rattle.shr_cache.proofs.Common.{Some, sym, subst, view_of, shape_of, PinGives, Acting, state_of, SetPinGives}
use Rattle.shr_cache.specs.Opening.{IsTargetOf}
use Rattle.shr_cache.specs.Replies.{pin_says}
use Rattle.shr_cache.proofs.Links.{place_there, with_core, list_asked, fit_called}
use Rattle.shr_cache.proofs.Stays.{stays}
use Rattle.shr_cache.proofs.pins.set_pin.Goals as goal

pub set_pin-answer-requires-clause-place : goal.set_pin-answer-requires-clause-place
set_pin-answer-requires-clause-place g c = place_there c.worker.inside.shared.now c.in-Held.found.id c.open.new.seats c.args.target c.in-Held.ensures.after
    (subst (λ (w : Acting). IsTargetOf (shape_of w.shared.core) c.args.target) (sym c.worker.view_is) c.requires.target)

pub invariant_of-worker-2 : goal.invariant_of-worker-2
invariant_of-worker-2 g c = let s = c.open.new.seats in let e = c.set_pin-answer in
    fit_called c.worker.inside.shared.now c.in-Held.found.id s e.new.seat c.put.new.self c.worker.invariant.shared c.in-Held.ensures.after (stays (shape_of s.cache.core.core) (view_of s.cache.core) (view_of e.new.seat) _ _ _ _ _ e.result e.ensures.answer) e.ensures.table c.put.ensures.back

pub returns-clause-pinned : goal.returns-clause-pinned
returns-clause-pinned g c = let a = c.args in let t = a.target in let at = c.worker.inside in let f = c.in-Held.found in let e = c.set_pin-answer in
    subst (λ (w : Acting). SetPinGives w.shared w.by t.group t.node t.decl a.key.now a.pinned (record { reply = c.reply_of.result; found = Some f }) w.state (state_of (with_core c.open.new.seats c.put.new.self))) c.worker.view_is
    (list_asked pin_says (λ shape id v answer w. PinGives shape v id t.node at.by t.group a.key.now a.pinned answer w) at.shared.now t.group t.decl f e.result c.reply_of.result (state_of at.seats) c.open.new.seats e.new.seat c.put.new.self c.in-Held.ensures.opened c.in-Held.ensures.after.core e.ensures.answer c.put.ensures.back c.reply_of.ensures)
