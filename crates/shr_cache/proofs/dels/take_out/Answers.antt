-- SPDX-License-Identifier: GPL-2.0-only
use Rattle.shr_cache.proofs.Common.{Some, sym, subst, view_of, shape_of, DropGives, Acting, state_of, AsksToDrop}
use Rattle.shr_cache.specs.Opening.{IsTargetOf}
use Rattle.shr_cache.specs.Replies.{drop_says}
use Rattle.shr_cache.proofs.Links.{place_there, with_core, list_asked, fit_called}
use Rattle.shr_cache.proofs.Stays.{stays}
use Rattle.shr_cache.proofs.dels.take_out.Goals as goal

pub drop_key-answer-requires-clause-place : goal.drop_key-answer-requires-clause-place
drop_key-answer-requires-clause-place g c = place_there c.worker.inside.shared.now c.in-Held.found.id c.open.new.seats c.args.target c.in-Held.ensures.after
    (subst (λ (w : Acting). IsTargetOf (shape_of w.shared.core) c.args.target) (sym c.worker.view_is) c.requires.target)

pub invariant_of-worker-2 : goal.invariant_of-worker-2
invariant_of-worker-2 g c = let s = c.open.new.seats in let e = c.drop_key-answer in
    fit_called c.worker.inside.shared.now c.in-Held.found.id s e.new.seat c.put.new.self c.worker.invariant.shared c.in-Held.ensures.after (stays (shape_of s.cache.core.core) (view_of s.cache.core) (view_of e.new.seat) _ _ _ _ _ e.result e.ensures.answer) e.ensures.table c.put.ensures.back

pub returns-clause-asked : goal.returns-clause-asked
returns-clause-asked g c = let a = c.args in let t = a.target in let at = c.worker.inside in let f = c.in-Held.found in let e = c.drop_key-answer in
    subst (λ (w : Acting). AsksToDrop w.shared w.by t.group t.node t.decl a.key.now (Some f) c.reply_of.result w.state (state_of (with_core c.open.new.seats c.put.new.self))) c.worker.view_is
    (list_asked drop_says (λ shape id v answer w. DropGives shape v id t.node at.by t.group a.key.now answer w) at.shared.now t.group t.decl f e.result c.reply_of.result (state_of at.seats) c.open.new.seats e.new.seat c.put.new.self c.in-Held.ensures.opened c.in-Held.ensures.after.core e.ensures.answer c.put.ensures.back c.reply_of.ensures)
