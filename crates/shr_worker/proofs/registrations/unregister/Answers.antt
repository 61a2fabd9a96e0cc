-- SPDX-License-Identifier: GPL-2.0-only
use Rattle.shr_worker.proofs.Common.{ℕ, inr, sym, ap, subst, ◌∙◌, View, view_of, Acting, unfound, ◌⊎◌, shape_of, shared_parents}
use Rattle.shr_base.specs.declared.replies.Reply.TheVariants as reply
use Rattle.shr_registry.specs.declared.answers.UnregisterAnswer.TheVariants.{NoCache, Memory, Freed, Half}
use Rattle.shr_registry.specs.Ending.{UnregisterGives}
use Rattle.shr_walk.specs.State.{state_of}
use Rattle.shr_worker.specs.Commands.{Unregisters, UnregistersNone}
use Rattle.shr_worker.proofs.Resting.{ended_at, fit_with, with_core}
use Rattle.shr_worker.proofs.Ended.{none_uncharged, uncharged_after, freed_drained, half_drained}
use Rattle.shr_worker.proofs.registrations.unregister.Goals as goal

pub invariant_of-worker : goal.invariant_of-worker
invariant_of-worker g c = let at = c.worker.inside in let d = c.in-NoCache.ensures in fit_with at.shared.now at.seats c.unregister.new.seat c.worker.invariant d.table d.rooms d.answer.free d.answer.gains.owed

pub invariant_of-worker-in-Memory : goal.invariant_of-worker-in-Memory
invariant_of-worker-in-Memory g c = let at = c.worker.inside in let d = c.in-Memory.ensures in fit_with at.shared.now at.seats c.unregister.new.seat c.worker.invariant d.table d.rooms d.answer.free d.answer.gains.owed

pub invariant_of-worker-in-Freed : goal.invariant_of-worker-in-Freed
invariant_of-worker-in-Freed g c = let at = c.worker.inside in let d = c.in-Freed.ensures in fit_with at.shared.now at.seats c.unregister.new.seat c.worker.invariant d.table d.rooms d.answer.free d.answer.gains.owed

pub invariant_of-worker-in-Half : goal.invariant_of-worker-in-Half
invariant_of-worker-in-Half g c = let at = c.worker.inside in let d = c.in-Half.ensures in fit_with at.shared.now at.seats c.unregister.new.seat c.worker.invariant d.table d.rooms d.answer.free d.answer.gains.owed

pub uncharge_drained-requires-clause-born : goal.uncharge_drained-requires-clause-born
uncharge_drained-requires-clause-born g c = let at = c.worker.inside in let core = at.shared.now.core in let d = c.in-Freed in
    (freed_drained (shape_of core) c.worker.invariant.shared.most_items core.limits.4 core.limits.2 (view_of at.seats.cache.core) c.args.decl at.by d.id d.entry d.from d.to d.objects.items (view_of c.unregister.new.seat) (ended_at at.shared.now at.seats c.args.decl at.by (Freed d.id d.entry d.from d.to d.objects) (view_of c.unregister.new.seat) c.worker.invariant.rested d.ensures.answer)).born

pub uncharge_drained-requires-clause-few : goal.uncharge_drained-requires-clause-few
uncharge_drained-requires-clause-few g c = let at = c.worker.inside in let core = at.shared.now.core in let d = c.in-Freed in
    (freed_drained (shape_of core) c.worker.invariant.shared.most_items core.limits.4 core.limits.2 (view_of at.seats.cache.core) c.args.decl at.by d.id d.entry d.from d.to d.objects.items (view_of c.unregister.new.seat) (ended_at at.shared.now at.seats c.args.decl at.by (Freed d.id d.entry d.from d.to d.objects) (view_of c.unregister.new.seat) c.worker.invariant.rested d.ensures.answer)).few

pub uncharge_drained-requires-in-Half-clause-born : goal.uncharge_drained-requires-in-Half-clause-born
uncharge_drained-requires-in-Half-clause-born g c = let at = c.worker.inside in let core = at.shared.now.core in let d = c.in-Half in
    (half_drained (shape_of core) c.worker.invariant.shared.most_items core.limits.4 core.limits.2 (view_of at.seats.cache.core) c.args.decl at.by d.id d.entry d.from d.to d.objects.items (view_of c.unregister.new.seat) d.why (ended_at at.shared.now at.seats c.args.decl at.by (Half d.id d.entry d.from d.to d.objects d.why) (view_of c.unregister.new.seat) c.worker.invariant.rested d.ensures.answer)).born

pub uncharge_drained-requires-in-Half-clause-few : goal.uncharge_drained-requires-in-Half-clause-few
uncharge_drained-requires-in-Half-clause-few g c = let at = c.worker.inside in let core = at.shared.now.core in let d = c.in-Half in
    (half_drained (shape_of core) c.worker.invariant.shared.most_items core.limits.4 core.limits.2 (view_of at.seats.cache.core) c.args.decl at.by d.id d.entry d.from d.to d.objects.items (view_of c.unregister.new.seat) d.why (ended_at at.shared.now at.seats c.args.decl at.by (Half d.id d.entry d.from d.to d.objects d.why) (view_of c.unregister.new.seat) c.worker.invariant.rested d.ensures.answer)).few

pub returns-in-NoCache-clause-unregisters : goal.returns-in-NoCache-clause-unregisters
returns-in-NoCache-clause-unregisters g c = let at = c.worker.inside in let may = sym c.spent.ensures ∙ c.in_default.is in let told = c.unfound-in-NoCache.result in let t = state_of (with_core at.seats c.unregister.new.seat) in
    subst (λ (w : Acting). UnregistersNone told w.state t ⊎ Unregisters w.shared w.by c.args.decl told w.state t) c.worker.view_is
    (inr (record {
      charges = may;
      answer = NoCache c.in-NoCache.entry;
      told = c.unfound-in-NoCache.ensures;
      ended = (ended_at at.shared.now at.seats c.args.decl at.by (NoCache c.in-NoCache.entry) (view_of c.unregister.new.seat) c.worker.invariant.rested c.in-NoCache.ensures.answer);
      uncharged = none_uncharged (shared_parents at.shared.now) at.by (state_of at.seats) (view_of c.unregister.new.seat) may;
    }))

pub returns-in-Memory-clause-unregisters : goal.returns-in-Memory-clause-unregisters
returns-in-Memory-clause-unregisters g c = let at = c.worker.inside in let may = sym c.spent.ensures ∙ c.in_default.is in let told = c.unfound-in-Memory.result in let t = state_of (with_core at.seats c.unregister.new.seat) in
    subst (λ (w : Acting). UnregistersNone told w.state t ⊎ Unregisters w.shared w.by c.args.decl told w.state t) c.worker.view_is
    (inr (record {
      charges = may;
      answer = Memory;
      told = c.unfound-in-Memory.ensures;
      ended = (ended_at at.shared.now at.seats c.args.decl at.by Memory (view_of c.unregister.new.seat) c.worker.invariant.rested c.in-Memory.ensures.answer);
      uncharged = none_uncharged (shared_parents at.shared.now) at.by (state_of at.seats) (view_of c.unregister.new.seat) may;
    }))

pub returns-in_ok-uncharge_drained-in-Freed-clause-unregisters : goal.returns-in_ok-uncharge_drained-in-Freed-clause-unregisters
returns-in_ok-uncharge_drained-in-Freed-clause-unregisters g c = let at = c.worker.inside in let x = at.shared.now in let d = c.in-Freed in let u = c.uncharge_drained in let told = c.unfound-in-Freed.result in let t = u.new.worker.state in
    subst (λ (w : Acting). UnregistersNone told w.state t ⊎ Unregisters w.shared w.by c.args.decl told w.state t) c.worker.view_is
    (inr (record {
      charges = sym c.spent.ensures ∙ c.in_default.is;
      answer = Freed d.id d.entry d.from d.to d.objects;
      told = c.unfound-in-Freed.ensures ∙ ap (λ (n : ℕ). unfound (reply.Freed d.id d.entry d.from d.to n)) c.in_ok-uncharge_drained-in-Freed.ensures.count;
      ended = subst (λ (v : View). UnregisterGives (shape_of x.core) (view_of at.seats.cache.core) c.args.decl at.by (Freed d.id d.entry d.from d.to d.objects) v) (sym u.ensures.core) (ended_at at.shared.now at.seats c.args.decl at.by (Freed d.id d.entry d.from d.to d.objects) (view_of c.unregister.new.seat) c.worker.invariant.rested d.ensures.answer);
      uncharged = uncharged_after (shared_parents x) at.by d.objects.items (state_of at.seats) (view_of c.unregister.new.seat) t c.in_ok-uncharge_drained-in-Freed.ensures.uncharged;
    }))

pub returns-in_ok-uncharge_drained-in-Half-clause-unregisters : goal.returns-in_ok-uncharge_drained-in-Half-clause-unregisters
returns-in_ok-uncharge_drained-in-Half-clause-unregisters g c = let at = c.worker.inside in let x = at.shared.now in let d = c.in-Half in let u = c.uncharge_drained-in-Half in let told = c.unfound-in-Half.result in let t = u.new.worker.state in
    subst (λ (w : Acting). UnregistersNone told w.state t ⊎ Unregisters w.shared w.by c.args.decl told w.state t) c.worker.view_is
    (inr (record {
      charges = sym c.spent.ensures ∙ c.in_default.is;
      answer = Half d.id d.entry d.from d.to d.objects d.why;
      told = c.unfound-in-Half.ensures ∙ ap (λ (n : ℕ). unfound (reply.Half d.id d.entry d.from d.to n d.why)) c.in_ok-uncharge_drained-in-Half.ensures.count;
      ended = subst (λ (v : View). UnregisterGives (shape_of x.core) (view_of at.seats.cache.core) c.args.decl at.by (Half d.id d.entry d.from d.to d.objects d.why) v) (sym u.ensures.core) (ended_at at.shared.now at.seats c.args.decl at.by (Half d.id d.entry d.from d.to d.objects d.why) (view_of c.unregister.new.seat) c.worker.invariant.rested d.ensures.answer);
      uncharged = uncharged_after (shared_parents x) at.by d.objects.items (state_of at.seats) (view_of c.unregister.new.seat) t c.in_ok-uncharge_drained-in-Half.ensures.uncharged;
    }))
