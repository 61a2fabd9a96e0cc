-- SPDX-License-Identifier: GPL-2.0-only
use Rattle.shr_offline.proofs.Common.{◌≡◌, ℕ, ap, subst, sym, ◌∙◌, view_of, shape_of, AreSpliced, all_places, Serial, DoneAnswer, Shared, state_of, HandsOver, WorkerState, HandsOverAs}
use Rattle.shr_charge.specs.declared.answers.DoneAnswer.TheVariants as ended
use Rattle.shr_node.specs.declared.answers.SpliceAnswer.TheVariants as splice
use Rattle.shr_core.specs.declared.table.Core.{Core}
use Rattle.shr_charge.specs.Seat.{ChargeSeated}
use Rattle.shr_walk.specs.Acting.{Acting}
use Rattle.shr_offline.specs.declared.answers.OfflineAnswer.{OfflineAnswer}
use Rattle.shr_offline.specs.declared.answers.OfflineAnswer.TheVariants as answered
use Rattle.shr_offline.proofs.Handed.{fit_after, with_core, with_charge, with_carries, handed_over}
use Rattle.shr_offline.proofs.offlining.hand_over.Goals.{in-Done, in-AlreadyDone}
use Rattle.shr_offline.proofs.offlining.hand_over.Goals as goal

-- how the end is told
abbrev told_of : DoneAnswer → ℕ → ℕ → OfflineAnswer
told_of (ended.Done entry) moved deferred = answered.Done entry moved deferred
told_of (ended.AlreadyDone entry) moved deferred = answered.AlreadyDone entry

pub invariant_of-worker : goal.invariant_of-worker
invariant_of-worker g c = let at = c.worker.inside in let fit = c.worker.invariant in
    fit_after at.shared.now at.seats c.splice_all.new.seat c.args.group (splice.Worn c.in-Worn.spent) fit.shared fit.rested.charge fit.rested.deferred (c.in-Worn.ensures.table ∙ fit.rested.core) c.in-Worn.ensures.answer fit.rested.idle fit.rested.owed

pub invariant_of-worker-in-Memory : goal.invariant_of-worker-in-Memory
invariant_of-worker-in-Memory g c = let at = c.worker.inside in let fit = c.worker.invariant in
    fit_after at.shared.now at.seats c.splice_all.new.seat c.args.group splice.Memory fit.shared fit.rested.charge fit.rested.deferred (c.in-Memory.ensures.table ∙ fit.rested.core) c.in-Memory.ensures.answer fit.rested.idle fit.rested.owed

pub invariant_of-worker-2 : goal.invariant_of-worker-2
invariant_of-worker-2 g c = let at = c.worker.inside in let fit = c.worker.invariant in let s = with_carries (with_charge at.seats c.done_offline.new.self) c.carry_all-deferred.new.seat c.carry_all-deferred.new.carries in
    fit_after at.shared.now s c.splice_all.new.seat c.args.group (splice.Spliced c.in-Spliced.moved) fit.shared (ap (λ (z : ChargeSeated). z.charge) c.done_offline.ensures.rest ∙ fit.rested.charge) (c.carry_all-deferred.ensures.carried.moved.deferred ∙ fit.rested.deferred) (c.in-Spliced.ensures.table ∙ fit.rested.core) c.in-Spliced.ensures.answer fit.rested.idle fit.rested.owed

-- what the end came to, as the answer that tells it
handed_as : (x : Shared) (by : Serial) (group moved deferred : ℕ) (answer : DoneAnswer) (s t : WorkerState) → HandsOver x by group moved deferred answer s t → HandsOverAs x by group (told_of answer moved deferred) s t
handed_as x by group moved deferred (ended.Done entry) s t h = h
handed_as x by group moved deferred (ended.AlreadyDone entry) s t h = record { moved = moved; deferred = deferred; handed = h }

pub returns-clause-handed : goal.returns-clause-handed
returns-clause-handed g c = let at = c.worker.inside in let x = at.shared.now in let did = c.done_offline.ensures in let carry = c.carry_all-deferred in let moved = c.in-Spliced.moved in let answer = c.done_offline.result in
    let t = state_of (with_charge (with_carries (with_core at.seats c.splice_all.new.seat) carry.new.seat carry.new.carries) c.done_offline.new.self) in
    let handed : HandsOverAs c.args.worker.now.shared c.args.worker.now.by c.args.group (told_of answer moved carry.result) c.args.worker.now.state t = subst (λ (w : Acting). HandsOverAs w.shared w.by c.args.group (told_of answer moved carry.result) w.state t) c.worker.view_is
    (handed_as x at.by c.args.group moved carry.result answer (state_of at.seats) t
    (handed_over x c.worker.invariant.shared at.by c.args.group moved carry.result answer at.seats c.splice_all.new.seat carry.new.seat carry.new.carries c.done_offline.new.self
    c.worker.invariant.rested.charge (subst (λ (k : Core). AreSpliced (shape_of k) (all_places (shape_of k) c.args.group) moved (view_of at.seats.cache.core) (view_of c.splice_all.new.seat)) c.worker.invariant.rested.core c.in-Spliced.ensures.answer) carry.ensures.carried did.tells did.view did.knows (ap (λ (z : ChargeSeated). z.uses) did.rest))) in
    let told : told_of answer moved carry.result ≡ c.match-done_offline.result = elim c.match-done_offline.branch as (λ _. told_of answer moved carry.result ≡ c.match-done_offline.result) [
      | in-Done w ↦ ap (λ (a : DoneAnswer). told_of a moved carry.result) w.in-Done.is ∙ sym w.result-is
      | in-AlreadyDone w ↦ ap (λ (a : DoneAnswer). told_of a moved carry.result) w.in-AlreadyDone.is ∙ sym w.result-is
    ] in
    subst (λ (o : OfflineAnswer). HandsOverAs c.args.worker.now.shared c.args.worker.now.by c.args.group o c.args.worker.now.state t) told handed
