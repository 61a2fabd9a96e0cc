-- SPDX-License-Identifier: GPL-2.0-only
use Rattle.std.proofs.Common.{ℕ, ◌+◌, ◌<◌, ◌≤◌, List, refl, sym, ap, subst, ◌∙◌, arith}
use Rattle.shr_pool.specs.Lines.{ends, most_helpers}
use Rattle.shr_pool.specs.Passes as passes
use Rattle.shr_pool.specs.declared.items.SweepItem.{SweepItem}
use Rattle.shr_pool.specs.declared.view.PassView.{PassView}
use Rattle.shr_seats.specs.Shapes.{groups_in}
use Rattle.shr_core.specs.Seats.{shape_of}
use Rattle.shr_walk.specs.declared.seats.Shared.{Shared}
use Rattle.shr_walk.proofs.Acted.{same_none, same_then}
use Rattle.shr_walk.specs.Rounds.{Visit}
use Rattle.shr_walk.proofs.VisitsMade.{visited_same}
use Rattle.shr_pool.specs.Helping.{HasStopped, walk_of_job}
use Rattle.shr_pool.proofs.Turning.{HasHelped, marked, helped_none, helped_swept, helped_open, helped_more, helped_stopped, popped_within, popped_few}
use Rattle.shr_pool.proofs.helping.help.Goals as goal

pub loop-turn-init : goal.loop-turn-init
loop-turn-init g c = record {
  pass = c.requires.pass.0;
  helped = helped_none c.args.worker.now.shared c.args.worker.now.by c.args.priority c.args.nofs (passes.pass_view c.args.pass.now) c.args.worker.now.state;
  few = omega arith;
  same = same_none c.args.worker.now;
  queue = refl;
}

pub pop-requires-clause-pass : goal.pop-requires-clause-pass
pop-requires-clause-pass g c = let inv = c.loop-turn.invariant in (inv.pass, ap (λ (v : PassView). v.standing.first) inv.helped.popped ∙ c.requires.pass.1)

pub pop-requires-clause-open : goal.pop-requires-clause-open
pop-requires-clause-open g c = let inv = c.loop-turn.invariant in let a = c.args in let w = a.worker.now in
    helped_open w.shared w.by a.priority a.nofs c.loop-turn.jobs c.loop-turn.freed (passes.pass_view a.pass.now) (passes.pass_view c.loop-turn.pass) w.state c.loop-turn.worker.state inv.helped c.requires.open

pub pop-requires-clause-marked : goal.pop-requires-clause-marked
pop-requires-clause-marked g c = let inv = c.loop-turn.invariant in let line = c.requires.line in
    subst (λ (l : List SweepItem). most_helpers ≤ ends l) (sym (ap (λ (v : PassView). v.pushed) inv.helped.popped ∙ line.line)) (marked line.nodes line.groups)

pub walk_one-answer-requires-clause-place : goal.walk_one-answer-requires-clause-place
walk_one-answer-requires-clause-place g c = let inv = c.loop-turn.invariant in let a = c.args in let w = a.worker.now in
    subst (λ (x : Shared). (c.in-Some-pop.job.node < (shape_of x.core).nodes) × (c.in-Some-pop.job.group < groups_in (shape_of x.core))) (sym inv.same.shared)
    (popped_within w.shared w.by a.priority a.nofs c.loop-turn.jobs c.loop-turn.freed (passes.pass_view a.pass.now) (passes.pass_view c.loop-turn.pass) w.state c.loop-turn.worker.state inv.helped c.requires.line c.in-Some-pop.job (passes.pass_view c.pop.new.pass) c.in-Some-pop.ensures.popped c.pop.ensures.within)

pub overflow_add-freed : goal.overflow_add-freed
overflow_add-freed g c = let inv = c.loop-turn.invariant in let a = c.args in let w = a.worker.now in
    let few = popped_few w.shared w.by a.priority a.nofs c.loop-turn.jobs c.loop-turn.freed (passes.pass_view a.pass.now) (passes.pass_view c.loop-turn.pass) w.state c.loop-turn.worker.state inv.helped c.requires.line c.in-Some-pop.job (passes.pass_view c.pop.new.pass) c.in-Some-pop.ensures.popped c.pop.ensures.within in
    omega (arith, few, inv.few, c.walk_one-answer.ensures.few, c.told-freed.ensures)

pub overflow_add-jobs : goal.overflow_add-jobs
overflow_add-jobs g c = let inv = c.loop-turn.invariant in let a = c.args in let w = a.worker.now in
    let few = popped_few w.shared w.by a.priority a.nofs c.loop-turn.jobs c.loop-turn.freed (passes.pass_view a.pass.now) (passes.pass_view c.loop-turn.pass) w.state c.loop-turn.worker.state inv.helped c.requires.line c.in-Some-pop.job (passes.pass_view c.pop.new.pass) c.in-Some-pop.ensures.popped c.pop.ensures.within in
    omega (arith, few)

pub returns-in-None-pop-clause-pass : goal.returns-in-None-pop-clause-pass
returns-in-None-pop-clause-pass g c = let inv = c.loop-turn.invariant in (c.pop.ensures.pass, ap (λ (v : PassView). v.standing.first) c.in-None-pop.ensures.popped ∙ (ap (λ (v : PassView). v.standing.first) inv.helped.popped ∙ c.requires.pass.1))

pub returns-in-None-pop-clause-helped : goal.returns-in-None-pop-clause-helped
returns-in-None-pop-clause-helped g c = let inv = c.loop-turn.invariant in let a = c.args in let w = a.worker.now in
    helped_swept w.shared w.by a.priority a.nofs c.loop-turn.jobs c.loop-turn.freed (passes.pass_view a.pass.now) (passes.pass_view c.loop-turn.pass) w.state c.loop-turn.worker.state inv.helped (passes.pass_view c.pop.new.pass) c.in-None-pop.ensures.popped

pub returns-then-is_short-clause-pass : goal.returns-then-is_short-clause-pass
returns-then-is_short-clause-pass g c = let inv = c.loop-turn.invariant in (c.pop.ensures.pass, ap (λ (v : PassView). v.standing.first) c.in-Some-pop.ensures.popped ∙ (ap (λ (v : PassView). v.standing.first) inv.helped.popped ∙ c.requires.pass.1))

pub returns-then-is_short-clause-helped : goal.returns-then-is_short-clause-helped
returns-then-is_short-clause-helped g c = let inv = c.loop-turn.invariant in let a = c.args in let w = a.worker.now in let b = c.loop-turn.worker in let last = c.walk_one-answer.new.worker in let s = w.state in let u = last.state in
    let v : Visit = record { job = walk_of_job a.priority a.nofs c.in-Some-pop.job; answer = c.walk_one-answer.result; after = u } in
    subst (λ (n : ℕ). HasStopped w.shared w.by a.priority a.nofs (c.loop-turn.freed + n) (passes.pass_view a.pass.now) (passes.pass_view c.pop.new.pass) s u) (sym c.told-freed.ensures)
    (helped_stopped w.shared w.by a.priority a.nofs c.loop-turn.jobs c.loop-turn.freed (passes.pass_view a.pass.now) (passes.pass_view c.loop-turn.pass) s c.loop-turn.worker.state inv.helped c.in-Some-pop.job (passes.pass_view c.pop.new.pass) c.in-Some-pop.ensures.popped
    c.walk_one-answer.result u (visited_same w b v inv.same c.walk_one-answer.ensures.walked) (sym c.is_short.ensures ∙ c.if-is_short.true))

pub loop-turn-preserved : goal.loop-turn-preserved
loop-turn-preserved g c = let inv = c.loop-turn.invariant in let a = c.args in let w = a.worker.now in let b = c.loop-turn.worker in let last = c.walk_one-answer.new.worker in let s = w.state in let u = last.state in
    let v : Visit = record { job = walk_of_job a.priority a.nofs c.in-Some-pop.job; answer = c.walk_one-answer.result; after = u } in record {
      pass = c.pop.ensures.pass;
      helped = subst (λ (n : ℕ). HasHelped w.shared w.by a.priority a.nofs (c.loop-turn.jobs + 1) (c.loop-turn.freed + n) (passes.pass_view a.pass.now) (passes.pass_view c.pop.new.pass) s u) (sym c.told-freed.ensures)
          (helped_more w.shared w.by a.priority a.nofs c.loop-turn.jobs c.loop-turn.freed (passes.pass_view a.pass.now) (passes.pass_view c.loop-turn.pass) s c.loop-turn.worker.state inv.helped c.in-Some-pop.job (passes.pass_view c.pop.new.pass) c.in-Some-pop.ensures.popped
          c.walk_one-answer.result u (visited_same w b v inv.same c.walk_one-answer.ensures.walked) (sym c.is_short.ensures ∙ c.if-is_short.false));
      few = omega (arith, inv.few, c.walk_one-answer.ensures.few, c.told-freed.ensures);
      same = same_then w b last inv.same c.walk_one-answer.ensures.same;
      queue = refl;
    }
