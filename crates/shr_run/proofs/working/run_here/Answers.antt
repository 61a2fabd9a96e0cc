-- SPDX-License-Identifier: GPL-2.0-only
use Rattle.shr_run.proofs.Common.{List, arith, sym, subst, All, Starting}
use Rattle.std.proofs.lemmas.List.Elements.{All-tail}
use Rattle.shr_worker.specs.Tasks.{IsTask}
use Rattle.shr_run.proofs.Here.{HasRunFront, front_none, front_more, front_all}
use Rattle.shr_run.proofs.Passing.{all_first}
use Rattle.shr_run.proofs.working.run_here.Goals as goal

pub loop-start-init : goal.loop-start-init
loop-start-init g c = let all = c.into_iter-start-iterator.ensures.into_iter_gives.0 in record {
  next = tt;
  finite = tt;
  tasks = subst (All (λ (s : Starting). IsTask s.shared s.task)) (sym all) c.requires.tasks;
  front = subst (λ (l : List Starting). HasRunFront l c.args.starts.items c.new-results.result.items) (sym all) (front_none c.args.starts.items c.new-results.result.items c.new-results.ensures.items);
}

pub run_one-result-requires : goal.run_one-result-requires
run_one-result-requires g c =
    all_first (λ (s : Starting). IsTask s.shared s.task) c.in-Some.start c.next.new.self.rest.items (subst (All (λ (s : Starting). IsTask s.shared s.task)) c.in-Some.ensures.steps.0 c.loop-start.invariant.tasks)

pub loop-start-preserved : goal.loop-start-preserved
loop-start-preserved g c = let i = c.loop-start.invariant in let next = c.in-Some.ensures.steps.0 in let left = c.loop-start.start-iterator.rest.items in let rest = c.next.new.self.rest.items in
    let s = c.in-Some.start in let w = c.run_one-result.result in record {
      next = tt;
      finite = tt;
      tasks = All-tail (λ (u : Starting). IsTask u.shared u.task) s rest (subst (All (λ (u : Starting). IsTask u.shared u.task)) next i.tasks);
      front = front_more left rest c.args.starts.items c.loop-start.results.items c.push.new.self.items s w next c.in_ok-push.ensures.items c.run_one-result.ensures i.front;
    }

pub returns-clause-run : goal.returns-clause-run
returns-clause-run g c = let empty = c.in-None.ensures.steps.0 in let same = c.loop-start.start-iterator.rest.ok.0 in
    (front_all c.loop-start.start-iterator.rest.items c.args.starts.items c.loop-start.results.items (omega (arith, empty, same)) c.loop-start.invariant.front).0

pub returns-clause-len : goal.returns-clause-len
returns-clause-len g c = let empty = c.in-None.ensures.steps.0 in let same = c.loop-start.start-iterator.rest.ok.0 in let out = c.loop-start.results.ok.0 in let tasks = c.args.starts.ok.0 in
    let long = (front_all c.loop-start.start-iterator.rest.items c.args.starts.items c.loop-start.results.items (omega (arith, empty, same)) c.loop-start.invariant.front).1 in omega (arith, out, tasks, long)
