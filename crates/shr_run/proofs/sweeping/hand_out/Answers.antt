-- SPDX-License-Identifier: GPL-2.0-only
use Rattle.shr_run.proofs.Common.{◌≡◌, ◌∙◌, ◌++◌, List, sym, ap, subst, length, map, refl, All, IsTrue, All-nil, WorkerResult, Helping, worker_of, HasPass}
use Rattle.shr_pool.specs.Passes as passes
use Rattle.shr_run.proofs.Passing.{moved_one, none_handed_out, more_handed_out, passed_more, whole_more}
use Rattle.shr_run.proofs.sweeping.hand_out.Goals as goal

pub loop-worker-init : goal.loop-worker-init
loop-worker-init g c = let none = c.new-helpers.ensures.items in let all = c.into_iter-worker-iterator.ensures.into_iter_gives.0 in let v = passes.pass_view c.args.jobs.now.first in record {
  next = tt;
  finite = tt;
  shared = refl;
  queue = refl;
  first = c.requires.first;
  view = none_handed_out v c.new-helpers.result.items c.requires.none c.requires.standing (ap (λ (l : List Helping). length l) none);
  workers = ap (λ (l : List Helping). map worker_of l ++ c.into_iter-worker-iterator.result.rest.items) none ∙ all;
  passes = subst (All (HasPass c.args.shared.now c.args.jobs.now.queue v.pushed)) (sym none) (All-nil (HasPass c.args.shared.now c.args.jobs.now.queue v.pushed));
  whole = λ some. subst (All (λ (w : WorkerResult). IsTrue w.whole)) all some;
}

pub loop-worker-preserved : goal.loop-worker-preserved
loop-worker-preserved g c = let i = c.loop-worker.invariant in let next = c.in-Some.ensures.steps.0 in let left = c.loop-worker.worker-iterator.rest.items in let rest = c.next.new.self.rest.items in
    let h : Helping = record { shared = c.args.shared.now; worker = c.in-Some.worker; pass = c.pass-pass.result } in let all = c.args.results.items in let hs = c.loop-worker.helpers.items in let more = c.push.new.self.items in
    let v = passes.pass_view c.loop-worker.jobs.first in let w = passes.pass_view c.pass-pass.new.self.first in let pushed = (passes.pass_view c.args.jobs.now.first).pushed in let is = c.in_ok-push.ensures.items in record {
      next = tt;
      finite = tt;
      shared = i.shared;
      queue = c.pass-pass.ensures.queue ∙ i.queue;
      first = c.pass-pass.ensures.first.0;
      view = more_handed_out v w pushed hs more h c.pass-pass.ensures.first.1 i.view is;
      workers = moved_one worker_of hs more h left rest all is next i.workers;
      passes = passed_more c.args.shared.now c.loop-worker.jobs.queue c.pass-pass.new.self.queue v pushed hs more h c.pass-pass.ensures.queue i.view c.pass-pass.ensures.pass.0 c.pass-pass.ensures.pass.1 is refl i.passes;
      whole = whole_more left rest all c.in-Some.worker next c.if-not-worker.false i.whole;
    }
