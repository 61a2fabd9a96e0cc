-- SPDX-License-Identifier: GPL-2.0-only
use Rattle.shr_run.proofs.Common.{◌∙◌, map, subst, All, IsPassBack, helped_of}
use Rattle.shr_pool.specs.Passes as passes
use Rattle.shr_run.proofs.Passing.{joining_more, carried_one}
use Rattle.shr_run.proofs.sweeping.join_passes.Goals as goal
use Rattle.std.proofs.lemmas.List.Elements.{All-tail}

pub loop-helper-preserved : goal.loop-helper-preserved
loop-helper-preserved c = let i = c.loop-helper.invariant in let next = c.in-Some.ensures.steps.0 in let left = c.loop-helper.helper-iterator.rest.items in let rest = c.next.new.self.rest.items in
    let start = passes.pass_view c.args.jobs.first in let v = passes.pass_view c.loop-helper.jobs.first in let w = passes.pass_view c.join.new.self.first in let h = c.in-Some.helper in let all = c.args.helped.items in record {
      next = tt;
      finite = tt;
      queue = c.join.ensures.queue ∙ i.queue;
      first = c.join.ensures.first.0;
      joining = joining_more c.args.jobs.queue start v w h left rest all next c.join.ensures.first.1 c.join.ensures.once i.joining;
      back = All-tail (IsPassBack c.args.jobs.queue) h rest (subst (All (IsPassBack c.args.jobs.queue)) next i.back);
      workers = carried_one helped_of c.loop-helper.workers.items h c.push.new.self.items left rest (map helped_of all) c.in_ok-push.ensures.items next i.workers;
    }
