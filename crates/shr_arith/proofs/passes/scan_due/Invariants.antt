-- SPDX-License-Identifier: GPL-2.0-only
use Rattle.std.proofs.Common.{◌≡◌, ◌+◌, ◌*◌, ◌≤◌, false}
use Rattle.shr_model.specs.Pass.{due, ask_size}
use Rattle.shr_arith.proofs.passes.scan_due.Given as goal

abbrev pub invariant-scanning : goal.invariant-scanning
invariant-scanning g l = record {
  going : l.tally.stopped ≡ false;
  left : l.left + l.tally.calls * ask_size l.plan.batch l.len l.plan.total ≡ l.plan.total;
  calls : l.tally.calls ≤ due l.plan.batch l.len l.plan.total;
  asked : l.tally.asked ≡ l.tally.calls * ask_size l.plan.batch l.len l.plan.total;
  within : l.left + l.tally.calls ≤ l.plan.total;
  all : l.left + l.tally.asked ≤ l.plan.total;
  freed : l.tally.freed ≤ l.tally.asked;
  frees : g.S.Simple.frees l.fn.shrinker l.tally.freed l.shrinker;
}

abbrev pub decreases-scanning : goal.decreases-scanning
decreases-scanning g l = l.left
