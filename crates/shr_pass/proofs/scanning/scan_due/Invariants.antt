-- SPDX-License-Identifier: GPL-2.0-only
use Rattle.std.proofs.Common.{◌≡◌, ◌+◌, ◌*◌, ◌≤◌}
use Rattle.shr_base.specs.declared.walks.Ending.TheVariants.{Through}
use Rattle.shr_model.specs.Pass.{due, due_asks, ask_size}
use Rattle.shr_pass.specs.Meanings.{SameMeaning, CountsTo}
use Rattle.shr_pass.specs.Passes.{Scans}
use Rattle.shr_pass.proofs.scanning.scan_due.Given as goal

abbrev pub invariant-scanning : goal.invariant-scanning
invariant-scanning g l = record {
  through : l.tally.ending ≡ Through;
  left : l.left + l.tally.asks * ask_size l.plan.batch l.len l.plan.total ≡ l.plan.total;
  asks : l.tally.asks ≤ due l.plan.batch l.len l.plan.total;
  scanned : l.tally.scanned ≡ l.tally.asks * ask_size l.plan.batch l.len l.plan.total;
  within : l.left + l.tally.asks ≤ l.plan.total;
  freed : l.tally.freed ≤ l.tally.scanned;
  closed : l.tally.closed ≤ l.tally.asks;
  same : SameMeaning (g.S.Shrinker.serves l.fn.shrinker) (g.S.Shrinker.serves l.shrinker) (g.S.Shrinker.owes l.fn.shrinker) (g.S.Shrinker.owes l.shrinker) (g.S.Shrinker.ready l.fn.shrinker) (g.S.Shrinker.ready l.shrinker) (g.S.Shrinker.kept l.fn.shrinker) (g.S.Shrinker.kept l.shrinker) (g.S.Shrinker.told l.fn.shrinker) (g.S.Shrinker.told l.shrinker) (g.S.Shrinker.counts l.fn.shrinker) (g.S.Shrinker.counts l.shrinker) (g.S.Shrinker.scans l.fn.shrinker) (g.S.Shrinker.scans l.shrinker);
  kept : g.S.Shrinker.kept l.fn.shrinker l.fn.seat l.seat;
  counts : g.S.Shrinker.counts l.shrinker l.seat ≡ g.S.Shrinker.counts l.fn.shrinker l.fn.seat;
  scans : Scans (λ a. g.S.Shrinker.told l.fn.shrinker a l.seat) (g.S.Shrinker.scans l.fn.shrinker l.fn.seat) (g.S.Shrinker.scans l.shrinker l.seat) (due_asks l.plan.batch l.len l.plan.total) l.tally.asks l.tally.closed l.tally.freed;
  calls : CountsTo (g.S.Shrinker.calls l.shrinker) (g.S.Shrinker.calls l.fn.shrinker + l.tally.asks);
  closes : CountsTo (g.S.Shrinker.closes l.shrinker) (g.S.Shrinker.closes l.fn.shrinker + l.tally.closed);
}

abbrev pub decreases-scanning : goal.decreases-scanning
decreases-scanning g l = l.left
