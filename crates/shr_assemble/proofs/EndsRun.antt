-- SPDX-License-Identifier: GPL-2.0-only
-- A run from the ends of its tables.
use Rattle.shr_assemble.proofs.Common.{List, Shared, Ends, Report, WorkerLog, AreEndsOf, IsMadeOf, IsRun}
use Rattle.shr_assemble.proofs.ScriptGroups.{sized_of}
use Rattle.shr_assemble.proofs.EndsAfter.{are_steps, marks}
use Rattle.shr_assemble.proofs.EndsGathered.{bits, journals}
use Rattle.shr_assemble.proofs.EndsAfter as founds
use Rattle.shr_assemble.proofs.EndsHistories.{uses_and_tree}
use Rattle.shr_assemble.proofs.EndsIdle.{idle}
use Rattle.shr_assemble.proofs.EndsOpened.{opened, once}
use Rattle.shr_assemble.proofs.EndsOrder.{in_line}
use Rattle.shr_assemble.proofs.EndsPool as pool
use Rattle.shr_assemble.proofs.EndsSteps.{workers, isolating, swept}
use Rattle.shr_assemble.proofs.EndsTotals as totals
use Rattle.shr_assemble.proofs.EndsUnits.{team, units_are}
use Rattle.shr_assemble.proofs.EndsWords.{deferred}
use Rattle.shr_assemble.proofs.Rows.{DidEach}

pub run_of_ends : (x : Shared) (did : DidEach x) (logs : List WorkerLog) (e : Ends) (ends : AreEndsOf x logs e) (r : Report) (made : IsMadeOf x.script logs e r)
    → IsRun x.script r (workers x did logs e ends r made)
run_of_ends x did logs e ends r made = record {
  sized = sized_of x ends.shared;
  version = made.version;
  nodes = made.nodes;
  ids = made.ids;
  paths = made.paths;
  names = made.names;
  pools = made.pools;
  steps = are_steps x did logs e ends r made;
  isolations = isolating x did logs e ends r made;
  journals = journals x did logs e ends r made;
  bits = bits x did logs e ends r made;
  marks = marks x did logs e ends r made;
  pool = record {
    journal = pool.journal x did logs e ends r made;
    opened = opened x did logs e ends r made;
    once = once x did logs e ends r made;
    printed = pool.printed_ids x did logs e ends r made;
    ended = founds.founds_end x did logs e ends r made;
    last = founds.last_printed x did logs e ends r made;
    drawn = pool.drawn x did logs e ends r made;
    idle = idle x did logs e ends r made;
  };
  uses = uses_and_tree x did logs e ends r made;
  deferred = deferred x did logs e ends r made;
  order = in_line x did logs e ends r made;
  plain = team x did logs e ends r made;
  units = units_are x did logs e ends r made;
  sweep = swept x did logs e ends r made;
  added = totals.added x did logs e ends r made;
  freed = totals.freed x did logs e ends r made;
  listed = totals.listed x did logs e ends r made;
}
