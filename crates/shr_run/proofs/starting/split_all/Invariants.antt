-- SPDX-License-Identifier: GPL-2.0-only
use Rattle.shr_run.proofs.Common.{◌≡◌, length, view_of, AreSplitOff, AreTasks}
use Rattle.shr_run.proofs.starting.split_all.Given as goal

abbrev pub invariant-loop-number : goal.invariant-loop-number
invariant-loop-number g l = record {
  first : AreSplitOff l.tables (view_of l.fn.first.seats.cache.core) l.number l.first;
  count : length l.starts.items ≡ l.number;
  tasks : AreTasks l.tables (view_of l.fn.first.seats.cache.core) l.starts.items;
}
