-- SPDX-License-Identifier: GPL-2.0-only
use Rattle.shr_tool.proofs.Common.{◌≤◌, ◌+◌, ◌-◌, length, Consumes}
use Rattle.shr_tool.proofs.reading.read_all.Given as goal

abbrev pub invariant-taking : goal.invariant-taking
invariant-taking g l = record {
  within : length l.bytes.items ≤ l.limit;
  taken : Consumes (g.S.Source.left l.fn.source) (g.S.Source.left l.source) l.bytes.items;
  later : g.S.Source.faults l.fn.source ≤ g.S.Source.faults l.source;
  turns : g.S.Source.turns l.source ≤ g.S.Source.turns l.fn.source + length l.bytes.items;
}

abbrev pub decreases-taking : goal.decreases-taking
decreases-taking g l = l.limit + 1 - length l.bytes.items
