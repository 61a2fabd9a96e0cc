-- SPDX-License-Identifier: GPL-2.0-only
use Rattle.std.proofs.Common.{rules}
use Rattle.shr_report.proofs.walks.walk.Goals as goal

pub returns-clause-numbers : goal.returns-clause-numbers
returns-clause-numbers g c = record {
  by = record { worker = search rules; command = search rules };
  group = c.put_walk.ensures.group;
  node = c.put_walk.ensures.node;
  priority = c.put_walk.ensures.priority;
  maps = rw c.maps.ensures at c.units.ensures.maps;
  attempts = rw c.attempts.ensures at c.units.ensures.attempts;
  answer = c.put_walk.ensures.answer;
}
