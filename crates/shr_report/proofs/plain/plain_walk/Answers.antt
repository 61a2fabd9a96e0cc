-- SPDX-License-Identifier: GPL-2.0-only
use Rattle.std.proofs.Common.{rules}
use Rattle.shr_report.proofs.plain.plain_walk.Goals as goal

pub returns-clause-numbers : goal.returns-clause-numbers
returns-clause-numbers g c = record {
  by = record { worker = search rules; command = search rules };
  node = c.put_plain.ensures.node;
  priority = c.put_plain.ensures.priority;
  tries = rw c.as_slice.ensures at c.tries.ensures.numbers;
  answer = c.put_plain.ensures.answer;
}
