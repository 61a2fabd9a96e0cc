-- SPDX-License-Identifier: GPL-2.0-only
use Rattle.shr_worker.proofs.Common.{◌≡◌, ◌≤◌, [], length, IsWorkOf, crew_at}
use Rattle.shr_worker.proofs.running.run_commands.Given as goal

abbrev pub invariant-loop-k : goal.invariant-loop-k
invariant-loop-k g l = record {
  shared : l.worker.shared ≡ l.fn.worker.shared;
  number : l.worker.by.worker ≡ l.fn.worker.by.worker;
  pools : l.plain.pools ≡ l.fn.plain.pools;
  few : length l.plain.state.walks ≤ l.k;
  count : length l.answers.items ≡ l.k;
  work : IsWorkOf l.fn.worker.shared l.fn.worker.by.worker l.answers.items (crew_at l.fn.worker l.fn.plain []) (crew_at l.worker l.plain l.isolations.items);
}
