-- SPDX-License-Identifier: GPL-2.0-only
use Rattle.shr_list.proofs.Common.{◌≡◌, ◌+◌, ◌≤◌, true, false, [], length, scan_of, IsQueueWhole, AreNodesKept}
use Rattle.shr_list.proofs.Scans.{IsScanning}
use Rattle.shr_list.proofs.queue.scanning.go_through.Given as goal

abbrev pub invariant-loop-met : goal.invariant-loop-met
invariant-loop-met l = record {
  whole : IsQueueWhole l.queue;
  scanning : IsScanning l.policy l.asked l.met l.queue.nodes l.at l.freed.items (scan_of l.policy l.asked l.fn.queue.items);
  began : IsQueueWhole l.fn.queue;
  untouched : l.roomy ≡ false → l.queue ≡ l.fn.queue;
  room : l.roomy ≡ true → length (scan_of l.policy l.asked l.fn.queue.items).freed ≤ length l.freed.items + l.freed.spare;
  none : l.roomy ≡ false → l.freed.items ≡ [];
  kept : AreNodesKept l.fn.queue.nodes l.queue.nodes;
}
