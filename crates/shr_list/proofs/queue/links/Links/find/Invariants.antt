-- SPDX-License-Identifier: GPL-2.0-only
use Rattle.shr_list.proofs.Common.{◌≡◌, drop, key_at, key_named}
use Rattle.shr_list.proofs.queue.links.Links.find.Given as goal

abbrev pub invariant-loop-met : goal.invariant-loop-met
invariant-loop-met l = record {
  at : l.at ≡ key_at l.met l.self.nodes;
  ahead : key_named l.birth l.key l.self.nodes ≡ key_named l.birth l.key (drop l.met l.self.nodes);
}
