-- SPDX-License-Identifier: GPL-2.0-only
use Rattle.shr_list.proofs.Common.{◌≡◌, key_at}
use Rattle.shr_list.proofs.queue.links.Links.at.Given as goal

abbrev pub invariant-loop-met : goal.invariant-loop-met
invariant-loop-met l = l.at ≡ key_at l.met l.self.nodes
