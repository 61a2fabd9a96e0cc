-- SPDX-License-Identifier: GPL-2.0-only
use Rattle.std.proofs.Common.{[]}
use Rattle.shr_list.proofs.Linked.{nodes_are, settled}
use Rattle.shr_list.proofs.queue.links.Links.empty_into.Goals as goal

pub invariant_of-self : goal.invariant_of-self
invariant_of-self c = settled c.empty_into.new.self [] c.empty_into.ensures.emptied

pub returns-clause-emptied : goal.returns-clause-emptied
returns-clause-emptied c = nodes_are c.empty_into.new.self [] c.empty_into.ensures.emptied
