-- SPDX-License-Identifier: GPL-2.0-only
use Rattle.shr_tables.proofs.Common.{content_of, within_of_valid}
use Rattle.shr_tables.proofs.Pooling.{all_settings}
use Rattle.shr_tables.proofs.opening.open_pools.Goals as goal

pub new-requires-clause-nodes : goal.new-requires-clause-nodes
new-requires-clause-nodes c = let w = within_of_valid (content_of c.args.script.now) c.requires in (w.some_node, w.nodes)

pub new-requires-clause-few : goal.new-requires-clause-few
new-requires-clause-few c = (within_of_valid (content_of c.args.script.now) c.requires).pools

pub new-requires-clause-pools : goal.new-requires-clause-pools
new-requires-clause-pools c = all_settings c.args.script.now.pools.items (within_of_valid (content_of c.args.script.now) c.requires).each_pool
