-- SPDX-License-Identifier: GPL-2.0-only
use Rattle.std.proofs.Common.{arith, rules}
use Rattle.shr_list.proofs.Walks.{here, is_at, beyond}
use Rattle.shr_list.proofs.queue.links.Links.at.Goals as goal

pub returns-in-None : goal.returns-in-None
returns-in-None c = record { key = beyond c.args.self.now.nodes c.loop-met.met c.args.i (search rules) (omega arith); apart = c.head-at.ensures.apart }

pub next-at-requires : goal.next-at-requires
next-at-requires c = is_at c.args.self.now.nodes c.loop-met.met c.in-Some.node (here c.args.self.now.nodes c.loop-met.met c.in-Some.node (search rules))

pub loop-met-preserved : goal.loop-met-preserved
loop-met-preserved c = let now = here c.args.self.now.nodes c.loop-met.met c.in-Some.node (search rules) in c.next-at.ensures _ now.object _ now.split
