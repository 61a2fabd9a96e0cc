-- SPDX-License-Identifier: GPL-2.0-only
use Rattle.shr_list.proofs.Common.{rules, AreStrangers}
use Rattle.shr_list.proofs.Known.{unmade_takes}
use Rattle.shr_list.proofs.queue.index.Index.take_in.Goals as goal

pub returns-in_default : goal.returns-in_default
returns-in_default c =
    let nodes = c.args.links.now.nodes in
    let kids = c.args.other.now.nodes in
    let strangers : AreStrangers nodes kids = c.requires.strangers (search rules) in
    record { taken = unmade_takes c.args.self.now nodes kids c.in_default.not-Made strangers; kept = tt }
