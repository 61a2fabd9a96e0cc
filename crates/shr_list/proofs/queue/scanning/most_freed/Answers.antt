-- SPDX-License-Identifier: GPL-2.0-only
use Rattle.std.proofs.Common.{arith, rules}
use Rattle.shr_model.proofs.ScanLaws.{freed_asked, freed_there}
use Rattle.shr_list.proofs.queue.scanning.most_freed.Goals as goal

pub returns-in_default : goal.returns-in_default
returns-in_default c =
    let asked = freed_asked c.args.policy c.args.asked c.args.queue.now.items in
    let there = freed_there c.args.policy c.args.asked c.args.queue.now.items in
    search (rules, arith, asked, there)
