-- SPDX-License-Identifier: GPL-2.0-only
use Rattle.shr_list.proofs.Common.{◌∙◌, ap, is_some}
use Rattle.shr_list.proofs.Indexed.{held_at}
use Rattle.shr_list.proofs.queue.Queue.holds.Goals as goal

pub returns : goal.returns
returns c = rw c.locate.ensures.whole.items (c.is_some.ensures ∙ ap is_some c.locate.ensures.named ∙ held_at c.args.birth c.args.key.now c.args.self.now.nodes)
