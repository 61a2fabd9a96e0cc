-- SPDX-License-Identifier: GPL-2.0-only
use Rattle.shr_list.proofs.Slots.{keys_same}
use Rattle.shr_list.proofs.queue.Queue.push.Goals as goal

pub returns-then-is_err-clause-keys : goal.returns-then-is_err-clause-keys
returns-then-is_err-clause-keys c = rw c.prepare.ensures (keys_same c.args.self.now.keys c.args.self.now.items)
