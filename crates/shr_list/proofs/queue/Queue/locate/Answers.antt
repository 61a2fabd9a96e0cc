-- SPDX-License-Identifier: GPL-2.0-only
use Rattle.std.proofs.Common.{refl}
use Rattle.shr_list.proofs.queue.Queue.locate.Goals as goal

pub returns : goal.returns
returns c = rw (← c.self.view_is) record { named = c.find.ensures; whole = record { keys = refl; items = refl } }
