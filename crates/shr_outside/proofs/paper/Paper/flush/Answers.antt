-- SPDX-License-Identifier: GPL-2.0-only
use Rattle.std.proofs.Common.{sym, refl}
use Rattle.shr_outside.specs.Paper.{IsLeft}
use Rattle.shr_outside.proofs.paper.Paper.flush.Goals as goal

pub returns-clause-kept : goal.returns-clause-kept
unfolding IsLeft
returns-clause-kept g c = (refl, λ task left h. rw c.clear.ensures (c.send-self.ensures.sent task left (rw (sym c.bytes.ensures) at h)))
