-- SPDX-License-Identifier: GPL-2.0-only
use Rattle.std.proofs.Common.{sym}
use Rattle.shr_outside.specs.Paper.{IsLeft}
use Rattle.shr_outside.proofs.paper.Paper.put.Goals as goal

pub returns-then-not-put : goal.returns-then-not-put
unfolding IsLeft
returns-then-not-put g c = (c.put_apart.ensures.0, λ task left h. c.put_apart.ensures.1 task left (rw (sym c.if-not-put.ensures.put) at h))
