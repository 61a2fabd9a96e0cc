-- SPDX-License-Identifier: GPL-2.0-only
use Rattle.std.proofs.Common.{[]}
use Rattle.shr_outside.specs.Paper.{IsLeft}
use Rattle.shr_outside.proofs.Sending.{ended}
use Rattle.shr_outside.proofs.paper.Paper.finish.Goals as goal

pub returns-clause-ends : goal.returns-clause-ends
unfolding IsLeft
returns-clause-ends g c = λ task h. ended task _ _ _ (rw c.flush.ensures.empty at (c.flush.ensures.kept.1 task [] h))
