-- SPDX-License-Identifier: GPL-2.0-only
use Rattle.shr_gen.specs.Generated.{group_at}
use Rattle.shr_gen.proofs.Making.{made_more}
use Rattle.shr_gen.proofs.generating.groups.Goals as goal

pub loop-worker-preserved : goal.loop-worker-preserved
loop-worker-preserved c = made_more group_at c.loop-worker.worker _ _ _ c.loop-worker.invariant c.in_ok-group_at.ensures c.in_ok-add.ensures.added
