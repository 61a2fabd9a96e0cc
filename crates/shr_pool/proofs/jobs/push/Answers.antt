-- SPDX-License-Identifier: GPL-2.0-only
use Rattle.shr_pool.proofs.Keeping.{pushes, filled}
use Rattle.shr_pool.proofs.jobs.push.Goals as goal

pub push_as-requires-clause-rule : goal.push_as-requires-clause-rule
push_as-requires-clause-rule g c = let f = c.requires.filling in (pushes _ _ _ _ f.first f.here f.alone, filled _ _ f.first f.here f.alone f.none)
