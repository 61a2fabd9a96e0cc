-- SPDX-License-Identifier: GPL-2.0-only
use Rattle.shr_pool.proofs.Keeping.{pops, faced}
use Rattle.shr_pool.proofs.jobs.JobQueue.pop.Goals as goal

pub pop_as-requires-clause-rule : goal.pop_as-requires-clause-rule
pop_as-requires-clause-rule g c = (pops _ _ c.requires.pass.1 c.requires.pass.0.here c.requires.open, faced _ _ c.requires.pass.1 c.requires.pass.0.here c.requires.open)
