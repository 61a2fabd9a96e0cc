-- SPDX-License-Identifier: GPL-2.0-only
use Rattle.shr_pool.proofs.Keeping.{forks}
use Rattle.shr_pool.proofs.jobs.Jobs.pass.Goals as goal

pub another-requires-clause-rule : goal.another-requires-clause-rule
another-requires-clause-rule c = forks _ _ c.requires.first.1 c.requires.first.0.here c.requires.few
