-- SPDX-License-Identifier: GPL-2.0-only
use Rattle.shr_walk.proofs.Common.{arith, content_of, within_of_valid}
use Rattle.shr_walk.proofs.opening.shape_of.Goals as goal

pub overflow_cast-result : goal.overflow_cast-result
overflow_cast-result c = let few = (within_of_valid (content_of c.args.script.now) c.requires).caches in let n = c.len.ensures in omega (arith, few, n)
