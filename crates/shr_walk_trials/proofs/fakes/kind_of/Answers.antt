-- SPDX-License-Identifier: GPL-2.0-only
use Rattle.std.proofs.Common.{sym, arith}
use Rattle.shr_walk.proofs.Counting.{count_empty, count_skip, count_many}
use Rattle.shr_walk_trials.proofs.fakes.kind_of.Goals as goal

pub returns-then-seen-eq0-clause-kind : goal.returns-then-seen-eq0-clause-kind
returns-then-seen-eq0-clause-kind c = sym (count_empty c.args.floor c.args.seen.len c.args.seen.version (let z = c.if-seen-eq0.true in omega (arith, z)))

pub returns-then-seen-floor-clause-kind : goal.returns-then-seen-floor-clause-kind
returns-then-seen-floor-clause-kind c = sym (count_skip c.args.floor c.args.seen.len c.args.seen.version (let z = c.if-seen-eq0.false in omega (arith, z)) (let z = c.if-seen-floor.true in omega (arith, z)))

pub returns-else-seen-floor-clause-kind : goal.returns-else-seen-floor-clause-kind
returns-else-seen-floor-clause-kind c = sym (count_many c.args.floor c.args.seen.len c.args.seen.version (let z = c.if-seen-eq0.false in omega (arith, z)) (let z = c.if-seen-floor.false in omega (arith, z)))
