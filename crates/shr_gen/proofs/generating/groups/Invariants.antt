-- SPDX-License-Identifier: GPL-2.0-only
use Rattle.shr_gen.proofs.Common.{◌≡◌, map, range_with_len, group_at}
use Rattle.shr_gen.proofs.generating.groups.Given as goal

abbrev pub invariant-loop-worker : goal.invariant-loop-worker
invariant-loop-worker l = l.groups.items ≡ map group_at (range_with_len 0 l.worker)
