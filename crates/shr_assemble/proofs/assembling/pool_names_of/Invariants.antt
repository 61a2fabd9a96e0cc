-- SPDX-License-Identifier: GPL-2.0-only
use Rattle.shr_assemble.proofs.Common.{◌≡◌, map, take}
use Rattle.shr_assemble.proofs.assembling.pool_names_of.Given as goal

abbrev pub invariant-loop-pool : goal.invariant-loop-pool
invariant-loop-pool l = l.names.items ≡ map (λ p. p.name) (take l.pool-index l.pools)
