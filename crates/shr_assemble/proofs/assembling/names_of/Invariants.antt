-- SPDX-License-Identifier: GPL-2.0-only
use Rattle.shr_assemble.proofs.Common.{◌≡◌, map, take}
use Rattle.shr_assemble.proofs.assembling.names_of.Given as goal

abbrev pub invariant-loop-cache : goal.invariant-loop-cache
invariant-loop-cache l = l.names.items ≡ map (λ c. c.name) (take l.cache-index l.caches)
