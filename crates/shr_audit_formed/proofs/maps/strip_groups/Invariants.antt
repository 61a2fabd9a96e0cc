-- SPDX-License-Identifier: GPL-2.0-only
use Rattle.shr_audit_formed.proofs.Common.{◌≡◌, ◌++◌, flat_map, range_with_len, wheres, unit_places}
use Rattle.shr_audit_formed.proofs.maps.strip_groups.Given as goal

abbrev pub invariant-loop-k : goal.invariant-loop-k
invariant-loop-k l = wheres l.maps ≡ flat_map (λ group. unit_places l.node group l.units) (range_with_len 1 l.k) ++ wheres l.rest
