-- SPDX-License-Identifier: GPL-2.0-only
use Rattle.shr_audit_formed.proofs.Common.{◌≡◌, ◌++◌, flat_map, range_with_len, wheres, group_places}
use Rattle.shr_audit_formed.proofs.maps.strip_nodes.Given as goal

abbrev pub invariant-loop-node : goal.invariant-loop-node
invariant-loop-node l = wheres l.maps ≡ flat_map (λ node. group_places node l.groups l.units) (range_with_len 0 l.node) ++ wheres l.rest
