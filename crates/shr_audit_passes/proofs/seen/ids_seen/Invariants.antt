-- SPDX-License-Identifier: GPL-2.0-only
use Rattle.shr_audit_passes.proofs.Common.{◌≡◌, flat_map, take, MapSeen, ids_in}
use Rattle.shr_audit_passes.proofs.seen.ids_seen.Given as goal

abbrev pub invariant-loop-map : goal.invariant-loop-map
invariant-loop-map l = l.ids.items ≡ flat_map (λ (m : MapSeen). ids_in m.unit m.bits) (take l.map-index l.maps)
