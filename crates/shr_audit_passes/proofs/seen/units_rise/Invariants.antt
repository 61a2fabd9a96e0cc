-- SPDX-License-Identifier: GPL-2.0-only
use Rattle.shr_audit_passes.proofs.Common.{◌≡◌, map, take, range_with_len, MapSeen}
use Rattle.shr_audit_passes.proofs.seen.units_rise.Given as goal

abbrev pub invariant-loop-i : goal.invariant-loop-i
invariant-loop-i l = take l.i (map (λ (m : MapSeen). m.unit) l.maps) ≡ range_with_len 0 l.i
