-- SPDX-License-Identifier: GPL-2.0-only
use Rattle.shr_audit_formed.proofs.Common.{range_with_len, bit_places, wheres}
use Rattle.shr_audit_formed.proofs.Strip.{nothing_left, none_met, empty_decides}
use Rattle.shr_audit_formed.proofs.maps.maps_stand.Goals as goal

pub returns-in-Some : goal.returns-in-Some
returns-in-Some c = nothing_left (bit_places c.args.nodes c.args.groups (range_with_len 0 c.args.units)) (wheres c.args.maps.now) (wheres c.in-Some.rest.now) c.is_empty.result c.in-Some.ensures.some (empty_decides c.in-Some.rest.now c.is_empty.result c.is_empty.ensures)

pub returns-in-None : goal.returns-in-None
returns-in-None c = none_met (bit_places c.args.nodes c.args.groups (range_with_len 0 c.args.units)) (wheres c.args.maps.now) c.in-None.ensures.none
