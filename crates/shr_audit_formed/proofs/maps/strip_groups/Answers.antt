-- SPDX-License-Identifier: GPL-2.0-only
use Rattle.shr_audit_formed.proofs.Common.{◌+◌, ◌-◌, refl, arith, wheres, unit_places}
use Rattle.shr_audit_formed.proofs.Strip.{met, not_met}
use Rattle.shr_audit_formed.proofs.maps.strip_groups.Goals as goal

pub returns-in_default-clause-none : goal.returns-in_default-clause-none
returns-in_default-clause-none c =
    let end = c.saturating_sub-k-end.ensures in
    let below = c.loop-k-test.true in
    not_met (λ group. unit_places c.args.node group c.args.units) 1 (c.args.groups - 1) c.loop-k.k (1 + c.loop-k.k) (wheres c.args.maps.now) (wheres c.loop-k.rest.now) refl (omega (arith, end, below)) c.loop-k.invariant c.in_default.ensures.none

pub loop-k-preserved : goal.loop-k-preserved
loop-k-preserved c = met (λ group. unit_places c.args.node group c.args.units) 1 c.loop-k.k (1 + c.loop-k.k) (wheres c.args.maps.now) (wheres c.loop-k.rest.now) (wheres c.in-Some.more.now) refl c.loop-k.invariant c.in-Some.ensures.some
