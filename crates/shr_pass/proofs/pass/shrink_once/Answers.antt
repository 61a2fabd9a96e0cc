-- SPDX-License-Identifier: GPL-2.0-only
use Rattle.std.proofs.Common.{arith}
use Rattle.shr_model.proofs.PassLaws.{follows}
use Rattle.shr_deferred.proofs.SeatLaws.{Gains-none, Gains-trans}
use Rattle.shr_pass.proofs.pass.shrink_once.Goals as goal

pub returns-in-Many-clause-record : goal.returns-in-Many-clause-record
returns-in-Many-clause-record g c = let did = c.scan_due-tally.ensures in let planned = c.plan-plan.ensures in
    follows _ _ _ _ _ _ _ planned.batch planned.total planned.delta did.made did.scanned c.next_deferred-next.ensures (omega (arith, did.scans.number))

pub returns-in-Empty-clause-deferred : goal.returns-in-Empty-clause-deferred
returns-in-Empty-clause-deferred g c = Gains-none _

pub returns-in-Skip-clause-deferred : goal.returns-in-Skip-clause-deferred
returns-in-Skip-clause-deferred g c = Gains-none _

pub returns-in-Many-clause-deferred : goal.returns-in-Many-clause-deferred
returns-in-Many-clause-deferred g c = Gains-trans _ _ _ _ _ c.take-nr.ensures.step c.give.ensures.step
