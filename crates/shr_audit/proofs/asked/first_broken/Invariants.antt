-- SPDX-License-Identifier: GPL-2.0-only
use Rattle.shr_audit.proofs.Order.{AreHeldTo}
use Rattle.shr_audit.proofs.asked.first_broken.Given as goal

abbrev pub invariant-loop-law : goal.invariant-loop-law
invariant-loop-law l = AreHeldTo l.law-index l.script l.report
