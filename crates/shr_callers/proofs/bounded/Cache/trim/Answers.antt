-- SPDX-License-Identifier: GPL-2.0-only
use Rattle.std.proofs.Common.{arith}
use Rattle.shr_base.specs.declared.objects.Policy.TheVariants.{Clock}
use Rattle.shr_list.proofs.Lengths.{length-scan, length-scanned}
use Rattle.shr_callers.proofs.bounded.Cache.trim.Goals as goal

-- a scan makes the list no longer
pub invariant_of-self : goal.invariant_of-self
invariant_of-self c =
    let old = c.args.self.now in
    let shorter = length-scan old.list c.scan.new.self 0 0 Clock c.args.asked c.scan.result c.scan.ensures.answer in
    record { some = old.some; bounded = omega (arith, shorter, old.bounded) }

-- what it freed and what stays add up
pub returns-in-Scanned-clause-answer : goal.returns-in-Scanned-clause-answer
returns-in-Scanned-clause-answer c =
    let gives = c.in-Scanned.ensures.answer in
    let parts = length-scanned c.args.self.now.list c.scan.new.self 0 0 Clock c.args.asked c.in-Scanned.entry c.in-Scanned.freed c.in-Scanned.visits c.in-Scanned.stopped gives in
    (gives.1.gains.items, omega (arith, parts, c.len.ensures))
