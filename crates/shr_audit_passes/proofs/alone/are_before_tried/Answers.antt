-- SPDX-License-Identifier: GPL-2.0-only
use Rattle.shr_audit_passes.proofs.Common.{arith, nat_tests}
use Rattle.shr_audit_passes.proofs.Tried.{before_tried}
use Rattle.shr_audit_passes.proofs.alone.are_before_tried.Goals as goal

pub returns : goal.returns
returns c = before_tried c.args.maps.now c.in_ok-seen.seen.items c.args.attempts _ c.in_ok-seen.ensures (let h = c.if-is_empty.false in let f = c.is_empty.ensures in grind (arith, nat_tests)) (grind (arith, nat_tests), grind (arith, nat_tests))
