-- SPDX-License-Identifier: GPL-2.0-only
use Rattle.std.proofs.Common.{◌-◌, arith, refl}
use Rattle.shr_base.specs.declared.places.Serial.{Serial}
use Rattle.shr_audit_lists.proofs.Distinct.{distinct_sorted, twice}
use Rattle.shr_audit_lists.proofs.bags.are_apart.Goals as goal

abbrev none : Serial
none = record { worker = 0; command = 0 }

pub returns-then-is_serial : goal.returns-then-is_serial
returns-then-is_serial c = (
  λ t. absurd cc,
  λ apart. absurd (twice c.args.serials.now (c.loop-i.i - 1) c.loop-i.i none none (omega arith) (omega arith) (c.is_serial.ensures.same.0 c.if-is_serial.true) apart),
)

pub returns : goal.returns
returns c = (λ t. distinct_sorted c.args.serials.now c.requires (λ k d lt. c.loop-i.invariant k d (omega arith)), λ h. refl)
