-- SPDX-License-Identifier: GPL-2.0-only
use Rattle.shr_audit_lists.proofs.SerialsCommon.{◌≡◌, Bool, true, false, arith, Serial}
use Rattle.shr_audit_lists.proofs.Sorting.{same_lists, keys_at}
use Rattle.shr_audit_lists.proofs.bags.are_same.Goals as goal

abbrev none : Serial
none = record { worker = 0; command = 0 }

clash : (b : Bool) → b ≡ true → b ≡ false → ⊥
clash b e f = cc

pub returns-then-not-is_serial-clause-other : goal.returns-then-not-is_serial-clause-other
returns-then-not-is_serial-clause-other c = λ f e.
    clash c.is_serial.result (c.is_serial.ensures.keys.1 (keys_at c.args.a.now c.args.b.now c.loop-i.i none none (omega arith) (omega arith) e)) c.if-not-is_serial.true

pub returns-clause-same : goal.returns-clause-same
returns-clause-same c = λ t. same_lists c.args.a.now c.args.b.now (omega arith) (λ n d lt. c.loop-i.invariant n d (omega arith))
