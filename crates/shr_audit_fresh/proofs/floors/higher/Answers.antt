-- SPDX-License-Identifier: GPL-2.0-only
use Rattle.std.proofs.Common.{arith}
use Rattle.shr_audit_fresh.proofs.floors.higher.Goals as goal

pub returns-then-a-b : goal.returns-then-a-b
returns-then-a-b c = λ m. (λ h. (let lt = c.if-a-b.true in ((omega (arith, lt, h)), h)), λ p. p.1)

pub returns-else-a-b : goal.returns-else-a-b
returns-else-a-b c = λ m. (λ h. (let le = c.if-a-b.false in (h, (omega (arith, le, h)))), λ p. p.0)
