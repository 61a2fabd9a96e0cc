-- SPDX-License-Identifier: GPL-2.0-only
use Rattle.shr_audit_fresh.proofs.Common.{ℕ, ◌+◌, Option, arith, subst, sym, option_to_list, FloorWith}
use Rattle.shr_audit_fresh.proofs.floors.floor_with.Goals as goal

pub returns-then-n-floor : goal.returns-then-n-floor
returns-then-n-floor c = subst (λ (o : Option ℕ). FloorWith c.args.floor (option_to_list o) (c.in-Some.n + 1)) (sym c.in-Some.is) (λ m. (
  λ h. (let le = c.if-n-floor.true in ((omega (arith, le, h)), ((omega (arith, h)), tt))),
  λ p. (let lt = p.1.0 in omega (arith, lt)),
))

pub returns-else-n-floor : goal.returns-else-n-floor
returns-else-n-floor c = subst (λ (o : Option ℕ). FloorWith c.args.floor (option_to_list o) c.args.floor) (sym c.in-Some.is) (λ m. (
  λ h. (let lt = c.if-n-floor.false in (h, ((omega (arith, lt, h)), tt))),
  λ p. p.0,
))
