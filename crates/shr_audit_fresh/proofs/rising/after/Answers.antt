-- SPDX-License-Identifier: GPL-2.0-only
use Rattle.shr_audit_fresh.proofs.Common.{ℕ, Option, Some, None, arith, subst, sym, option_to_list, After}
use Rattle.shr_audit_fresh.proofs.rising.after.Goals as goal

pub returns-then-n-low : goal.returns-then-n-low
returns-then-n-low c = subst (λ (o : Option ℕ). After c.args.low (option_to_list o) None) (sym c.in-Some.is) (λ rest h. (let lt = c.if-n-low.true in let le = h.0 in omega (arith, lt, le)))

pub returns-else-n-low : goal.returns-else-n-low
returns-else-n-low c = subst (λ (o : Option ℕ). After c.args.low (option_to_list o) (Some c.in-Some.n)) (sym c.in-Some.is) (λ rest. (λ h. h.1, λ h. (c.if-n-low.false, h)))
