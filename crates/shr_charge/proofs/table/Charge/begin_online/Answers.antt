-- SPDX-License-Identifier: GPL-2.0-only
use Rattle.shr_charge.proofs.Common.{◌≡◌, ◌+◌, ◌≤◌, length, sym, ◌∙◌, arith, Result, Ok, Err, is_err, false, OnOk}
use Rattle.shr_charge.proofs.Entries.{opens_all}
use Rattle.shr_charge.proofs.table.Charge.begin_online.Goals as goal

when_ok : {T E : Type 0} (r : Result T E) (P : Type 0) → is_err r ≡ false → OnOk r P → P
when_ok (Ok x) P f p = p
when_ok (Err e) P f p = absurd (let z : Rattle.std.specs.Prelude.true ≡ false = f in cc)

pub returns-clause-spare : goal.returns-clause-spare
returns-clause-spare c = let many = c.len.ensures in let roomy : c.len.result + 2 ≤ c.reserve.new.self.spare = when_ok c.reserve.result _ (sym c.is_err.ensures.value ∙ c.if-is_err.false) c.reserve.ensures.spare in let all = opens_all c.push.new.self.items (length c.args.self.now.shape.parents.items) in let pushed = c.push.ensures.spare in omega (arith, many, roomy, all, pushed)
