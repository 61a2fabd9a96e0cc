-- SPDX-License-Identifier: GPL-2.0-only
use Rattle.shr_audit_reasons.proofs.SpentCommon.{◌≡◌, ◌+◌, ◌++◌, ◌∷◌, [], true, false, length, sym, subst, ◌∙◌, arith, filter, is_put, IsCapped}
use Rattle.shr_audit_reasons.proofs.Counting.{filter_one}
use Rattle.shr_audit_reasons.proofs.counted.add_put.Goals as goal

pub returns-then-is_put : goal.returns-then-is_put
returns-then-is_put c = λ before count h.
    let one = filter_one is_put before c.args.command.now true (sym c.is_put.ensures ∙ c.if-is_put.true) in
    subst (IsCapped c.one_more.result) (let e : (count + length (filter is_put before)) + 1 ≡ count + length (filter is_put (before ++ c.args.command.now ∷ [])) = omega (arith, one) in e) (c.one_more.ensures (count + length (filter is_put before)) h)

pub returns-else-is_put : goal.returns-else-is_put
returns-else-is_put c = λ before count h.
    let one = filter_one is_put before c.args.command.now false (sym c.is_put.ensures ∙ c.if-is_put.false) in
    subst (IsCapped c.args.puts) (let e : count + length (filter is_put before) ≡ count + length (filter is_put (before ++ c.args.command.now ∷ [])) = omega (arith, one) in e) h
