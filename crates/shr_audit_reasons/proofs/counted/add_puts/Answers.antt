-- SPDX-License-Identifier: GPL-2.0-only
use Rattle.shr_audit_reasons.proofs.SpentCommon.{◌≡◌, ◌+◌, List, [], ◌∷◌, ◌++◌, length, take, sym, ap, subst, ◌∙◌, arith, filter, take_more, take_all, Command, is_put, IsCapped}
use Rattle.shr_audit_reasons.proofs.counted.add_puts.Goals as goal

pub loop-command-init : goal.loop-command-init
loop-command-init c = λ count h. subst (IsCapped c.args.before) (let e : count ≡ count + 0 = omega arith in e) h

pub loop-command-preserved : goal.loop-command-preserved
loop-command-preserved c = let i = c.loop-command.command-index in let cs = c.args.commands.now in
    λ count h. subst (λ (xs : List Command). IsCapped c.add_put-puts.result (count + length (filter is_put xs))) (sym (take_more cs i c.command-item.result c.loop-command-test.true ∙ ap (λ (x : Command). take i cs ++ x ∷ []) (sym c.command-item.is))) (c.add_put-puts.ensures (take i cs) count (c.loop-command.invariant count h))

pub returns : goal.returns
returns c = λ count h. subst (λ (xs : List Command). IsCapped c.loop-command.puts (count + length (filter is_put xs))) (take_all c.loop-command.command-index c.args.commands.now c.loop-command-test.false) (c.loop-command.invariant count h)
