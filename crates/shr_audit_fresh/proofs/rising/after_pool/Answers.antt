-- SPDX-License-Identifier: GPL-2.0-only
use Rattle.shr_audit_fresh.proofs.Common.{List, Option, None, ℕ, ◌++◌, subst, option_to_list, pool_told, After}
use Rattle.shr_audit_fresh.proofs.RisingLaws.{after_both, after_fall}
use Rattle.shr_audit_fresh.proofs.rising.after_pool.Goals as goal

pub returns-in-Some : goal.returns-in-Some
returns-in-Some c =
    let a = c.args.answer.now in
    let found = c.pool_found.result in
    subst (λ (o : Option ℕ). After c.args.low (option_to_list o ++ pool_told a.reply) c.after-last.result) c.pool_found.ensures
    (after_both c.args.low c.in-Some.found (option_to_list found) (pool_told a.reply) c.after-last.result c.in-Some.ensures
    (subst (λ (ns : List ℕ). After c.in-Some.found ns c.after-last.result) c.pool_told.ensures c.after-last.ensures))

pub returns-in-None : goal.returns-in-None
returns-in-None c =
    let a = c.args.answer.now in
    subst (λ (o : Option ℕ). After c.args.low (option_to_list o ++ pool_told a.reply) None) c.pool_found.ensures
    (after_fall c.args.low (option_to_list c.pool_found.result) (pool_told a.reply) c.in-None.ensures)
