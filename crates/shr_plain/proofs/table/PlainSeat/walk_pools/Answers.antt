-- SPDX-License-Identifier: GPL-2.0-only
use Rattle.shr_plain.proofs.Common.{◌≤◌, length, ap, sym, subst, ◌∙◌, arith, sum_by, All, length_push, PlainTry, TryHadMemory, units_freed, All-push}
use Rattle.std.proofs.lemmas.List.Sums.{sum_by_push}
use Rattle.shr_plain.proofs.Trying.{few_freed, acts_push}
use Rattle.shr_plain.proofs.table.PlainSeat.walk_pools.Goals as goal

pub returns-then-lacked_memory-clause-tried : goal.returns-then-lacked_memory-clause-tried
returns-then-lacked_memory-clause-tried g c = let inv = c.loop-pool.invariant in acts_push c.args.walk.by c.args.walk.number c.args.walk.node c.args.walk.priority _ _ _ _ _ _ _ c.pass-answer.result c.push.ensures.items c.try_of-tried.ensures inv.number inv.tried c.pass-answer.ensures.passed

pub loop-pool-preserved : goal.loop-pool-preserved
loop-pool-preserved g c = let inv = c.loop-pool.invariant in let x : PlainTry = c.try_of-tried.result in
    let items = c.push.ensures.items in let grown = ap length items ∙ length_push c.loop-pool.tries.items x in let spare = c.push.ensures.spare in let freed = c.freed_in-freed.ensures in
    let few : units_freed x ≤ 2097152 = subst (λ (y : PlainTry). units_freed y ≤ 2097152) (sym c.try_of-tried.ensures) (few_freed c.pass-answer.result c.pass-answer.ensures.few) in
    let summed = ap (sum_by units_freed) items ∙ sum_by_push units_freed c.loop-pool.tries.items x in record {
      tried = acts_push c.args.walk.by c.args.walk.number c.args.walk.node c.args.walk.priority _ _ _ _ _ _ _ c.pass-answer.result items c.try_of-tried.ensures inv.number inv.tried c.pass-answer.ensures.passed;
      number = let at = inv.number in omega (arith, grown, at);
      spare = let room = inv.spare in omega (arith, spare, room);
      had = subst (All TryHadMemory) (sym items) (All-push TryHadMemory c.loop-pool.tries.items x inv.had (sym c.lacked_memory.ensures ∙ c.if-lacked_memory.false));
      freed = let was = inv.freed in omega (arith, was, freed, summed);
      few = let was = inv.few in omega (arith, was, freed, few);
    }
