-- SPDX-License-Identifier: GPL-2.0-only
use Rattle.std.proofs.Common.{arith}
use Rattle.shr_audit_tables.proofs.Steps.{failed}
use Rattle.shr_audit_tables.proofs.DrawsLaw.{once_decided, few_drawn}
use Rattle.shr_audit_tables.proofs.draws.are_drawn_once.Goals as goal

pub returns-then-not-are_few : goal.returns-then-not-are_few
returns-then-not-are_few c =
    let l = c.count_of.ensures.count in
    (λ t. absurd cc, λ law. absurd (failed _ c.are_few.result c.are_few.ensures c.if-not-are_few.true (let few = few_drawn c.args.keys.now c.args.lookups.now c.requires.counts law in omega (arith, few, l))))

pub returns : goal.returns
returns c =
    once_decided c.args.keys.now c.args.lookups.now c.new-moves.result.items c.add_drawn.new.moves.items c.add_wanted.new.moves.items _ c.count_of.ensures.small c.requires.counts c.new-moves.ensures.items c.in_ok-add_drawn.ensures c.in_ok-add_wanted.ensures c.in_ok-settled.ensures
