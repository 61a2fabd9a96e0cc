-- SPDX-License-Identifier: GPL-2.0-only
use Rattle.shr_audit_isolations.proofs.Lists.{first_gains, first_none, first_right}
use Rattle.shr_audit_isolations.proofs.gathered.gather_first.Goals as goal

pub returns-then-not-is_first-clause-gains : goal.returns-then-not-is_first-clause-gains
returns-then-not-is_first-clause-gains c = λ t. first_none c.args.ends.now c.args.k c.args.table.now.items c.is_first.result c.requires.there c.is_first.ensures c.if-not-is_first.true

pub returns-clause-right : goal.returns-clause-right
returns-clause-right c =
    first_right c.args.ends.now c.args.k c.args.table.now.items c.index-ends-k.result c.as_slice.result.now c.is_first.result c.in_ok-right.right c.requires.there c.index-ends-k.is c.as_slice.ensures
    c.is_first.ensures c.if-not-is_first.false c.in_ok-right.ensures.right

pub returns-clause-gains : goal.returns-clause-gains
returns-clause-gains c = λ t.
    first_gains c.args.ends.now c.args.k c.args.table.now.items c.gather_entries.new.table.items c.index-ends-k.result c.as_slice.result.now c.is_first.result c.requires.there c.index-ends-k.is c.as_slice.ensures
    c.is_first.ensures c.if-not-is_first.false (c.in_ok-right.ensures.gains t)
