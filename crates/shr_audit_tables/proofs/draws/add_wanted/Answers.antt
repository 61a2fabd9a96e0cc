-- SPDX-License-Identifier: GPL-2.0-only
use Rattle.shr_audit_tables.proofs.Rows.{wanted_step, wanted_end}
use Rattle.shr_audit_tables.proofs.draws.add_wanted.Goals as goal

pub loop-id-preserved : goal.loop-id-preserved
loop-id-preserved c = wanted_step c.args.lookups.now c.loop-id.id _ c.args.moves.now.items c.loop-id.moves.items c.add_numbers.new.moves.items c.loop-id-test.true c.loop-id.invariant c.in_ok-add_numbers.ensures

pub returns : goal.returns
returns c = wanted_end c.args.lookups.now c.loop-id.id c.args.moves.now.items c.loop-id.moves.items c.loop-id-test.false c.loop-id.invariant
