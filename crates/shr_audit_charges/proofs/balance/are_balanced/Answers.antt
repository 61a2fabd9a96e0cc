-- SPDX-License-Identifier: GPL-2.0-only
use Rattle.shr_audit_charges.proofs.BalanceLaw.{balanced}
use Rattle.shr_audit_charges.proofs.balance.are_balanced.Goals as goal

pub returns : goal.returns
returns c = balanced c.args.ups.now c.args.downs.now c.new-moves.result.items c.note_units.new.moves.items c.note_units-2.new.moves.items _ c.are_few.ensures c.are_few-2.ensures c.new-moves.ensures.items c.in_ok-note_units.ensures c.in_ok-note_units-2.ensures c.in_ok-settled.ensures
