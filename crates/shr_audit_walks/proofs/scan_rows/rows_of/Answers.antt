-- SPDX-License-Identifier: GPL-2.0-only
use Rattle.shr_audit_walks.proofs.ScansCommon.{List, sym, subst, AllByRecursion, PlaceEnd, IsListNumbered, AreRowsOf}
use Rattle.shr_audit_walks.proofs.Noted.{noted_all, noted_more, noted_none}
use Rattle.shr_audit_walks.proofs.scan_rows.rows_of.Goals as goal

pub loop-k-init : goal.loop-k-init
loop-k-init c = noted_none c.as_slice-ends.result.now c.new-rows.result.items c.new-rows.ensures.items

pub loop-k-preserved : goal.loop-k-preserved
loop-k-preserved c =
    noted_more c.as_slice-ends.result.now c.loop-k.k c.loop-k.rows.items c.note_list.new.rows.items c.loop-k-test.true
    (subst (λ (ends : List PlaceEnd). AllByRecursion IsListNumbered ends) (sym c.as_slice-ends.ensures) c.requires.numbers.places) c.in_ok-note_list.ensures c.loop-k.invariant

pub returns : goal.returns
returns c =
    subst (λ (ends : List PlaceEnd). AreRowsOf ends c.loop-k.rows.items) c.as_slice-ends.ensures
    (noted_all c.as_slice-ends.result.now c.loop-k.k c.loop-k.rows.items c.loop-k-test.false c.loop-k.invariant)
