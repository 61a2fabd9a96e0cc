-- SPDX-License-Identifier: GPL-2.0-only
use Rattle.shr_audit_walks.proofs.LaterCommon.{arith, subst, sym, Option, Place, Answered, NotesFilled, filled_by}
use Rattle.shr_audit_walks.proofs.Filling.{one_more}
use Rattle.shr_audit_walks.proofs.filled.note_fillings.Goals as goal

pub loop-k-preserved : goal.loop-k-preserved
loop-k-preserved c =
    let parents = c.args.case.now.parents.items in
    let r = c.args.report.now in
    let old = c.loop-k.filled in
    let new = c.note_filled.new.filled in
    one_more parents r c.args.answers.now c.loop-k.k c.index-answers-k.result old new (omega arith) c.index-answers-k.is c.loop-k.invariant
    (subst (λ (a : Answered). NotesFilled old new (filled_by parents r a.reply)) (sym c.index-answers-k.is)
    (subst (λ (o : Option Place). NotesFilled old new o) c.filled_by-place.ensures c.in_ok-note_filled.ensures))
