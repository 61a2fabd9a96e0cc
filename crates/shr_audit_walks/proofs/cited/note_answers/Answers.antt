-- SPDX-License-Identifier: GPL-2.0-only
use Rattle.shr_audit_walks.proofs.LaterCommon.{arith, subst, sym, Answered, NotesReply}
use Rattle.shr_audit_walks.proofs.Citing.{one_more}
use Rattle.shr_audit_walks.proofs.cited.note_answers.Goals as goal

pub loop-k-preserved : goal.loop-k-preserved
loop-k-preserved c =
    let old = c.loop-k.cited in
    let new = c.note_reply.new.cited in
    one_more c.args.answers.now c.loop-k.k c.index-answers-k.result old new (omega arith) c.index-answers-k.is c.loop-k.invariant
    (subst (λ (a : Answered). NotesReply old new a.reply) (sym c.index-answers-k.is) c.in_ok-note_reply.ensures)
