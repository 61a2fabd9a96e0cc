-- SPDX-License-Identifier: GPL-2.0-only
use Rattle.shr_audit_lists.proofs.BitsCommon.{List, take, sym, subst, take_more, take_all, PoolEntry, ArePhases}
use Rattle.shr_audit_lists.proofs.phases.phases_of.Goals as goal

pub note_entry-requires : goal.note_entry-requires
note_entry-requires c = c.loop-entry.invariant.many

pub loop-entry-preserved : goal.loop-entry-preserved
loop-entry-preserved c = let i = c.loop-entry.entry-index in let pool = c.args.pool.now in
    subst (λ (es : List PoolEntry). ArePhases es c.note_entry.new.phases.items) (sym (take_more pool i _ c.loop-entry-test.true)) (c.note_entry.ensures.noted (take i pool) c.loop-entry.invariant)

pub returns : goal.returns
returns c = subst (λ (es : List PoolEntry). ArePhases es c.loop-entry.phases.items) (take_all c.loop-entry.entry-index c.args.pool.now c.loop-entry-test.false) c.loop-entry.invariant
