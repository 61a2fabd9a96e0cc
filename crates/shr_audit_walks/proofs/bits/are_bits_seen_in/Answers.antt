-- SPDX-License-Identifier: GPL-2.0-only
use Rattle.shr_audit_walks.proofs.LaterCommon.{arith, ap, WalkRecord, length, refl, each_more, HasFilled, found_at}
use Rattle.shr_audit_walks.proofs.Filling.{none_yet}
use Rattle.shr_audit_walks.proofs.FilledLaw.{filled_decided, walk_fails, walks_all}
use Rattle.shr_audit_walks.proofs.Standing.{in_range, next_low, slices_stand}
use Rattle.shr_audit_walks.proofs.bits.are_bits_seen_in.Goals as goal

pub loop-n-init : goal.loop-n-init
loop-n-init c = record { filled = none_yet c.args.case.now.parents.items c.args.report.now c.as_slice-answers.result.now c.none_filled-filled.result c.none_filled-filled.ensures; low = λ w e. omega arith; before = λ k w lt e. absurd (omega arith) }

pub note_fillings-requires-clause-before : goal.note_fillings-requires-clause-before
note_fillings-requires-clause-before c = c.loop-n.invariant.filled

pub note_fillings-requires-clause-rising : goal.note_fillings-requires-clause-rising
note_fillings-requires-clause-rising c = let command = ap (λ (w : WalkRecord). w.by.command) c.walk.view_is in rw command (c.loop-n.invariant.low c.index-walks-n.result (found_at c.as_slice-walks.result.now c.loop-n.n c.index-walks-n.result c.loop-n-test.true c.index-walks-n.is))

pub note_fillings-requires-clause-there : goal.note_fillings-requires-clause-there
note_fillings-requires-clause-there c = let command = ap (λ (w : WalkRecord). w.by.command) c.walk.view_is in
    rw command (in_range (length c.as_slice-answers.result.now) c.as_slice-walks.result.now (slices_stand c.args.part.now c.as_slice-answers.result.now c.as_slice-walks.result.now c.as_slice-answers.ensures c.as_slice-walks.ensures c.requires.stand)
    c.loop-n.n c.index-walks-n.result c.loop-n-test.true c.index-walks-n.is)

pub loop-n-preserved : goal.loop-n-preserved
loop-n-preserved c = let command = ap (λ (w : WalkRecord). w.by.command) c.walk.view_is in let told = rw command at c.in_ok-note_fillings.ensures in record {
  filled = c.in_ok-note_fillings.ensures;
  low = rw command (next_low (length c.as_slice-answers.result.now) c.as_slice-walks.result.now (slices_stand c.args.part.now c.as_slice-answers.result.now c.as_slice-walks.result.now c.as_slice-answers.ensures c.as_slice-walks.ensures c.requires.stand)
      c.loop-n.n c.index-walks-n.result c.loop-n-test.true c.index-walks-n.is);
  before = each_more (HasFilled c.args.case.now.parents.items c.args.report.now c.as_slice-answers.result.now) c.as_slice-walks.result.now c.loop-n.n c.index-walks-n.result c.loop-n-test.true c.index-walks-n.is c.loop-n.invariant.before
      ((filled_decided c.args.case.now.parents.items c.args.report.now c.as_slice-answers.result.now c.note_fillings.new.filled c.index-walks-n.result c.index-walks-n.result.by.command c.is_walk_full.result refl told c.is_walk_full.ensures).0 c.if-not-is_walk_full.false);
}

pub returns-then-not-is_walk_full : goal.returns-then-not-is_walk_full
returns-then-not-is_walk_full c = let command = ap (λ (w : WalkRecord). w.by.command) c.walk.view_is in let told = rw command at c.in_ok-note_fillings.ensures in
    walk_fails c.args.case.now.parents.items c.args.report.now c.args.part.now c.as_slice-answers.result.now c.as_slice-walks.result.now c.as_slice-answers.ensures c.as_slice-walks.ensures c.loop-n.n c.index-walks-n.result c.is_walk_full.result c.loop-n-test.true c.index-walks-n.is
    (filled_decided c.args.case.now.parents.items c.args.report.now c.as_slice-answers.result.now c.note_fillings.new.filled c.index-walks-n.result c.index-walks-n.result.by.command c.is_walk_full.result refl told c.is_walk_full.ensures) c.if-not-is_walk_full.true

pub returns : goal.returns
returns c = walks_all c.args.case.now.parents.items c.args.report.now c.args.part.now c.as_slice-answers.result.now c.as_slice-walks.result.now c.as_slice-answers.ensures c.as_slice-walks.ensures c.loop-n.n c.loop-n-test.false c.loop-n.invariant.before
