-- SPDX-License-Identifier: GPL-2.0-only
use Rattle.shr_audit_walks.proofs.LaterCommon.{arith, ap, WalkRecord, each_more, IsWalkLater, length, refl, found_at}
use Rattle.shr_audit_walks.proofs.Citing.{later_decided, none_yet}
use Rattle.shr_audit_walks.proofs.LaterLaw.{walk_fails, walks_all}
use Rattle.shr_audit_walks.proofs.Standing.{in_range, next_low, slices_stand}
use Rattle.shr_audit_walks.proofs.later.are_later_in.Goals as goal

pub loop-n-init : goal.loop-n-init
loop-n-init c = record { cited = none_yet c.as_slice-answers.result.now c.none_cited-cited.result c.none_cited-cited.ensures; low = λ w e. omega arith; before = λ k w lt e. absurd (omega arith) }

pub note_answers-requires-clause-before : goal.note_answers-requires-clause-before
note_answers-requires-clause-before c = c.loop-n.invariant.cited

pub note_answers-requires-clause-rising : goal.note_answers-requires-clause-rising
note_answers-requires-clause-rising c = let command = ap (λ (w : WalkRecord). w.by.command) c.walk.view_is in rw command (c.loop-n.invariant.low c.index-walks-n.result (found_at c.as_slice-walks.result.now c.loop-n.n c.index-walks-n.result c.loop-n-test.true c.index-walks-n.is))

pub note_answers-requires-clause-there : goal.note_answers-requires-clause-there
note_answers-requires-clause-there c = let command = ap (λ (w : WalkRecord). w.by.command) c.walk.view_is in
    rw command (in_range (length c.as_slice-answers.result.now) c.as_slice-walks.result.now (slices_stand c.args.part.now c.as_slice-answers.result.now c.as_slice-walks.result.now c.as_slice-answers.ensures c.as_slice-walks.ensures c.requires)
    c.loop-n.n c.index-walks-n.result c.loop-n-test.true c.index-walks-n.is)

pub loop-n-preserved : goal.loop-n-preserved
loop-n-preserved c = let command = ap (λ (w : WalkRecord). w.by.command) c.walk.view_is in let told = rw command at c.in_ok-note_answers.ensures in record {
  cited = c.in_ok-note_answers.ensures;
  low = rw command (next_low (length c.as_slice-answers.result.now) c.as_slice-walks.result.now (slices_stand c.args.part.now c.as_slice-answers.result.now c.as_slice-walks.result.now c.as_slice-answers.ensures c.as_slice-walks.ensures c.requires)
      c.loop-n.n c.index-walks-n.result c.loop-n-test.true c.index-walks-n.is);
  before = each_more (IsWalkLater c.as_slice-answers.result.now) c.as_slice-walks.result.now c.loop-n.n c.index-walks-n.result c.loop-n-test.true c.index-walks-n.is c.loop-n.invariant.before
      ((later_decided c.as_slice-answers.result.now c.note_answers.new.cited c.index-walks-n.result c.index-walks-n.result.by.command c.is_walk_above.result refl told c.is_walk_above.ensures).0 c.if-not-is_walk_above.false);
}

pub returns-then-not-is_walk_above : goal.returns-then-not-is_walk_above
returns-then-not-is_walk_above c = let command = ap (λ (w : WalkRecord). w.by.command) c.walk.view_is in let told = rw command at c.in_ok-note_answers.ensures in walk_fails c.args.part.now c.as_slice-answers.result.now c.as_slice-walks.result.now c.as_slice-answers.ensures c.as_slice-walks.ensures c.loop-n.n c.index-walks-n.result c.is_walk_above.result c.loop-n-test.true c.index-walks-n.is
    (later_decided c.as_slice-answers.result.now c.note_answers.new.cited c.index-walks-n.result c.index-walks-n.result.by.command c.is_walk_above.result refl told c.is_walk_above.ensures) c.if-not-is_walk_above.true

pub returns : goal.returns
returns c = walks_all c.args.part.now c.as_slice-answers.result.now c.as_slice-walks.result.now c.as_slice-answers.ensures c.as_slice-walks.ensures c.loop-n.n c.loop-n-test.false c.loop-n.invariant.before
