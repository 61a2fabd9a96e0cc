-- SPDX-License-Identifier: GPL-2.0-only
use Rattle.shr_audit_formed.proofs.Eachs.{fails}
use Rattle.shr_audit_causes.specs.Rows.{AreRowsCaused}
use Rattle.shr_audit_causes.proofs.Few.{are_few, is_tree}
use Rattle.shr_audit_causes.proofs.Whole.{ButEnds, Unregisters, but_ends_of, rows_decided, unregisters_of}
use Rattle.shr_audit_causes.proofs.law.are_rows_caused.Goals as goal

pub are_rows_caused_but_ends-requires-clause-few : goal.are_rows_caused_but_ends-requires-clause-few
are_rows_caused_but_ends-requires-clause-few c = are_few c.args.script.now c.requires.valid

pub are_unregisters_caused-requires-clause-few : goal.are_unregisters_caused-requires-clause-few
are_unregisters_caused-requires-clause-few c = are_few c.args.script.now c.requires.valid

pub are_offlines_caused-requires-clause-tree : goal.are_offlines_caused-requires-clause-tree
are_offlines_caused-requires-clause-tree c = is_tree c.args.script.now c.requires.valid

pub returns-then-not-branch : goal.returns-then-not-branch
returns-then-not-branch c = let s = c.args.script.now in let r = c.args.report.now in
    fails (ButEnds s r) (AreRowsCaused s r) c.in_ok-are_rows_caused_but_ends.field-0 c.in_ok-are_rows_caused_but_ends.ensures c.if-not-branch.true (but_ends_of s r)

pub returns-then-not-branch-2 : goal.returns-then-not-branch-2
returns-then-not-branch-2 c = let s = c.args.script.now in let r = c.args.report.now in
    fails (Unregisters s r) (AreRowsCaused s r) c.in_ok-are_unregisters_caused.field-0 c.in_ok-are_unregisters_caused.ensures c.if-not-branch-2.true (unregisters_of s r)

pub returns : goal.returns
returns c = let s = c.args.script.now in let r = c.args.report.now in
    rows_decided s r c.in_ok-offlines.offlines (c.in_ok-are_rows_caused_but_ends.ensures.0 c.if-not-branch.false) (c.in_ok-are_unregisters_caused.ensures.0 c.if-not-branch-2.false) c.in_ok-offlines.ensures
