-- SPDX-License-Identifier: GPL-2.0-only
use Rattle.shr_audit_rows.proofs.RowLaws.{rows_decided, rows_fail}
use Rattle.shr_audit_rows.proofs.rows.are_rows_caused_but_ends.Goals as goal

pub returns-then-not-are_caused : goal.returns-then-not-are_caused
returns-then-not-are_caused c = rows_fail c.args.script.now c.args.report.now c.are_caused.result c.are_caused.ensures c.if-not-are_caused.true

pub returns : goal.returns
returns c = rows_decided c.args.script.now c.args.report.now c.in_ok-declared.declared (c.are_caused.ensures.0 c.if-not-are_caused.false) c.in_ok-declared.ensures
