-- SPDX-License-Identifier: GPL-2.0-only
use Rattle.shr_audit_causes.proofs.UnregisterRowLaws.{rows_decided, rows_fail}
use Rattle.shr_audit_causes.proofs.unregisters.are_unregisters_caused.Goals as goal

pub returns-then-not-are_caused : goal.returns-then-not-are_caused
returns-then-not-are_caused c = rows_fail c.args.script.now c.args.report.now c.are_caused.result c.are_caused.ensures c.if-not-are_caused.true

pub returns : goal.returns
returns c = rows_decided c.args.script.now c.args.report.now c.are_drains_placed-placed.result (c.are_caused.ensures.0 c.if-not-are_caused.false) c.are_drains_placed-placed.ensures
