-- SPDX-License-Identifier: GPL-2.0-only
use Rattle.std.proofs.Common.{arith}
use Rattle.shr_audit_rows.proofs.KnownLaws.{not_known, so_none, so_of}
use Rattle.shr_audit_rows.proofs.known.is_so.Goals as goal

pub returns-then-until-len-clause-so : goal.returns-then-until-len-clause-so
returns-then-until-len-clause-so c = not_known c.args.script.now c.args.report.now c.args.asked (omega arith)

pub returns-in-Some-clause-so : goal.returns-in-Some-clause-so
returns-in-Some-clause-so c = so_of c.args.script.now c.args.report.now c.args.asked c.in-Some.decl c.is_said.result c.in-Some.is c.is_said.ensures

pub returns-in-None-clause-so : goal.returns-in-None-clause-so
returns-in-None-clause-so c = so_none c.args.script.now c.args.report.now c.args.asked c.in-None.is
