-- SPDX-License-Identifier: GPL-2.0-only
use Rattle.std.proofs.Common.{arith}
use Rattle.shr_audit_isolations.proofs.Commanded.{tells_one}
use Rattle.shr_audit_isolations.proofs.commands.tells_of_all.Goals as goal

pub returns-else-isolations-gt1 : goal.returns-else-isolations-gt1
returns-else-isolations-gt1 c = tells_one c.args.isolations.now c.in-Some.isolation.now c.args.command.now c.args.answer.now c.tells_of.result (omega arith) c.in-Some.ensures.value c.tells_of.ensures
