-- SPDX-License-Identifier: GPL-2.0-only
use Rattle.std.proofs.Common.{arith}
use Rattle.shr_audit_passes.proofs.Arithmetic.{halved_away}
use Rattle.shr_audit_passes.proofs.passes.halved.Goals as goal

pub returns-else-times-lt64-clause-value : goal.returns-else-times-lt64-clause-value
returns-else-times-lt64-clause-value c = halved_away c.args.x c.args.times (omega arith) (omega arith)
