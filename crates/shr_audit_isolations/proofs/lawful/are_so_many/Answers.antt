-- SPDX-License-Identifier: GPL-2.0-only
use Rattle.std.proofs.Common.{arith}
use Rattle.shr_audit_isolations.proofs.Meeting.{so_many}
use Rattle.shr_audit_isolations.proofs.lawful.are_so_many.Goals as goal

pub returns-then-scans-ones : goal.returns-then-scans-ones
returns-then-scans-ones c = so_many c.args.scans.now c.args.ones c.are_ones.result (omega arith) c.are_ones.ensures
