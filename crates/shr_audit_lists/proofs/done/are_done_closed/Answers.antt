-- SPDX-License-Identifier: GPL-2.0-only
use Rattle.std.proofs.Common.{arith}
use Rattle.shr_audit_lists.proofs.Journals.{done_all}
use Rattle.shr_audit_lists.proofs.done.are_done_closed.Goals as goal

pub returns : goal.returns
returns c = done_all c.args.script.now c.args.report.now c.loop-group.group (omega arith) c.loop-group.invariant
