-- SPDX-License-Identifier: GPL-2.0-only
use Rattle.shr_audit_lists.proofs.Whole.{left_here}
use Rattle.shr_audit_lists.proofs.left.is_list_left.Goals as goal

pub returns : goal.returns
returns c = left_here c.args.case.now.parents.items c.args.report.now c.as_slice-ends.result.now c.as_slice-ends.ensures c.requires.once c.args.k c.index-ends-k.result c.items_are_left-left.result c.items_are_left-left.ensures
