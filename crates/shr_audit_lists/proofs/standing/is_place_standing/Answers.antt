-- SPDX-License-Identifier: GPL-2.0-only
use Rattle.std.proofs.Common.{arith}
use Rattle.shr_audit_lists.proofs.Allowing.{none_stands, out_of_tree, place_stands}
use Rattle.shr_audit_lists.proofs.standing.is_place_standing.Goals as goal

pub returns : goal.returns
returns c = place_stands c.args.parents.now c.args.report.now c.args.place c.journal_at-entries.result.now c.journal_at-entries.ensures (omega arith) c.in_ok-standing.standing c.in_ok-standing.ensures
