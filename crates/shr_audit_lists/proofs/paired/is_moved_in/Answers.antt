-- SPDX-License-Identifier: GPL-2.0-only
use Rattle.shr_audit_lists.proofs.Pairing.{moved_decided}
use Rattle.shr_audit_lists.proofs.paired.is_moved_in.Goals as goal

pub returns : goal.returns
returns c = moved_decided c.args.child c.args.entries.now c.any_moves-moved.result c.any_moves-moved.ensures
