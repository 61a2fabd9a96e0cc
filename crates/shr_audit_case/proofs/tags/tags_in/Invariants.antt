-- SPDX-License-Identifier: GPL-2.0-only
use Rattle.shr_audit_case.proofs.Listing.{IsListed}
use Rattle.shr_audit_case.proofs.tags.tags_in.Given as goal

abbrev pub invariant-loop-object : goal.invariant-loop-object
invariant-loop-object l = IsListed l.queue.nodes l.at l._object l.tags.items
