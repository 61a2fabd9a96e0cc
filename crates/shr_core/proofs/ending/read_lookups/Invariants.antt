-- SPDX-License-Identifier: GPL-2.0-only
use Rattle.shr_core.proofs.Common.{◌≡◌, slots_items, looks_in, lookups_below}
use Rattle.shr_core.proofs.ending.read_lookups.Given as goal

abbrev pub invariant-loop-id : goal.invariant-loop-id
invariant-loop-id l = l.log.items ≡ lookups_below l.id (looks_in (slots_items l.ended.words))
