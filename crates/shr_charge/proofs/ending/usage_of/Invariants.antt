-- SPDX-License-Identifier: GPL-2.0-only
use Rattle.shr_charge.proofs.Common.{◌≡◌, map, range_with_len, slots_items, usage_in}
use Rattle.shr_charge.proofs.ending.usage_of.Given as goal

abbrev pub invariant-loop-group : goal.invariant-loop-group
invariant-loop-group l = l.usage.items ≡ map (usage_in (slots_items l.closed.words)) (range_with_len 0 l.group)
