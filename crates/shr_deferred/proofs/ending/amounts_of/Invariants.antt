-- SPDX-License-Identifier: GPL-2.0-only
use Rattle.shr_deferred.proofs.Common.{◌≡◌, ◌%◌, ◌^◌, get_or, slots_items}
use Rattle.shr_deferred.specs.Left.{amounts}
use Rattle.shr_deferred.proofs.ending.amounts_of.Given as goal

abbrev pub invariant-loop-i : goal.invariant-loop-i
invariant-loop-i l = l.left.items ≡ amounts l.sizes (λ k. get_or (slots_items l.closed.words) k 0 % 2 ^ 64) l.i
