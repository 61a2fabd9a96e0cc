-- SPDX-License-Identifier: GPL-2.0-only
use Rattle.shr_charge.proofs.Common.{◌≡◌, take, None, entry_number}
use Rattle.shr_charge.proofs.searching.first_like.Given as goal

abbrev pub invariant-loop-i : goal.invariant-loop-i
invariant-loop-i l = entry_number l.wanted (take l.i l.entries) ≡ None
