-- SPDX-License-Identifier: GPL-2.0-only
use Rattle.shr_audit_lists.proofs.SerialsCommon.{◌≡◌, ◌<◌, ℕ, get_or, Serial}
use Rattle.shr_audit_lists.proofs.bags.are_same.Given as goal

abbrev pub invariant-loop-i : goal.invariant-loop-i
invariant-loop-i l = (n : ℕ) (d : Serial) → n < l.i → get_or l.a n d ≡ get_or l.b n d
