-- SPDX-License-Identifier: GPL-2.0-only
use Rattle.shr_audit_passes.proofs.Common.{◌≡◌, map, take, range_with_len, Attempt}
use Rattle.shr_audit_passes.proofs.seen.tries_rise.Given as goal

abbrev pub invariant-loop-i : goal.invariant-loop-i
invariant-loop-i l = take l.i (map (λ (a : Attempt). a.id) l.attempts) ≡ range_with_len 0 l.i
