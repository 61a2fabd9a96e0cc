-- SPDX-License-Identifier: GPL-2.0-only
use Rattle.shr_audit_passes.proofs.Common.{◌≡◌, map, take, Attempt}
use Rattle.shr_audit_passes.proofs.seen.tries_begin.Given as goal

abbrev pub invariant-loop-i : goal.invariant-loop-i
invariant-loop-i l = take l.i (map (λ (a : Attempt). a.id) l.attempts) ≡ take l.i l.ids
