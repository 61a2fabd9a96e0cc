-- SPDX-License-Identifier: GPL-2.0-only
use Rattle.shr_audit_passes.proofs.Common.{◌≡◌, ◌+◌, sum_by, take, WalkRecord, freed_told}
use Rattle.shr_audit_passes.proofs.told.walks_tell.Given as goal

abbrev pub invariant-loop-walk : goal.invariant-loop-walk
invariant-loop-walk l = l.left + sum_by (λ (w : WalkRecord). freed_told w.answer) (take l.walk-index l.walks) ≡ l.told
