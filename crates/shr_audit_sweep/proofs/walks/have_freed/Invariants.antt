-- SPDX-License-Identifier: GPL-2.0-only
use Rattle.shr_audit_sweep.proofs.Common.{◌≡◌, ◌+◌, sum_by, take, WalkRecord}
use Rattle.shr_model.specs.Walks.{freed_told}
use Rattle.shr_audit_sweep.proofs.walks.have_freed.Given as goal

abbrev pub invariant-loop-walk : goal.invariant-loop-walk
invariant-loop-walk l = l.left + sum_by (λ (w : WalkRecord). freed_told w.answer) (take l.walk-index l.walks) ≡ l.freed
