-- SPDX-License-Identifier: GPL-2.0-only
use Rattle.shr_audit_fresh.proofs.Common.{ℕ, ◌<◌, IsRefusedAt}
use Rattle.shr_audit_fresh.proofs.refused.is_refused.Given as goal

abbrev pub invariant-loop-number : goal.invariant-loop-number
invariant-loop-number l = (k : ℕ) → k < l.number → IsRefusedAt l.script l.report l.worker k
