-- SPDX-License-Identifier: GPL-2.0-only
use Rattle.shr_audit_reasons.proofs.SpentCommon.{◌≡◌, length, take, AreCounted}
use Rattle.shr_audit_reasons.proofs.counted.count_steps.Given as goal

abbrev pub invariant-loop-step : goal.invariant-loop-step
invariant-loop-step l = (length l.counts.items ≡ l.size) × AreCounted l.kind (take l.step-index l.steps) l.counts.items
