-- SPDX-License-Identifier: GPL-2.0-only
use Rattle.shr_audit_fresh.proofs.Common.{ℕ, ◌<◌, IsOnSeenAt}
use Rattle.shr_audit_fresh.proofs.onset.is_on_seen.Given as goal

abbrev pub invariant-loop-number : goal.invariant-loop-number
invariant-loop-number l = (k : ℕ) → k < l.number → IsOnSeenAt l.script l.report l.worker k
