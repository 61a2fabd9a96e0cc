-- SPDX-License-Identifier: GPL-2.0-only
use Rattle.shr_audit_pools.proofs.Common.{◌≡◌, ◌<◌, ℕ, Some, slice_get, PlainWalk, IsPlainLawful}
use Rattle.shr_audit_pools.proofs.walks.are_plain_lawful.Given as goal

abbrev pub invariant-loop-n : goal.invariant-loop-n
invariant-loop-n l = (k : ℕ) (w : PlainWalk) → k < l.n → slice_get l.walks k ≡ Some w → IsPlainLawful l.script l.report l.worker k w
