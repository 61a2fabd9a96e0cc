-- SPDX-License-Identifier: GPL-2.0-only
use Rattle.std.proofs.Common.{◌≡◌, ℕ, ◌<◌, false}
use Rattle.shr_audit_rows.proofs.MomentsLaws.{undone}
use Rattle.shr_audit_rows.proofs.children.Moments.first_undone.Given as goal

abbrev pub invariant-loop-child : goal.invariant-loop-child
invariant-loop-child l = (k : ℕ) → k < l.child → undone l.script l.report l.group l.entry k ≡ false
