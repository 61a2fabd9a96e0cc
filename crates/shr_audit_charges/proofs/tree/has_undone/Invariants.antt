-- SPDX-License-Identifier: GPL-2.0-only
use Rattle.shr_audit_charges.proofs.Common.{◌<◌, ℕ, IsUndone}
use Rattle.shr_audit_charges.proofs.tree.has_undone.Given as goal

abbrev pub invariant-loop-child : goal.invariant-loop-child
invariant-loop-child l = (child : ℕ) → child < l.child → IsUndone l.parents l.states l.group child → ⊥
