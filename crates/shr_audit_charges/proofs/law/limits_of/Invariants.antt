-- SPDX-License-Identifier: GPL-2.0-only
use Rattle.shr_audit_charges.proofs.Common.{◌≡◌, None, ◌∷◌, map, take, GroupDecl}
use Rattle.shr_audit_charges.proofs.law.limits_of.Given as goal

abbrev pub invariant-loop-group : goal.invariant-loop-group
invariant-loop-group l = l.limits.items ≡ None ∷ map (λ (g : GroupDecl). g.limit) (take l.group-index l.group-items)
