-- SPDX-License-Identifier: GPL-2.0-only
use Rattle.shr_audit_charges.proofs.Common.{◌≡◌, false, ◌∷◌, map, take, GroupDecl}
use Rattle.shr_audit_charges.proofs.law.later_of.Given as goal

abbrev pub invariant-loop-group : goal.invariant-loop-group
invariant-loop-group l = l.later.items ≡ false ∷ map (λ (g : GroupDecl). g.later) (take l.group-index l.group-items)
