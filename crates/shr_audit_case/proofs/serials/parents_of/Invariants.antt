-- SPDX-License-Identifier: GPL-2.0-only
use Rattle.std.proofs.Common.{◌≡◌, ◌∷◌, map, take}
use Rattle.shr_base.specs.declared.scripts.GroupDecl.{GroupDecl}
use Rattle.shr_audit_case.proofs.serials.parents_of.Given as goal

abbrev pub invariant-loop-group : goal.invariant-loop-group
invariant-loop-group l = l.parents.items ≡ 0 ∷ map (λ (g : GroupDecl). g.parent) (take l.group-index l.group-items)
