-- SPDX-License-Identifier: GPL-2.0-only
use Rattle.shr_assemble.proofs.Common.{◌≡◌, ◌∷◌, map, take, codes}
use Rattle.shr_assemble.proofs.assembling.paths_of.Given as goal

abbrev pub invariant-loop-group : goal.invariant-loop-group
invariant-loop-group l = l.paths.items ≡ codes "/" ∷ map (λ g. g.path) (take l.group-index l.groups)
