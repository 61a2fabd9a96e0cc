-- SPDX-License-Identifier: GPL-2.0-only
-- What the objects of a list are once it is at rest.
use Rattle.std.specs.Prelude.{ℕ, zero, suc, List, [], ◌∷◌, Option, Some, None}
use Rattle.slab.specs.Slab.{Slab, get}
use Rattle.shr_base.specs.declared.objects.Object.{Object}
use Rattle.shr_base.specs.declared.items.Node.{Node}

-- the objects of so many nodes of the slab, from this one on, in the order of their links
abbrev pub objects_from : Slab Node → ℕ → Option ℕ → List Object
objects_from s zero at = []
objects_from s (suc n) None = []
objects_from s (suc n) (Some k) = elim (get s k) as (λ _. List Object) [
  | None ↦ []
  | Some node ↦ node.object ∷ objects_from s n node.next
]
