-- SPDX-License-Identifier: GPL-2.0-only
-- The objects of a list at rest, at values worked out by hand.
use Rattle.shr_laws.proofs.Common.{◌≡◌, ℕ, [], ◌∷◌, false, Option, Some, None, refl, Object}
use Rattle.slab.specs.Slab.{Slab}
use Rattle.shr_base.specs.declared.items.Node.{Node}
use Rattle.shr_base.specs.Rest.{objects_from}

-- an object by its command
abbrev object : ℕ → Object
object n = record { serial = record { worker = 0; command = n }; key = 107 ∷ []; value = []; birth = 1; marked = false; pinned = false }

-- its node, and the next
abbrev node : ℕ → Option ℕ → Node
node n next = record { object = object n; prev = None; next = next }

-- the second key is free, and the third's next is the first
abbrev two : Slab Node
two = record { slots = Some (node 0 None) ∷ None ∷ Some (node 1 (Some 0)) ∷ []; vacant_key = 1; capacity = 3 }

in_their_order : objects_from two 2 (Some 2) ≡ object 1 ∷ object 0 ∷ []
in_their_order = refl

no_more_than_asked : objects_from two 1 (Some 2) ≡ object 1 ∷ []
no_more_than_asked = refl

none_at_a_free_key : objects_from two 2 (Some 1) ≡ []
none_at_a_free_key = refl

none_behind_the_last : objects_from two 2 (Some 0) ≡ object 0 ∷ []
none_behind_the_last = refl
