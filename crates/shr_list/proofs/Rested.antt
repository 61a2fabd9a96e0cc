-- SPDX-License-Identifier: GPL-2.0-only
-- The objects of a chain that is at rest.
use Rattle.shr_list.proofs.Common.{◌≡◌, ℕ, zero, suc, List, [], ◌∷◌, length, Option, Some, None, refl, sym, ap, ◌∙◌, length-map, Slab, get, slab_len, Node, Object, Chain, Keyed, objects_of, IsLinked, nodes_from, nodes_of}
use Rattle.shr_base.specs.Rest.{objects_from}

same_from : (s : Slab Node) (n : ℕ) (at : Option ℕ) → objects_from s n at ≡ objects_of (nodes_from s n at)
same_from s zero at = refl
same_from s (suc n) None = refl
same_from s (suc n) (Some k) = elim (get s k) as (λ slot. (elim slot as (λ _. List Object) [
  | None ↦ []
  | Some node ↦ node.object ∷ objects_from s n node.next
]) ≡ objects_of (elim slot as (λ _. List Keyed) [
  | None ↦ []
  | Some node ↦ (k, node.object) ∷ nodes_from s n node.next
])) [
  | None ↦ refl
  | Some node ↦ ap (λ xs. node.object ∷ xs) (same_from s n node.next)
]

-- those are the objects of its nodes
pub rested : (c : Chain) → objects_from c.nodes (slab_len c.nodes) c.head ≡ objects_of (nodes_of c)
rested c = same_from c.nodes (slab_len c.nodes) c.head

-- and as many as it has nodes
pub rested_length : (c : Chain) → IsLinked c (nodes_of c) → length (objects_from c.nodes (slab_len c.nodes) c.head) ≡ slab_len c.nodes
rested_length c linked = ap length (rested c) ∙ length-map (nodes_of c) (λ (n : Keyed). n.1) ∙ sym linked.count
