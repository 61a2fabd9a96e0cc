-- SPDX-License-Identifier: GPL-2.0-only
-- What a list knows of the names of its objects. No public clause cites this module.
use Rattle.std.specs.Prelude.{◌≡◌, ◌<◌, Bool, true, false, ℕ, List, ◌∷◌, ◌++◌, [], None, IsSome}
use Rattle.shr_base.specs.declared.objects.Object.{Object}
use Rattle.shr_list.specs.declared.queue.index.Index.{Index}
use Rattle.shr_list.specs.declared.queue.index.Index.TheVariants.{Few, Made, GivenUp}
use Rattle.shr_list.specs.Nodes.{Keyed, Held, IsApart, objects_of}
use Rattle.shr_list.specs.Names.{Name, name_by, names_of, in_nodes, IsIndexed}

-- no two nodes have one name, and an index that there is finds each; of a list that gave its index
-- up nothing is known
abbrev pub KnowsNames : Index → List Keyed → Type 0
KnowsNames Few nodes = IsApart (names_of nodes)
KnowsNames (Made names) nodes = IsIndexed names.value nodes
KnowsNames GivenUp nodes = Unit {0}

-- none of the objects has the name, there is room for one that has, and it would be known at the
-- tail; or one has it
abbrev pub AdmitsName : Index → Held → Name → Bool → Type 0
AdmitsName index links name true =
    (in_nodes links.nodes name ≡ None) × (0 < links.spare) × ((o : Object) → name_by o ≡ name → KnowsNames index (links.nodes ++ (links.vacant, o) ∷ []))
AdmitsName index links name false = IsSome (in_nodes links.nodes name) × KnowsNames index links.nodes

-- an object of this name that was there is not known any more
abbrev pub LosesName : Index → Index → Name → Type 0
LosesName old new name = (xs ys : List Keyed) (k : ℕ) (o : Object) → name_by o ≡ name → KnowsNames old (xs ++ (k, o) ∷ ys) → KnowsNames new (xs ++ ys)

-- an object of this name that was there has this node now
abbrev pub MovesName : Index → Index → Name → ℕ → Type 0
MovesName old new name node =
    (xs ys : List Keyed) (k : ℕ) (o : Object) → name_by o ≡ name → KnowsNames old (xs ++ (k, o) ∷ ys) → KnowsNames new (xs ++ (node, o) ∷ ys)

-- these nodes are known in place of others with the same objects
abbrev pub EntersNodes : Index → Index → List Keyed → Type 0
EntersNodes old new front =
    (kids nodes rest : List Keyed) → objects_of kids ≡ objects_of front → KnowsNames old (nodes ++ (kids ++ rest)) → KnowsNames new (nodes ++ (front ++ rest))
