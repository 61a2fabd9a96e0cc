-- SPDX-License-Identifier: GPL-2.0-only
-- What a list knows of the names of its objects, over changes of the nodes.
use Rattle.shr_list.proofs.Common.{◌≡◌, ◌≢◌, ℕ, false, is_some, List, [], ◌∷◌, ◌++◌, Option, None, Some, refl, subst, sym, map-append, Object, Names, Keyed, Name, name_by, name_in, names_of, in_nodes, GainsName, TurnsName, IsIndexed, AreStrangers, Index, LosesName, MovesName, Few, Made, GivenUp, KnowsNames}
use Rattle.std.specs.Prelude.{Box}
use Rattle.std.specs.declared.alloc.Global.{Global}
use Rattle.shr_list.proofs.Indexed.{unique_last, unique_changed, unique_rotated, unique_both, unique_behind, unique_swapped, off_none, indexed_changed, indexed_rotated, indexed_removed, indexed_turned, indexed_swapped, indexed_pushed}

-- the node has an object of the same name
changed_at : (index : Index) (xs ys : List Keyed) (k : ℕ) (o p : Object) → name_by p ≡ name_by o → KnowsNames index (xs ++ (k, o) ∷ ys) → KnowsNames index (xs ++ (k, p) ∷ ys)
changed_at Few xs ys k o p same knows = unique_changed xs ys k o knows k p same
changed_at (Made names) xs ys k o p same knows = indexed_changed names.value xs ys k o knows p same
changed_at GivenUp xs ys k o p same knows = tt

-- the node stands at the tail, with an object of the same name
rotated_at : (index : Index) (xs ys : List Keyed) (k : ℕ) (o p : Object) → name_by p ≡ name_by o → KnowsNames index (xs ++ (k, o) ∷ ys) → KnowsNames index ((xs ++ ys) ++ (k, p) ∷ [])
rotated_at Few xs ys k o p same knows = unique_rotated xs ys k o knows p same
rotated_at (Made names) xs ys k o p same knows = indexed_rotated names.value xs ys k o knows p same
rotated_at GivenUp xs ys k o p same knows = tt

module _ (index : Index) (nodes xs ys : List Keyed) (k : ℕ) (o : Object) (split : nodes ≡ xs ++ (k, o) ∷ ys) (knows : KnowsNames index nodes) where
  pub knows_changed : (new : List Keyed) (p : Object) → name_by p ≡ name_by o → new ≡ xs ++ (k, p) ∷ ys → KnowsNames index new
  knows_changed new p same now = subst (KnowsNames index) (sym now) (changed_at index xs ys k o p same (subst (KnowsNames index) split knows))

  pub knows_rotated : (new : List Keyed) (p : Object) → name_by p ≡ name_by o → new ≡ (xs ++ ys) ++ (k, p) ∷ [] → KnowsNames index new
  knows_rotated new p same now = subst (KnowsNames index) (sym now) (rotated_at index xs ys k o p same (subst (KnowsNames index) split knows))

-- a name is gone from an index
pub made_loses : (old new : Names) (name : Name) → TurnsName old new name None → (xs ys : List Keyed) (k : ℕ) (o : Object) → name_by o ≡ name → IsIndexed old (xs ++ (k, o) ∷ ys)
    → IsIndexed new (xs ++ ys)
made_loses old new name turns xs ys k o is indexed = indexed_removed old xs ys k o indexed new (subst (λ (n : Name). TurnsName old new n None) (sym is) turns)

-- or has another node there
pub made_moves : (old new : Names) (name : Name) (node : ℕ) → TurnsName old new name (Some node) → (xs ys : List Keyed) (k : ℕ) (o : Object) → name_by o ≡ name
    → IsIndexed old (xs ++ (k, o) ∷ ys) → IsIndexed new (xs ++ (node, o) ∷ ys)
made_moves old new name node turns xs ys k o is indexed = indexed_turned old xs ys k o indexed new node o refl (subst (λ (n : Name). TurnsName old new n (Some node)) (sym is) turns)

-- or a node of a new name at the tail
pub made_gains : (old new : Names) (nodes : List Keyed) (name : Name) (node : ℕ) → IsIndexed old nodes → in_nodes nodes name ≡ None → GainsName old new name node → (o : Object)
    → name_by o ≡ name → IsIndexed new (nodes ++ (node, o) ∷ [])
made_gains old new nodes name node indexed none gains o is =
    indexed_pushed old new nodes node o indexed (subst (λ (n : Name). in_nodes nodes n ≡ None) (sym is) none) (subst (λ (n : Name). GainsName old new n node) (sym is) gains)

-- the nodes in the other order
pub knows_swapped : (index : Index) (xs ys : List Keyed) → KnowsNames index (xs ++ ys) → KnowsNames index (ys ++ xs)
knows_swapped Few xs ys unique = rw (map-append name_in ys xs) (unique_swapped (names_of xs) (names_of ys) (rw (map-append name_in xs ys) at unique))
knows_swapped (Made names) xs ys indexed = indexed_swapped names.value xs ys indexed
knows_swapped GivenUp xs ys knows = tt

-- ---- where there is no index

abbrev pub IsUnmade : Index → Type 0
IsUnmade index = (names : Box Names Global) → index ≢ Made names

pub unmade_loses : (index : Index) (name : Name) → IsUnmade index → LosesName index index name
unmade_loses Few name not xs ys k o is unique = unique_both xs ys k o unique
unmade_loses (Made names) name not xs ys k o is indexed = absurd (not names refl)
unmade_loses GivenUp name not xs ys k o is knows = tt

pub unmade_moves : (index : Index) (name : Name) (node : ℕ) → IsUnmade index → MovesName index index name node
unmade_moves Few name node not xs ys k o is unique = unique_changed xs ys k o unique node o refl
unmade_moves (Made names) name node not xs ys k o is indexed = absurd (not names refl)
unmade_moves GivenUp name node not xs ys k o is knows = tt

pub unmade_gains : (index : Index) (nodes : List Keyed) (name : Name) (node : ℕ) → IsUnmade index → KnowsNames index nodes → in_nodes nodes name ≡ None → (o : Object) → name_by o ≡ name
    → KnowsNames index (nodes ++ (node, o) ∷ [])
unmade_gains Few nodes name node not unique none o is = unique_last nodes node o unique (off_none nodes (name_by o) (subst (λ (n : Name). in_nodes nodes n ≡ None) (sym is) none))
unmade_gains (Made names) nodes name node not indexed none o is = absurd (not names refl)
unmade_gains GivenUp nodes name node not knows none o is = tt

pub unmade_takes : (index : Index) (nodes kids : List Keyed) → IsUnmade index → AreStrangers nodes kids → KnowsNames index (nodes ++ kids)
unmade_takes Few nodes kids not strangers = unique_behind nodes kids strangers kids refl
unmade_takes (Made names) nodes kids not strangers = absurd (not names refl)
unmade_takes GivenUp nodes kids not strangers = tt
