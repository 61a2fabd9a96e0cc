-- SPDX-License-Identifier: GPL-2.0-only
-- The slots of a list, and the keys that its objects keep.
use Rattle.shr_list.proofs.Common.{◌≡◌, ℕ, zero, suc, ◌≤◌, List, [], ◌∷◌, ◌++◌, length, take, Some, refl, sym, subst, ap, ◌∙◌, inl, inr, arith, slice_get, AllByRecursion, map-append, Object, IsOff, IsApart, Keyed, Queued, IsQueueWhole, keys_of, objects_of, AreNodesKept, last_key, key_at, name_by, names_of, stops_of, each_weaker, map, Contains, zip, bare, tags_of, KeepsKeys, key_before}
use Rattle.slab.proofs.SlabLemmas.{Contains-cons, Contains-cons_cases}
use Rattle.shr_list.proofs.Paths.{all_append, all_left, all_right}

pub key_got : (nodes : List Keyed) (i : ℕ) → key_at i nodes ≡ slice_get (keys_of nodes) i
key_got [] zero = refl
key_got [] (suc i) = refl
key_got (n ∷ ns) zero = refl
key_got (n ∷ ns) (suc i) = key_got ns i

-- the key before a place is the last of those before it
pub key_left : (nodes : List Keyed) (i : ℕ) → i ≤ length nodes → last_key (take i nodes) ≡ key_before (keys_of nodes) i
key_left nodes zero within = refl
key_left [] (suc i) within = absurd (omega (arith, within))
key_left (n ∷ ns) (suc zero) within = refl
key_left (n ∷ []) (suc (suc i)) within = absurd (omega (arith, within))
key_left (n ∷ m ∷ ns) (suc (suc i)) within = key_left (m ∷ ns) (suc i) (omega (arith, within))

-- keys that differ as stops differ
pub keys_apart : (nodes : List Keyed) → IsApart (stops_of nodes) → IsApart (keys_of nodes)
keys_apart [] apart = tt
keys_apart (n ∷ ns) apart = (off ns apart.0, keys_apart ns apart.1)
  where
    off : (ms : List Keyed) → IsOff (Some n.0) (stops_of ms) → IsOff n.0 (keys_of ms)
    off [] away = tt
    off (m ∷ ms) away = (λ e. away.0 (ap Some e), off ms away.1)

-- the keys stay where the object under a key is changed
pub keys_stay : (old new xs ys : List Keyed) (k : ℕ) (o p : Object) → old ≡ xs ++ (k, o) ∷ ys → new ≡ xs ++ (k, p) ∷ ys → keys_of new ≡ keys_of old
keys_stay old new xs ys k o p at now =
    ap keys_of now ∙ (map-append (λ (n : Keyed). n.0) xs ((k, p) ∷ ys) ∙ sym (ap keys_of at ∙ map-append (λ (n : Keyed). n.0) xs ((k, o) ∷ ys)))

-- each listed object under its key is its node again
pub zip_nodes : (nodes : List Keyed) → zip (keys_of nodes) (objects_of nodes) ≡ nodes
zip_nodes [] = refl
zip_nodes (n ∷ ns) = ap (λ (ms : List Keyed). n ∷ ms) (zip_nodes ns)

-- a node of this list is kept
abbrev IsKeptIn : List Keyed → Keyed → Type 0
IsKeptIn old n = Contains (tags_of old) (n.0, bare n.1)

pub kept_itself : (nodes : List Keyed) → AreNodesKept nodes nodes
kept_itself [] = tt
kept_itself (n ∷ ns) = (
  (0, omega arith, refl),
  each_weaker (IsKeptIn ns) (IsKeptIn (n ∷ ns)) (λ m there. Contains-cons (n.0, bare n.1) (m.0, bare m.1) (tags_of ns) there) ns (kept_itself ns),
)

module _ (old xs ys : List Keyed) (k : ℕ) (o : Object) (kept : AreNodesKept old (xs ++ (k, o) ∷ ys)) where
  -- what stays once a node is gone keeps its key
  pub kept_without : AreNodesKept old (xs ++ ys)
  kept_without =
      all_append (IsKeptIn old) xs ys (all_left (IsKeptIn old) xs ((k, o) ∷ ys) kept) (all_right (IsKeptIn old) xs ((k, o) ∷ ys) kept).1

  -- an object whose mark or pin alone changed is kept
  pub kept_here : (p : Object) → bare p ≡ bare o → IsKeptIn old (k, p)
  kept_here p same = rw same (all_right (IsKeptIn old) xs ((k, o) ∷ ys) kept).0

  -- an object is changed where it stands
  pub kept_changed : (p : Object) → bare p ≡ bare o → AreNodesKept old (xs ++ (k, p) ∷ ys)
  kept_changed p same =
      all_append (IsKeptIn old) xs ((k, p) ∷ ys) (all_left (IsKeptIn old) xs ((k, o) ∷ ys) kept)
      (kept_here p same, (all_right (IsKeptIn old) xs ((k, o) ∷ ys) kept).1)

  -- an object is put at the end
  pub kept_rotated : (p : Object) → bare p ≡ bare o → AreNodesKept old ((xs ++ ys) ++ (k, p) ∷ [])
  kept_rotated p same = all_append (IsKeptIn old) (xs ++ ys) ((k, p) ∷ []) kept_without (kept_here p same, tt)

-- where an object was listed it has its key
abbrev KeepsItsKey : List Keyed → Keyed → Type 0
KeepsItsKey old n = Contains (map bare (objects_of old)) (bare n.1) → IsKeptIn old n

-- what is said of nodes as it is said of keys and objects
keys_said : (old new : List Keyed) → AllByRecursion (KeepsItsKey old) new → KeepsKeys (keys_of old) (objects_of old) (keys_of new) (objects_of new)
keys_said old new all =
    subst (λ (ns : List Keyed). AllByRecursion (λ (n : Keyed). Contains (map bare (objects_of old)) (bare n.1) → Contains (tags_of (zip (keys_of old) (objects_of old))) (n.0, bare n.1)) ns)
    (sym (zip_nodes new))
    (subst (λ (os : List Keyed). AllByRecursion (λ (n : Keyed). Contains (map bare (objects_of old)) (bare n.1) → Contains (tags_of os) (n.0, bare n.1)) new)
    (sym (zip_nodes old)) all)

-- nodes that are kept keep their keys
pub keys_kept : (old new : List Keyed) → AreNodesKept old new → KeepsKeys (keys_of old) (objects_of old) (keys_of new) (objects_of new)
keys_kept old new kept = keys_said old new (each_weaker (IsKeptIn old) (KeepsItsKey old) (λ n there was. there) new kept)

-- what was not moved has its key
pub keys_same : (keys : List ℕ) (items : List Object) → KeepsKeys keys items keys items
keys_same keys items =
    let nodes = zip keys items in
    each_weaker (IsKeptIn nodes) (λ (n : Keyed). Contains (map bare items) (bare n.1) → IsKeptIn nodes n) (λ n there was. there) nodes (kept_itself nodes)

-- and where none is listed none was moved
pub keys_none : (keys : List ℕ) (items : List Object) (new_keys : List ℕ) → KeepsKeys keys items new_keys []
keys_none keys items [] = tt
keys_none keys items (k ∷ ks) = tt

module _ (old new xs ys : List Keyed) (k : ℕ) (o : Object) (at : old ≡ xs ++ (k, o) ∷ ys) where
  all_here : AreNodesKept old (xs ++ (k, o) ∷ ys)
  all_here = subst (AreNodesKept old) at (kept_itself old)

  -- the object under a key was changed
  pub keys_changed : (p : Object) → bare p ≡ bare o → new ≡ xs ++ (k, p) ∷ ys → KeepsKeys (keys_of old) (objects_of old) (keys_of new) (objects_of new)
  keys_changed p same now = keys_kept old new (subst (AreNodesKept old) (sym now) (kept_changed old xs ys k o all_here p same))

  -- the object under a key was taken out
  pub nodes_removed : new ≡ xs ++ ys → AreNodesKept old new
  nodes_removed now = subst (AreNodesKept old) (sym now) (kept_without old xs ys k o all_here)

-- no object of this name is among those that have none of it
none_bare : (nodes : List Keyed) (o : Object) → IsOff (o.birth, o.key) (names_of nodes) → Contains (map bare (objects_of nodes)) (bare o) → ⊥
none_bare [] o off was = absurd (omega (arith, was.1))
none_bare (n ∷ ns) o off was =
    elim (Contains-cons_cases (bare n.1) (bare o) (map bare (objects_of ns)) was) [
      | inl here ↦ off.0 (ap name_by here)
      | inr there ↦ none_bare ns o off.1 there
    ]

-- an object of a name that was not there comes to the end
pub keys_pushed : (nodes : List Keyed) (k : ℕ) (o : Object) → IsOff (o.birth, o.key) (names_of nodes)
    → KeepsKeys (keys_of nodes) (objects_of nodes) (keys_of (nodes ++ (k, o) ∷ [])) (objects_of (nodes ++ (k, o) ∷ []))
keys_pushed nodes k o off =
    keys_said nodes (nodes ++ (k, o) ∷ []) (all_append (KeepsItsKey nodes) nodes ((k, o) ∷ [])
    (each_weaker (IsKeptIn nodes) (KeepsItsKey nodes) (λ n there was. there) nodes (kept_itself nodes))
    (λ was. absurd (none_bare nodes o off was), tt))

-- the same of queues
pub keys_whole : (old new : Queued) → IsQueueWhole old → IsQueueWhole new → AreNodesKept old.nodes new.nodes → KeepsKeys old.keys old.items new.keys new.items
keys_whole old new was is kept = rw (was.keys, was.items, is.keys, is.items) (keys_kept old.nodes new.nodes kept)
