-- SPDX-License-Identifier: GPL-2.0-only
-- The objects of a list with the keys under which they are kept.
use Rattle.std.specs.Prelude.{◌≡◌, ◌≢◌, ℕ, zero, suc, ◌+◌, slice_get, option_map, Contains, Bool, true, false, if◌then◌else◌, List, [], ◌∷◌, ◌++◌, map, drop, Option, Some, None}
use Rattle.shr_base.specs.declared.objects.Object.{Object}
use Rattle.std.specs.List.{AllByRecursion, zip}
use Rattle.shr_model.specs.Objects.{is_named, holds, fresh}
use Rattle.shr_list.specs.declared.answers.Slot.{Slot}

-- the object with this mark
abbrev pub with_mark : Bool → Object → Object
with_mark marked object = record object { marked = marked }

module _ {X : Type 0} where
  -- it is none of these
  abbrev pub IsOff : X → List X → Type 0
  IsOff x xs = AllByRecursion (λ (y : X). y ≢ x) xs

  -- none comes twice
  abbrev pub IsApart : List X → Type 0
  IsApart [] = Unit {0}
  IsApart (x ∷ xs) = IsOff x xs × IsApart xs

-- a key and the object that it names
abbrev pub Keyed : Type 0
Keyed = ℕ × Object

-- the nodes from the head, how many more fit without memory, and the key that the next one gets
pub record Held : Type 0 where
  pub nodes : List Keyed
  pub spare : ℕ
  pub vacant : ℕ

-- the nodes of a list, their keys and their objects
pub record Queued : Type 0 where
  pub nodes : List Keyed
  pub keys : List ℕ
  pub items : List Object

-- the objects of these nodes
abbrev pub objects_of : List Keyed → List Object
objects_of nodes = map (λ (n : Keyed). n.1) nodes

-- the keys of these nodes
abbrev pub keys_of : List Keyed → List ℕ
keys_of nodes = map (λ (n : Keyed). n.0) nodes

-- the keys and the objects are those of the nodes
pub record IsQueueWhole (q : Queued) : Type 0 where
  pub keys : q.keys ≡ keys_of q.nodes
  pub items : q.items ≡ objects_of q.nodes

-- the key of the first node
abbrev pub first_key : List Keyed → Option ℕ
first_key [] = None
first_key (n ∷ ns) = Some n.0

-- the key of the last node
abbrev pub last_key : List Keyed → Option ℕ
last_key [] = None
last_key (n ∷ []) = Some n.0
last_key (n ∷ m ∷ ns) = last_key (m ∷ ns)

-- a node is kept under this key
abbrev pub IsAt : List Keyed → ℕ → Type 0
IsAt nodes key = (xs : List Keyed) × (o : Object) × (ys : List Keyed) × (nodes ≡ xs ++ (key, o) ∷ ys)

-- wherever the node under this key stands, this is so of those before it, its object and those
-- after it
abbrev pub AtNode : List Keyed → ℕ → (List Keyed → Object → List Keyed → Type 0) → Type 0
AtNode nodes key P = (xs : List Keyed) (o : Object) (ys : List Keyed) → nodes ≡ xs ++ (key, o) ∷ ys → P xs o ys

-- the object where there is one and it is not pinned
abbrev pub loose_of : Option Object → Option Object
loose_of None = None
loose_of (Some o) = if o.pinned then None else Some o

-- the key of the first node whose object has this birth group and key
abbrev pub key_named : ℕ → List ℕ → List Keyed → Option ℕ
key_named birth key [] = None
key_named birth key (n ∷ ns) = if is_named birth key n.1 then Some n.0 else key_named birth key ns

-- the key of a node, counted from the head
abbrev pub key_at : ℕ → List Keyed → Option ℕ
key_at i nodes = first_key (drop i nodes)

-- the key before this place
abbrev pub key_before : List ℕ → ℕ → Option ℕ
key_before keys zero = None
key_before keys (suc i) = slice_get keys i

-- the slot at this place of a list whose nodes have these keys: neighbours name each other
abbrev pub slot_at : List ℕ → ℕ → Option Slot
slot_at keys i = option_map (λ (k : ℕ). record { key = k; prev = key_before keys i; next = slice_get keys (i + 1) }) (slice_get keys i)

-- the object but for its mark and its pin
abbrev pub bare : Object → Object
bare o = record o { marked = false; pinned = false }

-- each node but for the mark and the pin of its object
abbrev pub tags_of : List Keyed → List Keyed
tags_of nodes = map (λ (n : Keyed). (n.0, bare n.1)) nodes

-- each node was there under its key
abbrev pub AreNodesKept : List Keyed → List Keyed → Type 0
AreNodesKept old new = AllByRecursion (λ (n : Keyed). Contains (tags_of old) (n.0, bare n.1)) new

-- an object that was listed and is listed has the key that it had
abbrev pub KeepsKeys : List ℕ → List Object → List ℕ → List Object → Type 0
KeepsKeys keys items new_keys new_items =
    AllByRecursion (λ (n : Keyed). Contains (map bare items) (bare n.1) → Contains (tags_of (zip keys items)) (n.0, bare n.1)) (zip new_keys new_items)

-- the object stands at the tail, unmarked and unpinned, or one of its birth group and key is there
-- and all is as it was
abbrev pub PushGives : Queued → Object → Bool → Queued → Type 0
PushGives old o true new =
    (holds o.birth o.key old.items ≡ false) × (new.items ≡ old.items ++ fresh o.serial o.birth o.key o.value ∷ []) × ((key : ℕ) × (new.keys ≡ old.keys ++ key ∷ []))
PushGives old o false new = (holds o.birth o.key old.items ≡ true) × (new ≡ old)
