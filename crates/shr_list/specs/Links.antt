-- SPDX-License-Identifier: GPL-2.0-only
-- How the objects of a list are linked in a slab. No public clause cites this module.
use Rattle.std.specs.Prelude.{◌≡◌, ◌≢◌, ℕ, zero, suc, ◌+◌, ◌-◌, ◌^◌, nat_le, if◌then◌else◌, List, [], ◌∷◌, ◌++◌, map, length, Option, Some, None, IsSome, option_map}
use Rattle.std.specs.List.{AllByRecursion}
use Rattle.slab.specs.Slab.{Slab, get, slab_len}
use Rattle.shr_base.specs.declared.objects.Object.{Object}
use Rattle.shr_base.specs.declared.items.Node.{Node}
use Rattle.shr_list.specs.declared.queue.chain.Chain.{Chain}
use Rattle.shr_list.specs.Nodes.{Keyed, IsApart}

-- the object under a key
abbrev pub object_at : Chain → ℕ → Option Object
object_at c k = option_map (λ (n : Node). n.object) (get c.nodes k)

-- what a node names as the next
abbrev pub next_in : Option Node → Option ℕ
next_in None = None
next_in (Some n) = n.next

-- what a node names as the one before
abbrev pub prev_in : Option Node → Option ℕ
prev_in None = None
prev_in (Some n) = n.prev

-- A stop is a key, or the place between the last and the first. What follows a stop:
abbrev pub stop_after : Chain → Option ℕ → Option ℕ
stop_after c None = c.head
stop_after c (Some k) = next_in (get c.nodes k)

-- and what stands before it
abbrev pub prev_of : Chain → Option ℕ → Option ℕ
prev_of c None = c.tail
prev_of c (Some k) = prev_in (get c.nodes k)

-- a node is kept under this key
abbrev pub IsStored : Chain → ℕ → Type 0
IsStored c k = IsSome (object_at c k)

-- the stop can be linked
abbrev pub IsStop : Chain → Option ℕ → Type 0
IsStop c None = Unit {0}
IsStop c (Some k) = IsStored c k

-- the two name each other
abbrev pub IsJoined : Chain → Option ℕ → Option ℕ → Type 0
IsJoined c a b = (stop_after c a ≡ b) × (prev_of c b ≡ a)

-- from the first stop on, each and the one after it name each other
abbrev pub IsPath : Chain → Option ℕ → List (Option ℕ) → Type 0
IsPath c a [] = Unit {0}
IsPath c a (b ∷ rest) = IsJoined c a b × IsPath c b rest

-- the keys of these nodes as stops
abbrev pub stops_of : List Keyed → List (Option ℕ)
stops_of nodes = map (λ (n : Keyed). Some n.0) nodes

-- the nodes stand in this order: neighbours name each other, each key names its object, and the
-- slab has no more
pub record IsLinked (c : Chain) (nodes : List Keyed) : Type 0 where
  pub ring : IsPath c None (stops_of nodes ++ None ∷ [])
  pub apart : IsApart (None ∷ stops_of nodes)
  pub stored : AllByRecursion (λ (n : Keyed). object_at c n.0 ≡ Some n.1) nodes
  pub count : slab_len c.nodes ≡ length nodes

-- so many nodes of the slab, from this stop's next on
abbrev pub nodes_from : Slab Node → ℕ → Option ℕ → List Keyed
nodes_from s zero at = []
nodes_from s (suc n) None = []
nodes_from s (suc n) (Some k) = elim (get s k) as (λ _. List Keyed) [
  | None ↦ []
  | Some node ↦ (k, node.object) ∷ nodes_from s n node.next
]

-- the meaning of a chain: its nodes in link order
abbrev pub nodes_of : Chain → List Keyed
nodes_of c = nodes_from c.nodes (slab_len c.nodes) c.head

-- how many more nodes fit without memory, each under a key of 32 bits
abbrev pub spare_in : Slab Node → ℕ
spare_in s = if nat_le s.capacity (2 ^ 32) then s.capacity - slab_len s else 0

-- links other than what follows the one stop and stands before the other are as before
pub record KeepsLinks (old new : Chain) (before after : Option ℕ) : Type 0 where
  pub next : (a : Option ℕ) → a ≢ before → stop_after new a ≡ stop_after old a
  pub prev : (b : Option ℕ) → b ≢ after → prev_of new b ≡ prev_of old b

-- objects and room are as before
pub record KeepsObjects (old new : Chain) : Type 0 where
  pub objects : (k : ℕ) → object_at new k ≡ object_at old k
  pub len : slab_len new.nodes ≡ slab_len old.nodes
  pub capacity : new.nodes.capacity ≡ old.nodes.capacity

-- this follows the stop now
pub record SetsNext (old new : Chain) (at next : Option ℕ) : Type 0 where
  pub set : stop_after new at ≡ next
  pub others : (a : Option ℕ) → a ≢ at → stop_after new a ≡ stop_after old a
  pub prev : (b : Option ℕ) → prev_of new b ≡ prev_of old b
  pub keeps : KeepsObjects old new

-- this stands before the stop now
pub record SetsPrev (old new : Chain) (at prev : Option ℕ) : Type 0 where
  pub set : prev_of new at ≡ prev
  pub others : (b : Option ℕ) → b ≢ at → prev_of new b ≡ prev_of old b
  pub next : (a : Option ℕ) → stop_after new a ≡ stop_after old a
  pub keeps : KeepsObjects old new

-- the two name each other now
pub record Joins (old new : Chain) (before after : Option ℕ) : Type 0 where
  pub joined : IsJoined new before after
  pub links : KeepsLinks old new before after
  pub keeps : KeepsObjects old new

-- the other objects are as before
abbrev pub KeepsOtherObjects : Chain → Chain → ℕ → Type 0
KeepsOtherObjects old new key = (k : ℕ) → k ≢ key → object_at new k ≡ object_at old k

-- a key that was free keeps the object now
pub record Inserts (old new : Chain) (key : ℕ) (object : Object) : Type 0 where
  pub vacant : key ≡ old.nodes.vacant_key
  pub free : object_at old key ≡ None
  pub stored : object_at new key ≡ Some object
  pub others : KeepsOtherObjects old new key
  pub links : KeepsLinks old new (Some key) (Some key)
  pub len : slab_len new.nodes ≡ slab_len old.nodes + 1
  pub capacity : new.nodes.capacity ≡ old.nodes.capacity

-- the key is free now
pub record Removes (old new : Chain) (key : ℕ) (object : Object) : Type 0 where
  pub stored : object_at old key ≡ Some object
  pub others : KeepsOtherObjects old new key
  pub links : KeepsLinks old new (Some key) (Some key)
  pub len : slab_len new.nodes + 1 ≡ slab_len old.nodes
  pub capacity : new.nodes.capacity ≡ old.nodes.capacity

-- the object under the key is changed so
pub record SetsObject (old new : Chain) (key : ℕ) (change : Object → Object) : Type 0 where
  pub changed : object_at new key ≡ option_map change (object_at old key)
  pub others : KeepsOtherObjects old new key
  pub next : (a : Option ℕ) → stop_after new a ≡ stop_after old a
  pub prev : (b : Option ℕ) → prev_of new b ≡ prev_of old b
  pub len : slab_len new.nodes ≡ slab_len old.nodes
  pub capacity : new.nodes.capacity ≡ old.nodes.capacity
