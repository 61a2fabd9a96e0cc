-- SPDX-License-Identifier: GPL-2.0-only
-- The index of a list. No public clause cites this module.
use Rattle.std.specs.Prelude.{◌≡◌, ◌+◌, ◌%◌, ◌^◌, ℕ, Bool, true, false, List, ◌++◌, map, Option, Some, None, IsSome, if◌then◌else◌, nat_eq}
use Rattle.std.specs.List.{AllByRecursion}
use Rattle.std.specs.Hash.FoldHasher.{initial, write, finish}
use Rattle.std.specs.HashMap.{get}
use Rattle.shr_base.specs.declared.objects.Object.{Object}
use Rattle.shr_list.specs.declared.queue.clashes.Added.{Added}
use Rattle.shr_list.specs.declared.queue.clashes.Added.TheVariants.{New, Known, Crowded}
use Rattle.shr_list.specs.declared.queue.names.Names.{Names}
use Rattle.shr_list.specs.Nodes.{Keyed, IsApart, key_named}
pub use Rattle.shr_list.specs.Clashes.{Name, NodesByName, PutsNode, is_same}
use Rattle.shr_list.specs.Clashes.{found_clash, second_at, second_of}

-- the name of an object
abbrev pub name_by : Object → Name
name_by o = (o.birth, o.key)

-- and of a node
abbrev pub name_in : Keyed → Name
name_in n = name_by n.1

-- the print of a name
unfoldable pub print_of : ℕ → List ℕ → ℕ
print_of birth key = (finish (write initial key) % 2 ^ 32 + birth) % 2 ^ 32

-- the node under a print
abbrev pub entry_at : Names → ℕ → Option ℕ
entry_at names print = get nat_eq names.prints print

-- a name's node, where the entry of its print is this owner's: that entry if it is the owner, else
-- what the clashes have
abbrev pub owned : Option Name → Name → Option ℕ → Option ℕ → Option ℕ
owned None name entry clash = clash
owned (Some owner) name entry clash = if is_same owner name then entry else clash

-- the name has the entry of this print, and does not clash
pub record Owns (names : Names) (print : ℕ) (name : Name) : Type 0 where
  pub print_is : print_of name.0 name.1 ≡ print
  pub entry : IsSome (entry_at names print)
  pub alone : found_clash names.clashes name ≡ None

-- The index finds these nodes: each print has an owner or no entry, and the names that own none are
-- among the clashes. Who owns a print is not kept: that is asked at the node.
pub record FitsFound (names : Names) (found : NodesByName) : Type 0 where
  pub owner : ℕ → Option Name
  pub vacant : (print : ℕ) → owner print ≡ None → entry_at names print ≡ None
  pub taken : (print : ℕ) (name : Name) → owner print ≡ Some name → Owns names print name
  pub finds : (name : Name) → found name ≡ owned (owner (print_of name.0 name.1)) name (entry_at names (print_of name.0 name.1)) (found_clash names.clashes name)

-- it finds what it found
abbrev pub KeepsFound : Names → Names → Type 0
KeepsFound old new = (found : NodesByName) → FitsFound old found → FitsFound new found

-- a name that was not there has this node now
abbrev pub GainsName : Names → Names → Name → ℕ → Type 0
GainsName old new name node =
    (found after : NodesByName) → FitsFound old found → found name ≡ None → PutsNode found after name (Some node) → FitsFound new after

-- a name that was there has this node now, or none
abbrev pub TurnsName : Names → Names → Name → Option ℕ → Type 0
TurnsName old new name node =
    (found after : NodesByName) → FitsFound old found → IsSome (found name) → PutsNode found after name node → FitsFound new after

-- the names of these nodes
abbrev pub names_of : List Keyed → List Name
names_of nodes = map name_in nodes

-- the node of each name, in these nodes
abbrev pub in_nodes : List Keyed → NodesByName
in_nodes nodes name = key_named name.0 name.1 nodes

-- no two nodes have one name, and the index finds each name's node
pub record IsIndexed (names : Names) (nodes : List Keyed) : Type 0 where
  pub unique : IsApart (names_of nodes)
  pub fits : FitsFound names (in_nodes nodes)

-- others have both prints of the name
pub record IsCrowded (names : Names) (name : Name) : Type 0 where
  pub first : IsSome (entry_at names (print_of name.0 name.1))
  pub second : IsSome (second_at names.clashes (second_of name.0 name.1))

-- none of the nodes has the name, which has this node now; or one has it; or none has it, and it
-- has no place
abbrev pub AddsName : Names → Names → List Keyed → Name → ℕ → Added → Type 0
AddsName old new nodes name node New = (in_nodes nodes name ≡ None) × GainsName old new name node
AddsName old new nodes name node Known = IsSome (in_nodes nodes name) × KeepsFound old new
AddsName old new nodes name node Crowded = (in_nodes nodes name ≡ None) × IsCrowded old name × KeepsFound old new

-- a name that is new has this node now, or it has no place
abbrev pub PutsName : Names → Names → Name → ℕ → Bool → Type 0
PutsName old new name node true = GainsName old new name node
PutsName old new name node false = IsCrowded old name × KeepsFound old new

-- none of the second nodes has the name of one of the first
abbrev pub AreNewNames : List Keyed → List Keyed → Type 0
AreNewNames nodes kids = AllByRecursion (λ (n : Keyed). in_nodes nodes (name_in n) ≡ None) kids

-- no two nodes of both lists have one name
pub record AreStrangers (nodes kids : List Keyed) : Type 0 where
  pub unique : IsApart (names_of nodes)
  pub others : IsApart (names_of kids)
  pub fresh : AreNewNames nodes kids

-- these nodes are not indexed any more, and the others are
abbrev pub Withdraws : Names → Names → List Keyed → Type 0
Withdraws old new kids = (nodes rest : List Keyed) → IsIndexed old (nodes ++ (kids ++ rest)) → IsIndexed new (nodes ++ rest)
