-- SPDX-License-Identifier: GPL-2.0-only
-- Names whose print another name has. No public clause cites this module.
use Rattle.std.specs.Prelude.{◌≡◌, ◌≢◌, ◌&&◌, ◌==◌, ◌+◌, ◌*◌, ◌%◌, ◌^◌, ℕ, Bool, List, Option, Some, None, IsSome, bytes_eq, if◌then◌else◌}
use Rattle.std.specs.Hash.DefaultHasher.{initial, write, finish}
use Rattle.std.specs.Ordering.{nat_cmp}
use Rattle.std.specs.BTreeMap.{get}
use Rattle.shr_list.specs.declared.queue.clashes.Added.{Added}
use Rattle.shr_list.specs.declared.queue.clashes.Added.TheVariants.{New, Known, Crowded}
use Rattle.shr_list.specs.declared.queue.clashes.Clashes.{Clashes}
use Rattle.shr_list.specs.declared.queue.clashes.Named.{Named}

-- a birth group and a key
abbrev pub Name : Type 0
Name = ℕ × List ℕ

-- the two are one name
abbrev pub is_same : Name → Name → Bool
is_same one other = (one.0 == other.0) && bytes_eq one.1 other.1

-- the node of each name
abbrev pub NodesByName : Type 0
NodesByName = Name → Option ℕ

-- the name has this node now, or none, and the others have theirs
pub record PutsNode (old new : NodesByName) (name : Name) (node : Option ℕ) : Type 0 where
  pub here : new name ≡ node
  pub others : (other : Name) → other ≢ name → new other ≡ old other

-- the second print of a name, of the hashes of its key and of its key twice
unfoldable pub second_of : ℕ → List ℕ → ℕ
second_of birth key =
    let once = write initial key in
    ((finish (write once key) * 2 ^ 64 % 2 ^ 128 + finish once) % 2 ^ 128 + birth) % 2 ^ 128

-- the name that has a second print
abbrev pub named_by : Named → Name
named_by n = (n.birth, n.key)

-- a name's node, where its second print has this: that node if it is this name's
abbrev pub found_second : Option Named → Name → Option ℕ
found_second None name = None
found_second (Some n) name = if is_same (named_by n) name then Some n.node else None

-- what a second print has
abbrev pub second_at : Clashes → ℕ → Option Named
second_at clashes second = get nat_cmp clashes.seconds second

-- the node of this name
abbrev pub found_clash : Clashes → Name → Option ℕ
found_clash clashes name = found_second (second_at clashes (second_of name.0 name.1)) name

-- every name has the node that it had
abbrev pub IsSameClashes : Clashes → Clashes → Type 0
IsSameClashes old new = (name : Name) → found_clash new name ≡ found_clash old name

-- the name has this node now, or none, and the others have theirs
abbrev pub PutsClash : Clashes → Clashes → Name → Option ℕ → Type 0
PutsClash old new name node = PutsNode (found_clash old) (found_clash new) name node

-- the name was not there and has this node now; or it was there; or it was not, and another has its
-- second print
abbrev pub AddsClash : Clashes → Clashes → Name → ℕ → Added → Type 0
AddsClash old new name node New = (found_clash old name ≡ None) × PutsClash old new name (Some node)
AddsClash old new name node Known = IsSome (found_clash old name) × IsSameClashes old new
AddsClash old new name node Crowded = (found_clash old name ≡ None) × IsSome (second_at old (second_of name.0 name.1)) × IsSameClashes old new
