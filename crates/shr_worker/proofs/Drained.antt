-- SPDX-License-Identifier: GPL-2.0-only
-- The objects that an unregistering drained: their births, and how many they are at most.
use Rattle.shr_worker.proofs.Common.{◌≡◌, ℕ, zero, suc, ◌<◌, ◌≤◌, List, [], ◌∷◌, length, length-append, refl, sym, subst, arith, Object, View, Shape, groups_in, ◌*◌, get_or, AllPairs}
use mathlib.Core.Option.{some, some-injective, some-ne-none}
use lib.ListN.{get_elem?}
use Rattle.shr_seats.specs.Views.{Each}
use Rattle.shr_seats.proofs.Weighing.{Each-append, Each-none}
use Rattle.shr_core.specs.Rule.{AreBorn}
use Rattle.shr_node.specs.Draining.{Draw, drawn}
use Rattle.shr_registry.specs.Ending.{drawn_from, AreNodeDraws}

-- what stands at a place of a list
read_at : {A : Type 0} (l : List A) (j : ℕ) (x : A) → get_elem? l j ≡ some x → (j < length l) × (get_or l j x ≡ x)
read_at [] j x at = absurd (some-ne-none x (sym at))
read_at (y ∷ l) zero x at = (omega arith, some-injective y x at)
read_at (y ∷ l) (suc j) x at = let r = read_at l j x at in (omega (arith, r.0), r.1)

-- a draw below a group, of a list within the limit
record IsSmall (groups below : ℕ) (d : Draw) : Type 0 where
  low : d.group < below
  few : length d.items ≤ 20000
  born : AreBorn groups d.items

-- each draw is of a lower group than those before it
abbrev AreFalling : List Draw → Type 0
AreFalling ds = AllPairs (λ (a b : Draw). b.group < a.group) ds

-- the draws behind the first fall as well
tail_falls : (d : Draw) (ds : List Draw) → AreFalling (d ∷ ds) → AreFalling ds
tail_falls d ds falling i j e before within = falling (suc i) (suc j) e (omega (arith, before)) (omega (arith, within))

-- those behind a draw are of lower groups
tail_small : (groups below : ℕ) (d : Draw) (ds : List Draw) → Each (IsSmall groups below) (d ∷ ds) → AreFalling (d ∷ ds) → Each (IsSmall groups d.group) ds
tail_small groups below d ds each falling j y at = let r = read_at ds j y at in let s = each (suc j) y at in record {
  low = subst (λ (e : Draw). e.group < d.group) r.1 (falling 0 (suc j) y (omega arith) (omega (arith, r.0)));
  few = s.few;
  born = s.born;
}

-- one list a group
node_few : (groups below : ℕ) (ds : List Draw) → Each (IsSmall groups below) ds → AreFalling ds → length (drawn ds) ≤ 20000 * below
node_few groups below [] each falling = omega arith
node_few groups below (d ∷ ds) each falling = let rest = node_few groups d.group ds (tail_small groups below d ds each falling) (tail_falls d ds falling) in
    let first = each 0 d refl in let low = first.low in let few = first.few in let both = length-append d.items (drawn ds) in omega (arith, rest, low, few, both)

-- the objects of one draw after another are born in groups
node_born : (groups below : ℕ) (ds : List Draw) → Each (IsSmall groups below) ds → AreBorn groups (drawn ds)
node_born groups below [] each = Each-none (λ (o : Object). o.birth < groups)
node_born groups below (d ∷ ds) each = Each-append (λ (o : Object). o.birth < groups) d.items (drawn ds) (each 0 d refl).born (node_born groups below ds (λ j y at. each (suc j) y at))

-- the draws of a node
record IsNode (groups : ℕ) (ds : List Draw) : Type 0 where
  small : Each (IsSmall groups groups) ds
  falling : AreFalling ds

-- each node has at most 256 lists
all_few : (groups : ℕ) (draws : List (List Draw)) → groups ≤ 256 → Each (IsNode groups) draws → length (drawn_from draws) ≤ 5120000 * length draws
all_few groups [] most each = omega arith
all_few groups (ds ∷ draws) most each = let rest = all_few groups draws most (λ j y at. each (suc j) y at) in let n = each 0 ds refl in
    let first = node_few groups groups ds n.small n.falling in let both = length-append (drawn ds) (drawn_from draws) in omega (arith, rest, first, both, most)

-- the objects of one node after another are born in groups
all_born : (groups : ℕ) (draws : List (List Draw)) → Each (IsNode groups) draws → AreBorn groups (drawn_from draws)
all_born groups [] each = Each-none (λ (o : Object). o.birth < groups)
all_born groups (ds ∷ draws) each = Each-append (λ (o : Object). o.birth < groups) (drawn ds) (drawn_from draws) (node_born groups groups ds (each 0 ds refl).small) (all_born groups draws (λ j y at. each (suc j) y at))

-- objects born in groups of the shape, at most as many as the lists of four nodes may hold
pub record AreDrained (groups : ℕ) (objects : List Object) : Type 0 where
  pub born : AreBorn groups objects
  pub few : length objects ≤ 20480000

module _ (shape : Shape) (v : View) (id : ℕ) (draws : List (List Draw)) (each : (node : ℕ) (ds : List Draw) → get_elem? draws node ≡ some ds → AreNodeDraws shape v id node ds) where
  -- the draws of each node, by what is said of them
  nodes : shape.most_items ≤ 20000 → Each (IsNode (groups_in shape)) draws
  nodes most node ds at = let a = each node ds at in record {
    small = λ j d there. let f = a.each j d there in let few = f.later.items in record { low = f.there; few = omega (arith, few, most); born = f.born };
    falling = a.falling;
  }

  -- what all draws held, in a core of at most 256 groups, 4 nodes and 20,000 objects a list
  pub drained_from : shape.most_items ≤ 20000 → groups_in shape ≤ 256 → shape.nodes ≤ 4 → length draws ≤ shape.nodes → AreDrained (groups_in shape) (drawn_from draws)
  drained_from items groups four short = let few = all_few (groups_in shape) draws groups (nodes items) in record {
    born = all_born (groups_in shape) draws (nodes items);
    few = omega (arith, few, four, short);
  }
