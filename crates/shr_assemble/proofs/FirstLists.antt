-- SPDX-License-Identifier: GPL-2.0-only
-- The list on which a tenant's command acted is the first open one from its group up.
use Rattle.shr_assemble.proofs.Common.{◌≡◌, ℕ, ◌<◌, List, length, sym, subst, Some, option_and_then, Contains, Place, group_named, IsAtOrAbove, place_number, at_group, View, Known, shape_of, KnowsClosed, IsFirstOpen, Shared, parents_of, Step, IsFirstFor}
use Rattle.shr_assemble.proofs.QuietSteps.{AreTables, tree_is}

-- a list that a view knows to be closed is known so where the same is known
closed_still : (v w : View) (k : ℕ) → w.traces.known ≡ v.traces.known → KnowsClosed v k → KnowsClosed w k
closed_still v w k e h = (h.0, subst (λ (l : List Known). Contains l (record { place = k; entries = h.0 })) (sym e) h.1, h.2)

pub first_for : (x : Shared) → AreTables x → (w : View) (id node birth : ℕ) (place : Place) → IsFirstOpen (shape_of x.core) w id node birth place
    → (z : Step) → z.after.core.traces.known ≡ w.traces.known → option_and_then group_named z.command ≡ Some birth → birth < length (parents_of x.script) → IsFirstFor x.script z place
first_for x tables w id node birth place first z same named there = let tree = tree_is x tables.shared in record {
  birth = birth;
  named = named;
  there = there;
  above = subst (λ (ps : List ℕ). IsAtOrAbove ps place.group birth) tree first.above;
  below = λ g above lower. closed_still w z.after.core (place_number (at_group place g)) same (first.below g (subst (λ (ps : List ℕ). IsAtOrAbove ps g birth) (sym tree) above) lower);
}
