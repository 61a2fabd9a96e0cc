-- SPDX-License-Identifier: GPL-2.0-only
-- Charges that are used up, and the group that refused one.
use Rattle.shr_assemble.proofs.Common.{◌≡◌, ℕ, ◌<◌, Bool, true, false, cond, List, length, arith, Some, None, ◌||◌, nat_le, Spent, spent_by, Uses, Serial, UseStep, IsTree, on_le, Shape, refused_on, IsChargeRefused}
use Rattle.shr_base.specs.declared.replies.Spent.TheVariants as spent
use Rattle.shr_charge.specs.Seat.{counted}

by_test : (b : Bool) (charges uncharges : ℕ) (s : Spent) → cond b (Some (spent.Charges charges uncharges)) None ≡ Some s → s ≡ spent.Charges charges uncharges
by_test true charges uncharges s e = cc
by_test false charges uncharges s e = cc

-- charges that are used up are told by their numbers
pub spent_is : (u : Uses) (s : Spent) → spent_by u ≡ Some s → s ≡ spent.Charges (counted u.charges) (counted u.uncharges)
spent_is u s e = by_test (nat_le 1048576 u.charges || nat_le 4194304 u.uncharges) (counted u.charges) (counted u.uncharges) s e

-- the group that refused a charge is a group of the tree
pub refused_there : (k : Shape) (by : Serial) (group level number usage : ℕ) (ops : List UseStep) → IsTree k.parents.items → group < length k.parents.items → IsChargeRefused k by group level number usage ops → level < length k.parents.items
refused_there k by group level number usage ops tree there r = let low = on_le k.parents.items tree level group there (refused_on k by group level number usage ops tree there r) in omega (arith, low, there)
