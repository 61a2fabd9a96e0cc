-- SPDX-License-Identifier: GPL-2.0-only
-- Fields of the law on journals, at known values.
use Rattle.shr_audit_lists.proofs.Common.{false, ◌≡◌, ℕ, zero, suc, ◌<◌, Option, Some, None, List, [], ◌∷◌, refl, ap, subst, arith, true, inl, inr, slice_get, slice_get_within, PlaceEnd, Place, Closed, Drop, MovedIn, Begin, Done, Report, IsThere, parents_of, Has, Has_from_Contains, AreBegun, AreBegunIfClosed, HaveGroups, HasBegunAbove, IsBegunIfClosed, IsPairedAround, moves, AreDoneClosed, ArePrintedOnce, AreOutcomesSo, ArePlacesOnce, ArePlacesThere, IsClosedAt, IsOutcomeSo, codes, AreChildrenPaired, IsOwnPaired}
use Rattle.shr_base.specs.declared.journals.DropKind.TheVariants as kind
use Rattle.shr_model.specs.Items.{AreOutcomes}
use Rattle.shr_model.specs.Families.{lists_moved}
use Rattle.shr_laws.proofs.SecondReport as second
use Rattle.shr_laws.proofs.NotLawful.{with_list}
use Rattle.shr_model.specs.Groups.{path_within}

-- a report with one list, which is closed
abbrev closed_one : Report
closed_one = with_list (Closed ∷ []) []

one_list : (n : ℕ) (end : PlaceEnd) → slice_get closed_one.places.items n ≡ Some end → n < 1
one_list n end at = slice_get_within closed_one.places.items n end at

there : ArePlacesThere second.script closed_one
there zero end at = let place : second.place ≡ end.place = ap (λ (x : Option PlaceEnd). place_in x) at in subst (IsThere second.script) place (record { id = omega arith; node = omega arith; group = omega arith })
  where
    place_in : Option PlaceEnd → Place
    place_in None = second.place
    place_in (Some x) = x.place
there (suc n) end at = let few = one_list (suc n) end at in absurd (omega arith)

once : ArePlacesOnce closed_one
once n m x y at here same = let few = one_list n x at in let too = one_list m y here in omega arith

firsts : ArePrintedOnce closed_one.places.items
firsts k end at m x lt here = let few = one_list k end at in absurd (omega arith)

outcomes : AreOutcomesSo (parents_of second.script) (record second.report { places = second.kept [] })
unfolding AreOutcomes
outcomes place = tt

-- no group is done
done : AreDoneClosed second.script closed_one
done place here c = let none : c.0 < 0 = c.1 in absurd (omega arith)

-- a list of a node that isn't there
no_node : ArePlacesThere second.script (record second.report { places = second.kept (record { place = record second.place { node = 3 }; entries = second.kept second.entries; items = second.kept [] } ∷ []) }) → ⊥
no_node h = let e = (h 0 _ refl).node in absurd (omega (arith, e))

-- a place that is printed twice
abbrev twice : List PlaceEnd
twice = record { place = second.place; entries = second.kept second.entries; items = second.kept [] } ∷ record { place = second.place; entries = second.kept []; items = second.kept [] } ∷ []

printed_twice : ArePlacesOnce (record second.report { places = second.kept twice }) → ⊥
printed_twice h = let e : 0 ≡ 1 = h 0 1 _ _ refl refl refl in absurd (omega (arith, e))

second_is_not_first : ArePrintedOnce twice → ⊥
second_is_not_first h = h 1 _ refl 0 _ (omega arith) refl refl

-- an object was dropped that never was there
dropped_none : AreOutcomesSo (parents_of second.script) (with_list (Drop (second.by 1) 1 (codes "k1") kind.Dropped ∷ []) []) → ⊥
unfolding AreOutcomes lists_moved
dropped_none h = absurd (let e = (h second.place).0 in cc)

missed_none : IsOutcomeSo (parents_of second.script) (with_list (Drop (second.by 1) 1 (codes "k1") kind.Miss ∷ []) []) second.place
unfolding AreOutcomes lists_moved
missed_none = (refl, tt)

-- a closed list, and an open one
closed : IsClosedAt (with_list (Closed ∷ []) []) 0 0 1
closed = refl

«open» : IsClosedAt second.report 0 0 1 → ⊥
«open» h = cc

-- a group is done, and its list isn't closed
done_open : AreDoneClosed second.script (record second.report { tree = second.kept (Begin 1 ∷ Done 1 ∷ []) }) → ⊥
done_open h = absurd (let e = h second.place (record { id = omega arith; node = omega arith; group = omega arith }) (1, omega arith, refl) in cc)

-- a group that began, one below it, and one that didn't
root_began : HasBegunAbove (0 ∷ 0 ∷ []) (Begin 0 ∷ []) 1
unfolding path_within
root_began = (0, (1, omega arith, refl), (0, omega arith, refl))

child_began : HasBegunAbove (0 ∷ 0 ∷ []) (Begin 1 ∷ []) 0 → ⊥
unfolding path_within
child_began b = no (Has_from_Contains (0 ∷ []) b.0 b.1) (Has_from_Contains (Begin 1 ∷ []) (Begin b.0) b.2)
  where
    no : {g : ℕ} → Has (0 ∷ []) g → Has (Begin 1 ∷ []) (Begin g) → ⊥
    no (inl zero_is) (inl one_is) = let same : ◌≡◌ {A = ℕ} 1 0 = cc in absurd (omega arith)
    no (inl zero_is) (inr none) = absurd none
    no (inr none) own = absurd none

told_of_root : AreBegun (0 ∷ 0 ∷ []) [] (true ∷ []) → ⊥
told_of_root h = let b = (h 0 (omega arith)).0 refl in let none : b.2.0 < 0 = b.2.1 in absurd (omega arith)

not_told : AreBegun (0 ∷ 0 ∷ []) (Begin 0 ∷ []) []
not_told g lt = absurd (omega arith)

-- a list that is closed, where no group began
closed_alone : AreBegunIfClosed (parents_of second.script) closed_one → ⊥
closed_alone h = let b = h second.place refl in let none : b.2.0 < 0 = b.2.1 in absurd (omega arith)

open_place : IsBegunIfClosed (parents_of second.script) second.report second.place
open_place shut = cc

two_groups : HaveGroups 2 closed_one.places.items
two_groups n end at = let here = there n end at in let group = here.group in omega arith

one_group : HaveGroups 1 closed_one.places.items → ⊥
one_group h = let lt : 1 < 1 = h 0 _ refl in absurd (omega arith)

-- an entry that moves the list of group 1 in
moves_it : moves 1 (MovedIn 1 0) ≡ true
moves_it = refl

moves_another : moves 2 (MovedIn 1 0) ≡ false
moves_another = refl

moves_none : moves 1 Closed ≡ false
moves_none = refl

-- the list of group 1 is closed, and the root's has no entry that moved it in
not_moved_in : IsOwnPaired (parents_of second.script) closed_one second.place → ⊥
not_moved_in h = let c = (h (omega arith) (omega arith)).0 refl in let none : c.0 < 0 = c.1 in absurd (omega arith)

child_not_moved_in : AreChildrenPaired (parents_of second.script) closed_one (record second.place { group = 0 }) → ⊥
child_not_moved_in h = let c = (h 1 refl).0 refl in let none : c.0 < 0 = c.1 in absurd (omega arith)

around : IsPairedAround (parents_of second.script) closed_one second.place → ⊥
around h = not_moved_in h.0

-- the root's list has no parent, and an open one that nothing moved in fits
root_paired : IsOwnPaired (parents_of second.script) closed_one (record second.place { group = 0 })
root_paired above lt = absurd (omega arith)

open_paired : IsOwnPaired (parents_of second.script) second.report second.place
open_paired above lt = (λ shut. cc, λ c. absurd (let none : c.0 < 0 = c.1 in omega arith))
