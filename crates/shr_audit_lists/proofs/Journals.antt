-- SPDX-License-Identifier: GPL-2.0-only
-- Fields of the law on journals, against loops over the lists.
use Rattle.shr_audit_lists.proofs.Common.{◌≡◌, ℕ, ◌+◌, ◌<◌, ◌≤◌, Bool, true, false, List, [], length, get_or, Some, refl, sym, ap, subst, ◌⊎◌, inl, inr, arith, slice_get, Contains, Decides, cases_order, get_or_from_slice_get, Place, PlaceEnd, Entry, Done, Script, Report, journal_of, journals_of, parents_of, EachFirst, IsFirst, decides_iff, found_or_none, AreDoneClosed, ArePrintedOnce, AreOutcomesSo, ArePlacesOnce, IsClosedAt, IsOutcomeSo, length-map, lists_moved_at}
use Rattle.shr_base.specs.declared.scripts.GroupDecl.{GroupDecl}
use Rattle.shr_model.specs.Items.{AreOutcomes}

-- the number of groups
pub groups_many : (s : Script) → length (parents_of s) ≡ length s.groups.items + 1
groups_many s = let many = length-map s.groups.items (λ (g : GroupDecl). g.parent) in omega arith

-- each list is the first one of its place if and only if none is printed twice
pub once_of : (r : Report) (b : Bool) → Decides b (ArePrintedOnce r.places.items) → Decides b (ArePlacesOnce r)
once_of r b d = decides_iff b (ArePrintedOnce r.places.items) (ArePlacesOnce r)
    (λ firsts n m x y at there same. by_order n m x y at there same firsts (cases_order n m))
    (λ once k end at m x lt there same. let is : m ≡ k = once m k x end there at same in absurd (omega arith)) d
  where
    by_order : (n m : ℕ) (x y : PlaceEnd) → slice_get r.places.items n ≡ Some x → slice_get r.places.items m ≡ Some y → x.place ≡ y.place → ArePrintedOnce r.places.items → (n ≡ m) ⊎ ((n < m) ⊎ (m < n)) → n ≡ m
    by_order n m x y at there same firsts (inl is) = is
    by_order n m x y at there same firsts (inr (inl lt)) = absurd (firsts m y there n x lt at same)
    by_order n m x y at there same firsts (inr (inr lt)) = absurd (firsts n x at m y lt there (sym same))

-- what is so of a place with an empty journal is so of each place, if it is of each that is printed
pub each_printed_of : (r : Report) (P : Place → Type 0) → ((place : Place) → journals_of r place ≡ [] → P place) → (b : Bool) → Decides b (EachFirst r.places.items (λ end. P end.place)) → Decides b ((place : Place) → P place)
each_printed_of r P none b d = decides_iff b (EachFirst r.places.items (λ end. P end.place)) ((place : Place) → P place) to (λ all k end at first. all end.place) d
  where
    to : EachFirst r.places.items (λ end. P end.place) → (place : Place) → P place
    to all place = elim (found_or_none r.places.items place) [
      | inl away ↦ none place (ap journal_of away)
      | inr at ↦ subst P at.1.1.same (all at.0 at.1.0 at.1.1.at (subst (IsFirst r.places.items at.0) (sym at.1.1.same) at.1.1.first))
    ]

pub outcomes_of : (parents : List ℕ) (r : Report) (b : Bool) → Decides b (EachFirst r.places.items (λ end. IsOutcomeSo parents r end.place)) → Decides b (AreOutcomesSo parents r)
unfolding AreOutcomes
outcomes_of parents r b d = each_printed_of r (λ place. IsOutcomeSo parents r place) (λ place none. subst (λ (es : List Entry). AreOutcomes (lists_moved_at parents (journals_of r) place) [] es) (sym none) tt) b d

-- each list of each group that is done
pub done_all : (s : Script) (r : Report) (k : ℕ) → length s.groups.items + 1 ≤ k
    → ((g : ℕ) → g < k → Contains r.tree.items (Done g) → (i : ℕ) → i < s.ids → (n : ℕ) → n < s.nodes → IsClosedAt r i n g) → Decides true (AreDoneClosed s r)
done_all s r k le all =
    (λ t place there done. let group = there.group in let many = groups_many s in let below : place.group < k = omega arith in all place.group below done place.id there.id place.node there.node, λ h. refl)

-- what is asked of a list if it is the first one of its place
pub asked_of_first : (P : Place → Type 0) (ends places : List PlaceEnd) → ends ≡ places → (k : ℕ) (d : PlaceEnd) (b first : Bool) → first ≡ true → ((end : PlaceEnd) → slice_get ends k ≡ Some end → Decides first (IsFirst ends k end.place))
    → Decides b (P (get_or ends k d).place) → (end : PlaceEnd) → slice_get places k ≡ Some end → Decides b (IsFirst places k end.place → P end.place)
asked_of_first P ends places e k d b first t is_first so = subst (λ (ps : List PlaceEnd). (end : PlaceEnd) → slice_get ps k ≡ Some end → Decides b (IsFirst ps k end.place → P end.place)) e
    (λ end at. let same = get_or_from_slice_get ends k end d at in (
      λ yes first_here. subst (λ (x : PlaceEnd). P x.place) same (so.0 yes),
      λ asked. so.1 (subst (λ (x : PlaceEnd). P x.place) (sym same) (asked ((is_first end at).0 t))),
    ))

pub nothing_asked : (P : Place → Type 0) (ends places : List PlaceEnd) → ends ≡ places → (k : ℕ) (first : Bool) → first ≡ false → ((end : PlaceEnd) → slice_get ends k ≡ Some end → Decides first (IsFirst ends k end.place))
    → (end : PlaceEnd) → slice_get places k ≡ Some end → Decides true (IsFirst places k end.place → P end.place)
nothing_asked P ends places e k first f is_first = subst (λ (ps : List PlaceEnd). (end : PlaceEnd) → slice_get ps k ≡ Some end → Decides true (IsFirst ps k end.place → P end.place)) e
    (λ end at. (λ t here. absurd (clash first ((is_first end at).1 here) f), λ h. refl))
  where
    clash : (b : Bool) → b ≡ true → b ≡ false → ⊥
    clash b x y = cc
