-- SPDX-License-Identifier: GPL-2.0-only
-- The objects that are printed for a place, where no place is printed twice; and the whole law on journals.
use Rattle.shr_audit_lists.proofs.Common.{◌≡◌, ℕ, ◌<◌, Bool, true, false, List, get_or, Some, refl, sym, ap, subst, ◌∙◌, arith, length, slice_get, Decides, get_or_from_slice_get, Place, PlaceEnd, Script, IsPaired, Report, AreJournalsLawful, journals_of, parents_of, IsFirst, AreBegunIfClosed, HaveGroups, AreDoneClosed, AreItemsLeft, AreOutcomesSo, ArePlacesOnce, ArePlacesThere, IsItemsLeft, IsPlaceStanding, items_of, first_found}
use Rattle.shr_base.specs.declared.objects.Object.{Object}
use Rattle.shr_audit_case.specs.Groups.{printed_items}
use Rattle.shr_audit_case.specs.Lists.{items_printed_in}

pub left_here : (parents : List ℕ) (r : Report) (ends : List PlaceEnd) → ends ≡ r.places.items → ArePlacesOnce r → (k : ℕ) (d : PlaceEnd) (b : Bool)
    → Decides b (items_printed_in r.places.items (get_or ends k d).place ≡ items_of parents (journals_of r) (get_or ends k d).place) → (end : PlaceEnd) → slice_get r.places.items k ≡ Some end → Decides b (IsItemsLeft parents r end)
left_here parents r ends e once k d b so end at =
    let same : get_or ends k d ≡ end = get_or_from_slice_get ends k end d (ap (λ (es : List PlaceEnd). slice_get es k) e ∙ at) in
    let here = subst (λ (x : PlaceEnd). Decides b (items_printed_in r.places.items x.place ≡ items_of parents (journals_of r) x.place)) same so in
    (λ t. sym printed ∙ here.0 t, λ h. here.1 (printed ∙ h))
  where
    first : IsFirst r.places.items k end.place
    first m x lt there own = let is : m ≡ k = once m k x end there at own in omega arith

    printed : items_printed_in r.places.items end.place ≡ end.items.items
    printed = ap printed_items (first_found r.places.items end.place k end at refl first)

-- ---- the law

clash : (b : Bool) → b ≡ true → b ≡ false → ⊥
clash b e f = cc

-- what the law asks for isn't so
pub refused : (L Q : Type 0) → (L → Q) → (b : Bool) → b ≡ false → Decides b Q → Decides false L
refused L Q of b f d = (λ t. absurd cc, λ law. absurd (clash b (d.1 (of law)) f))

pub groups_there : (s : Script) (r : Report) (parents : List ℕ) → parents ≡ parents_of s → ArePlacesThere s r → HaveGroups (length parents) r.places.items
groups_there s r parents same there n end at = let lt = (there n end at).group in let many = ap length same in omega arith

-- all but the last field
pub record AreFieldsSo (s : Script) (r : Report) : Type 0 where
  pub there : ArePlacesThere s r
  pub once : ArePlacesOnce r
  pub stands : (place : Place) → IsPlaceStanding (parents_of s) r place
  pub outcomes : AreOutcomesSo (parents_of s) r
  pub paired : IsPaired (parents_of s) (journals_of r)
  pub items : AreItemsLeft (parents_of s) r
  pub begun : AreBegunIfClosed (parents_of s) r

pub law_of : (s : Script) (r : Report) → AreFieldsSo s r → (b : Bool) → Decides b (AreDoneClosed s r) → Decides b (AreJournalsLawful s r)
law_of s r f b d = (
  λ t. record {
    there = f.there;
    legal = λ place. record { there = (f.stands place).there; stands = (f.stands place).stands; outcomes = f.outcomes place };
    paired = f.paired;
    once = f.once;
    items = f.items;
    begun = f.begun;
    done = d.0 t;
  },
  λ law. d.1 law.done,
)

pub stands_from : (s : Script) (r : Report) → AreJournalsLawful s r → (place : Place) → IsPlaceStanding (parents_of s) r place
stands_from s r law place = record { there = (law.legal place).there; stands = (law.legal place).stands }
