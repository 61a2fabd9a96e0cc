-- SPDX-License-Identifier: GPL-2.0-only
-- What the replay of a place tells.
use Rattle.shr_audit_case.proofs.Common.{◌≡◌, ℕ, zero, suc, ◌+◌, ◌<◌, ◌≤◌, true, List, [], ◌∷◌, length, get_or, take, Some, None, refl, sym, ap, subst, ◌∙◌, inl, inr, arith, slice_get, Decides, Place, Object, Entry, PlaceEnd, Replayed, tag_of, IsReplayedAt, printed_items, IsReplayed, journal_of, IsFirst, IsIndexOf, end_printed, AreReplays, items_printed_in, journals_in}
use Rattle.std.proofs.lemmas.List.{length-map}
use Rattle.shr_model.specs.Items.{items_from, step, first_moved, later_moved, AreOutcomes}
use Rattle.shr_audit_case.specs.declared.tags.FreedTag.{FreedTag}
use Rattle.shr_audit_case.specs.declared.values.FoundValue.{FoundValue}
use Rattle.shr_audit_case.specs.Journals.{lens_from, freed_tags, values_from}
use Rattle.shr_audit_case.proofs.Firsts.{found_or_none}

-- the numbers of items, one more than there are entries
lens_many : (moved : List (List Object)) (items : List Object) (es : List Entry) → length (lens_from moved items es) ≡ length es + 1
unfolding lens_from
lens_many moved items [] = refl
lens_many moved items (e ∷ es) = let more = lens_many (later_moved e moved) (step (first_moved moved) items e) es in omega arith

lens_at : (moved : List (List Object)) (items : List Object) (es : List Entry) (n d : ℕ) → n ≤ length es → get_or (lens_from moved items es) n d ≡ length (items_from moved items (take n es))
unfolding lens_from items_from
lens_at moved items [] zero d le = refl
lens_at moved items [] (suc n) d le = absurd (omega arith)
lens_at moved items (e ∷ es) zero d le = refl
lens_at moved items (e ∷ es) (suc n) d le = lens_at (later_moved e moved) (step (first_moved moved) items e) es n d (omega arith)

take_whole : (es : List Entry) (n : ℕ) → length es ≤ n → take n es ≡ es
take_whole [] zero le = refl
take_whole [] (suc n) le = refl
take_whole (e ∷ es) zero le = absurd (omega arith)
take_whole (e ∷ es) (suc n) le = ap (λ (xs : List Entry). e ∷ xs) (take_whole es n (omega arith))

module _ (told : Replayed) (moved : List (List Object)) (es : List Entry) (printed : List Object) (r : IsReplayed moved es printed told) where
  pub count_within : (n d : ℕ) → n < length told.lens.items → get_or told.lens.items n d ≡ length (items_from moved [] (take n es))
  count_within n d lt = ap (λ (ls : List ℕ). get_or ls n d) r.lens ∙ lens_at moved [] es n d (let many = lens_many moved [] es in let is = ap length r.lens in omega arith)

  pub count_past : (n : ℕ) → length told.lens.items ≤ n → length told.left.items ≡ length (items_from moved [] (take n es))
  count_past n le = ap length r.left ∙ (length-map (items_from moved [] es) tag_of
      ∙ ap (λ (xs : List Entry). length (items_from moved [] xs)) (sym (take_whole es n (let many = lens_many moved [] es in let is = ap length r.lens in omega arith))))

none_within : (ends : List PlaceEnd) (k : ℕ) → k < length ends → slice_get ends k ≡ None → ⊥
none_within [] k lt e = absurd (omega arith)
none_within (x ∷ xs) zero lt e = cc
none_within (x ∷ xs) (suc k) lt e = none_within xs k (omega arith) e

-- the replay that an index reads tells what is so of the place
pub tells_some : (parents : List ℕ) (ends : List PlaceEnd) (told : List Replayed) (place : Place) (k : ℕ) (r : Replayed) → AreReplays parents ends told → IsIndexOf ends place k → slice_get told k ≡ Some r → IsReplayedAt parents (journals_in ends) (items_printed_in ends) place r
tells_some parents ends told place k r all index here = elim (found_or_none ends place) [
  | inl none ↦ absurd (none_within ends k index.within (index.at ∙ none))
  | inr found ↦
      let end = found.1.0 in
      let f = found.1.1 in
      subst (λ (p : Place). IsReplayedAt parents (journals_in ends) (items_printed_in ends) p r) f.same (all.each k r here end (index.at ∙ f.found) (subst (IsFirst ends k) (sym f.same) index.first))
]

-- a place that isn't printed has no journal
pub no_journal : (ends : List PlaceEnd) (place : Place) → end_printed ends place ≡ None → journals_in ends place ≡ []
no_journal ends place none = ap journal_of none

-- without entries nothing was done
pub no_items : (moved : List (List Object)) (es : List Entry) → es ≡ [] → items_from moved [] es ≡ []
unfolding items_from
no_items moved es none = ap (λ (xs : List Entry). items_from moved [] xs) none

pub no_items_taken : (moved : List (List Object)) (es : List Entry) (n : ℕ) → es ≡ [] → 0 ≡ length (items_from moved [] (take n es))
no_items_taken moved es n none = sym (ap length (no_items moved (take n es) (ap (take n) none ∙ take_whole [] n (omega arith))))

pub no_freed : (moved : List (List Object)) (es : List Entry) → es ≡ [] → ◌≡◌ {A = List FreedTag} [] (freed_tags 0 moved [] es)
unfolding freed_tags
no_freed moved es none = sym (ap (λ (xs : List Entry). freed_tags 0 moved [] xs) none)

pub no_values : (moved : List (List Object)) (es : List Entry) → es ≡ [] → ◌≡◌ {A = List FoundValue} [] (values_from 0 moved [] es)
unfolding values_from
no_values moved es none = sym (ap (λ (xs : List Entry). values_from 0 moved [] xs) none)

-- and nothing is printed or left
pub no_printed : (moved : List (List Object)) (ends : List PlaceEnd) (place : Place) → end_printed ends place ≡ None → Decides true (items_printed_in ends place ≡ items_from moved [] (journals_in ends place))
no_printed moved ends place none = (λ t. ap printed_items none ∙ sym (no_items moved (journals_in ends place) (no_journal ends place none)), λ h. refl)

pub no_outcomes : (moved : List (List Object)) (es : List Entry) → es ≡ [] → Decides true (AreOutcomes moved [] es)
unfolding AreOutcomes
no_outcomes moved es none = (λ t. subst (λ (xs : List Entry). AreOutcomes moved [] xs) (sym none) tt, λ h. refl)
