-- SPDX-License-Identifier: GPL-2.0-only
-- The law of the bag, of a run.
use Rattle.shr_lawful.proofs.Common.{◌≡◌, ℕ, suc, ◌<◌, inl, inr, ⊎_elim, true, List, [], ◌∷◌, length, map, refl, ap, slice_get, Some, AllByRecursion, Add, PlaceEnd, Script, added_in, listed_in, IsWhole, bag_of_legal, AreApart_of_ends, find_end, Report, parents_of, journal_of, journals_of, places_of, cited_at, Step, IsRun, added_distinct, IsBagLawful, freed_in, IsBag}
use Rattle.shr_lawful.proofs.RepliesLaw.{cited}

pub all_mapped : {X Y : Type 0} (P : Y → Type 0) (f : X → Y) (xs : List X) → ((n : ℕ) (x : X) → slice_get xs n ≡ Some x → P (f x)) → AllByRecursion P (map f xs)
all_mapped P f [] h = tt
all_mapped P f (x ∷ xs) h = (h 0 x refl, all_mapped P f xs (λ n y e. h (suc n) y e))

module _ (s : Script) (r : Report) (workers : List (List Step)) (run : IsRun s r workers) where
  -- the printed places have all that the journals hold
  pub whole : IsWhole (parents_of s) (journals_of r) (places_of r)
  whole = record {
    apart = AreApart_of_ends r.places.items run.journals.order;
    within = all_mapped (λ p. p.group < length (parents_of s)) (λ (end : PlaceEnd). end.place) r.places.items (λ n end at. (run.journals.printed n end at).there.group);
    others = λ place. ⊎_elim (λ none. inl (ap journal_of none)) (λ has. inr has) (find_end r.places.items place);
  }

  pub bag : IsBag (added_in (places_of r) (journals_of r)) (freed_in (places_of r) (parents_of s) (journals_of r)) (listed_in (places_of r) (parents_of s) (journals_of r))
  bag = record {
    distinct = added_distinct (cited_at r) (places_of r) (journals_of r) (AreApart_of_ends r.places.items run.journals.order)
        (λ place n by birth key value stands. cited s r workers run place n (Add by birth true key value) stands by refl);
    parts = bag_of_legal (places_of r) (parents_of s) (journals_of r) run.journals.parents whole run.journals.legal run.journals.paired;
  }

  pub bag_lawful : IsBagLawful s r
  bag_lawful = record { bag = bag; added = run.added; freed = run.freed; listed = run.listed }
