-- SPDX-License-Identifier: GPL-2.0-only
-- How many objects were added, freed and are listed, of a run whose workers are done.
use Rattle.shr_assemble.proofs.Common.{◌≡◌, ℕ, suc, ◌+◌, ◌<◌, inl, inr, ⊎_elim, List, [], ◌∷◌, ◌++◌, map, length, length-append, refl, ap, ◌∙◌, arith, slice_get, Some, sum_by, length_permutation, length-map, sum_by-cons, PlaceEnd, Entry, Object, serials_of, added_by_all, added_in, listed_in, items_of, IsWhole, bag_of_legal, AreApart_of_ends, find_end, Shared, Ends, Report, parents_of, journal_of, journals_of, places_of, WorkerLog, AreEndsOf, IsMadeOf, IsPrinted, AreRunJournals, freed_in}
use Rattle.shr_assemble.proofs.EndsGathered.{journals}
use Rattle.shr_assemble.proofs.EndsSteps.{workers}
use Rattle.shr_assemble.proofs.Rows.{DidEach}
use Rattle.shr_lawful.proofs.BagLaw.{all_mapped}

module _ (x : Shared) (did : DidEach x) (logs : List WorkerLog) (e : Ends) (ends : AreEndsOf x logs e) (r : Report) (made : IsMadeOf x.script logs e r) where
  are : AreRunJournals x.script r (workers x did logs e ends r made)
  are = journals x did logs e ends r made

  whole : IsWhole (parents_of x.script) (journals_of r) (places_of r)
  whole = record {
    apart = AreApart_of_ends r.places.items are.order;
    within = all_mapped (λ p. p.group < length (parents_of x.script)) (λ (end : PlaceEnd). end.place) r.places.items (λ n end at. (are.printed n end at).there.group);
    others = λ place. ⊎_elim (λ none. inl (ap journal_of none)) (λ has. inr has) (find_end r.places.items place);
  }

  added_each : (l : List PlaceEnd) → ((n : ℕ) (end : PlaceEnd) → slice_get l n ≡ Some end → IsPrinted x.script r end)
      → sum_by (λ (end : PlaceEnd). length (added_by_all end.entries.items)) l ≡ length (added_in (map (λ (end : PlaceEnd). end.place) l) (journals_of r))
  added_each [] h = refl
  added_each (end ∷ l) h = omega (
    arith,
    sum_by-cons (λ (p : PlaceEnd). length (added_by_all p.entries.items)) end l,
    ap (λ (es : List Entry). length (added_by_all es)) (h 0 end refl).entries,
    length-append (added_by_all (journals_of r end.place)) (added_in (map (λ (p : PlaceEnd). p.place) l) (journals_of r)),
    added_each l (λ n p at. h (suc n) p at),
  )

  listed_each : (l : List PlaceEnd) → ((n : ℕ) (end : PlaceEnd) → slice_get l n ≡ Some end → IsPrinted x.script r end)
      → sum_by (λ (end : PlaceEnd). length end.items.items) l ≡ length (listed_in (map (λ (end : PlaceEnd). end.place) l) (parents_of x.script) (journals_of r))
  listed_each [] h = refl
  listed_each (end ∷ l) h = omega (
    arith,
    sum_by-cons (λ (p : PlaceEnd). length p.items.items) end l,
    ap (λ (os : List Object). length os) (h 0 end refl).items,
    length-map (items_of (parents_of x.script) (journals_of r) end.place) (λ (o : Object). o.serial),
    length-append (serials_of (items_of (parents_of x.script) (journals_of r) end.place)) (listed_in (map (λ (p : PlaceEnd). p.place) l) (parents_of x.script) (journals_of r)),
    listed_each l (λ n p at. h (suc n) p at),
  )

  -- what the journals add is counted
  pub added : r.added ≡ length (added_in (places_of r) (journals_of r))
  added = made.added ∙ added_each r.places.items are.printed

  -- and what is listed
  pub listed : r.listed ≡ length (listed_in (places_of r) (parents_of x.script) (journals_of r))
  listed = made.listed ∙ listed_each r.places.items are.printed

  -- each added object was freed or is listed
  parted : length (added_in (places_of r) (journals_of r))
      ≡ length (freed_in (places_of r) (parents_of x.script) (journals_of r)) + length (listed_in (places_of r) (parents_of x.script) (journals_of r))
  parted =
      let parts = length_permutation (added_in (places_of r) (journals_of r)) (freed_in (places_of r) (parents_of x.script) (journals_of r) ++ listed_in (places_of r) (parents_of x.script) (journals_of r))
      (bag_of_legal (places_of r) (parents_of x.script) (journals_of r) are.parents whole are.legal are.paired) in
      let both = length-append (freed_in (places_of r) (parents_of x.script) (journals_of r)) (listed_in (places_of r) (parents_of x.script) (journals_of r)) in
      omega (arith, parts, both)

  -- the rest was freed
  pub freed : r.freed ≡ length (freed_in (places_of r) (parents_of x.script) (journals_of r))
  freed = let parts = parted in let a = added in let l = listed in let rest = made.freed in omega (arith, parts, a, l, rest)

  pub sums : r.freed + r.listed ≡ r.added
  sums = let parts = parted in let a = added in let l = listed in let f = freed in omega (arith, parts, a, l, f)
