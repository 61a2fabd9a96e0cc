-- SPDX-License-Identifier: GPL-2.0-only
-- The lists of an id that is idle at the end are empty, of a run whose workers are done.
use Rattle.shr_assemble.proofs.Common.{◌≡◌, ℕ, ⊎_elim, List, [], length, sym, ap, ◌∙◌, arith, ◌%◌, Entry, PoolEntry, Place, lists_moved_at, items_from, place_number, phase_of, items_none, place_id, place_back, Shared, Ends, Report, parents_of, journals_of, items_left, IsThere, WorkerLog, AreEndsOf, IsMadeOf}
use Rattle.shr_assemble.proofs.ScriptGroups.{sized_of}
use Rattle.shr_assemble.proofs.EndsGathered.{last, none_of}
use Rattle.shr_assemble.proofs.EndsJournals.{there, items_same}
use Rattle.shr_assemble.proofs.EndsPlaces.{below_or}
use Rattle.shr_assemble.proofs.Rows.{DidEach}

module _ (x : Shared) (did : DidEach x) (logs : List WorkerLog) (e : Ends) (ends : AreEndsOf x logs e) (r : Report) (made : IsMadeOf x.script logs e r) where
  of_there : (place : Place) → IsThere x.script place → phase_of place.id r.pool.items % 3 ≡ 0 → items_left x.script r place ≡ []
  of_there place is idle =
      let sized = sized_of x ends.shared in let node = is.node in let group = is.group in let id = is.id in let nodes = sized.nodes in let groups = sized.groups in let ids = ends.shared.ids in
      let back = place_back place (omega (arith, node, nodes)) (omega (arith, group, groups)) in
      let same_id : place_id (place_number place) ≡ place.id = ap (λ p. p.id) back in
      let rests = ends.core.resting (place_number place) (omega (arith, id, node, group, nodes, groups, ids))
      (ap (λ (i : ℕ). phase_of i e.core.pool.items % 3) same_id ∙ (ap (λ (es : List PoolEntry). phase_of place.id es % 3) (sym made.pool) ∙ idle)) in
      ap (items_left x.script r) (sym back) ∙ (sym (items_same x ends.shared r (last x did logs e ends r made).core e.core ends.core made.places (place_number place)) ∙ rests)

  pub idle : (place : Place) → phase_of place.id r.pool.items % 3 ≡ 0 → items_left x.script r place ≡ []
  idle place h = ⊎_elim
      (λ some. of_there place (there x ends.shared r (last x did logs e ends r made).core e.core ends.core made.places place some) h)
      (λ le. let none = none_of (journals_of r place) le in
      ap (λ (l : List Entry). items_from (lists_moved_at (parents_of x.script) (journals_of r) place) [] l) none ∙ items_none (parents_of x.script) (journals_of r) place 0 none)
      (below_or 0 (length (journals_of r place)))
