-- SPDX-License-Identifier: GPL-2.0-only
-- A list that a command met used up would hold no more objects than the script has puts.
use Rattle.shr_lawful.proofs.Common.{◌≡◌, ℕ, ◌≤◌, ◌⊎◌, ⊎_elim, List, [], length, take, sym, refl, ap, subst, ◌∙◌, arith, slice_get, Some, take_all, take-append-le, Entry, Object, Place, Script, moved_in, lists_moved_at, items_at, items_from, HasJournal, place_number, at_group, child_takes, Has, Contains_from_Has, Begins, Report, parents_of, puts_of, journals_of, places_of, IsThere, Step, IsAmong, steps_of, KnowsList, IsOneMore, AreBoth, IsListWorn, IsRun, AreOutcomes}
use Rattle.shr_lawful.proofs.BagLaw.{whole}
use Rattle.shr_lawful.proofs.Gathering.{back_there}
use Rattle.shr_lawful.proofs.WornLengths.{same_left, outcomes_front}
use Rattle.shr_lawful.proofs.WornPuts.{added_few, added_fewer}
use Rattle.shr_lawful.proofs.WornWeights.{list_few, lists_few}

module _ (s : Script) (r : Report) (workers : List (List Step)) (run : IsRun s r workers) where
  -- a beginning that the worker knows of a journal begins it
  pub known_begins : (worker k : ℕ) (x : Step) (p : Place) (es : List Entry) → slice_get (steps_of workers worker) k ≡ Some x → IsThere s p → IsAmong (record { place = place_number p; entries = es }) x.after.core.traces.known → Begins es (journals_of r p)
  known_begins worker k x p es at there among = subst (λ q. Begins es (journals_of r q)) (back_there s r workers run p there) ((run.steps.shown worker k x at).known among.0 (record { place = place_number p; entries = es }) among.1)

  front : (p : Place) (es : List Entry) → Begins es (journals_of r p) → take (length es) (journals_of r p) ≡ es
  front p es b = ap (take (length es)) b.1 ∙ (take-append-le (length es) es b.0 (omega arith) ∙ take_all (length es) es (omega arith))

  -- a journal that begins one of the report leaves as many objects as the report's does after so many entries
  held_is : (p : Place) (es : List Entry) (held : List Object) → Begins es (journals_of r p) → HasJournal es held → length held ≡ length (items_at (parents_of s) (journals_of r) p (length es))
  held_is p es held b h =
      let own : AreOutcomes (lists_moved_at (parents_of s) (journals_of r) p) [] es = outcomes_front (lists_moved_at (parents_of s) (journals_of r) p) [] es b.0 (subst (λ (l : List Entry). AreOutcomes (lists_moved_at (parents_of s) (journals_of r) p) [] l) b.1 (run.journals.legal p).outcomes) in
      ap (λ (l : List Object). length l) (sym h.1.left) ∙ (same_left h.0 (lists_moved_at (parents_of s) (journals_of r) p) [] [] es h.1.outcomes own refl
      ∙ ap (λ (l : List Entry). length (items_from (lists_moved_at (parents_of s) (journals_of r) p) [] l)) (sym (front p es b)))

  module _ (worker k : ℕ) (x : Step) (at : slice_get (steps_of workers worker) k ≡ Some x) (place : Place) (there : IsThere s place) (known : List Entry) (held : List Object) (list : KnowsList x place known held) where
    begins : Begins known (journals_of r place)
    begins = known_begins worker k x place known at there list.knows

    one_few : length held ≤ puts_of s
    one_few = omega (
      arith,
      held_is place known held begins list.journal,
      list_few (parents_of s) run.journals.parents (journals_of r) run.journals.legal run.journals.paired (places_of r) (whole s r workers run) place there.group (length known),
      added_few s r workers run,
    )

    one_fewer : (items : ℕ) → IsOneMore x held items → items ≤ puts_of s
    one_fewer items h = let most = h.most in omega (
      arith,
      most,
      held_is place known held begins list.journal,
      list_few (parents_of s) run.journals.parents (journals_of r) run.journals.legal run.journals.paired (places_of r) (whole s r workers run) place there.group (length known),
      added_fewer s r workers run worker k x at h.put h.refused,
    )

    both_few : (items : ℕ) → AreBoth s x place known held items → items ≤ puts_of s
    both_few items h =
        let takes = child_takes (parents_of s) place.group h.child h.below in
        let low : IsThere s (at_group place h.child) = record { id = there.id; node = there.node; group = takes.there } in
        let below = known_begins worker k x (at_group place h.child) h.child_entries at low h.list.knows in
        let apart : Has (moved_in (take (length known) (journals_of r place))) h.child → ⊥ = (λ has. h.apart (Contains_from_Has (moved_in known) h.child (subst (λ (l : List Entry). Has (moved_in l) h.child) (front place known begins) has))) in
        let most = h.most in
        omega (
          arith,
          most,
          held_is place known held begins list.journal,
          held_is (at_group place h.child) h.child_entries h.child_items below h.list.journal,
          lists_few (parents_of s) run.journals.parents (journals_of r) run.journals.legal run.journals.paired (places_of r) (whole s r workers run) place there.group h.child h.below (length known) (length h.child_entries) apart,
          added_few s r workers run,
        )

    few : (items : ℕ) → (items ≤ length held) ⊎ (IsOneMore x held items ⊎ AreBoth s x place known held items) → items ≤ puts_of s
    few items h = ⊎_elim (λ le. let all = one_few in omega (arith, le, all)) (λ more. ⊎_elim (λ a. one_fewer items a) (λ b. both_few items b) more) h

  -- so its objects are at most as many as the puts
  pub lists_worn : (worker k : ℕ) (x : Step) (place : Place) (entries items : ℕ) → slice_get (steps_of workers worker) k ≡ Some x → IsListWorn s x place entries items → items ≤ puts_of s
  lists_worn worker k x place entries items at h = few worker k x at place h.there h.known h.held h.list items h.most
