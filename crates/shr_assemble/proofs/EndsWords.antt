-- SPDX-License-Identifier: GPL-2.0-only
-- The deferred words that are printed are those that the steps left, of a run whose workers are done.
use Rattle.shr_assemble.proofs.Common.{◌≡◌, ℕ, ◌<◌, List, map, length, sym, ap, subst, ◌∙◌, find, filter, AllByRecursion, range_with_len, PlaceAmount, Place, amount_of, sum_at, deferred_word, is_place, Sizes, IsPlaceOf, row_of, row_count, is_some_amount, amounts_after, Shared, Ends, Report, amount_in, parents_of, IsThere, WorkerLog, AreEndsOf, IsMadeOf, all_gives, row_low, AreDeferred, place_of_row, took_at, gave_at}
use Rattle.shr_deferred.specs.Left.{amounts}
use Rattle.shr_assemble.proofs.EndsSteps.{found_zero, found_word, shown_some, workers}
use Rattle.shr_assemble.proofs.EndsGathered.{last, takes_are, gives_are}
use Rattle.shr_assemble.proofs.EndsTakes.{parts, others}
use Rattle.shr_assemble.proofs.Rows.{DidEach}
use Rattle.shr_lawful.proofs.Listed.{has_range, range_has}
use Rattle.shr_assemble.proofs.WordPlaces.{inside_word}
use Rattle.shr_lawful.proofs.UnitPooling.{place_back}

module _ (x : Shared) (did : DidEach x) (logs : List WorkerLog) (e : Ends) (ends : AreEndsOf x logs e) (r : Report) (made : IsMadeOf x.script logs e r) where
  abbrev sizes : Sizes
  sizes = x.deferred.sizes

  -- the word of a place
  abbrev word : Place → ℕ
  word p = deferred_word (gave_at p (last x did logs e ends r made).moves) (took_at p (last x did logs e ends r made).moves)

  abbrev numbers : List ℕ
  numbers = range_with_len 0 (row_count x.deferred.sizes)

  printed_are : r.deferred.items ≡ filter is_some_amount (map (λ i. amount_of (place_of_row x.deferred.sizes i) (word (place_of_row x.deferred.sizes i))) (range_with_len 0 (row_count x.deferred.sizes)))
  unfolding amounts
  printed_are = made.deferred ∙ ends.deferred

  left_are : r.deferred.items ≡ filter is_some_amount (map (λ i. amount_of (place_of_row x.deferred.sizes i) (amounts_after ends.history.line (place_of_row x.deferred.sizes i))) (range_with_len 0 (row_count x.deferred.sizes)))
  unfolding amounts
  left_are = made.deferred ∙ ends.history.left

  same_groups : x.deferred.sizes.groups ≡ length (parents_of x.script)
  same_groups = ap (λ z. z.groups) ends.shared.sizes ∙ ap (λ t. length t.parents) ends.shared.tree

  inside : (place : Place) → IsThere x.script place → IsPlaceOf x.deferred.sizes place
  inside place there = record {
    id = subst (λ (n : ℕ). place.id < n) (sym (ap (λ z. z.ids) ends.shared.sizes)) there.id;
    node = subst (λ (n : ℕ). place.node < n) (sym (ap (λ z. z.nodes) ends.shared.sizes)) there.node;
    group = subst (λ (n : ℕ). place.group < n) (sym same_groups) there.group;
  }

  there_in : (place : Place) → IsPlaceOf x.deferred.sizes place → IsThere x.script place
  there_in place is = record {
    id = subst (λ (n : ℕ). place.id < n) (ap (λ z. z.ids) ends.shared.sizes) is.id;
    node = subst (λ (n : ℕ). place.node < n) (ap (λ z. z.nodes) ends.shared.sizes) is.node;
    group = subst (λ (n : ℕ). place.group < n) same_groups is.group;
  }

  -- what is printed is what was given less what was taken
  pub deferred : AreDeferred x.script r (workers x did logs e ends r made)
  deferred = record {
    words = λ place there. let is = inside place there in
        ap (λ (l : List PlaceAmount). amount_in (find (λ (y : PlaceAmount). is_place y.place place) l)) printed_are
        ∙ (found_word (place_of_row sizes) word place numbers (row_of sizes place) (has_range (row_count sizes) (row_of sizes place) (row_low sizes place is)) (place_back sizes place is)
        ∙ (ap (λ (l : List PlaceAmount). deferred_word (sum_at place l) (took_at place (last x did logs e ends r made).moves)) (gives_are x did logs e ends r made)
        ∙ ap (λ (l : List PlaceAmount). deferred_word (sum_at place (all_gives (workers x did logs e ends r made))) (sum_at place l)) (takes_are x did logs e ends r made)));
    elsewhere = λ place away.
        ap (λ (l : List PlaceAmount). amount_in (find (λ (y : PlaceAmount). is_place y.place place) l)) printed_are
        ∙ found_zero (place_of_row sizes) word place numbers (λ i has at. absurd (away (subst (IsThere x.script) at (there_in (place_of_row sizes i) (inside_word sizes i (range_has (row_count sizes) i has))))));
    shown = subst (AllByRecursion (λ (y : PlaceAmount). 0 < y.amount)) (sym printed_are) (shown_some (place_of_row sizes) word numbers);
    line = ends.history.line;
    parts = parts x did logs e ends r made;
    others = others x did logs e ends r made;
    takes = ends.history.taken;
    left = λ place there. let is = inside place there in
        ap (λ (l : List PlaceAmount). amount_in (find (λ (y : PlaceAmount). is_place y.place place) l)) left_are
        ∙ found_word (place_of_row sizes) (amounts_after ends.history.line) place numbers (row_of sizes place) (has_range (row_count sizes) (row_of sizes place) (row_low sizes place is)) (place_back sizes place is);
  }
