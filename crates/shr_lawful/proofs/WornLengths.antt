-- SPDX-License-Identifier: GPL-2.0-only
-- How many objects a journal leaves is told by its entries alone, whatever lists were moved in.
use Rattle.shr_lawful.proofs.Common.{◌≡◌, ℕ, ◌+◌, Bool, true, false, cond, List, [], ◌∷◌, ◌++◌, length, sym, refl, ap, ◌∙◌, arith, Option, Some, None, Object, Serial, DropKind, Entry, Add, Look, Drop, Pin, Scan, MovedIn, Closed, Drained, added_by, drop_kind_of, dropped_of, step, IsOutcome, first_moved, later_moved, freed_by, named_in, weight, mass, weight_append, mass_append, given_by, mass_of_journal}
use Rattle.shr_base.specs.declared.journals.DropKind.TheVariants.{Dropped, Pinned, Miss}
use Rattle.shr_model.specs.Items.{items_from, freed_from, AreOutcomes}
use Rattle.shr_model.specs.Scan.{scan_of}
use Rattle.shr_model.proofs.Weights.{taken_by, taken_from, given_from}
use Rattle.shr_lawful.proofs.WornWeights.{ones_of}

abbrev one : Serial → ℕ
one s = 1

-- what one entry adds, takes in, frees, gives away and leaves
one_step : (moved items : List Object) (e : Entry) → IsOutcome moved items e
    → mass one items + weight one (added_by e) + mass one (taken_by moved e) ≡ mass one (freed_by items e) + mass one (given_by items e) + mass one (step moved items e)
unfolding items_from freed_from taken_from given_from AreOutcomes
one_step moved items e o = omega (
  arith,
  mass_of_journal one (moved ∷ []) items (e ∷ []) (o, tt),
  weight_append one (added_by e) [],
  mass_append one (taken_by moved e) [],
  mass_append one (freed_by items e) [],
  mass_append one (given_by items e) [],
)

-- how many a Drop of this kind takes out
abbrev many : DropKind → ℕ
many Dropped = 1
many Pinned = 0
many Miss = 0

dropped_many : (o : Option Object) → mass one (dropped_of o) ≡ many (drop_kind_of o)
dropped_many None = refl
dropped_many (Some o) = choose o o.pinned where
  choose : (x : Object) (b : Bool) → mass one (cond b [] (x ∷ [])) ≡ many (cond b Pinned Dropped)
  choose x true = refl
  choose x false = refl

module _ (m n xs ys : List Object) (same : length xs ≡ length ys) where
  same_step : (e : Entry) → IsOutcome m xs e → IsOutcome n ys e → length (step m xs e) ≡ length (step n ys e)
  same_step (Add by birth added key value) o q = let e = Add by birth added key value in omega (arith, same, one_step m xs e o, one_step n ys e q, ones_of xs, ones_of ys, ones_of (step m xs e), ones_of (step n ys e))
  same_step (Look by birth key hit) o q = let e = Look by birth key hit in omega (arith, same, one_step m xs e o, one_step n ys e q, ones_of xs, ones_of ys, ones_of (step m xs e), ones_of (step n ys e))
  same_step (Drop by birth key kind) o q = let e = Drop by birth key kind in
      omega (arith, same, one_step m xs e o, one_step n ys e q, ones_of xs, ones_of ys, ones_of (step m xs e), ones_of (step n ys e), dropped_many (named_in birth key xs), dropped_many (named_in birth key ys), ap many (sym o ∙ q))
  same_step (Pin by birth key pinned hit) o q = let e = Pin by birth key pinned hit in omega (arith, same, one_step m xs e o, one_step n ys e q, ones_of xs, ones_of ys, ones_of (step m xs e), ones_of (step n ys e))
  same_step (Scan worker walk asked policy visits freed stopped) o q = let e = Scan worker walk asked policy visits freed stopped in
      omega (arith, same, one_step m xs e o, one_step n ys e q, ones_of xs, ones_of ys, ones_of (step m xs e), ones_of (step n ys e), ones_of (scan_of policy asked xs).freed, ones_of (scan_of policy asked ys).freed, o.removed, q.removed)
  same_step (MovedIn child objects) o q = let e = MovedIn child objects in
      omega (arith, same, o, q, one_step m xs e o, one_step n ys e q, ones_of xs, ones_of ys, ones_of m, ones_of n, ones_of (step m xs e), ones_of (step n ys e))
  same_step Closed o q = refl
  same_step (Drained by objects) o q = refl

-- two ways to read one journal leave as many
pub same_left : (m n : List (List Object)) (xs ys : List Object) (es : List Entry) → AreOutcomes m xs es → AreOutcomes n ys es → length xs ≡ length ys → length (items_from m xs es) ≡ length (items_from n ys es)
unfolding items_from AreOutcomes
same_left m n xs ys [] o q same = same
same_left m n xs ys (e ∷ es) o q same = same_left (later_moved e m) (later_moved e n) (step (first_moved m) xs e) (step (first_moved n) ys e) es o.1 q.1 (same_step (first_moved m) (first_moved n) xs ys same e o.0 q.0)

-- the outcomes of the first entries
pub outcomes_front : (m : List (List Object)) (xs : List Object) (es more : List Entry) → AreOutcomes m xs (es ++ more) → AreOutcomes m xs es
unfolding AreOutcomes
outcomes_front m xs [] more o = tt
outcomes_front m xs (e ∷ es) more o = (o.0, outcomes_front (later_moved e m) (step (first_moved m) xs e) es more o.1)
