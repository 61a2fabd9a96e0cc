-- SPDX-License-Identifier: GPL-2.0-only
-- Values that Looks found, while a journal is gone through.
use Rattle.shr_audit_replies.proofs.LendingCommon.{◌≡◌, ℕ, ◌<◌, List, [], ◌∷◌, length, take, Option, Some, None, refl, sym, ap, ◌∙◌, arith, Object, Entry, FoundValue, value_met, AreAhead, value_first, values_behind, ◌+◌, false, ◌++◌, get_or, drop, ◌==◌, cond, values_noted}
use Rattle.std.proofs.lemmas.Bool.Decides.{nat_tests}
use Rattle.std.proofs.lemmas.List.{take_more, drop_more}
use Rattle.shr_model.specs.Items.{items_from, step, first_moved, later_moved}
use Rattle.shr_model.specs.MovedItems.{moved_from}
use Rattle.shr_model.proofs.ItemsLaws.{items_from_push, moved_from_push}
use Rattle.shr_audit_case.specs.Journals.{values_from}
use Rattle.shr_model.proofs.Booleans.{itself}

-- ---- the first of the values that are left

other : (k n : ℕ) → n < k → (k == n) ≡ false
other k n lt = grind (arith, nat_tests)

-- a later entry's value isn't this one's
first_later : (n k : ℕ) (o : Option (List ℕ)) (vs : List FoundValue) → n < k → value_first n vs ≡ None → value_first n (values_noted k o ++ vs) ≡ None
first_later n k None vs lt h = h
first_later n k (Some v) vs lt h = ap (λ b. cond b (Some v) None) (other k n lt)

behind_later : (n k : ℕ) (o : Option (List ℕ)) (vs : List FoundValue) → n < k → values_behind n vs ≡ vs → values_behind n (values_noted k o ++ vs) ≡ values_noted k o ++ vs
behind_later n k None vs lt h = h
behind_later n k (Some v) vs lt h = ap (λ b. cond b vs (record { entry = k; value = v } ∷ vs)) (other k n lt)

-- this entry's is
first_here : (n : ℕ) (o : Option (List ℕ)) (vs : List FoundValue) → value_first n vs ≡ None → value_first n (values_noted n o ++ vs) ≡ o
first_here n None vs h = h
first_here n (Some v) vs h = ap (λ b. cond b (Some v) None) (itself n)

behind_here : (n : ℕ) (o : Option (List ℕ)) (vs : List FoundValue) → values_behind n vs ≡ vs → values_behind n (values_noted n o ++ vs) ≡ vs
behind_here n None vs h = h
behind_here n (Some v) vs h = ap (λ b. cond b vs (record { entry = n; value = v } ∷ vs)) (itself n)

-- of later entries none is
none_first : (n k : ℕ) → n < k → (moved : List (List Object)) (items : List Object) (es : List Entry) → value_first n (values_from k moved items es) ≡ None
unfolding values_from
none_first n k lt moved items [] = refl
none_first n k lt moved items (e ∷ es) =
    first_later n k (value_met items e) (values_from (k + 1) (later_moved e moved) (step (first_moved moved) items e) es) lt (none_first n (k + 1) (omega (arith, lt)) (later_moved e moved) (step (first_moved moved) items e) es)

none_behind : (n k : ℕ) → n < k → (moved : List (List Object)) (items : List Object) (es : List Entry) → values_behind n (values_from k moved items es) ≡ values_from k moved items es
unfolding values_from
none_behind n k lt moved items [] = refl
none_behind n k lt moved items (e ∷ es) =
    behind_later n k (value_met items e) (values_from (k + 1) (later_moved e moved) (step (first_moved moved) items e) es) lt (none_behind n (k + 1) (omega (arith, lt)) (later_moved e moved) (step (first_moved moved) items e) es)

-- ---- one entry on

-- before the first entry all are left
pub ahead_first : (moved : List (List Object)) (es : List Entry) (found : List FoundValue) → found ≡ values_from 0 moved [] es → AreAhead moved es 0 found
unfolding moved_from items_from
ahead_first moved es found h = h

module _ (moved : List (List Object)) (es : List Entry) (n : ℕ) (e : Entry) (rest : List FoundValue) (lt : n < length es) (is : e ≡ get_or es n e) (ahead : AreAhead moved es n rest) where
  abbrev before : List Object
  before = items_from moved [] (take n es)

  abbrev ms : List (List Object)
  ms = moved_from moved (take n es)

  abbrev later : List FoundValue
  later = values_from (n + 1) (later_moved e ms) (step (first_moved ms) before e) (drop (n + 1) es)

  one : (xs : List Entry) → xs ≡ e ∷ drop (n + 1) es → values_from n ms before xs ≡ values_noted n (value_met before e) ++ later
  unfolding values_from
  one xs h = ap (λ (ys : List Entry). values_from n ms before ys) h

  back : drop n es ≡ e ∷ drop (n + 1) es
  back = drop_more es n e lt ∙ ap (λ (x : Entry). x ∷ drop (n + 1) es) (sym is)

  front : take (n + 1) es ≡ take n es ++ e ∷ []
  front = take_more es n e lt ∙ ap (λ (x : Entry). take n es ++ x ∷ []) (sym is)

  split : rest ≡ values_noted n (value_met before e) ++ later
  split = ahead ∙ one (drop n es) back

  -- the first of the values that are left is the one that this entry meets
  pub first_met : value_first n rest ≡ value_met (items_from moved [] (take n es)) e
  first_met = ap (value_first n) split ∙ first_here n (value_met before e) later (none_first n (n + 1) (omega arith) (later_moved e ms) (step (first_moved ms) before e) (drop (n + 1) es))

  -- behind it those of the later entries are left
  pub ahead_next : AreAhead moved es (n + 1) (values_behind n rest)
  ahead_next = ap (values_behind n) split
      ∙ (behind_here n (value_met before e) later (none_behind n (n + 1) (omega arith) (later_moved e ms) (step (first_moved ms) before e) (drop (n + 1) es))
      ∙ (ap (λ (xs : List (List Object)). values_from (n + 1) xs (step (first_moved ms) before e) (drop (n + 1) es)) (sym (ap (moved_from moved) front ∙ moved_from_push moved (take n es) e))
      ∙ ap (λ (xs : List Object). values_from (n + 1) (moved_from moved (take (n + 1) es)) xs (drop (n + 1) es)) (sym (ap (items_from moved []) front ∙ items_from_push moved [] (take n es) e))))
