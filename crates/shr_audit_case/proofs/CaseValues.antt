-- SPDX-License-Identifier: GPL-2.0-only
-- A report by the index, at known values.
use Rattle.shr_audit_case.proofs.Common.{◌≡◌, ℕ, ◌<◌, zero, suc, Bool, true, false, Option, List, [], ◌∷◌, refl, sym, ap, ◌∙◌, arith, inl, inr, Some, None, slice_get, slice_index, Place, PlaceEnd, WorkerPart, slice_get_within, IsPlaceUpTo, AreInOrder, IsFirst, IsIndexOf, comes_before, end_printed, Replayed, AreReplays, journals_in, AreFirsts, IsNewAt, IsTakenOut, on_node, AnswersInParts, EachFirst, InParts, TellsReplayed}
use Rattle.shr_base.specs.declared.journals.Entry.TheVariants.{Closed}
use Rattle.shr_laws.proofs.SecondReport.{kept, put}
use Rattle.shr_laws.proofs.FirstReport.{answer, report, script}
use Rattle.shr_audit_case.specs.Journals.{lens_from}

abbrev at : ℕ → ℕ → ℕ → Place
at id node group = record { id = id; node = node; group = group }

by_id : comes_before (at 0 5 9) (at 1 0 0) ≡ true
by_id = refl

by_node : comes_before (at 1 1 9) (at 1 2 0) ≡ true
by_node = refl

by_group : comes_before (at 1 2 3) (at 1 2 4) ≡ true
by_group = refl

not_itself : comes_before (at 1 2 3) (at 1 2 3) ≡ false
not_itself = refl

not_after : comes_before (at 1 0 0) (at 0 5 9) ≡ false
not_after = refl

abbrev list : Place → PlaceEnd
list place = record { place = place; entries = kept []; items = kept [] }

abbrev twice : List PlaceEnd
twice = list (at 0 0 1) ∷ list (at 0 0 1) ∷ []

twice_in_order : AreInOrder twice
twice_in_order k d lt = let first : k ≡ 0 = omega arith in rw first (inr refl)

falling : AreInOrder (list (at 0 0 2) ∷ list (at 0 0 1) ∷ []) → ⊥
falling h = no (h 0 (list (at 0 0 1)) (omega arith))
  where
    no : IsPlaceUpTo (at 0 0 2) (at 0 0 1) → ⊥
    no (inl (inl a)) = absurd (omega arith)
    no (inl (inr (a, inl b))) = absurd (omega arith)
    no (inl (inr (a, inr (b, c)))) = absurd (omega arith)
    no (inr same) = let groups : ◌≡◌ {A = ℕ} 2 1 = ap (λ (p : Place). p.group) same in absurd (omega arith)

found : end_printed twice (at 0 0 1) ≡ Some (list (at 0 0 1))
found = refl

not_found : end_printed twice (at 0 0 0) ≡ None
not_found = refl

first : IsFirst twice 0 (at 0 0 1)
first m x lt = absurd (omega arith)

second_is_not_first : IsFirst twice 1 (at 0 0 1) → ⊥
second_is_not_first h = h 0 (list (at 0 0 1)) (omega arith) refl refl

index : IsIndexOf twice (at 0 0 1) 0
index = record { within = omega arith; at = refl; first = first }

second_index : IsIndexOf twice (at 0 0 1) 1 → ⊥
second_index h = second_is_not_first h.first

-- the first list of a place is asked
place_is_asked : EachFirst twice (λ end. ⊥) → ⊥
place_is_asked h = h 0 (list (at 0 0 1)) refl first

-- the answer to the put of the first report
part : WorkerPart
part = record { answers = kept (answer ∷ []); walks = kept []; carries = kept []; plain = kept []; isolations = kept [] }

answer_is_asked : InParts (λ (p : WorkerPart). p.answers.items) report (λ worker n a. 0 < n) → ⊥
unfolding part
answer_is_asked h = let some : 0 < 0 = h 0 part refl 0 answer refl in absurd (omega arith)

put_is_asked : AnswersInParts script report (λ by c a. ⊥) → ⊥
unfolding part
put_is_asked h = h 0 part refl 0 answer refl put refl

-- the second list of one isn't
abbrev with_entry : PlaceEnd
with_entry = record { place = at 0 0 1; entries = kept (Closed ∷ []); items = kept [] }

second_is_not_asked : EachFirst (list (at 0 0 1) ∷ with_entry ∷ []) (λ end. end.entries.items ≡ [])
second_is_not_asked zero end here is = let same : list (at 0 0 1) ≡ end = cc in ap (λ (e : PlaceEnd). e.entries.items) (sym same)
second_is_not_asked (suc zero) end here is = absurd (is 0 (list (at 0 0 1)) (omega arith) refl (let same : with_entry ≡ end = cc in ap (λ (e : PlaceEnd). e.place) same))
second_is_not_asked (suc (suc n)) end here is = let lt = slice_get_within (list (at 0 0 1) ∷ with_entry ∷ []) (suc (suc n)) end here in absurd (omega arith)

-- ---- replays

one_node : on_node (at 1 2 3) (at 1 2 9) ≡ true
one_node = refl

two_nodes : on_node (at 1 2 3) (at 1 3 3) ≡ false
two_nodes = refl

two_ids : on_node (at 1 2 3) (at 0 2 3) ≡ false
two_ids = refl

journal_is : journals_in (with_entry ∷ []) (at 0 0 1) ≡ Closed ∷ []
journal_is = refl

no_journal : journals_in (with_entry ∷ []) (at 0 0 2) ≡ []
no_journal = refl

first_is_not_old : IsNewAt twice 0 false → ⊥
first_is_not_old h = let some : 0 < 0 = h.0 in absurd (omega arith)

other_node_is_not_old : IsNewAt (list (at 0 0 1) ∷ list (at 0 1 1) ∷ []) 1 false → ⊥
other_node_is_not_old h = let same : ◌≡◌ {A = Bool} false true = h.1 (list (at 0 0 1)) (list (at 0 1 1)) refl refl in cc

-- group 1 of two groups is printed first, and the root isn't
firsts : AreFirsts twice (at 0 0 5) 2 (2 ∷ 0 ∷ [])
firsts = record { many = refl; each = is }
  where
    is : (group : ℕ) → group < 2 → slice_get twice (slice_index (2 ∷ 0 ∷ []) group) ≡ end_printed twice (at 0 0 group)
    is zero lt = refl
    is (suc zero) lt = refl
    is (suc (suc n)) lt = absurd (omega arith)

second_for_the_first : AreFirsts twice (at 0 0 5) 2 (0 ∷ 0 ∷ []) → ⊥
second_for_the_first h = let none : ◌≡◌ {A = Option PlaceEnd} (Some (list (at 0 0 1))) None = h.each 0 (omega arith) in cc

one_more : (r : Replayed) → IsTakenOut 2 0 [] (r ∷ []) → ⊥
one_more r h = let many : ◌≡◌ {A = ℕ} 1 0 = h.many in absurd (omega arith)

unprinted_tells : TellsReplayed (0 ∷ []) twice (at 0 0 0) None
unprinted_tells = refl

printed_tells : TellsReplayed (0 ∷ []) (with_entry ∷ []) (at 0 0 1) None → ⊥
printed_tells h = cc

wrong_lens : (r : Replayed) → r.lens.items ≡ [] → AreReplays (0 ∷ []) (with_entry ∷ []) (r ∷ []) → ⊥
unfolding lens_from
wrong_lens r none h =
    let is : ◌≡◌ {A = List ℕ} [] (0 ∷ 0 ∷ []) = sym none ∙ (h.each 0 r refl with_entry refl (λ m x lt. absurd (omega arith))).lens in cc
