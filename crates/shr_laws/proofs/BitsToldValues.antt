-- SPDX-License-Identifier: GPL-2.0-only
-- The bits of the second whole report are told as they must be, and for each sentence of that a report of a run, changed in
-- one place, whose aren't.
use Rattle.shr_laws.proofs.Common.{◌≡◌, ℕ, zero, suc, ◌<◌, true, List, [], ◌∷◌, length, take, find, flat_map, Contains, option_and_then, refl, arith, ap, subst, sym, inl, ⊎_elim, PlaceEnd, Entry, Object, Place, WalkRecord, items_given, is_place, Has_from_Contains, Report, serial_of, parents_of, cited_by, at, journal_of, journals_of, all_walks, FillsPlace}
use Rattle.shr_base.specs.declared.replies.Reply.TheVariants as reply
use Rattle.shr_model.specs.Families.{lists_moved}
use Rattle.shr_model.specs.Items.{items_from}
use Rattle.shr_laws.specs.BitsTold.{was_cleared_since, set_again_in, HasReason, AreBitsTold}
use Rattle.shr_laws.proofs.SecondCases.{each_walk}
use Rattle.shr_laws.proofs.SecondReport.{kept, unheld, script, report, part, place, walk, cleared}
use Rattle.shr_model.proofs.Lists.{some_injective}

-- the second report

-- only the put filled a place, and the first walk cleared its bit later
filled : (worker k : ℕ) (p : Place) → FillsPlace script report (serial_of worker k) p → was_cleared_since report p worker k ≡ true
filled zero zero p f = let same : at place 0 ≡ at p f.entry = some_injective (at place 0) (at p f.entry) (ap (option_and_then cited_by) f.added) in
    subst (λ q. was_cleared_since report q 0 0 ≡ true) (ap (λ c. c.place) same) refl
filled zero (suc zero) p f = absurd (let e = f.added in cc)
filled zero (suc (suc zero)) p f = absurd (let e = f.added in cc)
filled zero (suc (suc (suc zero))) p f = absurd (let e = f.added in cc)
filled zero (suc (suc (suc (suc k)))) p f = absurd (let e = f.added in cc)
filled (suc worker) k p f = absurd (let e = f.added in cc)

had_one : HasReason script report place
unfolding items_from lists_moved
had_one = inl (1, omega arith)

pub are_told : AreBitsTold script report
are_told = record {
  of_ids = (tt, tt);
  raised = (tt, tt);
  shown = each_walk _ ((omega arith, had_one), tt) tt;
  kept = λ worker n w e i k m p at covers early fills none. absurd (let was = filled worker k p fills in cc);
}

-- reports that are not

-- the report with these bits at the end
abbrev ended : ℕ → Report
ended bits = record report { maps = kept (record { node = 0; group = 1; unit = 0; bits = bits } ∷ []) }

-- the report with these walks, and no entry in any journal
abbrev walked : List WalkRecord → Report
walked walks = record report { workers = kept (record part { walks = kept walks } ∷ []); places = kept [] }

-- a bit of an id that isn't there is set at the end
no_such_id : AreBitsTold script (ended 2) → ⊥
no_such_id h = let e : 1 < 1 = h.of_ids.0.0 in absurd (omega (arith, e))

-- a report in which no list ever had an object, and which tells of no walk that set a bit again
never_filled : (r : Report) → r.places.items ≡ [] → flat_map set_again_in (all_walks r) ≡ [] → HasReason script r place → ⊥
unfolding items_from lists_moved
never_filled r none never why = ⊎_elim
    (λ was. absurd (let e : 0 < length (items_from (lists_moved (items_given (parents_of script) (journals_of r) place) []) [] (take was.0 [])) = subst (λ (es : List Entry). 0 < length (items_from (lists_moved (items_given (parents_of script) (journals_of r) place) es) [] (take was.0 es))) (ap (λ ends. journal_of (find (λ (end : PlaceEnd). is_place end.place place) ends)) none) was.1 in nothing (lists_moved (items_given (parents_of script) (journals_of r) place) []) was.0 e))
    (λ again. subst (λ (ps : List Place). Contains ps place → ⊥) (sym never) (Has_from_Contains [] place) again) why
  where
    nothing : (moved : List (List Object)) (n : ℕ) → 0 < length (items_from moved [] (take n [])) → ⊥
    nothing moved zero lt = omega (arith, lt)
    nothing moved (suc n) lt = omega (arith, lt)

-- a bit is set at the end that nothing asks for
set_for_nothing : AreBitsTold script (record (walked []) { maps = (ended 1).maps }) → ⊥
set_for_nothing h = never_filled (record (walked []) { maps = (ended 1).maps }) refl refl h.raised.0.0

-- a walk saw a bit of an id that isn't there
seen_of_none : AreBitsTold script (walked (walk 2 2 [] ∷ [])) → ⊥
seen_of_none h = let e : 1 < 1 = (h.shown 0 0 (walk 2 2 []) refl).0.0 in absurd (omega (arith, e))

-- a walk saw one that nothing asks for
seen_for_nothing : AreBitsTold script (walked (walk 2 1 [] ∷ [])) → ⊥
seen_for_nothing h = never_filled (walked (walk 2 1 [] ∷ [])) refl refl (h.shown 0 0 (walk 2 1 []) refl).0.1

-- a walk of this command cleared the bit, the second command filled the list, and the map of the third lacks the bit
abbrev lost : ℕ → Report
lost command = record report {
  workers = kept (record part { answers = kept (unheld (reply.Walked 0) ∷ unheld (reply.Added (at place 0)) ∷ unheld (reply.Walked 0) ∷ []); walks = kept (walk command 1 (cleared ∷ []) ∷ walk 2 0 [] ∷ []) } ∷ []);
}

-- the worker's command before the one that filled the list cleared it
cleared_before : AreBitsTold script (lost 0) → ⊥
unfolding items_from
cleared_before h = absurd (let e = h.kept 0 1 (walk 2 0 []) refl 0 1 (record { unit = 0; bits = 0 }) place refl (record { group = refl; node = refl; unit = refl }) (omega arith) (record { entry = 0; added = refl; empty = refl }) refl in cc)

-- a walk of that command's own rounds did
cleared_in_rounds : AreBitsTold script (lost 1) → ⊥
unfolding items_from
cleared_in_rounds h = absurd (let e = h.kept 0 1 (walk 2 0 []) refl 0 1 (record { unit = 0; bits = 0 }) place refl (record { group = refl; node = refl; unit = refl }) (omega arith) (record { entry = 0; added = refl; empty = refl }) refl in cc)
