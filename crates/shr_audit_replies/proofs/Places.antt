-- SPDX-License-Identifier: GPL-2.0-only
-- What hits lend at each place, against a loop over the lists that are printed.
use Rattle.shr_audit_replies.proofs.LendingCommon.{◌≡◌, ℕ, Bool, List, [], take, Some, refl, sym, ap, subst, arith, slice_get, Decides, Place, Entry, Add, Look, lists_moved_at, value_met, Report, journals_of, EachFirst, IsFirst, AreMetLent, AreValuesLentAt, IsLent, inl, inr, slice_get_within, Drop, Pin, Scan, MovedIn, Closed, Drained, journal_of, parents_of, IsValueLent}
use Rattle.shr_base.specs.declared.scripts.Script.{Script}
use Rattle.shr_model.specs.Items.{items_from}
use Rattle.shr_audit_case.proofs.Eachs.{decides_iff}
use Rattle.shr_audit_case.proofs.Firsts.{found_or_none}
use Rattle.shr_audit_replies.specs.Answers.{AreValuesLent}

-- ---- one entry

-- what an entry lends, by the value that it meets, and by the Look that it is
lent_to : (parents : List ℕ) (r : Report) (place : Place) (n : ℕ) (e : Entry) → IsLent r place n e (value_met (items_from (lists_moved_at parents (journals_of r) place) [] (take n (journals_of r place))) e) → IsValueLent parents r place n e
lent_to parents r place n e h by birth key value is replies =
    (subst (λ (d : Entry). IsLent r place n d (value_met (items_from (lists_moved_at parents (journals_of r) place) [] (take n (journals_of r place))) d)) is h) refl value replies

lent_from : (parents : List ℕ) (r : Report) (place : Place) (n : ℕ) (e : Entry) → IsValueLent parents r place n e → IsLent r place n e (value_met (items_from (lists_moved_at parents (journals_of r) place) [] (take n (journals_of r place))) e)
lent_from parents r place n (Look by birth key hit) h = λ t value replies. h by birth key value (ap (Look by birth key) t) replies
lent_from parents r place n (Add by birth added key value) h = tt
lent_from parents r place n (Drop by birth key kind) h = tt
lent_from parents r place n (Pin by birth key pinned hit) h = tt
lent_from parents r place n (Scan worker walk asked policy visits freed stopped) h = tt
lent_from parents r place n (MovedIn child objects) h = tt
lent_from parents r place n Closed h = tt
lent_from parents r place n (Drained by objects) h = tt

-- the same of each entry of a place
pub lent_at : (parents : List ℕ) (r : Report) (place : Place) (entries : List Entry) → entries ≡ journals_of r place → (b : Bool) → Decides b (AreMetLent r place (lists_moved_at parents (journals_of r) place) entries) → Decides b (AreValuesLentAt parents r place)
lent_at parents r place entries is b d = decides_iff b (AreMetLent r place (lists_moved_at parents (journals_of r) place) (journals_of r place)) (AreValuesLentAt parents r place)
    (λ all n e there. lent_to parents r place n e (all n e there))
    (λ all n e there. lent_from parents r place n e (all n e there))
    (subst (λ (es : List Entry). Decides b (AreMetLent r place (lists_moved_at parents (journals_of r) place) es)) is d)

-- ---- each place

-- what is so of each place that is printed is so of each place, since the others have no entries
pub each_place_lent : (s : Script) (r : Report) (parents : List ℕ) → parents ≡ parents_of s → (b : Bool) → Decides b (EachFirst r.places.items (λ end. AreValuesLentAt parents r end.place)) → Decides b (AreValuesLent s r)
each_place_lent s r parents is b d =
    subst (λ (ps : List ℕ). Decides b ((place : Place) → AreValuesLentAt ps r place)) is (decides_iff b (EachFirst r.places.items (λ end. AreValuesLentAt parents r end.place)) ((place : Place) → AreValuesLentAt parents r place) to (λ all k end there first. all end.place) d)
  where
    no_entry : (place : Place) → journals_of r place ≡ [] → AreValuesLentAt parents r place
    no_entry place none n e there = absurd (let lt = slice_get_within [] n e (subst (λ (es : List Entry). slice_get es n ≡ Some e) none there) in omega (arith, lt))

    to : EachFirst r.places.items (λ end. AreValuesLentAt parents r end.place) → (place : Place) → AreValuesLentAt parents r place
    to all place = elim (found_or_none r.places.items place) [
      | inl away ↦ no_entry place (ap journal_of away)
      | inr found ↦ subst (AreValuesLentAt parents r) found.1.1.same (all found.0 found.1.0 found.1.1.at (subst (IsFirst r.places.items found.0) (sym found.1.1.same) found.1.1.first))
    ]
