-- SPDX-License-Identifier: GPL-2.0-only
-- Lists of children and of their parents that fit, against a loop over the lists.
use Rattle.shr_audit_lists.proofs.Common.{◌≡◌, ℕ, Bool, true, false, List, [], ◌∷◌, refl, sym, ap, subst, ◌∙◌, ◌⊎◌, inl, inr, ◌||◌, Contains, Decides, list_any, eqb-true, eq-eqb, Place, PlaceEnd, Entry, Add, Look, Drop, Pin, Scan, MovedIn, Closed, Drained, parent_of, at_group, is_closed, IsPaired, moved_in, child_takes, child_again, Has, Has_from_Contains, Contains_from_Has, Report, journal_of, journals_of, EachFirst, IsFirst, decides_iff, found_or_none, IsPairedAround, moves, ◌==◌, IsFound}
use Rattle.shr_report.proofs.Reading.{either}
use Rattle.std.proofs.lemmas.Bool.{or_left, or_right}

-- ---- one journal

moved_has : (child : ℕ) (es : List Entry) → list_any (moves child) es ≡ true → Has (moved_in es) child
moved_has child [] t = absurd (cc)
moved_has child (Add by birth added key value ∷ es) t = moved_has child es t
moved_has child (Look by birth key hit ∷ es) t = moved_has child es t
moved_has child (Drop by birth key kind ∷ es) t = moved_has child es t
moved_has child (Pin by birth key pinned hit ∷ es) t = moved_has child es t
moved_has child (Scan worker walk asked policy visits freed stopped ∷ es) t = moved_has child es t
moved_has child (MovedIn moved objects ∷ es) t = elim (either (moved == child) (list_any (moves child) es) t) [
  | inl own ↦ inl (eqb-true moved child own)
  | inr later ↦ inr (moved_has child es later)
]
moved_has child (Closed ∷ es) t = moved_has child es t
moved_has child (Drained by objects ∷ es) t = moved_has child es t

has_moved : (child : ℕ) (es : List Entry) → Has (moved_in es) child → list_any (moves child) es ≡ true
has_moved child [] h = absurd h
has_moved child (Add by birth added key value ∷ es) h = has_moved child es h
has_moved child (Look by birth key hit ∷ es) h = has_moved child es h
has_moved child (Drop by birth key kind ∷ es) h = has_moved child es h
has_moved child (Pin by birth key pinned hit ∷ es) h = has_moved child es h
has_moved child (Scan worker walk asked policy visits freed stopped ∷ es) h = has_moved child es h
has_moved child (MovedIn moved objects ∷ es) (inl own) = or_left (moved == child) (list_any (moves child) es) (eq-eqb moved child own)
has_moved child (MovedIn moved objects ∷ es) (inr later) = or_right (moved == child) (list_any (moves child) es) (has_moved child es later)
has_moved child (Closed ∷ es) h = has_moved child es h
has_moved child (Drained by objects ∷ es) h = has_moved child es h

pub moved_decided : (child : ℕ) (es : List Entry) (b : Bool) → b ≡ list_any (moves child) es → Decides b (Contains (moved_in es) child)
moved_decided child es b is = (λ t. Contains_from_Has (moved_in es) child (moved_has child es (sym is ∙ t)), λ c. is ∙ has_moved child es (Has_from_Contains (moved_in es) child c))

-- ---- all places

none_closed : false ≡ true → ⊥
none_closed e = cc

pub paired_of : (parents : List ℕ) (r : Report) (b : Bool) → Decides b (EachFirst r.places.items (λ end. IsPairedAround parents r end.place)) → Decides b (IsPaired parents (journals_of r))
paired_of parents r b d = decides_iff b (EachFirst r.places.items (λ end. IsPairedAround parents r end.place)) (IsPaired parents (journals_of r)) to from d
  where
    around : EachFirst r.places.items (λ end. IsPairedAround parents r end.place) → (place : Place) (k : ℕ) (end : PlaceEnd) → IsFound r.places.items place k end → IsPairedAround parents r place
    around all place k end f = subst (IsPairedAround parents r) f.same (all k end f.at (subst (IsFirst r.places.items k) (sym f.same) f.first))

    to : EachFirst r.places.items (λ end. IsPairedAround parents r end.place) → IsPaired parents (journals_of r)
    to all place above lt = elim (found_or_none r.places.items place) [
      | inr at ↦ (around all place at.0 at.1.0 at.1.1).0 above lt
      | inl away ↦ elim (found_or_none r.places.items (at_group place (parent_of parents place.group))) [
        | inr at ↦ (around all (at_group place (parent_of parents place.group)) at.0 at.1.0 at.1.1).1 place.group
            (child_again parents (parent_of parents place.group) place.group (record { above = above; there = lt; parent = refl }))
        | inl gone ↦ (
          λ shut. absurd (none_closed (sym (ap is_closed (ap journal_of away)) ∙ shut)),
          λ c. absurd (Has_from_Contains [] place.group (subst (λ (es : List Entry). Contains (moved_in es) place.group) (ap journal_of gone) c)),
        )
      ]
    ]

    from : IsPaired parents (journals_of r) → EachFirst r.places.items (λ end. IsPairedAround parents r end.place)
    from paired k end at first = (λ above lt. paired end.place above lt, λ child is. let c = child_takes parents end.place.group child is in paired (at_group end.place child) c.above c.there)
