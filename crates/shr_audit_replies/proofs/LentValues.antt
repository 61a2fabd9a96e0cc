-- SPDX-License-Identifier: GPL-2.0-only
-- Values that hits lend, at known values.
use Rattle.shr_audit_replies.proofs.LendingCommon.{◌≡◌, List, [], ◌∷◌, Some, None, refl, Entry, Add, Look, FoundValue, AreAhead, value_first, values_behind, true, codes}
use Rattle.shr_model.specs.Items.{items_from}
use Rattle.shr_model.specs.MovedItems.{moved_from}
use Rattle.shr_audit_case.specs.Journals.{values_from}
use Rattle.shr_laws.proofs.SecondReport.{by}

-- a put, a get that finds its object, and one that finds none
abbrev entries : List Entry
entries = Add (by 0) 1 true (codes "k1") (codes "v1") ∷ Look (by 1) 1 (codes "k1") true ∷ Look (by 2) 1 (codes "k2") true ∷ []

abbrev found : List FoundValue
found = record { entry = 1; value = codes "v1" } ∷ []

of_the_first_get : value_first 1 found ≡ Some (codes "v1")
of_the_first_get = refl

of_the_put : value_first 0 found ≡ None
of_the_put = refl

of_the_other_get : value_first 2 (values_behind 1 found) ≡ None
of_the_other_get = refl

behind_the_put : values_behind 0 found ≡ found
behind_the_put = refl

ahead_at_first : AreAhead [] entries 0 found
unfolding values_from items_from moved_from
ahead_at_first = refl

none_ahead_of_the_last : AreAhead [] entries 2 []
unfolding values_from items_from moved_from
none_ahead_of_the_last = refl
