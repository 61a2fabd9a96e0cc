-- SPDX-License-Identifier: GPL-2.0-only
-- Journals, replayed, at known values.
use Rattle.shr_audit_case.proofs.ReplayCommon.{arith, ap, ◌≡◌, ℕ, true, false, List, [], ◌∷◌, refl, Object, Entry, Add, Look, MovedIn, Closed, Drained, Queued, Tag, FreedTag, Replayed, tag_of, freed_tag, given_by, took_of, took_after, given_from, IsReplayed}
use Rattle.shr_base.specs.declared.places.Serial.{Serial}
use Rattle.shr_model.specs.Items.{AreOutcomes, items_from}
use Rattle.shr_model.specs.Families.{lists_moved}
use Rattle.shr_model.specs.Objects.{fresh}
use Rattle.shr_audit_case.specs.Journals.{lens_from, freed_tags}

abbrev by : Serial
by = record { worker = 0; command = 5 }

abbrev key : List ℕ
key = 107 ∷ []

-- an object of group 1
abbrev object : Object
object = fresh by 1 key []

abbrev tag : Tag
tag = record { serial = by; birth = 1 }

tag_is : tag_of object ≡ tag
tag_is = refl

-- an object is added, and the list is closed
abbrev added_and_closed : List Entry
added_and_closed = Add by 1 true key [] ∷ Closed ∷ []

lens_are : lens_from [] [] added_and_closed ≡ 0 ∷ 1 ∷ 0 ∷ []
unfolding lens_from
lens_are = refl

-- it gives the object to the list of its parent group
gives : given_from (λ child. []) [] added_and_closed ≡ object ∷ []
unfolding items_from lists_moved
gives = refl

-- a list that was drained freed it by its second entry
freed_are : freed_tags 0 [] [] (Add by 1 true key [] ∷ Drained by 1 ∷ []) ≡ record { entry = 1; tag = tag } ∷ []
unfolding freed_tags
freed_are = refl

-- the list of group 1, below the root
abbrev lists : List Queued
lists = record { nodes = []; keys = []; items = [] } ∷ record { nodes = (0, object) ∷ []; keys = 0 ∷ []; items = object ∷ [] } ∷ []

given_by_child : given_by lists 1 ≡ object ∷ []
given_by_child = refl

no_list_gives_none : given_by lists 2 ≡ []
no_list_gives_none = refl

child_gives : took_of (0 ∷ 0 ∷ []) 0 lists 1 ≡ object ∷ []
child_gives = refl

other_gives_none : took_of (0 ∷ 0 ∷ []) 1 lists 1 ≡ []
other_gives_none = refl

given_once : took_after (took_of (0 ∷ 0 ∷ []) 0 lists) (MovedIn 1 1) 1 ≡ []
given_once = refl

-- whatever replays it tells these lengths, and that each outcome is so
told : (r : Replayed) → IsReplayed [] added_and_closed [] r → r.lens.items ≡ 0 ∷ 1 ∷ 0 ∷ []
unfolding lens_from
told r is = is.lens

told_right : (r : Replayed) → IsReplayed [] added_and_closed [] r → r.right ≡ true
unfolding AreOutcomes
told_right r is = is.right.1 (refl, (tt, tt))

-- an entry that says that the object was there before is told as wrong
told_wrong : (r : Replayed) → IsReplayed [] (Add by 1 false key [] ∷ []) (object ∷ []) r → r.right ≡ true → ⊥
unfolding AreOutcomes
told_wrong r is said = let outcome : false ≡ true = (is.right.0 said).0 in cc
