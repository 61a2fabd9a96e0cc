-- SPDX-License-Identifier: GPL-2.0-only
-- What was added is what was freed and what is listed.
use Rattle.shr_model.proofs.Common.{◌≡◌, ◌≢◌, ℕ, suc, ◌+◌, ◌<◌, ◌≤◌, Bool, true, false, not, List, [], ◌∷◌, ◌++◌, map, slice_get, find, IsPermutation, refl, Option, Some, None, AllByRecursion, ap, sym, ◌∙◌, subst, append_assoc, inl, inr, arith, cases_Bool, cond_both, map-append, IsPermutation-refl, IsPermutation-trans, IsPermutation-cons, IsPermutation-middle, IsPermutation-append_right, Object, Place, Serial, Entry, Add, Look, Drop, Pin, Scan, MovedIn, Closed, Drained, place_number, is_named, holds, named_in, fresh, marked_object, pinned_object, change_first, without_first, dropped_of, after_drop, step, freed_by, Family, serials_of, added_by, added_by_all, added_in, freed_in, listed_in, AreTenant, IsPermutation-map, IsPermutation-append, IsPermutation-append_left, IsPermutation-append_comm}
use Rattle.std.specs.List.Sorted.{IsStrictlyIncreasing}
use Rattle.std.proofs.Common.{append-nil, add-one, add-zero, zero-add}
use Rattle.shr_base.specs.declared.places.At.{At}
use Rattle.shr_model.specs.Items.{items_from, freed_from, AreOutcomes}
use Rattle.shr_model.specs.Bag.{AreDistinct}
use Rattle.shr_model.proofs.TenantLaws.{items_of_tenant, freed_at_tenant}

-- equal lists are one in the order of the other
same_bag : {X : Type 0} (xs ys : List X) → xs ≡ ys → IsPermutation xs ys
same_bag xs ys e = subst (IsPermutation xs) e (IsPermutation-refl xs)

-- two pairs of lists, by their first and by their second
bag_of_pairs : {X : Type 0} (ws xs ys zs : List X) → IsPermutation ((ws ++ xs) ++ (ys ++ zs)) ((ws ++ ys) ++ (xs ++ zs))
bag_of_pairs ws xs ys zs =
    rw (append_assoc ws xs (ys ++ zs), append_assoc ws ys (xs ++ zs), ← append_assoc xs ys zs, ← append_assoc ys xs zs)
    (IsPermutation-append_right ws (xs ++ ys ++ zs) (ys ++ xs ++ zs) (IsPermutation-append_left zs (xs ++ ys) (ys ++ xs) (IsPermutation-append_comm xs ys)))

-- the first item that passes a test, and the others
IsPermutation_found : (test : Object → Bool) (items : List Object) (o : Object) → find test items ≡ Some o → IsPermutation items (o ∷ without_first test items)
IsPermutation_found test [] o h = absurd (cc)
IsPermutation_found test (x ∷ xs) o h = elim (cases_Bool (test x)) [
  | inl e ↦
      let first : x ≡ o = let at = rw e at h in cc in
      rw (e, first) (IsPermutation-refl (o ∷ xs))
  | inr e ↦
      let at = rw e at h in
      let rest = IsPermutation_found test xs o at in
      rw e (IsPermutation-trans (x ∷ xs) (x ∷ o ∷ without_first test xs) (o ∷ x ∷ without_first test xs)
      (IsPermutation-cons x xs (o ∷ without_first test xs) rest)
      (IsPermutation-middle (x ∷ []) o (without_first test xs)))
]

-- a change that keeps an object's serial keeps those of a list
pub serials_of_changed : (test : Object → Bool) (change : Object → Object) → ((o : Object) → (change o).serial ≡ o.serial) → (items : List Object) → serials_of (change_first test change items) ≡ serials_of items
serials_of_changed test change keeps [] = refl
serials_of_changed test change keeps (x ∷ xs) =
    cond_both (test x) (change x ∷ xs) (x ∷ change_first test change xs) (λ ys. serials_of ys ≡ serials_of (x ∷ xs))
    (λ e. ap (λ (s : Serial). s ∷ serials_of xs) (keeps x))
    (λ e. ap (λ (ss : List Serial). x.serial ∷ ss) (serials_of_changed test change keeps xs))

-- an Add that says so adds its object
pub serials_of_added : (items : List Object) (by : Serial) (birth : ℕ) (key value : List ℕ) (added : Bool) → added ≡ not (holds birth key items)
    → serials_of items ++ added_by (Add by birth added key value) ≡ serials_of (step [] items (Add by birth added key value))
serials_of_added items by birth key value added h = elim (cases_Bool (holds birth key items)) [
  | inl e ↦ rw (h, e) (append-nil (serials_of items))
  | inr e ↦ rw (h, e) (sym (map-append (λ (o : Object). o.serial) items (fresh by birth key value ∷ [])))
]

-- a Drop that finds this object
bag_of_drop : (items : List Object) (birth : ℕ) (key : List ℕ) (found : Option Object) → named_in birth key items ≡ found
    → IsPermutation (serials_of items) (serials_of (dropped_of found) ++ serials_of (after_drop birth key items found))
bag_of_drop items birth key None h = IsPermutation-refl (serials_of items)
bag_of_drop items birth key (Some o) h = elim (cases_Bool o.pinned) [
  | inl e ↦ rw e (IsPermutation-refl (serials_of items))
  | inr e ↦ rw e (IsPermutation-map (λ (o : Object). o.serial) items (o ∷ without_first (is_named birth key) items) (IsPermutation_found (is_named birth key) items o h))
]

-- one step of a journal: what was there and what it adds, what it frees and what is there then
bag_more : (items : List Object) (e : Entry) (after : List Object) (es : List Entry) (freed left : List Object)
    → IsPermutation (serials_of items ++ added_by e) (serials_of (freed_by items e) ++ serials_of after)
    → IsPermutation (serials_of after ++ added_by_all es) (serials_of freed ++ serials_of left)
    → IsPermutation (serials_of items ++ added_by_all (e ∷ es)) (serials_of (freed_by items e ++ freed) ++ serials_of left)
bag_more items e after es freed left one rest =
    let gone = serials_of (freed_by items e) in
    rw (← append_assoc (serials_of items) (added_by e) (added_by_all es), map-append, append_assoc gone (serials_of freed) (serials_of left))
    (IsPermutation-trans ((serials_of items ++ added_by e) ++ added_by_all es) ((gone ++ serials_of after) ++ added_by_all es) (gone ++ (serials_of freed ++ serials_of left))
    (IsPermutation-append_left (added_by_all es) (serials_of items ++ added_by e) (gone ++ serials_of after) one)
    (rw append_assoc (IsPermutation-append_right gone (serials_of after ++ added_by_all es) (serials_of freed ++ serials_of left) rest)))

-- what was there and what a journal of tenants adds is what it frees and what it leaves
bag_from : (items : List Object) (es : List Entry) → AreTenant es → AreOutcomes [] items es
    → IsPermutation (serials_of items ++ added_by_all es) (serials_of (freed_from [] items es) ++ serials_of (items_from [] items es))
unfolding items_from freed_from AreOutcomes
bag_from items [] h o = rw append-nil (IsPermutation-refl (serials_of items))
bag_from items (Add by birth added key value ∷ es) h o =
    let e = Add by birth added key value in
    let after = step [] items e in
    bag_more items e after es (freed_from [] after es) (items_from [] after es)
    (same_bag (serials_of items ++ added_by e) (serials_of after) (serials_of_added items by birth key value added o.0))
    (bag_from after es h o.1)
bag_from items (Look by birth key hit ∷ es) h o =
    let e = Look by birth key hit in
    let after = step [] items e in
    bag_more items e after es (freed_from [] after es) (items_from [] after es)
    (same_bag (serials_of items ++ []) (serials_of after) (append-nil (serials_of items) ∙ sym (serials_of_changed (is_named birth key) marked_object (λ o. refl) items)))
    (bag_from after es h o.1)
bag_from items (Drop by birth key kind ∷ es) h o =
    let e = Drop by birth key kind in
    let after = step [] items e in
    bag_more items e after es (freed_from [] after es) (items_from [] after es)
    (rw append-nil (bag_of_drop items birth key (named_in birth key items) refl))
    (bag_from after es h o.1)
bag_from items (Pin by birth key pinned hit ∷ es) h o =
    let e = Pin by birth key pinned hit in
    let after = step [] items e in
    bag_more items e after es (freed_from [] after es) (items_from [] after es)
    (same_bag (serials_of items ++ []) (serials_of after) (append-nil (serials_of items) ∙ sym (serials_of_changed (is_named birth key) (pinned_object pinned) (λ o. refl) items)))
    (bag_from after es h o.1)
bag_from items (Scan worker walk asked policy visits freed stopped ∷ es) h o = absurd (cc)
bag_from items (MovedIn child objects ∷ es) h o = absurd (cc)
bag_from items (Closed ∷ es) h o = absurd (cc)
bag_from items (Drained by objects ∷ es) h o = absurd (cc)

-- what a journal of tenants adds is what it frees and what it leaves
pub bag_of_journal : (es : List Entry) → AreTenant es → AreOutcomes [] [] es → IsPermutation (added_by_all es) (serials_of (freed_from [] [] es) ++ serials_of (items_from [] [] es))
bag_of_journal es h o = bag_from [] es h o

-- what the journals of these places add is what they free and what they leave
pub bag_of_family : (places : List Place) (parents : List ℕ) (family : Family) → ((place : Place) → AreTenant (family place)) → ((place : Place) → AreOutcomes [] [] (family place))
    → IsPermutation (added_in places family) (freed_in places parents family ++ listed_in places parents family)
bag_of_family [] parents family h o = IsPermutation-refl []
bag_of_family (p ∷ ps) parents family h o =
    let freed = serials_of (freed_from [] [] (family p)) in
    let left = serials_of (items_from [] [] (family p)) in
    let all_freed = freed_in ps parents family in
    let all_left = listed_in ps parents family in
    rw (freed_at_tenant parents family p (h p), items_of_tenant parents family p (h p))
    (IsPermutation-trans (added_by_all (family p) ++ added_in ps family) ((freed ++ left) ++ (all_freed ++ all_left)) ((freed ++ all_freed) ++ (left ++ all_left))
    (IsPermutation-append (added_by_all (family p)) (freed ++ left) (added_in ps family) (all_freed ++ all_left)
    (bag_of_journal (family p) (h p) (o p))
    (bag_of_family ps parents family h o))
    (bag_of_pairs freed left all_freed all_left))

-- the elements are pairwise different
abbrev pub AreApart : {X : Type 0} → List X → Type 0
AreApart [] = Unit {0}
AreApart (p ∷ ps) = AllByRecursion (λ q. p ≢ q) ps × AreApart ps

-- a serial's command is said to have its entry in this journal, here or later
abbrev IsCitedFrom : (Serial → Option At) → Place → ℕ → Serial → Type 0
IsCitedFrom cite place from by = (n : ℕ) × (from ≤ n) × (cite by ≡ Some (record { place = place; entry = n }))

-- each serial that a journal adds is cited where the entry stands; the journal is seen from this
-- entry on
abbrev IsCitedBy : (Serial → Option At) → Place → ℕ → List Entry → Type 0
IsCitedBy cite place from es = (n : ℕ) (by : Serial) (birth : ℕ) (key value : List ℕ) → slice_get es n ≡ Some (Add by birth true key value) → cite by ≡ Some (record { place = place; entry = from + n })

-- what holds of each element, and what follows from it
pub each_weaker : {X : Type 0} (P Q : X → Type 0) → ((x : X) → P x → Q x) → (xs : List X) → AllByRecursion P xs → AllByRecursion Q xs
each_weaker P Q weaker [] h = tt
each_weaker P Q weaker (x ∷ xs) h = (weaker x h.0, each_weaker P Q weaker xs h.1)

-- what holds of each element of two lists holds of each of both together
pub each_append : {X : Type 0} (P : X → Type 0) (xs ys : List X) → AllByRecursion P xs → AllByRecursion P ys → AllByRecursion P (xs ++ ys)
each_append P [] ys h k = k
each_append P (x ∷ xs) ys h k = (h.0, each_append P xs ys h.1 k)

-- two lists of distinct serials that have none in common
AreDistinct_append : (xs ys : List Serial) → AreDistinct xs → AreDistinct ys → AllByRecursion (λ x. AllByRecursion (λ y. x ≢ y) ys) xs → AreDistinct (xs ++ ys)
unfolding AreDistinct
AreDistinct_append [] ys h k apart = k
AreDistinct_append (x ∷ xs) ys h k apart = (each_append (λ y. x ≢ y) xs ys h.0 apart.0, AreDistinct_append xs ys h.1 k apart.1)

-- the first entry adds at most its own serial
distinct_one : (e : Entry) → AreDistinct (added_by e)
unfolding AreDistinct
distinct_one (Add by birth true key value) = (tt, tt)
distinct_one (Add by birth false key value) = tt
distinct_one (Look by birth key hit) = tt
distinct_one (Drop by birth key kind) = tt
distinct_one (Pin by birth key pinned hit) = tt
distinct_one (Scan worker walk asked policy visits freed stopped) = tt
distinct_one (MovedIn child objects) = tt
distinct_one Closed = tt
distinct_one (Drained by objects) = tt

cited_first : (cite : Serial → Option At) (place : Place) (from : ℕ) (e : Entry) (es : List Entry) → IsCitedBy cite place from (e ∷ es) → AllByRecursion (λ by. cite by ≡ Some (record { place = place; entry = from })) (added_by e)
cited_first cite place from (Add by birth true key value) es cited = (rw add-zero at (cited 0 by birth key value refl), tt)
cited_first cite place from (Add by birth false key value) es cited = tt
cited_first cite place from (Look by birth key hit) es cited = tt
cited_first cite place from (Drop by birth key kind) es cited = tt
cited_first cite place from (Pin by birth key pinned hit) es cited = tt
cited_first cite place from (Scan worker walk asked policy visits freed stopped) es cited = tt
cited_first cite place from (MovedIn child objects) es cited = tt
cited_first cite place from Closed es cited = tt
cited_first cite place from (Drained by objects) es cited = tt

-- a journal seen from the next entry on
cited_next : (cite : Serial → Option At) (place : Place) (from : ℕ) (e : Entry) (es : List Entry) → IsCitedBy cite place from (e ∷ es) → IsCitedBy cite place (from + 1) es
cited_next cite place from e es cited n by birth key value at =
    let same : from + suc n ≡ from + 1 + n = omega arith in
    rw (← same) (cited (suc n) by birth key value at)

-- each serial that a journal adds is cited at its entry or later
cited_from : (cite : Serial → Option At) (place : Place) (from : ℕ) (es : List Entry) → IsCitedBy cite place from es → AllByRecursion (IsCitedFrom cite place from) (added_by_all es)
cited_from cite place from [] cited = tt
cited_from cite place from (e ∷ es) cited =
    each_append (IsCitedFrom cite place from) (added_by e) (added_by_all es)
    (each_weaker (λ by. cite by ≡ Some (record { place = place; entry = from })) (IsCitedFrom cite place from) (λ by h. (from, omega arith, h)) (added_by e) (cited_first cite place from e es cited))
    (each_weaker (IsCitedFrom cite place (from + 1)) (IsCitedFrom cite place from) (λ by h. (h.0, omega (arith, h.1), h.2)) (added_by_all es)
    (cited_from cite place (from + 1) es (cited_next cite place from e es cited)))

-- two serials that are cited at different entries are different
apart_from_entries : (cite : Serial → Option At) (place : Place) (m n : ℕ) (x y : Serial) → m < n → cite x ≡ Some (record { place = place; entry = m }) → cite y ≡ Some (record { place = place; entry = n }) → x ≢ y
apart_from_entries cite place m n x y h at_x at_y same =
    let first : At = record { place = place; entry = m } in
    let second : At = record { place = place; entry = n } in
    let one : first ≡ second = cc in
    let entries : m ≡ n = ap (λ (a : At). a.entry) one in
    omega arith

-- the serials that a journal adds are distinct
distinct_in_journal : (cite : Serial → Option At) (place : Place) (from : ℕ) (es : List Entry) → IsCitedBy cite place from es → AreDistinct (added_by_all es)
unfolding AreDistinct
distinct_in_journal cite place from [] cited = tt
distinct_in_journal cite place from (e ∷ es) cited =
    let next = cited_next cite place from e es cited in
    let later = cited_from cite place (from + 1) es next in
    AreDistinct_append (added_by e) (added_by_all es) (distinct_one e) (distinct_in_journal cite place (from + 1) es next)
    (each_weaker (λ x. cite x ≡ Some (record { place = place; entry = from })) (λ x. AllByRecursion (λ y. x ≢ y) (added_by_all es))
    (λ x at_x. each_weaker (IsCitedFrom cite place (from + 1)) (λ y. x ≢ y)
    (λ y h. apart_from_entries cite place from h.0 x y (omega (arith, h.1)) at_x h.2)
    (added_by_all es) later)
    (added_by e) (cited_first cite place from e es cited))

-- a serial's command is said to have its entry at another place
abbrev IsCitedApart : (Serial → Option At) → Place → Serial → Type 0
IsCitedApart cite p by = (at : At) × (cite by ≡ Some at) × (p ≢ at.place)

-- what the journals of other places add is cited apart
cited_apart : (cite : Serial → Option At) (p : Place) (ps : List Place) (family : Family) → AllByRecursion (λ q. p ≢ q) ps → ((q : Place) → IsCitedBy cite q 0 (family q)) → AllByRecursion (IsCitedApart cite p) (added_in ps family)
cited_apart cite p [] family apart cited = tt
cited_apart cite p (q ∷ qs) family apart cited =
    each_append (IsCitedApart cite p) (added_by_all (family q)) (added_in qs family)
    (each_weaker (IsCitedFrom cite q 0) (IsCitedApart cite p) (λ by h. (record { place = q; entry = h.0 }, h.2, apart.0)) (added_by_all (family q)) (cited_from cite q 0 (family q) (cited q)))
    (cited_apart cite p qs family apart.1 cited)

distinct_in_family : (cite : Serial → Option At) (places : List Place) (family : Family) → AreApart places → ((q : Place) → IsCitedBy cite q 0 (family q)) → AreDistinct (added_in places family)
unfolding AreDistinct
distinct_in_family cite [] family apart cited = tt
distinct_in_family cite (p ∷ ps) family apart cited =
    let others = cited_apart cite p ps family apart.0 cited in
    AreDistinct_append (added_by_all (family p)) (added_in ps family) (distinct_in_journal cite p 0 (family p) (cited p)) (distinct_in_family cite ps family apart.1 cited)
    (each_weaker (IsCitedFrom cite p 0) (λ x. AllByRecursion (λ y. x ≢ y) (added_in ps family))
    (λ x at_x. each_weaker (IsCitedApart cite p) (λ y. x ≢ y)
    (λ y h same.
    let first : At = record { place = p; entry = at_x.0 } in
    let cited_x : cite x ≡ Some first = at_x.2 in
    let cited_y : cite y ≡ Some h.0 = h.1 in
    let one : first ≡ h.0 = cc in
    h.2 (ap (λ (a : At). a.place) one))
    (added_in ps family) others)
    (added_by_all (family p)) (cited_from cite p 0 (family p) (cited p)))

-- the serials that journals add are distinct where the command of each is cited at its entry
pub added_distinct : (cite : Serial → Option At) (places : List Place) (family : Family) → AreApart places
    → ((place : Place) (n : ℕ) (by : Serial) (birth : ℕ) (key value : List ℕ) → slice_get (family place) n ≡ Some (Add by birth true key value) → cite by ≡ Some (record { place = place; entry = n }))
    → AreDistinct (added_in places family)
added_distinct cite places family apart cited =
    distinct_in_family cite places family apart (λ q n by birth key value at. rw zero-add (cited q n by birth key value at))

-- what rises still does without the first
rising_rest : (x : ℕ) (xs : List ℕ) → IsStrictlyIncreasing (x ∷ xs) → IsStrictlyIncreasing xs
rising_rest x xs up k h =
    let at = rw (add-one (suc k)) at (up (suc k) (omega arith)) in
    rw (add-one k) at

-- each of these places comes after the first
numbers_above : (p : Place) (ps : List Place) → IsStrictlyIncreasing (map place_number (p ∷ ps)) → AllByRecursion (λ q. place_number p < place_number q) ps
numbers_above p [] up = tt
numbers_above p (q ∷ qs) up =
    let first : place_number p < place_number q = up 0 (omega arith) in (
      first,
      each_weaker (λ r. place_number q < place_number r) (λ r. place_number p < place_number r) (λ r h. omega arith) qs
          (numbers_above q qs (rising_rest (place_number p) (map place_number (q ∷ qs)) up)),
    )

-- places in the order of their numbers are pairwise different
pub AreApart_from_numbers : (places : List Place) → IsStrictlyIncreasing (map place_number places) → AreApart places
AreApart_from_numbers [] up = tt
AreApart_from_numbers (p ∷ ps) up = (
  each_weaker (λ q. place_number p < place_number q) (λ q. p ≢ q) (λ q h same. let e = ap place_number same in omega arith) ps (numbers_above p ps up),
  AreApart_from_numbers ps (rising_rest (place_number p) (map place_number ps) up),
)
