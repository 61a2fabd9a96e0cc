-- SPDX-License-Identifier: GPL-2.0-only
-- What legal journals that fit together add is what they free and what they leave.
use Rattle.shr_model.proofs.Common.{◌≡◌, ◌≢◌, ◌⊎◌, ℕ, ◌+◌, ◌<◌, true, List, [], ◌∷◌, ◌++◌, length, map, filter, flat_map, Contains, IsPermutation, refl, AllByRecursion, ap, sym, ◌∙◌, subst, arith, inl, inr, cases_Bool, both_ways, Object, Place, Serial, Entry, at_group, IsTree, parent_of, is_child, is_closed, Family, moved_in, items_given, lists_moved_at, items_of, IsLegal, IsPaired, added_by_all, added_in, freed_at, freed_in, listed_in}
use Rattle.shr_model.proofs.GroupsLaws.{child_takes}
use Rattle.shr_model.proofs.BagLaws.{AreApart, each_weaker, each_append}
use Rattle.shr_model.proofs.Members.{Has, Has_from_Contains, Contains_from_Has, each_has, Has_flat_map, flat_map_has, Has_map, map_has, Has_filter, filter_has, AreApart_append, AreApart_map, AreApart_filter, total, total_append, total_same}
use Rattle.shr_model.proofs.Weights.{weight, mass, weight_append, mass_append, IsPermutation_from_weights, taken_from, given_from, mass_of_journal}
use Rattle.shr_model.proofs.MovesLaws.{taken_from_children, gives_before, moved_in_legal, open_legal, closed_below_root, parent_place, given_to_parent}

-- The places have all that these journals hold: they are pairwise different, each is of a group
-- that there is, and any other place has the empty journal.
pub record IsWhole (parents : List ℕ) (family : Family) (places : List Place) : Type 0 where
  pub apart : AreApart places
  pub within : AllByRecursion (λ p. p.group < length parents) places
  pub others : (place : Place) → (family place ≡ []) ⊎ Contains places place

-- the places whose lists the journal of a place takes in
abbrev taken_places : Family → Place → List Place
taken_places family p = map (at_group p) (moved_in (family p))

-- what the list of a place gives to its parent's
abbrev given_up : List ℕ → Family → Place → List Object
given_up parents family p = items_given parents family (parent_place parents p) p.group

-- what a place takes in is what these places give
mass_of_taken : (w : Serial → ℕ) (parents : List ℕ) (family : Family) (p : Place) (cs : List ℕ) → AllByRecursion (λ c. is_child parents p.group c ≡ true) cs
    → mass w (flat_map (items_given parents family p) cs) ≡ total (λ q. mass w (given_up parents family q)) (map (at_group p) cs)
mass_of_taken w parents family p [] are = refl
mass_of_taken w parents family p (c ∷ cs) are =
    let child = child_takes parents p.group c are.0 in
    let one : mass w (items_given parents family (at_group p (parent_of parents c)) c) ≡ mass w (items_given parents family p c) =
    ap (λ (g : ℕ). mass w (items_given parents family (at_group p g) c)) child.parent in
    omega (arith, one, mass_of_taken w parents family p cs are.1, mass_append w (items_given parents family p c) (flat_map (items_given parents family p) cs))

-- what legal journals take in is what these places give
mass_of_all_taken : (w : Serial → ℕ) (parents : List ℕ) (family : Family) → ((place : Place) → IsLegal parents family place) → (ps : List Place)
    → total (λ p. mass w (taken_from (lists_moved_at parents family p) (family p))) ps ≡ total (λ q. mass w (given_up parents family q)) (flat_map (taken_places family) ps)
mass_of_all_taken w parents family legal [] = refl
mass_of_all_taken w parents family legal (p ∷ ps) =
    let moves = moved_in_legal parents family p (legal p) in
    let one = ap (mass w) (taken_from_children (items_given parents family p) (family p) moves.0) in
    let other = mass_of_taken w parents family p (moved_in (family p)) moves.1 in
    omega (
      arith,
      one,
      other,
      mass_of_all_taken w parents family legal ps,
      total_append (λ q. mass w (given_up parents family q)) (taken_places family p) (flat_map (taken_places family) ps),
    )

-- what legal journals give is what the closed ones give up
mass_of_all_given : (w : Serial → ℕ) (parents : List ℕ) → IsTree parents → (family : Family) → ((place : Place) → IsLegal parents family place) → (ps : List Place) → AllByRecursion (λ p. p.group < length parents) ps
    → total (λ p. mass w (given_from (lists_moved_at parents family p) [] (family p))) ps ≡ total (λ q. mass w (given_up parents family q)) (filter (λ q. is_closed (family q)) ps)
mass_of_all_given w parents tree family legal [] within = refl
mass_of_all_given w parents tree family legal (p ∷ ps) within =
    let gives = ap (mass w) (gives_before (lists_moved_at parents family p) [] (family p) (open_legal parents family p (legal p))) in
    let rest = mass_of_all_given w parents tree family legal ps within.1 in
    elim (cases_Bool (is_closed (family p))) [
      | inl e ↦
          let below = closed_below_root parents family p (legal p) e in
          let up = ap (mass w) (given_to_parent parents tree family p (omega arith) within.0) in
          let here = rw e at gives in
          rw e (omega (arith, here, up, rest))
      | inr e ↦
          let here = rw e at gives in
          rw e (omega (arith, here, rest))
    ]

-- the place of the parent of each place whose list is taken in
taken_below : (parents : List ℕ) (family : Family) (p : Place) → (cs : List ℕ) → AllByRecursion (λ c. is_child parents p.group c ≡ true) cs → AllByRecursion (λ q. parent_place parents q ≡ p) (map (at_group p) cs)
taken_below parents family p [] are = tt
taken_below parents family p (c ∷ cs) are =
    let child = child_takes parents p.group c are.0 in
    (ap (at_group p) child.parent, taken_below parents family p cs are.1)

-- a place that is not below p
abbrev IsBelowOther : List ℕ → Place → Place → Type 0
IsBelowOther parents p q = p ≢ parent_place parents q

taken_below_others : (parents : List ℕ) (family : Family) → ((place : Place) → IsLegal parents family place) → (p : Place) (ps : List Place) → AllByRecursion (λ q. p ≢ q) ps → AllByRecursion (IsBelowOther parents p) (flat_map (taken_places family) ps)
taken_below_others parents family legal p [] apart = tt
taken_below_others parents family legal p (q ∷ qs) apart =
    each_append (IsBelowOther parents p) (taken_places family q) (flat_map (taken_places family) qs)
    (each_weaker (λ r. parent_place parents r ≡ q) (IsBelowOther parents p) (λ r at e. apart.0 (e ∙ at)) (taken_places family q)
    (taken_below parents family q (moved_in (family q)) (moved_in_legal parents family q (legal q)).1))
    (taken_below_others parents family legal p qs apart.1)

-- no list is taken in twice
AreApart_taken : (parents : List ℕ) (family : Family) → ((place : Place) → IsLegal parents family place) → (ps : List Place) → AreApart ps → AreApart (flat_map (taken_places family) ps)
AreApart_taken parents family legal [] apart = tt
AreApart_taken parents family legal (p ∷ ps) apart =
    let moves = moved_in_legal parents family p (legal p) in
    AreApart_append (taken_places family p) (flat_map (taken_places family) ps)
    (AreApart_map (at_group p) (λ c d e. ap (λ (q : Place). q.group) e) (moved_in (family p)) moves.0)
    (AreApart_taken parents family legal ps apart.1)
    (each_weaker (λ q. parent_place parents q ≡ p) (λ q. AllByRecursion (λ r. q ≢ r) (flat_map (taken_places family) ps))
    (λ q at. each_weaker (IsBelowOther parents p) (λ r. q ≢ r) (λ r other e. other (sym at ∙ ap (parent_place parents) e)) (flat_map (taken_places family) ps)
    (taken_below_others parents family legal p ps apart.0))
    (taken_places family p) (taken_below parents family p (moved_in (family p)) moves.1))

-- a list that is taken in is closed
taken_closed : (parents : List ℕ) (family : Family) → ((place : Place) → IsLegal parents family place) → IsPaired parents family → (p : Place) (c : ℕ) → Has (moved_in (family p)) c → is_closed (family (at_group p c)) ≡ true
taken_closed parents family legal paired p c there =
    let is = each_has (λ d. is_child parents p.group d ≡ true) (moved_in (family p)) c (moved_in_legal parents family p (legal p)).1 there in
    let child = child_takes parents p.group c is in
    let fits = paired (at_group p c) child.above child.there in
    fits.1 (subst (λ (g : ℕ). Contains (moved_in (family (at_group p g))) c) (sym child.parent) (Contains_from_Has (moved_in (family p)) c there))

-- a closed list is taken in by its parent's
closed_taken : (parents : List ℕ) (family : Family) → ((place : Place) → IsLegal parents family place) → IsPaired parents family → (q : Place) → q.group < length parents → is_closed (family q) ≡ true
    → Has (moved_in (family (parent_place parents q))) q.group
closed_taken parents family legal paired q within closed =
    let below = closed_below_root parents family q (legal q) closed in
    Has_from_Contains (moved_in (family (parent_place parents q))) q.group ((paired q (omega arith) within).0 closed)

-- the places with a journal are among them
has_closed : (parents : List ℕ) (family : Family) (places : List Place) → IsWhole parents family places → (q : Place) → is_closed (family q) ≡ true → Has places q
has_closed parents family places whole q closed = elim (whole.others q) [
  | inl none ↦ absurd (both_ways (is_closed (family q)) (ap is_closed none) closed)
  | inr there ↦ Has_from_Contains places q there
]

has_taking : (parents : List ℕ) (family : Family) (places : List Place) → IsWhole parents family places → (p : Place) (c : ℕ) → Has (moved_in (family p)) c → Has places p
has_taking parents family places whole p c h = elim (whole.others p) [
  | inl none ↦ absurd (subst (λ (es : List Entry). Has (moved_in es) c) none h)
  | inr there ↦ Has_from_Contains places p there
]

-- the places whose lists are taken in are those that are closed
taken_is_given : (w : Serial → ℕ) (parents : List ℕ) → (family : Family) (places : List Place) → IsWhole parents family places → ((place : Place) → IsLegal parents family place) → IsPaired parents family
    → total (λ q. mass w (given_up parents family q)) (flat_map (taken_places family) places) ≡ total (λ q. mass w (given_up parents family q)) (filter (λ q. is_closed (family q)) places)
taken_is_given w parents family places whole legal paired =
    total_same (λ q. mass w (given_up parents family q)) (flat_map (taken_places family) places) (filter (λ q. is_closed (family q)) places)
    (AreApart_taken parents family legal places whole.apart)
    (AreApart_filter (λ q. is_closed (family q)) places whole.apart)
    (λ x has.
    let from = flat_map_has (taken_places family) places x has in
    let at = map_has (at_group from.0) (moved_in (family from.0)) x from.2 in
    let closed = subst (λ (q : Place). is_closed (family q) ≡ true) at.2 (taken_closed parents family legal paired from.0 at.0 at.1) in
    Has_filter (λ q. is_closed (family q)) places x (has_closed parents family places whole x closed) closed)
    (λ x has.
    let from = filter_has (λ q. is_closed (family q)) places x has in
    let within = each_has (λ p. p.group < length parents) places x whole.within from.0 in
    let child = closed_taken parents family legal paired x within from.1 in
    let parent = parent_place parents x in
    Has_flat_map (taken_places family) places parent x (has_taking parents family places whole parent x.group child) (Has_map (at_group parent) (moved_in (family parent)) x.group child))

-- what legal journals add and take in is what they free, give away and leave
mass_of_family : (w : Serial → ℕ) (parents : List ℕ) (family : Family) → ((place : Place) → IsLegal parents family place) → (ps : List Place)
    → weight w (added_in ps family) + total (λ p. mass w (taken_from (lists_moved_at parents family p) (family p))) ps
    ≡ weight w (freed_in ps parents family) + total (λ p. mass w (given_from (lists_moved_at parents family p) [] (family p))) ps + weight w (listed_in ps parents family)
mass_of_family w parents family legal [] = omega arith
mass_of_family w parents family legal (p ∷ ps) =
    omega (
      arith,
      mass_of_journal w (lists_moved_at parents family p) [] (family p) (legal p).outcomes,
      mass_of_family w parents family legal ps,
      weight_append w (added_by_all (family p)) (added_in ps family),
      weight_append w (map (λ (o : Object). o.serial) (freed_at parents family p)) (freed_in ps parents family),
      weight_append w (map (λ (o : Object). o.serial) (items_of parents family p)) (listed_in ps parents family),
    )

-- what legal journals that fit together add is what they free and what they leave
pub bag_of_legal : (places : List Place) (parents : List ℕ) (family : Family) → IsTree parents → IsWhole parents family places → ((place : Place) → IsLegal parents family place) → IsPaired parents family
    → IsPermutation (added_in places family) (freed_in places parents family ++ listed_in places parents family)
bag_of_legal places parents family tree whole legal paired =
    IsPermutation_from_weights (added_in places family) (freed_in places parents family ++ listed_in places parents family)
    (λ w. omega (
      arith,
      mass_of_family w parents family legal places,
      mass_of_all_taken w parents family legal places,
      mass_of_all_given w parents tree family legal places whole.within,
      taken_is_given w parents family places whole legal paired,
      weight_append w (freed_in places parents family) (listed_in places parents family),
    ))
