-- SPDX-License-Identifier: GPL-2.0-only
-- Journals in which each entry is a tenant's: nothing moves in, and nothing is closed.
use Rattle.shr_model.proofs.Common.{◌≡◌, ℕ, zero, suc, ◌<◌, ◌≤◌, true, false, ◌==◌, List, [], ◌∷◌, ◌++◌, length, take, slice_get, Contains, refl, Some, list_all, AllByRecursion, ap, sym, ◌∙◌, subst, arith, and_parts, and_from, both_ways, cond_both, eqb-true, Object, Place, Entry, Add, Look, Drop, Pin, Scan, MovedIn, Closed, Drained, at_group, parent_of, IsTree, path_of, IsAtOrAbove, is_child, step, is_closed, HasJournal, Family, items_given, items_of, items_at, moved_in, IsBornAt, IsAllowed, IsLegal, IsPaired, freed_at, is_tenant, AreTenant, birth_of, eqb-false}
use Rattle.std.proofs.lemmas.List.Elements.{All-contains, All-from_recursion}
use Rattle.std.proofs.lemmas.List.Folds.{list_all-append}
use Rattle.shr_model.specs.Groups.{path_within}
use Rattle.shr_model.specs.Items.{items_from, freed_from, AreOutcomes}
use Rattle.shr_model.specs.Families.{lists_moved}
use Rattle.shr_model.proofs.GroupsLaws.{child_takes, child_higher}

-- such a journal may gain a tenant's entry
pub AreTenant_push : (es : List Entry) (e : Entry) → AreTenant es → is_tenant e ≡ true → AreTenant (es ++ e ∷ [])
AreTenant_push es e h one = rw (list_all-append, h, one) refl

-- such a journal moves no list
pub lists_moved-tenant : (took : ℕ → List Object) (es : List Entry) → AreTenant es → lists_moved took es ≡ []
unfolding lists_moved
lists_moved-tenant took [] h = refl
lists_moved-tenant took (Add by birth added key value ∷ es) h = lists_moved-tenant took es h
lists_moved-tenant took (Look by birth key hit ∷ es) h = lists_moved-tenant took es h
lists_moved-tenant took (Drop by birth key kind ∷ es) h = lists_moved-tenant took es h
lists_moved-tenant took (Pin by birth key pinned hit ∷ es) h = lists_moved-tenant took es h
lists_moved-tenant took (Scan worker walk asked policy visits freed stopped ∷ es) h = absurd (cc)
lists_moved-tenant took (MovedIn child objects ∷ es) h = absurd (cc)
lists_moved-tenant took (Closed ∷ es) h = absurd (cc)
lists_moved-tenant took (Drained by objects ∷ es) h = absurd (cc)

-- the items of a place are those that its journal leaves by itself
pub items_of_tenant : (parents : List ℕ) (family : Family) (place : Place) → AreTenant (family place) → items_of parents family place ≡ items_from [] [] (family place)
items_of_tenant parents family place h =
    ap (λ (moved : List (List Object)). items_from moved [] (family place)) (lists_moved-tenant (items_given parents family place) (family place) h)

-- so are those after so many entries
pub items_at_tenant : (parents : List ℕ) (family : Family) (place : Place) (n : ℕ) → AreTenant (family place) → items_at parents family place n ≡ items_from [] [] (take n (family place))
items_at_tenant parents family place n h =
    ap (λ (moved : List (List Object)). items_from moved [] (take n (family place))) (lists_moved-tenant (items_given parents family place) (family place) h)

-- so are the objects that it frees
pub freed_at_tenant : (parents : List ℕ) (family : Family) (place : Place) → AreTenant (family place) → freed_at parents family place ≡ freed_from [] [] (family place)
freed_at_tenant parents family place h =
    ap (λ (moved : List (List Object)). freed_from moved [] (family place)) (lists_moved-tenant (items_given parents family place) (family place) h)

-- the items that such a journal leaves do not depend on lists that are moved
items_from-tenant : (moved : List (List Object)) (items : List Object) (es : List Entry) → AreTenant es → items_from moved items es ≡ items_from [] items es
unfolding items_from
items_from-tenant moved items [] h = refl
items_from-tenant moved items (Add by birth added key value ∷ es) h = items_from-tenant moved (step [] items (Add by birth added key value)) es h
items_from-tenant moved items (Look by birth key hit ∷ es) h = items_from-tenant moved (step [] items (Look by birth key hit)) es h
items_from-tenant moved items (Drop by birth key kind ∷ es) h = items_from-tenant moved (step [] items (Drop by birth key kind)) es h
items_from-tenant moved items (Pin by birth key pinned hit ∷ es) h = items_from-tenant moved (step [] items (Pin by birth key pinned hit)) es h
items_from-tenant moved items (Scan worker walk asked policy visits freed stopped ∷ es) h = absurd (cc)
items_from-tenant moved items (MovedIn child objects ∷ es) h = absurd (cc)
items_from-tenant moved items (Closed ∷ es) h = absurd (cc)
items_from-tenant moved items (Drained by objects ∷ es) h = absurd (cc)

-- nor do its outcomes
AreOutcomes-tenant : (moved : List (List Object)) (items : List Object) (es : List Entry) → AreTenant es → AreOutcomes moved items es → AreOutcomes [] items es
unfolding AreOutcomes
AreOutcomes-tenant moved items [] h o = tt
AreOutcomes-tenant moved items (Add by birth added key value ∷ es) h o = (o.0, AreOutcomes-tenant moved (step [] items (Add by birth added key value)) es h o.1)
AreOutcomes-tenant moved items (Look by birth key hit ∷ es) h o = (o.0, AreOutcomes-tenant moved (step [] items (Look by birth key hit)) es h o.1)
AreOutcomes-tenant moved items (Drop by birth key kind ∷ es) h o = (o.0, AreOutcomes-tenant moved (step [] items (Drop by birth key kind)) es h o.1)
AreOutcomes-tenant moved items (Pin by birth key pinned hit ∷ es) h o = (o.0, AreOutcomes-tenant moved (step [] items (Pin by birth key pinned hit)) es h o.1)
AreOutcomes-tenant moved items (Scan worker walk asked policy visits freed stopped ∷ es) h o = absurd (cc)
AreOutcomes-tenant moved items (MovedIn child objects ∷ es) h o = absurd (cc)
AreOutcomes-tenant moved items (Closed ∷ es) h o = absurd (cc)
AreOutcomes-tenant moved items (Drained by objects ∷ es) h o = absurd (cc)

-- a list with such a journal has what the journal leaves by itself
pub HasJournal_tenant : (es : List Entry) (items : List Object) → HasJournal es items → AreTenant es → (items_from [] [] es ≡ items) × AreOutcomes [] [] es
HasJournal_tenant es items h tenant =
    (sym (items_from-tenant h.0 [] es tenant) ∙ h.1.left, AreOutcomes-tenant h.0 [] es tenant h.1.outcomes)

-- such a journal is such a journal up to each entry
pub AreTenant_take : (n : ℕ) (es : List Entry) → AreTenant es → AreTenant (take n es)
AreTenant_take zero es h = refl
AreTenant_take (suc n) [] h = refl
AreTenant_take (suc n) (e ∷ es) h =
    let parts = and_parts (is_tenant e) (list_all is_tenant es) h in
    and_from (is_tenant e) (list_all is_tenant (take n es)) parts.0 (AreTenant_take n es parts.1)

-- each of its entries is a tenant's
pub AreTenant_at : (n : ℕ) (es : List Entry) (e : Entry) → AreTenant es → slice_get es n ≡ Some e → is_tenant e ≡ true
AreTenant_at n [] e h at = absurd (cc)
AreTenant_at zero (x ∷ es) e h at =
    let parts = and_parts (is_tenant x) (list_all is_tenant es) h in
    let same : x ≡ e = cc in
    rw (← same) parts.0
AreTenant_at (suc n) (x ∷ es) e h at = AreTenant_at n es e (and_parts (is_tenant x) (list_all is_tenant es) h).1 at

-- it has no Closed
pub is_closed_tenant : (es : List Entry) → AreTenant es → is_closed es ≡ false
is_closed_tenant [] h = refl
is_closed_tenant (Add by birth added key value ∷ es) h = is_closed_tenant es h
is_closed_tenant (Look by birth key hit ∷ es) h = is_closed_tenant es h
is_closed_tenant (Drop by birth key kind ∷ es) h = is_closed_tenant es h
is_closed_tenant (Pin by birth key pinned hit ∷ es) h = is_closed_tenant es h
is_closed_tenant (Scan worker walk asked policy visits freed stopped ∷ es) h = absurd (cc)
is_closed_tenant (MovedIn child objects ∷ es) h = absurd (cc)
is_closed_tenant (Closed ∷ es) h = absurd (cc)
is_closed_tenant (Drained by objects ∷ es) h = absurd (cc)

-- no child's list was moved in
pub moved_in_tenant : (es : List Entry) → AreTenant es → moved_in es ≡ []
moved_in_tenant [] h = refl
moved_in_tenant (Add by birth added key value ∷ es) h = moved_in_tenant es h
moved_in_tenant (Look by birth key hit ∷ es) h = moved_in_tenant es h
moved_in_tenant (Drop by birth key kind ∷ es) h = moved_in_tenant es h
moved_in_tenant (Pin by birth key pinned hit ∷ es) h = moved_in_tenant es h
moved_in_tenant (Scan worker walk asked policy visits freed stopped ∷ es) h = absurd (cc)
moved_in_tenant (MovedIn child objects ∷ es) h = absurd (cc)
moved_in_tenant (Closed ∷ es) h = absurd (cc)
moved_in_tenant (Drained by objects ∷ es) h = absurd (cc)

-- the groups on a path are at most the group that it begins at
path_at_most : (parents : List ℕ) (tree : IsTree parents) (bound steps group : ℕ) → group < length parents → group ≤ bound → AllByRecursion (λ x. x ≤ bound) (path_within steps parents group)
unfolding path_within
path_at_most parents tree bound zero group within h = (h, tt)
path_at_most parents tree bound (suc steps) group within h =
    cond_both (group == 0) (0 ∷ []) (group ∷ path_within steps parents (parent_of parents group)) (AllByRecursion (λ x. x ≤ bound))
    (λ e. (omega arith, tt))
    (λ e.
    let above : 0 < group = omega (arith, eqb-false group 0 e) in
    let lower = tree.lower group above within in
    (h, path_at_most parents tree bound steps (parent_of parents group) (omega arith) (omega arith)))

-- a group is on its own path
pub IsAtOrAbove_itself : (parents : List ℕ) (group : ℕ) → IsAtOrAbove parents group group
unfolding path_within
IsAtOrAbove_itself parents zero = (0, omega arith, refl)
IsAtOrAbove_itself parents (suc n) =
    cond_both (suc n == 0) (0 ∷ []) (suc n ∷ path_within n parents (parent_of parents (suc n))) (λ path. Contains path (suc n))
    (λ e. (0, omega arith, sym (eqb-true (suc n) 0 e)))
    (λ e. (0, omega arith, refl))

-- a child is not on its parent's path
pub child_not_above : (parents : List ℕ) (group child : ℕ) → IsTree parents → group < length parents → is_child parents group child ≡ true → Contains (path_of parents group) child → ⊥
child_not_above parents group child tree within is there =
    let child_of_it = child_takes parents group child is in
    let higher = child_higher parents group child tree child_of_it in
    let most = All-contains (λ x. x ≤ group) (path_of parents group) child (All-from_recursion (λ x. x ≤ group) (path_of parents group) (path_at_most parents tree group group group within (omega arith))) there in
    omega arith

-- an entry of a tenant that is born in the group of the journal may stand anywhere in it
IsBornAt_itself : (parents : List ℕ) (group birth : ℕ) (before : List Entry) → IsTree parents → group < length parents → birth ≡ group → IsBornAt parents group before birth
IsBornAt_itself parents group birth before tree within same = rw same (record {
  there = within;
  at_or_above = IsAtOrAbove_itself parents group;
  moved = λ child is there. absurd (child_not_above parents group child tree within is there);
})

IsAllowed_tenant : (parents : List ℕ) (group : ℕ) (before : List Entry) (e : Entry) → IsTree parents → group < length parents → is_tenant e ≡ true → birth_of e ≡ Some group → IsAllowed parents group before e
IsAllowed_tenant parents group before (Add by birth added key value) tree within h born = IsBornAt_itself parents group birth before tree within (cc)
IsAllowed_tenant parents group before (Look by birth key hit) tree within h born = IsBornAt_itself parents group birth before tree within (cc)
IsAllowed_tenant parents group before (Drop by birth key kind) tree within h born = IsBornAt_itself parents group birth before tree within (cc)
IsAllowed_tenant parents group before (Pin by birth key pinned hit) tree within h born = IsBornAt_itself parents group birth before tree within (cc)
IsAllowed_tenant parents group before (Scan worker walk asked policy visits freed stopped) tree within h born = absurd (cc)
IsAllowed_tenant parents group before (MovedIn child objects) tree within h born = absurd (cc)
IsAllowed_tenant parents group before Closed tree within h born = absurd (cc)
IsAllowed_tenant parents group before (Drained by objects) tree within h born = absurd (cc)

-- a journal of tenants that are born in its group is legal where its outcomes are so
pub IsLegal_tenant : (parents : List ℕ) (family : Family) (place : Place) → IsTree parents → place.group < length parents → AreTenant (family place) → AreOutcomes [] [] (family place)
    → ((n : ℕ) (e : Entry) → slice_get (family place) n ≡ Some e → birth_of e ≡ Some place.group) → IsLegal parents family place
IsLegal_tenant parents family place tree within h outcomes born = record {
  there = λ _. within;
  stands = λ n e at. record {
    «open» = is_closed_tenant (take n (family place)) (AreTenant_take n (family place) h);
    allowed = IsAllowed_tenant parents place.group (take n (family place)) e tree within (AreTenant_at n (family place) e h at) (born n e at);
  };
  outcomes = rw (lists_moved-tenant (items_given parents family place) (family place) h) outcomes;
}

-- journals of tenants fit together
pub IsPaired_tenant : (parents : List ℕ) (family : Family) → ((place : Place) → AreTenant (family place)) → IsPaired parents family
IsPaired_tenant parents family h place above within = (
  λ closed. absurd (both_ways (is_closed (family place)) (is_closed_tenant (family place) (h place)) closed),
  λ there.
      let parent = at_group place (parent_of parents place.group) in
      let none = subst (λ (groups : List ℕ). Contains groups place.group) (moved_in_tenant (family parent) (h parent)) there in
      absurd (omega (arith, none.1)),
)
