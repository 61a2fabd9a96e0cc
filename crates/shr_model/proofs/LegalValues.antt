-- SPDX-License-Identifier: GPL-2.0-only
-- Journals and families at known values: which entries may stand, which journals are legal, which
-- fit, and what they free.
use Rattle.shr_model.proofs.Common.{◌≡◌, ℕ, zero, suc, true, false, List, [], ◌∷◌, codes, refl, ◌==◌, if◌then◌else◌, take, slice_get, Contains, Some, None, Option, lit<, subst, ap, arith, inl, inr, Plain, Place, Serial, Entry, Add, Look, Drop, Pin, Scan, MovedIn, Closed, Drained, path_of, is_child, IsOutcome, Family, IsLegal, IsPaired, IsBornAt, IsAllowed, MayStand, added_in, freed_in, listed_in, IsPermutation-sym, IsPermutation-to_front, length_permutation}
use Rattle.shr_model.specs.Groups.{path_within}
use Rattle.shr_model.specs.Scan.{scan_from}
use Rattle.shr_base.specs.declared.journals.DropKind.TheVariants as kind
use Rattle.shr_model.specs.Items.{items_from, freed_from, AreOutcomes}
use Rattle.shr_model.specs.Families.{items_within, lists_moved, IsPairedAt}
use Rattle.shr_model.specs.Bag.{AreDistinct, IsBag}
use Rattle.shr_model.proofs.Members.{Has, Has_from_Contains}
use Rattle.shr_model.proofs.GroupsLaws.{child_takes}

abbrev line_of_three : List ℕ
line_of_three = 0 ∷ 0 ∷ 1 ∷ []

abbrev serial : ℕ → Serial
serial command = record { worker = 0; command = command }

abbrev place_of : ℕ → Place
place_of group = record { id = 0; node = 0; group = group }

-- three puts, and a scan that freed two of them
abbrev with_a_scan : List Entry
with_a_scan = Add (serial 0) 1 true (codes "a") [] ∷ Add (serial 1) 1 true (codes "b") [] ∷ Scan 0 0 2 Plain 2 2 false ∷ Add (serial 2) 1 true (codes "c") [] ∷ []

abbrev scanned_family : Family
scanned_family place = if place.group == 1 then with_a_scan else []

added_three : added_in (place_of 1 ∷ []) scanned_family ≡ serial 0 ∷ serial 1 ∷ serial 2 ∷ []
added_three = refl

freed_two : freed_in (place_of 1 ∷ []) line_of_three scanned_family ≡ serial 0 ∷ serial 1 ∷ []
unfolding items_from freed_from lists_moved items_within scan_from
freed_two = refl

listed_one : listed_in (place_of 1 ∷ []) line_of_three scanned_family ≡ serial 2 ∷ []
unfolding items_from freed_from lists_moved items_within scan_from
listed_one = refl

-- parent and child
abbrev parent_journal : List Entry
parent_journal = Add (serial 0) 1 true (codes "p") [] ∷ MovedIn 2 2 ∷ []

abbrev child_journal : List Entry
child_journal = Add (serial 1) 2 true (codes "x") [] ∷ Add (serial 2) 2 true (codes "y") [] ∷ Closed ∷ []

abbrev parent_and_child : Family
parent_and_child place = if place.group == 1 then parent_journal else (if place.group == 2 then child_journal else [])

-- paired at the child
paired_child : IsPairedAt line_of_three parent_and_child (place_of 2)
paired_child = (λ _. (0, lit< tt, refl), λ _. refl)

paired_middle : IsPairedAt line_of_three parent_and_child (place_of 1)
paired_middle = (λ h. absurd (no h), λ h. absurd (omega (arith, h.1))) where
  no : false ≡ true → ⊥
  no e = cc

-- a Closed without its MovedIn
abbrev only_closed : Family
only_closed place = if place.group == 2 then child_journal else []

not_paired : IsPaired line_of_three only_closed → ⊥
not_paired h = let there = (h (place_of 2) (lit< tt) (lit< tt)).0 refl in omega (arith, there.1)

-- a Closed with an Add after it
abbrev add_after : Family
add_after place = if place.group == 2 then (Closed ∷ Add (serial 1) 2 true (codes "x") [] ∷ []) else []

not_legal : IsLegal line_of_three add_after (place_of 2) → ⊥
not_legal h = no (h.stands 1 (Add (serial 1) 2 true (codes "x") []) refl).«open» where
  no : true ≡ false → ⊥
  no e = cc

ends : (e x : Entry) (P : Entry → Type 0) → Some e ≡ Some x → P e → P x
ends e x P h p = subst (λ (o : Option Entry). holds o) h p where
  holds : Option Entry → Type 0
  holds None = Unit {0}
  holds (Some y) = P y

none_some : (e : Entry) → None ≡ Some e → ⊥
none_some e h = subst is_none h tt where
  is_none : Option Entry → Type 0
  is_none None = Unit {0}
  is_none (Some y) = ⊥

no_child_of_two : (c : ℕ) → is_child line_of_three 2 c ≡ true → ⊥
no_child_of_two zero e = cc
no_child_of_two (suc zero) e = cc
no_child_of_two (suc (suc zero)) e = cc
no_child_of_two (suc (suc (suc n))) e = let t = (child_takes line_of_three 2 (suc (suc (suc n))) e).there in omega (arith, t)

legal_child : IsLegal line_of_three parent_and_child (place_of 2)
unfolding AreOutcomes lists_moved path_within
legal_child = record { there = λ _. lit< tt; stands = each; outcomes = (refl, (refl, (tt, tt))) } where
  born : (before : List Entry) → IsBornAt line_of_three 2 before 2
  born before = record { there = lit< tt; at_or_above = (0, lit< tt, refl); moved = λ c is there. absurd (no_child_of_two c is) }

  each : (n : ℕ) (e : Entry) → slice_get child_journal n ≡ Some e → MayStand line_of_three 2 (take n child_journal) e
  each zero e h = ends (Add (serial 1) 2 true (codes "x") []) e (MayStand line_of_three 2 []) h (record { «open» = refl; allowed = born [] })
  each (suc zero) e h = ends (Add (serial 2) 2 true (codes "y") []) e (MayStand line_of_three 2 (take 1 child_journal)) h (record { «open» = refl; allowed = born (take 1 child_journal) })
  each (suc (suc zero)) e h = ends Closed e (MayStand line_of_three 2 (take 2 child_journal)) h (record { «open» = refl; allowed = (λ x. omega (arith, x), λ c is. absurd (no_child_of_two c is)) })
  each (suc (suc (suc n))) e h = absurd (none_some e h)

legal_parent : IsLegal line_of_three parent_and_child (place_of 1)
unfolding AreOutcomes lists_moved path_within items_within items_from
legal_parent = record { there = λ _. lit< tt; stands = each; outcomes = (refl, (refl, tt)) } where
  by_has : (c : ℕ) → is_child line_of_three 1 c ≡ true → Has (path_of line_of_three 1) c → ⊥
  by_has c is (inl e) = one c is e where
    one : (c : ℕ) → is_child line_of_three 1 c ≡ true → 1 ≡ c → ⊥
    one zero is e = cc
    one (suc zero) is e = cc
    one (suc (suc n)) is e = omega (arith, e)
  by_has zero is (inr (inl e)) = cc
  by_has (suc c) is (inr (inl e)) = omega (arith, e)
  by_has c is (inr (inr e)) = e

  each : (n : ℕ) (e : Entry) → slice_get parent_journal n ≡ Some e → MayStand line_of_three 1 (take n parent_journal) e
  each zero e h = ends (Add (serial 0) 1 true (codes "p") []) e (MayStand line_of_three 1 []) h (record { «open» = refl; allowed = record { there = lit< tt; at_or_above = (0, lit< tt, refl); moved = λ c is there. absurd (by_has c is (Has_from_Contains (path_of line_of_three 1) c there)) } })
  each (suc zero) e h = ends (MovedIn 2 2) e (MayStand line_of_three 1 (take 1 parent_journal)) h (record { «open» = refl; allowed = (refl, λ t. absurd (omega (arith, t.1))) })
  each (suc (suc n)) e h = absurd (none_some e h)

-- a group that this tree doesn't have has no entry, and no birth
abbrev outside : Family
outside place = if place.group == 9 then (Closed ∷ []) else []

not_outside : IsLegal line_of_three outside (place_of 9) → ⊥
not_outside h = let e = h.there (lit< tt) in omega (arith, e)

not_born_outside : IsBornAt line_of_three 0 [] 300 → ⊥
not_born_outside h = let e = h.there in omega (arith, e)

-- an object of the child may stand in the parent's journal once the child's list was moved in, and
-- not before
moved_first : IsBornAt line_of_three 1 (MovedIn 2 0 ∷ []) 2
unfolding path_within
moved_first = record { there = lit< tt; at_or_above = (1, lit< tt, refl); moved = λ c is there. only c is } where
  only : (c : ℕ) → is_child line_of_three 1 c ≡ true → Contains (2 ∷ []) c
  only zero is = cc
  only (suc zero) is = cc
  only (suc (suc zero)) is = (0, lit< tt, refl)
  only (suc (suc (suc n))) is = let t = (child_takes line_of_three 1 (suc (suc (suc n))) is).there in absurd (omega (arith, t))

not_moved_first : IsBornAt line_of_three 1 [] 2 → ⊥
unfolding path_within
not_moved_first h = let there = h.moved 2 refl (0, lit< tt, refl) in omega (arith, there.1)

-- and a group is never born above itself
not_above : IsBornAt line_of_three 2 [] 1 → ⊥
unfolding path_within
not_above h = no (Has_from_Contains (path_of line_of_three 1) 2 h.at_or_above) where
  no : Has {X = ℕ} (1 ∷ 0 ∷ []) 2 → ⊥
  no (inl e) = omega (arith, e)
  no (inr (inl e)) = omega (arith, e)
  no (inr (inr e)) = e

-- a list is closed after its children were moved in, each once and each a child, and the root's
-- never
closed_after : IsAllowed line_of_three 1 (MovedIn 2 0 ∷ []) Closed
closed_after = ((λ e. omega (arith, e)), (λ c is. only c is)) where
  only : (c : ℕ) → is_child line_of_three 1 c ≡ true → Contains (2 ∷ []) c
  only zero is = cc
  only (suc zero) is = cc
  only (suc (suc zero)) is = (0, lit< tt, refl)
  only (suc (suc (suc n))) is = let t = (child_takes line_of_three 1 (suc (suc (suc n))) is).there in absurd (omega (arith, t))

not_closed_before : IsAllowed line_of_three 1 [] Closed → ⊥
not_closed_before h = let there = h.1 2 refl in omega (arith, there.1)

root_not_closed : IsAllowed line_of_three 0 (MovedIn 1 0 ∷ []) Closed → ⊥
root_not_closed h = h.0 refl

not_moved_twice : IsAllowed line_of_three 1 (MovedIn 2 0 ∷ []) (MovedIn 2 0) → ⊥
not_moved_twice h = h.1 (0, lit< tt, refl)

not_a_child : IsAllowed line_of_three 0 [] (MovedIn 2 0) → ⊥
not_a_child h = no h.0 where
  no : false ≡ true → ⊥
  no e = cc

-- a list that holds something is drained, and an empty one isn't
drained_one : IsAllowed line_of_three 1 [] (Drained (serial 0) 1)
drained_one = lit< tt

not_drained_none : IsAllowed line_of_three 1 [] (Drained (serial 0) 0) → ⊥
not_drained_none h = omega (arith, h)

-- what entries say of an empty list
no_hit : IsOutcome [] [] (Look (serial 0) 1 (codes "a") true) → ⊥
no_hit e = cc

a_miss : IsOutcome [] [] (Look (serial 0) 1 (codes "a") false)
a_miss = refl

no_pin : IsOutcome [] [] (Pin (serial 0) 1 (codes "a") true true) → ⊥
no_pin e = cc

no_drop : IsOutcome [] [] (Drop (serial 0) 1 (codes "a") kind.Dropped) → ⊥
no_drop e = cc

not_exists : IsOutcome [] [] (Add (serial 0) 1 false (codes "a") []) → ⊥
not_exists e = cc

not_drained : IsOutcome [] [] (Drained (serial 0) 1) → ⊥
not_drained e = omega (arith, e)

not_moved : IsOutcome [] [] (MovedIn 2 1) → ⊥
not_moved e = omega (arith, e)

nothing_scanned : IsOutcome [] [] (Scan 0 0 2 Plain 0 0 false)
unfolding scan_from
nothing_scanned = record { met = refl; removed = refl; halted = refl }

not_scanned : IsOutcome [] [] (Scan 0 0 2 Plain 1 1 false) → ⊥
unfolding scan_from
not_scanned h = let e = h.removed in omega (arith, e)

-- the bag: each object is freed once or listed once, and none is added twice
one_bag : IsBag (serial 0 ∷ serial 1 ∷ []) (serial 1 ∷ []) (serial 0 ∷ [])
unfolding AreDistinct
one_bag = record { distinct = (((λ e. let d = ap (λ (s : Serial). s.command) e in omega (arith, d)), tt), (tt, tt)); parts = IsPermutation-sym _ _ (IsPermutation-to_front (serial 1 ∷ []) (serial 0)) }

not_added_twice : IsBag (serial 0 ∷ serial 0 ∷ []) (serial 0 ∷ []) (serial 0 ∷ []) → ⊥
unfolding AreDistinct
not_added_twice h = h.distinct.0.0 refl

not_freed_twice : IsBag (serial 0 ∷ []) (serial 0 ∷ serial 0 ∷ []) [] → ⊥
not_freed_twice h = let n = length_permutation _ _ h.parts in omega (arith, n)
