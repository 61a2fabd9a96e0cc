-- SPDX-License-Identifier: GPL-2.0-only
-- A replay of the lists under way: what is there for the next list, and what is left after it.
use Rattle.shr_audit_case.proofs.Common.{◌≡◌, ◌≢◌, ℕ, ◌+◌, ◌-◌, ◌<◌, ◌≤◌, true, false, List, [], ◌∷◌, length, length-append, get_or, Option, Some, None, refl, sym, ap, subst, ◌∙◌, ◌⊎◌, inl, inr, arith, slice_get, slice_index, ◌==◌, nat_lt, cases_Bool, cases_order, and_parts, eqb-true, ltb-true, get_or_from_slice_get, slice_get-get_or, slice_get_within, Place, Object, Entry, PlaceEnd, journal_of, IsPlaceBefore, IsPlaceUpTo, Replayed, AreJournals, ArePrinted, IsReplayedAt, printed_items, IsReplayed, AreInOrder, IsFirst, IsReplayOfList, items_printed_in, journals_in, AreFirsts, AreReplaysBefore, IsNewAt, IsTakenOut, on_node, cond, ◌++◌, ltb-false, AreReplayed, printed_entries, AreReplaysAt}
use Rattle.std.proofs.lemmas.List.{get_or_append_left}
use Rattle.std.proofs.Math.Seq.{get_or-append_seam}
use Rattle.shr_model.specs.Trees.{IsTree}
use Rattle.shr_model.specs.Groups.{is_child}
use Rattle.shr_model.specs.Places.{at_group}
use Rattle.shr_model.specs.Families.{Family, items_given, items_within, before_closed, lists_moved}
use Rattle.shr_model.proofs.GroupsLaws.{child_takes}
use Rattle.shr_audit_case.specs.Replayed.{given_by, took_of}
use Rattle.shr_audit_case.proofs.Firsts.{first_found}

-- the journal of a list that is printed, by its two names
journal_entries : (x : Option PlaceEnd) → journal_of x ≡ printed_entries x
journal_entries None = refl
journal_entries (Some end) = refl

-- the journals with these indexes are those of the lists
pub journals_there : (ends : List PlaceEnd) (place : Place) (count : ℕ) (firsts : List ℕ) → AreFirsts ends place count firsts → AreJournals ends firsts count (journals_in ends) place
journals_there ends place count firsts f group lt = ap journal_of (sym (f.each group lt)) ∙ journal_entries (slice_get ends (slice_index firsts group))

-- and so are the objects that are printed
pub printed_there : (ends : List PlaceEnd) (place : Place) (count : ℕ) (firsts : List ℕ) → AreFirsts ends place count firsts → ArePrinted ends firsts count (items_printed_in ends) place
printed_there ends place count firsts f group lt = ap printed_items (sym (f.each group lt))

-- a group's replay among those of all groups
from_told : (parents : List ℕ) (ends : List PlaceEnd) (place : Place) (node : List Replayed) → AreReplayed parents (journals_in ends) (items_printed_in ends) place node → (group : ℕ) (r : Replayed) → group < length parents
    → slice_get node (length parents - 1 - group) ≡ Some r → IsReplayedAt parents (journals_in ends) (items_printed_in ends) (at_group place group) r
from_told parents ends place node told group r lt at = told.each (length parents - 1 - group) group r at (omega arith)

-- at a new id and node
pub ready_new : (parents : List ℕ) (ends : List PlaceEnd) (k : ℕ) (x : PlaceEnd) (node : List Replayed) → AreReplayed parents (journals_in ends) (items_printed_in ends) (get_or ends k x).place node → AreReplaysAt parents ends k node
ready_new parents ends k x node told = record {
  many = told.count;
  own = λ end r at first lt here. subst (λ (e : PlaceEnd). IsReplayedAt parents (journals_in ends) (items_printed_in ends) (at_group e.place end.place.group) r) (get_or_from_slice_get ends k end x at)
      (from_told parents ends (get_or ends k x).place node told end.place.group r lt here);
  behind = λ end at group r above lt here. subst (λ (e : PlaceEnd). IsReplayedAt parents (journals_in ends) (items_printed_in ends) (at_group e.place group) r) (get_or_from_slice_get ends k end x at)
      (from_told parents ends (get_or ends k x).place node told group r lt here);
}

-- of one id and node, places stand by group
same_node : (p q : Place) → on_node p q ≡ true → (p.id ≡ q.id) × (p.node ≡ q.node)
same_node p q e = let ts = and_parts (p.id == q.id) (p.node == q.node) e in (eqb-true p.id q.id ts.0, eqb-true p.node q.node ts.1)

group_before : (p q : Place) → p.id ≡ q.id → p.node ≡ q.node → IsPlaceBefore p q → p.group < q.group
group_before p q id node (inl a) = absurd (omega arith)
group_before p q id node (inr (same, inl a)) = absurd (omega arith)
group_before p q id node (inr (same, inr (too, a))) = a

group_up_to : (p q : Place) → p.id ≡ q.id → p.node ≡ q.node → IsPlaceUpTo p q → p.group ≤ q.group
group_up_to p q id node (inl before) = let lt = group_before p q id node before in omega arith
group_up_to p q id node (inr same) = let is : p.group ≡ q.group = ap (λ (x : Place). x.group) same in omega arith

group_other : (p q : Place) → p.id ≡ q.id → p.node ≡ q.node → IsPlaceUpTo p q → p ≢ q → p.group < q.group
group_other p q id node (inl before) ne = group_before p q id node before
group_other p q id node (inr same) ne = absurd (ne same)

at_other : (p q : Place) (group : ℕ) → p.id ≡ q.id → p.node ≡ q.node → at_group p group ≡ at_group q group
at_other p q group id node = λ i. record { id = id i; node = node i; group = group }

-- the list before one of its id and node
record Neighbours (x end : PlaceEnd) : Type 0 where
  ids : x.place.id ≡ end.place.id
  nodes : x.place.node ≡ end.place.node
  order : IsPlaceUpTo x.place end.place

-- at the id and node of the list before
pub ready_old : (parents : List ℕ) (ends : List PlaceEnd) (k : ℕ) (node : List Replayed) → AreInOrder ends → k < length ends → AreReplaysBefore parents ends k node → IsNewAt ends k false → AreReplaysAt parents ends k node
ready_old parents ends k node order lt left not_new = record {
  many = left.many not_new.0;
  own = λ end r at first below here. let f = facts end at in
      subst (λ (p : Place). IsReplayedAt parents (journals_in ends) (items_printed_in ends) p r) (at_other (before end).place end.place end.place.group f.ids f.nodes)
      (left.behind (before end) not_new.0 (before_at end) end.place.group r
      (group_other (before end).place end.place f.ids f.nodes f.order (first (k - 1) (before end) (let some = not_new.0 in omega arith) (before_at end))) below here);
  behind = λ end at group r above below here. let f = facts end at in
      subst (λ (p : Place). IsReplayedAt parents (journals_in ends) (items_printed_in ends) p r) (at_other (before end).place end.place group f.ids f.nodes)
      (left.behind (before end) not_new.0 (before_at end) group r (let le = group_up_to (before end).place end.place f.ids f.nodes f.order in omega arith) below here);
} where
  before : PlaceEnd → PlaceEnd
  before d = get_or ends (k - 1) d

  before_at : (d : PlaceEnd) → slice_get ends (k - 1) ≡ Some (before d)
  before_at d = slice_get-get_or ends (k - 1) d (omega arith)

  facts : (end : PlaceEnd) → slice_get ends k ≡ Some end → Neighbours (before end) end
  facts end at =
      let same = same_node (before end).place end.place (not_new.1 (before end) end (before_at end) at) in
      let some = not_new.0 in
      let next : k - 1 + 1 ≡ k = omega arith in
      let up : IsPlaceUpTo (get_or ends (k - 1) end).place (get_or ends (k - 1 + 1) end).place = order (k - 1) end (omega arith) in
      record {
        ids = same.0;
        nodes = same.1;
        order = subst (λ (e : PlaceEnd). IsPlaceUpTo (before end).place e.place) (ap (λ (n : ℕ). get_or ends n end) next ∙ get_or_from_slice_get ends k end end at) up;
      }

-- behind a list
pub left_after : (parents : List ℕ) (ends : List PlaceEnd) (k : ℕ) (end : PlaceEnd) (old new : List Replayed) → slice_get ends k ≡ Some end → AreReplaysAt parents ends k old → IsTakenOut (length parents) end.place.group old new → AreReplaysBefore parents ends (k + 1) new
left_after parents ends k end old new at ready out = record {
  many = λ some. out.many ∙ ready.many;
  behind = λ x some there group r above lt here.
      let index : k + 1 - 1 ≡ k = omega arith in
      let same : end ≡ x = some_is end x (sym at ∙ ap (slice_get ends) (sym index) ∙ there) in
      let higher : end.place.group < group = subst (λ (e : PlaceEnd). e.place.group < group) (sym same) above in
      let was : slice_get old (length parents - 1 - group) ≡ Some r = sym (out.others group lt (λ eq. let h = higher in absurd (omega arith))) ∙ here in
      subst (λ (e : PlaceEnd). IsReplayedAt parents (journals_in ends) (items_printed_in ends) (at_group e.place group) r) same (ready.behind end at group r higher lt was);
} where
  some_is : (a b : PlaceEnd) → ◌≡◌ {A = Option PlaceEnd} (Some a) (Some b) → a ≡ b
  some_is a b e = cc

-- a group that isn't one of the tree has no children
no_child : (parents : List ℕ) (group child : ℕ) → IsTree parents → length parents ≤ group → is_child parents group child ≡ false
no_child parents group child tree out = elim (cases_Bool (is_child parents group child)) [
  | inl yes_child ↦ absurd (let c = child_takes parents group child yes_child in let lower = tree.lower child c.above c.there in let parent = c.parent in let there = c.there in omega arith)
  | inr none ↦ none
]

pub nothing_given : (parents : List ℕ) (family : Family) (place : Place) → IsTree parents → length parents ≤ place.group → took_of parents place.group [] ≡ items_given parents family place
nothing_given parents family place tree out = λ i c. at c i
  where
    at : (c : ℕ) → took_of parents place.group [] c ≡ items_given parents family place c
    at c = ap (λ b. cond b (given_by [] c) []) (no_child parents place.group c tree out)
        ∙ sym (ap (λ b. cond b (items_within (length parents) parents family (at_group place c) (before_closed (family (at_group place c)))) []) (no_child parents place.group c tree out))

-- the next list's replay
pub next_replayed : (parents : List ℕ) (ends : List PlaceEnd) (k : ℕ) (end : PlaceEnd) (node : List Replayed) (r : Replayed) → IsTree parents → slice_get ends k ≡ Some end → AreReplaysAt parents ends k node
    → (end.place.group < length parents → slice_get node (length parents - 1 - end.place.group) ≡ Some r)
    → (length parents ≤ end.place.group → IsReplayed (lists_moved (took_of parents end.place.group []) end.entries.items) end.entries.items end.items.items r) → IsReplayOfList parents ends k r
next_replayed parents ends k end node r tree at ready taken alone x there first =
    let same : end ≡ x = some_is end x (sym at ∙ there) in
    subst (λ (e : PlaceEnd). IsReplayedAt parents (journals_in ends) (items_printed_in ends) e.place r) same (own (subst (λ (e : PlaceEnd). IsFirst ends k e.place) (sym same) first))
  where
    some_is : (a b : PlaceEnd) → ◌≡◌ {A = Option PlaceEnd} (Some a) (Some b) → a ≡ b
    some_is a b e = cc

    within_or : (n m : ℕ) → (n < m) ⊎ (m ≤ n)
    within_or n m = elim (cases_Bool (nat_lt n m)) [
      | inl t ↦ inl (ltb-true n m t)
      | inr f ↦ inr (ltb-false n m f)
    ]

    own : IsFirst ends k end.place → IsReplayedAt parents (journals_in ends) (items_printed_in ends) end.place r
    own mine = elim (within_or end.place.group (length parents)) [
      | inl lt ↦ ready.own end r at mine lt (taken lt)
      | inr out ↦
          let here : journals_in ends end.place ≡ end.entries.items = ap journal_of (first_found ends end.place k end at refl mine) in
          let there : items_printed_in ends end.place ≡ end.items.items = ap printed_items (first_found ends end.place k end at refl mine) in
          subst (λ (es : List Entry). IsReplayed (lists_moved (items_given parents (journals_in ends) end.place) es) es (items_printed_in ends end.place) r) (sym here)
          (subst (λ (os : List Object). IsReplayed (lists_moved (items_given parents (journals_in ends) end.place) end.entries.items) end.entries.items os r) (sym there)
          (subst (λ (took : ℕ → List Object). IsReplayed (lists_moved took end.entries.items) end.entries.items end.items.items r) (nothing_given parents (journals_in ends) end.place tree out) (alone out)))
    ]

-- one replay more
pub told_more : (parents : List ℕ) (ends : List PlaceEnd) (told after : List Replayed) (x : Replayed) → after ≡ told ++ x ∷ [] → ((n : ℕ) (r : Replayed) → slice_get told n ≡ Some r → IsReplayOfList parents ends n r)
    → IsReplayOfList parents ends (length told) x → (n : ℕ) (r : Replayed) → slice_get after n ≡ Some r → IsReplayOfList parents ends n r
told_more parents ends told after x pushed each last n r at = by_order (cases_order n (length told))
  where
    here : slice_get (told ++ x ∷ []) n ≡ Some r
    here = ap (λ (ts : List Replayed). slice_get ts n) (sym pushed) ∙ at

    read : get_or (told ++ x ∷ []) n r ≡ r
    read = get_or_from_slice_get (told ++ x ∷ []) n r r here

    by_order : (n ≡ length told) ⊎ ((n < length told) ⊎ (length told < n)) → IsReplayOfList parents ends n r
    by_order (inl same) =
        let is : x ≡ r = sym (get_or-append_seam told x [] r) ∙ (ap (λ (m : ℕ). get_or (told ++ x ∷ []) m r) (sym same) ∙ read) in
        subst (λ (m : ℕ). IsReplayOfList parents ends m r) (sym same) (subst (IsReplayOfList parents ends (length told)) is last)
    by_order (inr (inl lt)) = each n r (slice_get-get_or told n r lt ∙ ap (λ (y : Replayed). Some y) (sym (get_or_append_left told (x ∷ []) r n lt) ∙ read))
    by_order (inr (inr past)) =
        let lt = slice_get_within (told ++ x ∷ []) n r here in
        let many : length (told ++ x ∷ []) ≡ length told + 1 = length-append told (x ∷ []) in
        absurd (omega arith)
