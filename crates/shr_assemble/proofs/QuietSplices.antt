-- SPDX-License-Identifier: GPL-2.0-only
-- The entries that splicing a group's lists made.
use Rattle.shr_assemble.proofs.Common.{◌≡◌, ◌⊎◌, inl, inr, ⊎_elim, ℕ, suc, ◌<◌, ◌≤◌, Bool, true, false, cond, List, [], ◌∷◌, ◌++◌, length, refl, sym, subst, arith, map, ◌&&◌, nat_lt, ltb-true, AllByRecursion, append-nil, MovedIn, Closed, IsTree, IsAtOrAbove, parent_of, Each, Begins, at_begins, Each-none, Each-append, View, Shape, nothing, Adds, group_of, beside, Made, Known, groups_in, adds_then, Closing, made_by_closings, AreClosings, AreSpliced, IsListFilled, IsAmong, each_append, adds_none, made_by_closing, bits_by, above_place, bits_of_closings, own_number, IsClosing, place_by_number, ◌+◌, ap, ◌∙◌, eq-eqb, sum_by, and_from, Object, Serial, Drained, is_serial, is_at_or_above, born_below, total, total-append, place_id, place_number, group_place, Draw, made_from, drawn_from, drained_by, added_below, made_freed_below, at_some, count_total, sum_total, made_by_draws, drawn, all_slice_by}
use Rattle.shr_assemble.proofs.Filling.{filled_one, filled_among}
use Rattle.shr_lawful.proofs.Gathering.{among_left, among_right}

-- the list of a child was moved in, and the child's Closed is among these entries
pub record IsMovedIn (child : ℕ) (all : List Made) (m : Made) : Type 0 where
  pub objects : ℕ
  pub entry : m.entry ≡ MovedIn child objects
  pub closed : Made
  pub among : IsAmong closed all
  pub place : closed.place ≡ beside m.place child
  pub shut : closed.entry ≡ Closed

pub record IsShut (child : ℕ) (m : Made) : Type 0 where
  pub entry : m.entry ≡ Closed
  pub group : group_of m.place ≡ child

-- An entry is of the closing of the list of a group at or below this one. It comes after all that the view knew.
pub record IsSpliceEntry (parents : List ℕ) (group : ℕ) (v : View) (all : List Made) (m : Made) : Type 0 where
  pub child : ℕ
  pub below : IsAtOrAbove parents group child
  pub later : Each (λ (k : Known). k.place ≡ m.place → length k.entries ≤ m.number) v.traces.known
  pub kind : IsMovedIn child all m ⊎ IsShut child m

more_all : (parents : List ℕ) (group : ℕ) (u v : View) (all more : List Made) (m : Made) → Begins u.traces.known v.traces.known → ((c : Made) → IsAmong c all → IsAmong c more) → IsSpliceEntry parents group v all m → IsSpliceEntry parents group u more m
more_all parents group u v all more m grows into h = record {
  child = h.child;
  below = h.below;
  later = λ j k at. h.later j k (at_begins u.traces.known v.traces.known j k grows at);
  kind = ⊎_elim (λ a. inl (record { objects = a.objects; entry = a.entry; closed = a.closed; among = into a.closed a.among; place = a.place; shut = a.shut })) (λ b. inr b) h.kind;
}

each_more : (parents : List ℕ) (group : ℕ) (u v : View) (all more : List Made) (ms : List Made) → Begins u.traces.known v.traces.known → ((c : Made) → IsAmong c all → IsAmong c more) → AllByRecursion (IsSpliceEntry parents group v all) ms → AllByRecursion (IsSpliceEntry parents group u more) ms
each_more parents group u v all more [] grows into h = tt
each_more parents group u v all more (m ∷ ms) grows into h = (more_all parents group u v all more m grows into h.0, each_more parents group u v all more ms grows into h.1)

-- lists were spliced from one view to another, and nothing else was gained
pub record IsSplicedTo (parents : List ℕ) (group : ℕ) (v w : View) : Type 0 where
  pub made : List Made
  pub sets : List ℕ
  pub adds : Adds v w (record nothing { made = made; sets = sets })
  pub each : AllByRecursion (IsSpliceEntry parents group v made) made
  pub filled : Each (IsListFilled made) sets

pub spliced_none : (parents : List ℕ) (group : ℕ) (v : View) → IsSplicedTo parents group v v
spliced_none parents group v = record { made = []; sets = []; adds = adds_none v; each = tt; filled = Each-none (IsListFilled []) }

pub spliced_then : (parents : List ℕ) (group : ℕ) (u v w : View) → IsSplicedTo parents group u v → IsSplicedTo parents group v w → IsSplicedTo parents group u w
spliced_then parents group u v w a b = record {
  made = a.made ++ b.made;
  sets = a.sets ++ b.sets;
  adds = adds_then u v w (record nothing { made = a.made; sets = a.sets }) (record nothing { made = b.made; sets = b.sets }) a.adds b.adds;
  each = each_append (IsSpliceEntry parents group u (a.made ++ b.made)) a.made b.made
      (each_more parents group u u a.made (a.made ++ b.made) a.made ([], sym (append-nil u.traces.known)) (λ c h. among_left a.made b.made c h) a.each)
      (each_more parents group u v b.made (a.made ++ b.made) b.made a.adds.known (λ c h. among_right a.made b.made c h) b.each);
  filled = Each-append (IsListFilled (a.made ++ b.made)) a.sets b.sets
      (filled_among a.made (a.made ++ b.made) (λ c h. among_left a.made b.made c h) a.sets a.filled)
      (filled_among b.made (a.made ++ b.made) (λ c h. among_right a.made b.made c h) b.sets b.filled);
}

module _ (shape : Shape) (tree : IsTree shape.parents.items) (few : groups_in shape ≤ 256) (group : ℕ) where
  abbrev ps : List ℕ
  ps = shape.parents.items

  entries_of : (v : View) (id node : ℕ) (cs : List Closing) (all : List Made) → Each (IsClosing shape v id node group) cs → ((c : Made) → IsAmong c (made_by_closings ps id node cs) → IsAmong c all) → AllByRecursion (IsSpliceEntry ps group v all) (made_by_closings ps id node cs)
  entries_of v id node [] all each into = tt
  entries_of v id node (c ∷ cs) all each into =
      let is = each 0 c refl in
      let low = is.low in
      let there = is.there in
      let lower : parent_of ps c.child < c.child = tree.lower c.child low there in
      let shut : Made = record { place = own_number id node c; number = c.number; entry = Closed; items = c.items } in (
        record {
          child = c.child;
          below = is.below;
          later = is.above_later.known;
          kind = inl (record { objects = length c.items; entry = refl; closed = shut; among = into shut (1, refl); place = omega (arith, lower, there, few); shut = refl });
        },
        (
          record {
            child = c.child;
            below = is.below;
            later = is.later.known;
            kind = inr (record { entry = refl; group = omega (arith, there, few) });
          },
          entries_of v id node cs all (λ j d at. each (suc j) d at) (λ d h. into d (suc (suc h.0), h.1)),
        ),
      )

  -- a closing sets the bit of the parent's place where it moves an object into its list
  bits_of : (id node : ℕ) (cs : List Closing) → Each (IsListFilled (made_by_closings ps id node cs)) (bits_of_closings ps id node cs)
  bits_of id node [] = Each-none (IsListFilled [])
  bits_of id node (c ∷ cs) = Each-append (IsListFilled (made_by_closings ps id node (c ∷ cs))) (bits_by ps id node c) (bits_of_closings ps id node cs)
      (filled_among (made_by_closing ps id node c) (made_by_closings ps id node (c ∷ cs)) (λ m h. among_left (made_by_closing ps id node c) (made_by_closings ps id node cs) m h) (bits_by ps id node c) (own (nat_lt 0 (length c.items)) (nat_lt 0 (parent_of ps c.child)) refl))
      (filled_among (made_by_closings ps id node cs) (made_by_closings ps id node (c ∷ cs)) (λ m h. among_right (made_by_closing ps id node c) (made_by_closings ps id node cs) m h) (bits_of_closings ps id node cs) (bits_of id node cs)) where
        own : (a b : Bool) → nat_lt 0 (length c.items) ≡ a → Each (IsListFilled (made_by_closing ps id node c)) (cond (a && b) (above_place ps id node c ∷ []) [])
        own false b e = Each-none (IsListFilled (made_by_closing ps id node c))
        own true false e = Each-none (IsListFilled (made_by_closing ps id node c))
        own true true e = filled_one (made_by_closing ps id node c) (above_place ps id node c) (record {
          entry = record { place = above_place ps id node c; number = c.above_number; entry = MovedIn c.child (length c.items); items = c.above_items };
          among = (0, refl);
          here = refl;
          fills = ltb-true 0 (length c.items) e;
        })

  pub spliced_one : (v w : View) (id node : ℕ) (cs : List Closing) → AreClosings shape v w id node group cs → IsSplicedTo ps group v w
  spliced_one v w id node cs h = record { made = made_by_closings ps id node cs; sets = bits_of_closings ps id node cs; adds = h.gains.adds; each = entries_of v id node cs (made_by_closings ps id node cs) h.each (λ c among. among); filled = bits_of id node cs }

  pub spliced_all : (ns : List ℕ) (moved : ℕ) (v w : View) → AreSpliced shape (map (place_by_number shape group) ns) moved v w → IsSplicedTo ps group v w
  spliced_all [] moved v w h = subst (IsSplicedTo ps group v) h.1 (spliced_none ps group v)
  spliced_all (n ∷ ns) moved v w (u, first, rest, sums, is, others) = spliced_then ps group v u w (spliced_one v u (place_by_number shape group n).id (place_by_number shape group n).node is.cs is.closings) (spliced_all ns rest u w others)

-- an entry is a Drained of this command at a list of this id
pub record IsDrainOf (id : ℕ) (by : Serial) (m : Made) : Type 0 where
  pub place : place_id m.place ≡ id
  pub objects : ℕ
  pub entry : m.entry ≡ Drained by objects

pub each_rec : {A : Type 0} (P : A → Type 0) (xs : List A) → AllByRecursion P xs → Each P xs
each_rec P xs h j x e = all_slice_by P xs j x h (at_some xs j x e)

pub rec_each : {A : Type 0} (P : A → Type 0) (xs : List A) → Each P xs → AllByRecursion P xs
rec_each P [] h = tt
rec_each P (x ∷ xs) h = (h 0 x refl, rec_each P xs (λ j y e. h (suc j) y e))

abbrev AreLow : List Draw → Type 0
AreLow ds = AllByRecursion (λ (d : Draw). d.group < 256) ds

module _ (id : ℕ) (by : Serial) where
  in_one : (node : ℕ) → node < 4 → (ds : List Draw) → AreLow ds → AllByRecursion (IsDrainOf id by) (made_by_draws id node by ds)
  in_one node lt [] h = tt
  in_one node lt (d ∷ ds) h = let low = h.0 in (record { place = omega (arith, lt, low); objects = length d.items; entry = refl }, in_one node lt ds h.1)

  pub in_all : (node : ℕ) (draws : List (List Draw)) → node + length draws ≤ 4 → AllByRecursion AreLow draws → AllByRecursion (IsDrainOf id by) (made_from id node by draws)
  in_all node [] lt h = tt
  in_all node (ds ∷ more) lt h = each_append (IsDrainOf id by) (made_by_draws id node by ds) (made_from id (node + 1) by more) (in_one node (omega (arith, lt)) ds h.0) (in_all (node + 1) more (omega (arith, lt)) h.1)

  -- a sum over the entries, as one over the objects
  module _ (f : Made → ℕ) (h : Object → ℕ) (same : (place number : ℕ) (items : List Object) → f (record { place = place; number = number; entry = Drained by (length items); items = items }) ≡ total h items) where
    sum_one : (node : ℕ) (ds : List Draw) → total f (made_by_draws id node by ds) ≡ total h (drawn ds)
    sum_one node [] = refl
    sum_one node (d ∷ ds) = omega (arith, sum_one node ds, same (place_number (group_place id node d.group)) d.number d.items, total-append h d.items (drawn ds))

    sum_all : (node : ℕ) (draws : List (List Draw)) → total f (made_from id node by draws) ≡ total h (drawn_from draws)
    sum_all node [] = refl
    sum_all node (ds ∷ more) = omega (arith, total-append f (made_by_draws id node by ds) (made_from id (node + 1) by more), sum_one node ds, sum_all (node + 1) more, total-append h (drawn ds) (drawn_from more))

  pub drains_freed : (parents : List ℕ) (g : ℕ) (draws : List (List Draw)) → sum_by (made_freed_below parents g) (made_from id 0 by draws) ≡ born_below parents g (drawn_from draws)
  drains_freed parents g draws = sum_total (made_freed_below parents g) (made_from id 0 by draws)
      ∙ (sum_all (made_freed_below parents g) (λ (o : Object). cond (is_at_or_above parents g o.birth) 1 0) (λ place number items. count_total (λ (o : Object). is_at_or_above parents g o.birth) items) 0 draws
      ∙ sym (count_total (λ (o : Object). is_at_or_above parents g o.birth) (drawn_from draws)))

  none_of : (objects : List Object) → total (λ (o : Object). 0) objects ≡ 0
  none_of [] = refl
  none_of (o ∷ os) = omega (arith, none_of os)

  one_of : (objects : List Object) → length objects ≡ total (λ (o : Object). 1) objects
  one_of [] = refl
  one_of (o ∷ os) = omega (arith, one_of os)

  pub drains_added : (parents : List ℕ) (g : ℕ) (draws : List (List Draw)) → sum_by (λ (m : Made). added_below parents g m.entry) (made_from id 0 by draws) ≡ 0
  drains_added parents g draws = sum_total (λ (m : Made). added_below parents g m.entry) (made_from id 0 by draws)
      ∙ (sum_all (λ (m : Made). added_below parents g m.entry) (λ (o : Object). 0) (λ place number items. sym (none_of items)) 0 draws ∙ none_of (drawn_from draws))

  own_serial : is_serial by by ≡ true
  own_serial = and_from _ _ (eq-eqb by.worker by.worker refl) (eq-eqb by.command by.command refl)

  pub drains_counted : (draws : List (List Draw)) → length (drawn_from draws) ≡ sum_by (λ (m : Made). drained_by by m.entry) (made_from id 0 by draws)
  drains_counted draws = one_of (drawn_from draws) ∙ (sym (sum_all (λ (m : Made). drained_by by m.entry) (λ (o : Object). 1) (λ place number items. ap (λ b. cond b (length items) 0) own_serial ∙ one_of items) 0 draws)
      ∙ sym (sum_total (λ (m : Made). drained_by by m.entry) (made_from id 0 by draws)))
