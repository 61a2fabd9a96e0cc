-- SPDX-License-Identifier: GPL-2.0-only
-- The journals of the lists, of a report whose places are those that a finished core leaves.
use Rattle.shr_assemble.proofs.Common.{◌≡◌, ◌⊎◌, ◌≤◌, arith, content_of, within_of_valid, Shared, IsShared, ℕ, zero, suc, ◌+◌, ◌<◌, inl, inr, ⊎_elim, true, false, cond, List, [], ◌∷◌, ◌++◌, map, length, take, get_or, sym, refl, ap, subst, ◌∙◌, add-one, slice_get, Some, None, Contains, nat_lt, AllByRecursion, append-nil, take_all, map-append, Place, PlaceEnd, Entry, Object, IsTree, parent_of, is_child, is_closed, items_from, place_number, at_group, moved_in, before_closed, lists_moved_at, items_at, IsLegal, child_takes, Has, total, View, EndValue, end_value, place_ends, place_at, group_of, beside, IsLeft, Made, hit, items_now, back, place_back, Report, parents_of, journals_of, items_left, IsThere, Step, IsAmong, IsPrinted, AreRunJournals, all_made, some_at, IsPairedAt, items_stay, legal_stays, legal_none, places_in, node_of, above, family_of, slice_map, AreNumbersRising}
use Rattle.shr_assemble.proofs.ScriptGroups.{sized_of}
use Rattle.shr_base.specs.declared.ends.Closed.{Closed}
use Rattle.shr_core.specs.Ending.{ends_below}
use Rattle.shr_assemble.proofs.EndsPlaces.{below_or, among_below, printed_at, printed_none}

-- rising numbers from this one on
abbrev RisingFrom : ℕ → List ℕ → Type 0
RisingFrom n [] = Unit {0}
RisingFrom n (x ∷ xs) = (n ≤ x) × RisingFrom (x + 1) xs

rising_adjacent : (n : ℕ) (xs : List ℕ) → RisingFrom n xs → (k d : ℕ) → k + 1 < length xs → get_or xs k d < get_or xs (k + 1) d
rising_adjacent n [] h k d lt = absurd (omega arith)
rising_adjacent n (x ∷ []) h k d lt = absurd (omega arith)
rising_adjacent n (x ∷ y ∷ ys) h zero d lt = omega (arith, h.1.0)
rising_adjacent n (x ∷ y ∷ ys) h (suc k) d lt =
    let here : get_or (y ∷ ys) k d < get_or (y ∷ ys) (k + 1) d = rising_adjacent (x + 1) (y ∷ ys) h.1 k d (omega arith) in
    subst (λ (m : ℕ). get_or (y ∷ ys) k d < get_or (x ∷ y ∷ ys) m d) (sym (add-one (suc k))) (subst (λ (m : ℕ). get_or (y ∷ ys) k d < get_or (y ∷ ys) m d) (add-one k) here)

rising_snoc : (lo n : ℕ) (xs : List ℕ) → RisingFrom lo xs → AllByRecursion (λ m. m < n) xs → lo ≤ n → RisingFrom lo (xs ++ n ∷ [])
rising_snoc lo n [] h below le = (le, tt)
rising_snoc lo n (x ∷ xs) h below le = (h.0, rising_snoc (x + 1) n xs h.1 below.1 (omega (arith, below.0)))

below_snoc : (n : ℕ) (xs : List ℕ) → AllByRecursion (λ m. m < n) xs → AllByRecursion (λ m. m < suc n) (xs ++ n ∷ [])
below_snoc n [] h = (omega arith, tt)
below_snoc n (x ∷ xs) h = (omega (arith, h.0), below_snoc n xs h.1)

pub below_later : (n : ℕ) (xs : List ℕ) → AllByRecursion (λ m. m < n) xs → AllByRecursion (λ m. m < suc n) xs
below_later n [] h = tt
below_later n (x ∷ xs) h = (omega (arith, h.0), below_later n xs h.1)

abbrev number_of : EndValue → ℕ
number_of v = place_number v.place

abbrev Rises : ℕ → List ℕ → Type 0
Rises n ns = RisingFrom 0 ns × AllByRecursion (λ m. m < n) ns

rises_one : (k : ℕ) (es : List Entry) (os : List Object) (ns : List ℕ) → Rises k ns → Rises (suc k) (ns ++ map number_of (place_ends k es os))
rises_one k [] os ns h = subst (Rises (suc k)) (sym (append-nil ns)) (h.0, below_later k ns h.1)
rises_one k (e ∷ es) os ns h = subst (λ (m : ℕ). Rises (suc k) (ns ++ m ∷ [])) (sym (back k)) (rising_snoc 0 k ns h.0 h.1 (omega arith), below_snoc k ns h.1)

rises_below : (now : ℕ → List Entry) (items : ℕ → List Object) (n : ℕ) → Rises n (map number_of (ends_below n now items))
unfolding ends_below
rises_below now items zero = (tt, tt)
rises_below now items (suc n) = subst (Rises (suc n)) (sym (map-append number_of (ends_below n now items) (place_ends n (now n) (items n)))) (rises_one n (now n) (items n) (map number_of (ends_below n now items)) (rises_below now items n))

map_numbers : (es : List PlaceEnd) → map number_of (map end_value es) ≡ map (λ (end : PlaceEnd). place_number end.place) es
map_numbers [] = refl
map_numbers (e ∷ es) = ap (λ ns. place_number e.place ∷ ns) (map_numbers es)

not_closed : is_closed [] ≡ true → ⊥
not_closed h = let f : false ≡ true = h in cc

pub tree_of : (x : Shared) → IsShared x → IsTree (parents_of x.script)
tree_of x shared = (within_of_valid (content_of x.script) shared.script).tree

module _ (x : Shared) (shared : IsShared x) (r : Report) (v : View) (closed : Closed) (left : IsLeft x.core.setting v closed) (same : r.places.items ≡ closed.places.items) where
  parents : List ℕ
  parents = x.core.setting.shape.parents.items

  pub same_parents : x.core.setting.shape.parents.items ≡ parents_of x.script
  same_parents = shared.parents ∙ ap (λ t. t.parents) shared.tree

  few : length x.core.setting.shape.parents.items ≤ 256
  few = subst (λ (l : List ℕ). length l ≤ 256) (sym same_parents) (sized_of x shared).groups

  are : map end_value r.places.items ≡ ends_below (places_in x.core.setting.shape.ids) left.now (items_now left.now left.after)
  are = ap (map end_value) same ∙ left.places

  -- the journal of the place of a number
  pub by_number : (k : ℕ) → journals_of r (place_at k) ≡ left.now k
  by_number k = printed_at left.now (items_now left.now left.after) (places_in x.core.setting.shape.ids) r.places.items are (λ j some. (left.placed j some).place) k

  pub proper : (place : Place) → place.node < 4 → place.group < 256 → journals_of r place ≡ left.now (place_number place)
  proper place node group = ap (journals_of r) (sym (place_back place node group)) ∙ by_number (place_number place)

  no_number : (place : Place) → (4 ≤ place.node) ⊎ (256 ≤ place.group) → (k : ℕ) → place_at k ≡ place → ⊥
  no_number place far k e = ⊎_elim (λ h. let n : node_of k ≡ place.node = ap (λ p. p.node) e in omega (arith, h, n)) (λ h. let g : group_of k ≡ place.group = ap (λ p. p.group) e in omega (arith, h, g)) far

  pub improper : (place : Place) → (4 ≤ place.node) ⊎ (256 ≤ place.group) → journals_of r place ≡ []
  improper place far = printed_none left.now (items_now left.now left.after) (places_in x.core.setting.shape.ids) r.places.items are (λ j some. (left.placed j some).place) place (no_number place far)

  -- a place has a number, or no journal
  numbered : {P : Type 0} (place : Place) → (place.node < 4 → place.group < 256 → P) → ((4 ≤ place.node) ⊎ (256 ≤ place.group) → P) → P
  numbered place has never = ⊎_elim (λ n. ⊎_elim (λ g. has n g) (λ g. never (inr g)) (below_or place.group 256)) (λ n. never (inl n)) (below_or place.node 4)

  pub there_of : (k : ℕ) → 0 < length (left.now k) → IsThere x.script (place_at k)
  there_of k some = let inside = left.placed k some in let near = inside.place in let ids = shared.ids in let nodes = shared.nodes in let node = inside.node in record {
    id = omega (arith, near, ids);
    node = omega (arith, node, nodes);
    group = subst (λ (l : List ℕ). group_of k < length l) same_parents inside.group;
  }

  pub there : (place : Place) → 0 < length (journals_of r place) → IsThere x.script place
  there place some = numbered place
      (λ n g. subst (IsThere x.script) (place_back place n g) (there_of (place_number place) (subst (λ (l : List Entry). 0 < length l) (proper place n g) some)))
      (λ far. absurd (let none = ap (λ (l : List Entry). length l) (improper place far) in omega (arith, some, none)))

  -- the journals are those of the table where the groups are
  fixed : (k g c : ℕ) → is_child x.core.setting.shape.parents.items g c ≡ true → Has (moved_in (family_of left.now (at_group (place_at k) g))) c
      → before_closed (journals_of r (at_group (place_at k) c)) ≡ before_closed (family_of left.now (at_group (place_at k) c))
  fixed k g c is has = let child = (child_takes x.core.setting.shape.parents.items g c is).there in ap before_closed (proper (at_group (place_at k) c) (omega arith) (omega (arith, child, few)))

  own : (k : ℕ) → journals_of r (place_at k) ≡ family_of left.now (place_at k)
  own k = by_number k ∙ ap left.now (sym (back k))

  legal_at : (k : ℕ) → IsLegal (parents_of x.script) (journals_of r) (place_at k)
  legal_at k = subst (λ (ps : List ℕ). IsLegal ps (journals_of r) (place_at k)) same_parents
      (legal_stays x.core.setting.shape.parents.items (family_of left.now) (journals_of r) (place_at k) (fixed k) (group_of k) (own k) (left.legal k))

  pub legal : (place : Place) → IsLegal (parents_of x.script) (journals_of r) place
  legal place = numbered place (λ n g. subst (IsLegal (parents_of x.script) (journals_of r)) (place_back place n g) (legal_at (place_number place))) (λ far. legal_none (parents_of x.script) (journals_of r) place (improper place far))

  above_at : (k q : ℕ) → q < 256 → journals_of r (at_group (place_at k) q) ≡ left.now (beside k q)
  above_at k q lt = proper (at_group (place_at k) q) (omega arith) lt ∙ ap left.now (let e : place_number (at_group (place_at k) q) ≡ beside k q = omega arith in e)

  paired_at : v.holding.half ≡ None → (k : ℕ) → 0 < group_of k → group_of k < length x.core.setting.shape.parents.items → IsPairedAt x.core.setting.shape.parents.items (journals_of r) (place_at k)
  paired_at rests k some near =
      let tree : IsTree x.core.setting.shape.parents.items = subst IsTree (sym same_parents) (tree_of x shared) in
      let lower = tree.lower (group_of k) some near in
      let up : journals_of r (at_group (place_at k) (parent_of x.core.setting.shape.parents.items (group_of k))) ≡ left.now (above x.core.setting.shape.parents.items k) = above_at k (parent_of x.core.setting.shape.parents.items (group_of k)) (omega (arith, lower, near, few)) in (
        λ c. subst (λ (l : List Entry). Contains (moved_in l) (group_of k)) (sym up) (left.closed_in k some near (ap is_closed (sym (by_number k)) ∙ c)),
        λ c. ap is_closed (by_number k) ∙ left.taken k some near rests (subst (λ (l : List Entry). Contains (moved_in l) (group_of k)) up c),
      )

  pub paired : v.holding.half ≡ None → (place : Place) → 0 < place.group → place.group < length (parents_of x.script) → IsPairedAt (parents_of x.script) (journals_of r) place
  paired rests place some near = let small = (sized_of x shared).groups in ⊎_elim
      (λ n. let at : place_at (place_number place) ≡ place = place_back place n (omega (arith, near, small)) in let g : group_of (place_number place) ≡ place.group = ap (λ p. p.group) at in
      subst (IsPairedAt (parents_of x.script) (journals_of r)) at (subst (λ (ps : List ℕ). IsPairedAt ps (journals_of r) (place_at (place_number place))) same_parents
      (paired_at rests (place_number place) (omega (arith, some, g)) (subst (λ (l : List ℕ). group_of (place_number place) < length l) (sym same_parents) (subst (λ (m : ℕ). m < length (parents_of x.script)) (sym g) near)))))
      (λ n. (
        λ c. absurd (not_closed (ap is_closed (sym (improper place (inl n))) ∙ c)),
        λ c. absurd (none_in (subst (λ (l : List Entry). Contains (moved_in l) place.group) (improper (at_group place (parent_of (parents_of x.script) place.group)) (inl n)) c)),
      ))
      (below_or place.node 4) where
        none_in : {c : ℕ} → Contains (moved_in []) c → ⊥
        none_in h = let lt = h.1 in omega (arith, lt)

  -- the items after each entry are those that the journals leave
  pub items_stand : (k n : ℕ) → n ≤ length (left.now k) → left.after k n ≡ items_at (parents_of x.script) (journals_of r) (place_at k) n
  items_stand k n le =
      let ps = x.core.setting.shape.parents.items in
      let long : n ≤ length (family_of left.now (place_at k)) = let e = ap (λ (l : List Entry). length l) (ap left.now (back k)) in omega (arith, e, le) in
      let stay : items_at ps (journals_of r) (place_at k) n ≡ items_at ps (family_of left.now) (place_at k) n =
      items_stay ps (family_of left.now) (journals_of r) (place_at k) (fixed k) (group_of k) n [] (own k ∙ sym (append-nil (family_of left.now (place_at k)))) long in
      left.items k n le ∙ (sym stay ∙ ap (λ (qs : List ℕ). items_at qs (journals_of r) (place_at k) n) same_parents)

  pub items_same : (k : ℕ) → items_now left.now left.after k ≡ items_left x.script r (place_at k)
  items_same k = let ps = parents_of x.script in let n : ℕ = length (left.now k) in
      items_stand k n (omega arith)
      ∙ ap (λ (l : List Entry). items_from (lists_moved_at ps (journals_of r) (place_at k)) [] l) (ap (take n) (by_number k) ∙ (take_all n (left.now k) (omega arith) ∙ sym (by_number k)))

  pub printed : (n : ℕ) (end : PlaceEnd) → slice_get r.places.items n ≡ Some end → IsPrinted x.script r end
  printed n end at =
      let among : IsAmong (end_value end) (ends_below (places_in x.core.setting.shape.ids) left.now (items_now left.now left.after)) =
      subst (IsAmong (end_value end)) are (n, some_at (map end_value r.places.items) n (end_value end) (slice_map end_value r.places.items n end at)) in
      let b = among_below left.now (items_now left.now left.after) (places_in x.core.setting.shape.ids) (end_value end) among in
      record {
        there = subst (IsThere x.script) (sym b.place) (there_of b.k b.some_entry);
        entered = subst (λ (l : List Entry). 0 < length l) (sym b.entries) b.some_entry;
        entries = b.entries ∙ (sym (by_number b.k) ∙ ap (journals_of r) (sym b.place));
        items = b.items_are ∙ (items_same b.k ∙ ap (items_left x.script r) (sym b.place));
      }

  pub order : AreNumbersRising (map (λ (end : PlaceEnd). place_number end.place) r.places.items)
  order k d lt = let numbers : map (λ (end : PlaceEnd). place_number end.place) r.places.items ≡ map number_of (ends_below (places_in x.core.setting.shape.ids) left.now (items_now left.now left.after)) = sym (map_numbers r.places.items) ∙ ap (map number_of) are in
      subst (λ (ns : List ℕ). get_or ns k d < get_or ns (k + 1) d) (sym numbers)
      (rising_adjacent 0 _ (rises_below left.now (items_now left.now left.after) (places_in x.core.setting.shape.ids)).0 k d (subst (λ (ns : List ℕ). k + 1 < length ns) numbers lt))

  -- the journals are those of a run whose steps made what the view made
  pub journals : v.holding.half ≡ None → (workers : List (List Step)) → v.traces.made ≡ all_made workers → AreRunJournals x.script r workers
  journals rests workers made = record {
    parents = tree_of x shared;
    there = there;
    legal = legal;
    paired = paired rests;
    printed = printed;
    order = order;
    once = λ k n. ap (λ (l : List Made). total (hit k n) l) (sym made) ∙ (left.once k n ∙ ap (λ (es : List Entry). cond (nat_lt n (length es)) 1 0) (sym (by_number k)));
  }
