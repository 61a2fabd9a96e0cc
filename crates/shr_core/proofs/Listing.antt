-- SPDX-License-Identifier: GPL-2.0-only
-- The family of journals keeps its part of the rule.
use Rattle.shr_core.proofs.Common.{◌≡◌, ◌⊎◌, ℕ, ◌+◌, ◌<◌, ◌≤◌, ◌≢◌, Bool, true, false, List, [], ◌∷◌, ◌++◌, length, take, set, sym, refl, ap, subst, ◌∙◌, inl, inr, ⊎_elim, arith, length-append, append-nil, take_all, none-some, Contains, Option, Some, None, dite, ℕ_discrete, some, some-injective, get_elem?, at_set, Object, Entry, Add, Look, Drop, Pin, Scan, MovedIn, Closed, Drained, place_number, IsTree, parent_of, is_child, step, IsOutcome, is_closed, is_closing, HasJournal, moved_in, MayStand, IsAllowed, Has_from_Contains, Contains_from_Has, child_takes, total, total_same, total-set, total-append, total_join, term_le, Each-set, Each-push, Each-join, Each-one, Each-none, some_term, Shape, View, Hand, Holding, no_rooms, place_id, node_of, group_of, place_at, beside, above, Journals, Histories, half_of, has_room, is_room, AreLists, AreBorn, items_now, only_some, in_hand, moved_in_hand, slice_get_cases, dec_le, at_group, items_from, before_closed, lists_moved_at, items_at, items_of, items_given, moved_by, IsLegal, Has, child_higher, family_of, IsHalfSpliced}
use Rattle.shr_core.proofs.Options.{some_or_not, not_some, one_some, only_some_yes, only_some_no, only_none, only_some_is}
use Rattle.shr_model.proofs.FamilyLaws.{items_stay, legal_stays, items_after, legal_after, given_open, before_open, closed_push, push_has, has_push, has_pushed, legal_none, items_none}
use Rattle.shr_core.proofs.Births.{IsBornIn, step_born}
use Rattle.shr_model.proofs.ItemsLaws.{closing_is}

-- the rooms in hand change, and those that a half needs stay
pub rooms_change : (parents : List ℕ) (now : Journals) (after : Histories) (hs : List Holding) (id : ℕ) (v w : Holding) → get_elem? hs id ≡ some v → w.half ≡ v.half → ((k : ℕ) → v.half ≡ Some k → IsHalfSpliced parents now v k → (0 < has_room k w) × (0 < has_room (above parents k) w)) → AreLists parents now after hs → AreLists parents now after (set hs id w)
rooms_change parents now after hs id v w at same keep o = record {
  items = o.items;
  births = o.births;
  legal = o.legal;
  closed = o.closed;
  taken = λ k below near there. ⊎_elim inl (λ h. inr (omega (arith, h, total_same (half_of k) hs id v w at (ap (only_some k) same)))) (o.taken k below near there);
  halves = Each-set (λ h. (k : ℕ) → h.half ≡ Some k → IsHalfSpliced parents now h k) hs id w (λ k e. let q = o.halves id v at k (sym same ∙ e) in
      record { below_root = q.below_root; group = q.group; own = (keep k (sym same ∙ e) q).0; parent = (keep k (sym same ∙ e) q).1; child = q.child; taken = q.taken }) o.halves;
}

-- one more seat
pub more : (parents : List ℕ) (now : Journals) (after : Histories) (hs : List Holding) → AreLists parents now after hs → AreLists parents now after (hs ++ no_rooms ∷ [])
more parents now after hs o = record {
  items = o.items;
  births = o.births;
  legal = o.legal;
  closed = o.closed;
  taken = λ k below near there. ⊎_elim inl (λ h. inr (omega (arith, h, total-append (half_of k) hs (no_rooms ∷ [])))) (o.taken k below near there);
  halves = Each-push (λ h. (k : ℕ) → h.half ≡ Some k → IsHalfSpliced parents now h k) hs no_rooms (λ k e. absurd (none-some k e)) o.halves;
}

-- a seat with no room in hand is joined away
pub joins : (parents : List ℕ) (now : Journals) (after : Histories) (hs : List Holding) (id other : ℕ) (v u : Holding) → get_elem? hs id ≡ some v → other ≢ id → get_elem? hs other ≡ some u → u.hands ≡ [] → AreLists parents now after hs → AreLists parents now after (set (set hs id v) other no_rooms)
joins parents now after hs id other v u at apart them none o = record {
  items = o.items;
  births = o.births;
  legal = o.legal;
  closed = o.closed;
  taken = λ k below near there. ⊎_elim inl
      (λ h. inr (omega (arith, h, total_join (half_of k) hs id other v u v no_rooms at apart them, no_half k)))
      (o.taken k below near there);
  halves = Each-join (λ h. (k : ℕ) → h.half ≡ Some k → IsHalfSpliced parents now h k) hs id other v no_rooms (o.halves id v at) (λ k e. absurd (none-some k e)) o.halves;
} where
  no_half : (k : ℕ) → half_of k u ≡ 0
  no_half k = dite (some_or_not k u.half) (λ e. let q = o.halves other u them k e in absurd (omega (arith, q.own, ap (λ (l : List Hand). total (is_room k) l) none))) (λ n. only_some_no k u.half n)

-- empty journals
pub opens : (parents : List ℕ) → AreLists parents (λ _. []) (λ _ _. []) (no_rooms ∷ [])
opens parents = record {
  items = λ k n h. sym (items_none parents (family_of (λ _. [])) (place_at k) n refl);
  births = λ k n h. Each-none (λ (x : Object). x.birth < length parents);
  legal = λ k. legal_none parents (family_of (λ _. [])) (place_at k) refl;
  closed = λ k below near e. absurd (false_true e);
  taken = λ k below near there. absurd (omega (arith, there.1));
  halves = Each-one (λ h. (k : ℕ) → h.half ≡ Some k → IsHalfSpliced parents (λ _. []) h k) no_rooms (λ k e. absurd (none-some k e));
} where
  false_true : false ≡ true → ⊥
  false_true e = cc

-- the number of a place is its number
pub back : (k : ℕ) → place_number (place_at k) ≡ k
back k = omega arith

-- the items of a place are those that its journal leaves
pub journal_here : (parents : List ℕ) (now : Journals) (after : Histories) (hands : List Holding) → AreLists parents now after hands → (k : ℕ) → HasJournal (now k) (after k (length (now k)))
journal_here parents now after hands o k =
    let journal = family_of now (place_at k) in
    let moved = lists_moved_at parents (family_of now) (place_at k) in
    let here : journal ≡ now k = ap now (back k) in
    let whole : take (length (now k)) journal ≡ journal = take_all (length (now k)) journal (omega (arith, ap (λ (l : List Entry). length l) here)) in
    let left : items_from moved [] journal ≡ after k (length (now k)) = sym (o.items k (length (now k)) (omega arith) ∙ ap (λ (l : List Entry). items_from moved [] l) whole) in
    subst (λ (l : List Entry). HasJournal l (after k (length (now k)))) here (
      moved,
      record {
        left = left;
        outcomes = (o.legal k).outcomes;
        ended = λ n low. ⊎_elim (λ at. ((o.legal k).stands n at.0 at.2).«open») (λ past. absurd (omega (arith, low, past.0))) (slice_get_cases journal n).1;
      },
    )

-- what an entry says of the splice under way
pub record Splice (k : ℕ) (half half' : Option ℕ) (e : Entry) : Type 0 where
  -- a seat with a half stores nothing there but the child's Closed
  pub closing : (child : ℕ) → half ≡ Some child → k ≡ child → e ≡ Closed
  -- the half after the entry is that of before, or a MovedIn's, or ended by a Closed
  pub kept : ((c objects : ℕ) → e ≡ MovedIn c objects → ⊥) → (e ≡ Closed → ⊥) → half' ≡ half
  pub begun : (c objects : ℕ) → e ≡ MovedIn c objects → (half ≡ None) × (half' ≡ Some (beside k c))
  pub ended : e ≡ Closed → (half ≡ Some k) × (half' ≡ None)

-- an entry is a MovedIn, a Closed or another one
pub data Kind (e : Entry) : Type 0 where
  moving : (c objects : ℕ) → e ≡ MovedIn c objects → Kind e
  closing : e ≡ Closed → Kind e
  other : ((c objects : ℕ) → e ≡ MovedIn c objects → ⊥) → (e ≡ Closed → ⊥) → Kind e

abbrev tag : Entry → ℕ
tag (Add by birth added key value) = 0
tag (Look by birth key hit) = 0
tag (Drop by birth key kind) = 0
tag (Pin by birth key pinned hit) = 0
tag (Scan worker walk asked policy visits freed stopped) = 0
tag (MovedIn child objects) = 1
tag Closed = 2
tag (Drained by objects) = 0

plain : (e : Entry) → tag e ≡ 0 → Kind e
plain e z = other (λ c objects is. omega (arith, z, ap tag is)) (λ is. omega (arith, z, ap tag is))

-- each entry is a MovedIn, a Closed or another
pub kind_of : (e : Entry) → Kind e
kind_of (Add by birth added key value) = plain (Add by birth added key value) refl
kind_of (Look by birth key hit) = plain (Look by birth key hit) refl
kind_of (Drop by birth key kind) = plain (Drop by birth key kind) refl
kind_of (Pin by birth key pinned hit) = plain (Pin by birth key pinned hit) refl
kind_of (Scan worker walk asked policy visits freed stopped) = plain (Scan worker walk asked policy visits freed stopped) refl
kind_of (MovedIn child objects) = moving child objects refl
kind_of Closed = closing refl
kind_of (Drained by objects) = plain (Drained by objects) refl

-- an entry that is no MovedIn moves nothing, whatever the children give
moves_nothing : (took : ℕ → List Object) (v : View) (k : ℕ) (e : Entry) → ((c objects : ℕ) → e ≡ MovedIn c objects → ⊥) → moved_in_hand v k e ≡ moved_by took e
moves_nothing took v k (Add by birth added key value) n = refl
moves_nothing took v k (Look by birth key hit) n = refl
moves_nothing took v k (Drop by birth key kind) n = refl
moves_nothing took v k (Pin by birth key pinned hit) n = refl
moves_nothing took v k (Scan worker walk asked policy visits freed stopped) n = refl
moves_nothing took v k (MovedIn child objects) n = absurd (n child objects refl)
moves_nothing took v k Closed n = refl
moves_nothing took v k (Drained by objects) n = refl

by_none : (e : Entry) → moved_by (λ _. []) e ≡ []
by_none (Add by birth added key value) = refl
by_none (Look by birth key hit) = refl
by_none (Drop by birth key kind) = refl
by_none (Pin by birth key pinned hit) = refl
by_none (Scan worker walk asked policy visits freed stopped) = refl
by_none (MovedIn child objects) = refl
by_none Closed = refl
by_none (Drained by objects) = refl

not_both : (b : Bool) → b ≡ false → b ≡ true → ⊥
not_both b f t = let e : false ≡ true = sym f ∙ t in cc

-- what is known of a store at the place k
pub record Stored (shape : Shape) (now now' : Journals) (after after' : Histories) (hs : List Holding) (id k : ℕ) (v : View) (e : Entry) (items : List Object) (half' : Option ℕ) : Type 0 where
  pub tree : IsTree shape.parents.items
  pub short : length shape.parents.items ≤ 256
  pub at : get_elem? hs id ≡ some v.holding
  pub alone : (j : ℕ) (u : Holding) → get_elem? hs j ≡ some u → 0 < has_room k u → j ≡ id
  pub group : group_of k < length shape.parents.items
  pub grows : now' k ≡ now k ++ e ∷ []
  pub others : (j : ℕ) → j ≢ k → now' j ≡ now j
  pub same : (j n : ℕ) → n ≤ length (now j) → after' j n ≡ after j n
  pub new : after' k (length (now k) + 1) ≡ items
  pub stands : MayStand shape.parents.items (group_of k) (now k) e
  pub outcome : IsOutcome (moved_in_hand v k e) (items_now now after k) e
  pub left : items ≡ step (moved_in_hand v k e) (items_now now after k) e
  pub born : IsBornIn (length shape.parents.items) e
  pub child : (c objects : ℕ) → e ≡ MovedIn c objects → ((in_hand v (beside k c)).items ≡ items_now now after (beside k c)) × (0 < has_room (beside k c) v.holding) × (is_closed (now (beside k c)) ≡ false)
  pub splice : Splice k v.holding.half half' e
  pub unspliced : (c : ℕ) → v.holding.half ≡ Some c → (k ≢ c) ⊎ (e ≡ Closed)
  pub beneath : (c : ℕ) → v.holding.half ≡ Some c → ((e ≡ Closed → ⊥) → k ≢ above shape.parents.items c)
  pub has : 0 < has_room k v.holding

module _ (shape : Shape) (now now' : Journals) (after after' : Histories) (hs : List Holding) (id k : ℕ) (v : View) (e : Entry) (items : List Object) (half' : Option ℕ) (s : Stored shape now now' after after' hs id k v e items half') (o : AreLists shape.parents.items now after hs) where
  parents : List ℕ
  parents = shape.parents.items

  -- where the list of k was taken in, k is only closed now
  taken_in : 0 < group_of k → Has (moved_in (now (above shape.parents.items k))) (group_of k) → e ≡ Closed
  taken_in below there = ⊎_elim (λ c. absurd (not_both (is_closed (now k)) s.stands.«open» c))
      (λ h. let t = some_term (half_of k) hs h in let u : Holding = t.1 in let is : u.half ≡ Some k = only_some_is k u.half t.3 in
      let q = o.halves t.0 u t.2 k is in let me = s.alone t.0 u t.2 q.own in
      let mine : u ≡ v.holding = some-injective u v.holding (sym t.2 ∙ (ap (get_elem? hs) me ∙ s.at)) in
      s.splice.closing k (ap (λ (x : Holding). x.half) (sym mine) ∙ is) refl)
      (o.taken k below s.group (Contains_from_Has (moved_in (now (above shape.parents.items k))) (group_of k) there))

  -- the lists of children that were taken in stay
  fixed : (j g c : ℕ) → is_child shape.parents.items g c ≡ true → Has (moved_in (family_of now (at_group (place_at j) g))) c → before_closed (family_of now' (at_group (place_at j) c)) ≡ before_closed (family_of now (at_group (place_at j) c))
  fixed j g c is there = let child = child_takes shape.parents.items g c is in let x : ℕ = place_number (at_group (place_at j) c) in dite (ℕ_discrete x k)
      (λ d. let small : c < 256 = omega (arith, child.there, s.short) in let low : g < c = child_higher shape.parents.items g c s.tree child in
      let group : group_of k ≡ c = omega (arith, d, small) in
      let up : above shape.parents.items k ≡ place_number (at_group (place_at j) g) = omega (arith, d, small, ap (parent_of shape.parents.items) group, child.parent) in
      let closes : e ≡ Closed = taken_in (omega (arith, group, low)) (subst (Has (moved_in (now (above shape.parents.items k)))) (sym group) (subst (λ (y : ℕ). Has (moved_in (now y)) c) (sym up) there)) in
      ap (λ (y : ℕ). before_closed (now' y)) d ∙ (ap before_closed (s.grows ∙ ap (λ (y : Entry). now k ++ y ∷ []) closes) ∙ (before_open (now k) s.stands.«open» ∙ ap (λ (y : ℕ). before_closed (now y)) (sym d))))
      (λ n. ap before_closed (s.others x n))

  -- journals of higher groups stay
  higher : (c : ℕ) → group_of k < c → family_of now' (at_group (place_at k) c) ≡ family_of now (at_group (place_at k) c)
  higher c up = s.others (place_number (at_group (place_at k) c)) (λ d. omega (arith, d, up))

  here_grows : family_of now' (place_at k) ≡ family_of now (place_at k) ++ e ∷ []
  here_grows = subst (λ (x : ℕ). now' x ≡ now x ++ e ∷ []) (sym (back k)) s.grows

  here_stands : MayStand shape.parents.items (group_of k) (family_of now (place_at k)) e
  here_stands = subst (λ (x : ℕ). MayStand shape.parents.items (group_of k) (now x) e) (sym (back k)) s.stands

  -- the items of a place now are those of its family
  items_are : (j : ℕ) → items_now now after j ≡ items_of shape.parents.items (family_of now) (place_at j)
  items_are j = let es : List Entry = family_of now (place_at j) in o.items j (length (now j)) (omega arith)
      ∙ (ap (λ (l : List Entry). items_from (lists_moved_at shape.parents.items (family_of now) (place_at j)) [] l) (ap (λ (x : ℕ). take (length (now j)) (now x)) (back j) ∙ take_all (length (now j)) (now j) (omega arith))
      ∙ ap (λ (x : ℕ). items_from (lists_moved_at shape.parents.items (family_of now) (place_at j)) [] (now x)) (sym (back j)))

  -- what the entry moves is what the child gives
  moved : moved_in_hand v k e ≡ moved_by (items_given shape.parents.items (family_of now) (place_at k)) e
  moved = by_kind (kind_of e) where
    by_kind : Kind e → moved_in_hand v k e ≡ moved_by (items_given shape.parents.items (family_of now) (place_at k)) e
    by_kind (moving c objects is) = let t = s.child c objects is in let allowed = subst (IsAllowed shape.parents.items (group_of k) (now k)) is s.stands.allowed in
        let child = child_takes shape.parents.items (group_of k) c allowed.0 in let small : c < 256 = omega (arith, child.there, s.short) in
        let q : ℕ = beside k c in let same : place_number (at_group (place_at k) c) ≡ q = omega arith in
        let place : at_group (place_at k) c ≡ place_at q = λ i. record { id = (let d : place_id k ≡ place_id q = omega (arith, small) in d) i; node = (let d : node_of k ≡ node_of q = omega (arith, small) in d) i; group = (let d : c ≡ group_of q = omega (arith, small) in d) i } in
        ap (moved_in_hand v k) is ∙ (t.0 ∙ (items_are q ∙ (ap (items_of shape.parents.items (family_of now)) (sym place)
        ∙ (sym (given_open shape.parents.items s.tree (family_of now) (place_at k) (group_of k) c allowed.0 (ap (λ (x : ℕ). is_closed (now x)) same ∙ t.2)) ∙ ap (moved_by (items_given shape.parents.items (family_of now) (place_at k))) (sym is)))))
    by_kind (closing is) = moves_nothing (items_given shape.parents.items (family_of now) (place_at k)) v k e (λ c objects d. omega (arith, ap tag is, ap tag d))
    by_kind (other n m) = moves_nothing (items_given shape.parents.items (family_of now) (place_at k)) v k e n

  outcome_here : IsOutcome (moved_by (items_given shape.parents.items (family_of now) (place_at k)) e) (items_of shape.parents.items (family_of now) (place_at k)) e
  outcome_here = subst (λ (m : List Object). IsOutcome m (items_of shape.parents.items (family_of now) (place_at k)) e) moved (subst (λ (l : List Object). IsOutcome (moved_in_hand v k e) l e) (items_are k) s.outcome)

  items_stay_at : (j n : ℕ) → n ≤ length (now j) → after' j n ≡ items_at shape.parents.items (family_of now') (place_at j) n
  items_stay_at j n below = s.same j n below ∙ (o.items j n below ∙ sym (dite (ℕ_discrete j k)
      (λ d. items_stay shape.parents.items (family_of now) (family_of now') (place_at j) (fixed j) (group_of j) n (e ∷ []) (subst (λ (x : ℕ). family_of now' (place_at x) ≡ family_of now (place_at x) ++ e ∷ []) (sym d) here_grows) (omega (arith, below, ap (λ (x : ℕ). length (now x)) (back j))))
      (λ m. items_stay shape.parents.items (family_of now) (family_of now') (place_at j) (fixed j) (group_of j) n [] (s.others (place_number (place_at j)) (λ d. m (omega (arith, d, back j))) ∙ sym (append-nil (family_of now (place_at j)))) (omega (arith, below, ap (λ (x : ℕ). length (now x)) (back j))))))

  longer : length (now' k) ≡ length (now k) + 1
  longer = ap (λ (l : List Entry). length l) s.grows ∙ length-append (now k) (e ∷ [])

  -- a number past a journal's old length is that of the new entry
  gained : (j n : ℕ) → n ≤ length (now' j) → (n ≤ length (now j) → ⊥) → (j ≡ k) × (n ≡ length (now k) + 1)
  gained j n below high = let d : j ≡ k = dite (ℕ_discrete j k) (λ q. q) (λ m. absurd (high (omega (arith, below, ap (λ (l : List Entry). length l) (s.others j m))))) in
      (d, dite (ℕ_discrete n (length (now k) + 1)) (λ q. q) (λ m. absurd (high (omega (arith, m, below, longer, ap (λ (x : ℕ). length (now' x)) d, ap (λ (x : ℕ). length (now x)) d)))))

  -- each list has what its journal leaves, after the store too
  pub items_next_at : (j n : ℕ) → n ≤ length (now' j) → after' j n ≡ items_at shape.parents.items (family_of now') (place_at j) n
  items_next_at j n below = dite (dec_le n (length (now j))) (items_stay_at j n)
      (λ high. let d = gained j n below high in
      subst (λ (x : ℕ). after' x n ≡ items_at shape.parents.items (family_of now') (place_at x) n) (sym d.0) (subst (λ (x : ℕ). after' k x ≡ items_at shape.parents.items (family_of now') (place_at k) x) (sym d.1) last_items)) where
        whole : items_at shape.parents.items (family_of now') (place_at k) (length (now k) + 1) ≡ items_of shape.parents.items (family_of now') (place_at k)
        whole = ap (λ (l : List Entry). items_from (lists_moved_at shape.parents.items (family_of now') (place_at k)) [] l) (take_all (length (now k) + 1) (family_of now' (place_at k)) (omega (arith, longer, ap (λ (x : ℕ). length (now' x)) (back k))))

        stepped : step (moved_in_hand v k e) (items_now now after k) e ≡ items_of shape.parents.items (family_of now') (place_at k)
        stepped = ap (λ (l : List Object). step (moved_in_hand v k e) l e) (items_are k) ∙ (ap (λ (m : List Object). step m (items_of shape.parents.items (family_of now) (place_at k)) e) moved
            ∙ sym (items_after shape.parents.items s.tree (family_of now) (family_of now') (place_at k) (group_of k) e (fixed k) higher here_grows here_stands))

        last_items : after' k (length (now k) + 1) ≡ items_at shape.parents.items (family_of now') (place_at k) (length (now k) + 1)
        last_items = s.new ∙ (s.left ∙ (stepped ∙ sym whole))

  -- what the entry moves is born in groups
  moved_born : AreBorn (length shape.parents.items) (moved_in_hand v k e)
  moved_born = by_kind (kind_of e) where
    by_kind : Kind e → AreBorn (length shape.parents.items) (moved_in_hand v k e)
    by_kind (moving c objects is) = let q : ℕ = beside k c in subst (λ (x : Entry). AreBorn (length shape.parents.items) (moved_in_hand v k x)) (sym is)
        (subst (AreBorn (length shape.parents.items)) (sym (s.child c objects is).0) (o.births q (length (now q)) (omega arith)))
    by_kind (closing is) = subst (AreBorn (length shape.parents.items)) (sym (moves_nothing (λ _. []) v k e (λ c objects d. omega (arith, ap tag is, ap tag d)) ∙ by_none e)) (Each-none (λ (x : Object). x.birth < length shape.parents.items))
    by_kind (other n m) = subst (AreBorn (length shape.parents.items)) (sym (moves_nothing (λ _. []) v k e n ∙ by_none e)) (Each-none (λ (x : Object). x.birth < length shape.parents.items))

  -- and each item is born in a group
  pub births_next_at : (j n : ℕ) → n ≤ length (now' j) → AreBorn (length shape.parents.items) (after' j n)
  births_next_at j n below = dite (dec_le n (length (now j))) (λ low. subst (AreBorn (length shape.parents.items)) (sym (s.same j n low)) (o.births j n low))
      (λ high. let d = gained j n below high in subst (λ (x : ℕ). AreBorn (length shape.parents.items) (after' x n)) (sym d.0)
      (subst (λ (x : ℕ). AreBorn (length shape.parents.items) (after' k x)) (sym d.1)
      (subst (AreBorn (length shape.parents.items)) (sym (s.new ∙ s.left)) (step_born (length shape.parents.items) (moved_in_hand v k e) (items_now now after k) e s.born moved_born (o.births k (length (now k)) (omega arith))))))

  -- and each journal is legal
  pub legal_next_at : (j : ℕ) → IsLegal shape.parents.items (family_of now') (place_at j)
  legal_next_at j = dite (ℕ_discrete j k)
      (λ d. subst (λ (x : ℕ). IsLegal shape.parents.items (family_of now') (place_at x)) (sym d) (legal_after shape.parents.items s.tree (family_of now) (family_of now') (place_at k) (group_of k) e (fixed k) higher here_grows here_stands s.group outcome_here (o.legal k)))
      (λ m. legal_stays shape.parents.items (family_of now) (family_of now') (place_at j) (fixed j) (group_of j) (s.others (place_number (place_at j)) (λ d. m (omega (arith, d, back j)))) (o.legal j))

  -- a place that gained no entry is closed where it was
  closed_stays : (j : ℕ) → j ≢ k → is_closed (now' j) ≡ is_closed (now j)
  closed_stays j m = ap is_closed (s.others j m)

  -- the parent's place is another one
  apart : (j : ℕ) → 0 < group_of j → group_of j < length shape.parents.items → above shape.parents.items j ≢ j
  apart j below near d = let low = s.tree.lower (group_of j) below near in omega (arith, d, low, near, s.short)

  -- what a parent took in, it still has
  has_still : (j c : ℕ) → Has (moved_in (now j)) c → Has (moved_in (now' j)) c
  has_still j c there = dite (ℕ_discrete j k) (λ d. subst (λ (l : List Entry). Has (moved_in l) c) (sym (ap now' d ∙ s.grows)) (has_push (now k) e c (subst (λ (x : ℕ). Has (moved_in (now x)) c) d there))) (λ m. subst (λ (l : List Entry). Has (moved_in l) c) (sym (s.others j m)) there)

  -- a list that is closed then was moved into its parent's
  pub closed_next : (j : ℕ) → 0 < group_of j → group_of j < length shape.parents.items → is_closed (now' j) ≡ true → Contains (moved_in (now' (above shape.parents.items j))) (group_of j)
  closed_next j below near closed = Contains_from_Has (moved_in (now' (above shape.parents.items j))) (group_of j) (has_still (above shape.parents.items j) (group_of j) (dite (ℕ_discrete j k)
      (λ d. let closes : e ≡ Closed = closing_is e (sym (closed_push (now k) e s.stands.«open») ∙ (ap is_closed (sym s.grows) ∙ (ap (λ (x : ℕ). is_closed (now' x)) (sym d) ∙ closed))) in
      let h = s.splice.ended closes in let q = o.halves id v.holding s.at k h.0 in
      subst (λ (x : ℕ). Has (moved_in (now (above shape.parents.items x))) (group_of x)) (sym d) (Has_from_Contains (moved_in (now (above shape.parents.items k))) (group_of k) q.taken))
      (λ m. Has_from_Contains (moved_in (now (above shape.parents.items j))) (group_of j) (o.closed j below near (sym (closed_stays j m) ∙ closed)))))

  -- what a closed list is after the entry
  closed_still : (j : ℕ) → is_closed (now j) ≡ true → is_closed (now' j) ≡ true
  closed_still j closed = dite (ℕ_discrete j k) (λ d. absurd (not_both (is_closed (now k)) s.stands.«open» (subst (λ (x : ℕ). is_closed (now x) ≡ true) d closed))) (λ m. closed_stays j m ∙ closed)

  module _ (w : Holding) (half-is : w.half ≡ half') (rooms : (r : ℕ) → has_room r w ≡ has_room r v.holding) where
    hs' : List Holding
    hs' = set hs id w

    -- a splice that was under way is so still, or its child is closed
    half_still : (j : ℕ) → 0 < total (half_of j) hs → (is_closed (now' j) ≡ true) ⊎ (0 < total (half_of j) (set hs id w))
    half_still j some-half = let moved = total-set (half_of j) hs id v.holding w s.at in dite (some_or_not j v.holding.half)
        (λ mine. by_kind (kind_of e) mine)
        (λ n. inr (omega (arith, some-half, moved, only_some_no j v.holding.half n))) where
          by_kind : Kind e → v.holding.half ≡ Some j → (is_closed (now' j) ≡ true) ⊎ (0 < total (half_of j) (set hs id w))
          by_kind (moving c objects is) mine = absurd (not_some j v.holding.half (s.splice.begun c objects is).0 mine)
          by_kind (closing is) mine = let t = s.splice.ended is in let d : j ≡ k = one_some j k v.holding.half mine t.0 in inl (subst (λ (x : ℕ). is_closed (now' x) ≡ true) (sym d) (ap is_closed s.grows ∙ (closed_push (now k) e s.stands.«open» ∙ ap is_closing is)))
          by_kind (other n m) mine = let same : w.half ≡ v.holding.half = half-is ∙ s.splice.kept n m in inr (omega (arith, some-half, total-set (half_of j) hs id v.holding w s.at, ap (only_some j) same))

    -- and one that was moved in is closed, or the storing seat is amid the splice
    pub taken_next : (j : ℕ) → 0 < group_of j → group_of j < length shape.parents.items → Contains (moved_in (now' (above shape.parents.items j))) (group_of j) → (is_closed (now' j) ≡ true) ⊎ (0 < total (half_of j) (set hs id w))
    taken_next j below near there = let a : ℕ = above shape.parents.items j in let old : Has (moved_in (now a)) (group_of j) → (is_closed (now' j) ≡ true) ⊎ (0 < total (half_of j) (set hs id w)) =
        λ h. ⊎_elim (λ c. inl (closed_still j c)) (half_still j) (o.taken j below near (Contains_from_Has (moved_in (now a)) (group_of j) h)) in dite (ℕ_discrete a k)
        (λ d. ⊎_elim (λ h. old (subst (λ (x : ℕ). Has (moved_in (now x)) (group_of j)) (sym d) h))
        (λ t. let b = s.splice.begun (group_of j) t.0 t.1 in let place : beside k (group_of j) ≡ j = omega (arith, d) in let is : w.half ≡ Some j = half-is ∙ (b.1 ∙ ap (λ (x : ℕ). Some x) place) in inr (omega (arith, total-set (half_of j) hs id v.holding w s.at, term_le (half_of j) hs id v.holding s.at, only_some_yes j w.half is, only_none j v.holding.half b.0)))
        (push_has (now k) e (group_of j) (subst (λ (l : List Entry). Has (moved_in l) (group_of j)) (ap now' d ∙ s.grows) (Has_from_Contains (moved_in (now' a)) (group_of j) there))))
        (λ m. old (subst (λ (l : List Entry). Has (moved_in l) (group_of j)) (s.others a m) (Has_from_Contains (moved_in (now' a)) (group_of j) there)))

    -- a splice whose two places gained nothing
    half_stays : (j : ℕ) (u x : Holding) → j ≢ k → above shape.parents.items j ≢ k → ((r : ℕ) → has_room r x ≡ has_room r u) → IsHalfSpliced shape.parents.items now u j → IsHalfSpliced shape.parents.items now' x j
    half_stays j u x m n same q = record { below_root = q.below_root; group = q.group; own = omega (arith, q.own, same j); parent = omega (arith, q.parent, same (above shape.parents.items j)); child = closed_stays j m ∙ q.child; taken = subst (λ (l : List Entry). Contains (moved_in l) (group_of j)) (sym (s.others (above shape.parents.items j) n)) q.taken }

    own_half : (j : ℕ) → w.half ≡ Some j → IsHalfSpliced shape.parents.items now' w j
    own_half j is = by_kind (kind_of e) where
      by_kind : Kind e → IsHalfSpliced shape.parents.items now' w j
      by_kind (moving c objects f) = let b = s.splice.begun c objects f in let t = s.child c objects f in let allowed = subst (IsAllowed shape.parents.items (group_of k) (now k)) f s.stands.allowed in let child = child_takes shape.parents.items (group_of k) c allowed.0 in
          let low : group_of k < c = child_higher shape.parents.items (group_of k) c s.tree child in let small : c < 256 = omega (arith, child.there, s.short) in
          let d : j ≡ beside k c = one_some j (beside k c) w.half is (half-is ∙ b.1) in let group : group_of j ≡ c = omega (arith, d, small) in
          let up : above shape.parents.items j ≡ k = omega (arith, d, small, ap (parent_of shape.parents.items) group, child.parent) in record {
            below_root = omega (arith, group, low);
            group = omega (arith, group, child.there);
            own = omega (arith, rooms j, t.1, ap (λ (x : ℕ). has_room x v.holding) d);
            parent = omega (arith, rooms k, s.has, ap (λ (x : ℕ). has_room x w) up);
            child = closed_stays j (λ x. omega (arith, x, group, low)) ∙ (ap (λ (x : ℕ). is_closed (now x)) d ∙ t.2);
            taken = Contains_from_Has (moved_in (now' (above shape.parents.items j))) (group_of j) (subst (λ (l : List Entry). Has (moved_in l) (group_of j)) (sym (ap now' up ∙ (s.grows ∙ ap (λ (y : Entry). now k ++ y ∷ []) f))) (subst (λ (x : ℕ). Has (moved_in (now k ++ MovedIn c objects ∷ [])) x) (sym group) (has_pushed (now k) c objects)));
          }
      by_kind (closing f) = absurd (not_some j w.half (half-is ∙ (s.splice.ended f).1) is)
      by_kind (other n m) = let mine : v.holding.half ≡ Some j = sym (s.splice.kept n m) ∙ (sym half-is ∙ is) in
          half_stays j v.holding w (λ d. ⊎_elim (λ q. q (sym d)) m (s.unspliced j mine)) (λ d. s.beneath j mine m (sym d)) rooms (o.halves id v.holding s.at j mine)

    -- so the lists meet the rule after the store of a count
    pub stores : AreLists shape.parents.items now' after' (set hs id w)
    stores = record {
      items = items_next_at;
      births = births_next_at;
      legal = legal_next_at;
      closed = closed_next;
      taken = taken_next;
      halves = λ a u at j is. ⊎_elim
          (λ (t : (a ≡ id) × (w ≡ u)). subst (λ (x : Holding). IsHalfSpliced shape.parents.items now' x j) t.1 (own_half j (ap (λ (x : Holding). x.half) t.1 ∙ is)))
          (λ (t : (a ≢ id) × (get_elem? hs a ≡ some u)). let q = o.halves a u t.1 j is in
          half_stays j u u (λ d. t.0 (s.alone a u t.1 (subst (λ (x : ℕ). 0 < has_room x u) d q.own))) (λ d. t.0 (s.alone a u t.1 (subst (λ (x : ℕ). 0 < has_room x u) d q.parent))) (λ r. refl) q)
          (at_set hs id a w u at);
    }
