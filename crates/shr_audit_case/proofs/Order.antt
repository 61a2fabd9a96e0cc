-- SPDX-License-Identifier: GPL-2.0-only
-- Lists in the order of their places.
use Rattle.shr_audit_case.proofs.Common.{◌≡◌, ◌≢◌, ℕ, zero, suc, ◌+◌, ◌-◌, ◌<◌, ◌≤◌, Bool, true, false, List, length, get_or, refl, sym, ap, subst, ◌∙◌, ◌⊎◌, inl, inr, arith, ◌==◌, nat_lt, slice_get, Some, None, Decides, get_or_from_slice_get, slice_get-get_or, slice_get_within, cases_Bool, cases_order, and_parts, eqb-true, ltb-true, Place, PlaceEnd, IsPlaceBefore, IsPlaceUpTo, AreInOrder, IsFirst, comes_before, end_printed, ◌&&◌, ◌||◌, and_from, eq-eqb, lt-ltb, IsBefore}
use Rattle.std.specs.List.Sorted.{IsPartitionedBy}
use Rattle.shr_audit_case.proofs.Firsts.{none_found}
use Rattle.shr_report.proofs.Reading.{either}
use Rattle.std.proofs.lemmas.Bool.{or_left, or_right}

-- the test says what it is named after
pub before_from_test : (p q : Place) → comes_before p q ≡ true → IsPlaceBefore p q
before_from_test p q e = by_id (either (nat_lt p.id q.id) ((p.id == q.id) && (nat_lt p.node q.node || ((p.node == q.node) && nat_lt p.group q.group))) e)
  where
    by_group : ((p.node == q.node) && nat_lt p.group q.group) ≡ true → IsBefore p.node p.group q.node q.group
    by_group t = let ts = and_parts (p.node == q.node) (nat_lt p.group q.group) t in inr (eqb-true p.node q.node ts.0, ltb-true p.group q.group ts.1)

    by_node : (nat_lt p.node q.node ≡ true) ⊎ (((p.node == q.node) && nat_lt p.group q.group) ≡ true) → IsBefore p.node p.group q.node q.group
    by_node (inl t) = inl (ltb-true p.node q.node t)
    by_node (inr t) = by_group t

    by_id : (nat_lt p.id q.id ≡ true) ⊎ (((p.id == q.id) && (nat_lt p.node q.node || ((p.node == q.node) && nat_lt p.group q.group))) ≡ true) → IsPlaceBefore p q
    by_id (inl t) = inl (ltb-true p.id q.id t)
    by_id (inr t) =
        let ts = and_parts (p.id == q.id) (nat_lt p.node q.node || ((p.node == q.node) && nat_lt p.group q.group)) t in
        inr (eqb-true p.id q.id ts.0, by_node (either (nat_lt p.node q.node) ((p.node == q.node) && nat_lt p.group q.group) ts.1))

pub test_from_before : (p q : Place) → IsPlaceBefore p q → comes_before p q ≡ true
test_from_before p q (inl id) = or_left (nat_lt p.id q.id) ((p.id == q.id) && (nat_lt p.node q.node || ((p.node == q.node) && nat_lt p.group q.group))) (lt-ltb p.id q.id id)
test_from_before p q (inr (id, rest)) =
    or_right (nat_lt p.id q.id) ((p.id == q.id) && (nat_lt p.node q.node || ((p.node == q.node) && nat_lt p.group q.group)))
    (and_from (p.id == q.id) (nat_lt p.node q.node || ((p.node == q.node) && nat_lt p.group q.group)) (eq-eqb p.id q.id id) (by_node rest))
  where
    by_node : IsBefore p.node p.group q.node q.group → (nat_lt p.node q.node || ((p.node == q.node) && nat_lt p.group q.group)) ≡ true
    by_node (inl node) = or_left (nat_lt p.node q.node) ((p.node == q.node) && nat_lt p.group q.group) (lt-ltb p.node q.node node)
    by_node (inr (node, group)) =
        or_right (nat_lt p.node q.node) ((p.node == q.node) && nat_lt p.group q.group)
        (and_from (p.node == q.node) (nat_lt p.group q.group) (eq-eqb p.node q.node node) (lt-ltb p.group q.group group))

-- of three places
pub before_before : (p q r : Place) → IsPlaceBefore p q → IsPlaceBefore q r → IsPlaceBefore p r
before_before p q r (inl a) (inl b) = inl (omega arith)
before_before p q r (inl a) (inr (id, b)) = inl (omega arith)
before_before p q r (inr (id, a)) (inl b) = inl (omega arith)
before_before p q r (inr (id, inl a)) (inr (id', inl b)) = inr (id ∙ id', inl (omega arith))
before_before p q r (inr (id, inl a)) (inr (id', inr (node, b))) = inr (id ∙ id', inl (omega arith))
before_before p q r (inr (id, inr (node, a))) (inr (id', inl b)) = inr (id ∙ id', inl (omega arith))
before_before p q r (inr (id, inr (node, a))) (inr (id', inr (node', b))) = inr (id ∙ id', inr (node ∙ node', omega arith))

pub up_to_before : (p q r : Place) → IsPlaceUpTo p q → IsPlaceBefore q r → IsPlaceBefore p r
up_to_before p q r (inl a) b = before_before p q r a b
up_to_before p q r (inr same) b = subst (λ (x : Place). IsPlaceBefore x r) (sym same) b

pub before_up_to : (p q r : Place) → IsPlaceBefore p q → IsPlaceUpTo q r → IsPlaceBefore p r
before_up_to p q r a (inl b) = before_before p q r a b
before_up_to p q r a (inr same) = subst (λ (x : Place). IsPlaceBefore p x) same a

up_to_up_to : (p q r : Place) → IsPlaceUpTo p q → IsPlaceUpTo q r → IsPlaceUpTo p r
up_to_up_to p q r a (inl b) = inl (up_to_before p q r a b)
up_to_up_to p q r a (inr same) = subst (λ (x : Place). IsPlaceUpTo p x) same a

-- none stands before itself
pub not_itself : (p q : Place) → IsPlaceBefore p q → p ≢ q
not_itself p q before same = no (subst (λ (x : Place). IsPlaceBefore x q) same before)
  where
    no : IsPlaceBefore q q → ⊥
    no (inl a) = absurd (omega arith)
    no (inr (id, inl a)) = absurd (omega arith)
    no (inr (id, inr (node, a))) = absurd (omega arith)

-- lists that don't stand next to one another are in order too
pub ordered : (ends : List PlaceEnd) → AreInOrder ends → (d : PlaceEnd) (i k : ℕ) → i + k < length ends → IsPlaceUpTo (get_or ends i d).place (get_or ends (i + k) d).place
ordered ends order d i zero lt = let same : i ≡ i + 0 = omega arith in inr (ap (λ (n : ℕ). (get_or ends n d).place) same)
ordered ends order d i (suc k) lt =
    let below : i + k < length ends = omega arith in
    let next : i + k + 1 < length ends = omega arith in
    let same : i + k + 1 ≡ i + suc k = omega arith in
    up_to_up_to (get_or ends i d).place (get_or ends (i + k) d).place (get_or ends (i + suc k) d).place (ordered ends order d i k below)
    (subst (λ (n : ℕ). IsPlaceUpTo (get_or ends (i + k) d).place (get_or ends n d).place) same (order (i + k) d next))

pub ordered_at : (ends : List PlaceEnd) → AreInOrder ends → (d : PlaceEnd) (i j : ℕ) → i ≤ j → j < length ends → IsPlaceUpTo (get_or ends i d).place (get_or ends j d).place
ordered_at ends order d i j le lt =
    let same : i + (j - i) ≡ j = omega arith in
    let below : i + (j - i) < length ends = omega arith in
    subst (λ (n : ℕ). IsPlaceUpTo (get_or ends i d).place (get_or ends n d).place) same (ordered ends order d i (j - i) below)

-- those that stand before a place come first
pub parted : (ends : List PlaceEnd) (place : Place) → AreInOrder ends → IsPartitionedBy (λ (end : PlaceEnd). comes_before end.place place) ends
parted ends place order i j d le lt e =
    test_from_before (get_or ends i d).place place
    (up_to_before (get_or ends i d).place (get_or ends j d).place place (ordered_at ends order d i j le lt) (before_from_test (get_or ends j d).place place e))

-- of two that stand in order, the earlier isn't later
not_both : (b : Bool) → b ≡ true → b ≡ false → ⊥
not_both b e f = cc

-- from where on lists don't stand before a place, the first is that of the place, if there is one
pub first_here : (ends : List PlaceEnd) (place : Place) (k : ℕ) → ((n : ℕ) (x : PlaceEnd) → n < k → slice_get ends n ≡ Some x → comes_before x.place place ≡ true) → IsFirst ends k place
first_here ends place k before m x lt at = not_itself x.place place (before_from_test x.place place (before m x lt at))

pub away_here : (ends : List PlaceEnd) (place : Place) (k : ℕ) → AreInOrder ends → ((n : ℕ) (x : PlaceEnd) → n < k → slice_get ends n ≡ Some x → comes_before x.place place ≡ true)
    → ((n : ℕ) (x : PlaceEnd) → k ≤ n → slice_get ends n ≡ Some x → comes_before x.place place ≡ false)
    → ((x : PlaceEnd) → slice_get ends k ≡ Some x → x.place ≢ place) → end_printed ends place ≡ None
away_here ends place k order before behind here = none_found ends place (λ n x at. by_index n x at (cases_order n k))
  where
    by_index : (n : ℕ) (x : PlaceEnd) → slice_get ends n ≡ Some x → (n ≡ k) ⊎ ((n < k) ⊎ (k < n)) → x.place ≢ place
    by_index n x at (inl same) = here x (subst (λ (m : ℕ). slice_get ends m ≡ Some x) same at)
    by_index n x at (inr (inl lower)) = not_itself x.place place (before_from_test x.place place (before n x lower at))
    by_index n x at (inr (inr higher)) = λ same.
        let within : n < length ends = slice_get_within ends n x at in
        let y = get_or ends k x in
        let y_at : slice_get ends k ≡ Some y = slice_get-get_or ends k x (omega arith) in
        let up : IsPlaceUpTo y.place (get_or ends n x).place = ordered_at ends order x k n (omega arith) within in
        let up_to : IsPlaceUpTo y.place place = subst (λ (p : Place). IsPlaceUpTo y.place p) (ap (λ (e : PlaceEnd). e.place) (get_or_from_slice_get ends n x x at) ∙ same) up in
        last y y_at up_to
      where
        last : (y : PlaceEnd) → slice_get ends k ≡ Some y → IsPlaceUpTo y.place place → ⊥
        last y y_at (inl b) = not_both (comes_before y.place place) (test_from_before y.place place b) (behind k y (omega arith) y_at)
        last y y_at (inr same) = here y y_at same

-- a list is the first one of its place if the one before it is of another
pub first_decided : (ends : List PlaceEnd) → AreInOrder ends → (k : ℕ) → 0 < k → (x end : PlaceEnd) → slice_get ends (k - 1) ≡ Some x → slice_get ends k ≡ Some end → Decides (comes_before x.place end.place) (IsFirst ends k end.place)
first_decided ends order k some x end before here = (yes_so, λ first. no_so (cases_Bool (comes_before x.place end.place)) first)
  where
    within : k < length ends
    within = slice_get_within ends k end here

    up_to_here : (m : ℕ) (y : PlaceEnd) → m < k → slice_get ends m ≡ Some y → IsPlaceUpTo y.place x.place
    up_to_here m y lt at =
        let there = within in
        let up : IsPlaceUpTo (get_or ends m x).place (get_or ends (k - 1) x).place = ordered_at ends order x m (k - 1) (omega arith) (omega arith) in
        subst (λ (e : PlaceEnd). IsPlaceUpTo e.place x.place) (get_or_from_slice_get ends m y x at) (subst (λ (e : PlaceEnd). IsPlaceUpTo (get_or ends m x).place e.place) (get_or_from_slice_get ends (k - 1) x x before) up)

    yes_so : comes_before x.place end.place ≡ true → IsFirst ends k end.place
    yes_so t m y lt at = not_itself y.place end.place (up_to_before y.place x.place end.place (up_to_here m y lt at) (before_from_test x.place end.place t))

    next : IsPlaceUpTo x.place end.place
    next =
        let there = within in
        let same : k - 1 + 1 ≡ k = omega arith in
        let up : IsPlaceUpTo (get_or ends (k - 1) x).place (get_or ends (k - 1 + 1) x).place = order (k - 1) x (omega arith) in
        subst (λ (e : PlaceEnd). IsPlaceUpTo x.place e.place) (ap (λ (n : ℕ). get_or ends n x) same ∙ get_or_from_slice_get ends k end x here)
        (subst (λ (e : PlaceEnd). IsPlaceUpTo e.place (get_or ends (k - 1 + 1) x).place) (get_or_from_slice_get ends (k - 1) x x before) up)

    no_so : (comes_before x.place end.place ≡ true) ⊎ (comes_before x.place end.place ≡ false) → IsFirst ends k end.place → comes_before x.place end.place ≡ true
    no_so (inl t) first = t
    no_so (inr f) first = by_order next
      where
        by_order : IsPlaceUpTo x.place end.place → comes_before x.place end.place ≡ true
        by_order (inl b) = test_from_before x.place end.place b
        by_order (inr same) = absurd (first (k - 1) x (omega arith) before same)
