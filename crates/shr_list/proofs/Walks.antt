-- SPDX-License-Identifier: GPL-2.0-only
-- A walk over nodes from the head by their keys.
use Rattle.shr_list.proofs.Common.{◌≡◌, ℕ, zero, suc, ◌+◌, ◌<◌, ◌≤◌, List, [], ◌∷◌, ◌++◌, length, take, drop, Some, None, refl, sym, ap, arith, true, false, slice_get, drop_all, is_named, Object, Keyed, objects_of, first_key, last_key, key_at, key_named, IsAt}

-- the node that a walk has come to
pub record Here (nodes : List Keyed) (met k : ℕ) : Type 0 where
  pub object : Object
  pub split : nodes ≡ take met nodes ++ (k, object) ∷ drop (met + 1) nodes
  pub rest : drop met nodes ≡ (k, object) ∷ drop (met + 1) nodes
  pub more : take (met + 1) nodes ≡ take met nodes ++ (k, object) ∷ []
  pub within : met < length nodes
  pub got : slice_get (objects_of nodes) met ≡ Some object
  pub left : drop met (objects_of nodes) ≡ object ∷ drop (met + 1) (objects_of nodes)

-- a key that is met stands there
pub here : (nodes : List Keyed) (met k : ℕ) → Some k ≡ key_at met nodes → Here nodes met k
here [] zero k is = absurd (cc)
here [] (suc m) k is = absurd (cc)
here (n ∷ ns) zero k is =
    let same : k ≡ n.0 = cc in
    record { object = n.1; split = rw same refl; rest = rw same refl; more = rw same refl; within = omega arith; got = refl; left = refl }
here (n ∷ ns) (suc m) k is =
    let later = here ns m k is in
    let shift : suc m + 1 ≡ suc (m + 1) = omega arith in
    record {
      object = later.object;
      split = rw shift (ap (λ (ms : List Keyed). n ∷ ms) later.split);
      rest = rw shift later.rest;
      more = rw shift (ap (λ (ms : List Keyed). n ∷ ms) later.more);
      within = omega (arith, later.within);
      got = later.got;
      left = rw shift later.left;
    }

-- a walk that has come to no node has gone past all
pub past : (nodes : List Keyed) (met : ℕ) → None ≡ key_at met nodes → length nodes ≤ met
past [] met is = omega arith
past (n ∷ ns) zero is = absurd (cc)
past (n ∷ ns) (suc m) is = omega (arith, past ns m is)

pub none_got : (nodes : List Keyed) (i : ℕ) → None ≡ key_at i nodes → slice_get (objects_of nodes) i ≡ None
none_got [] i is = refl
none_got (n ∷ ns) zero is = absurd (cc)
none_got (n ∷ ns) (suc i) is = none_got ns i is

pub beyond : (nodes : List Keyed) (met i : ℕ) → None ≡ key_at met nodes → met ≤ i → None ≡ key_at i nodes
beyond nodes met i is more = sym (ap first_key (drop_all i nodes (omega (arith, past nodes met is, more))))

-- a node that is met is one of the list
pub is_at : (nodes : List Keyed) (met k : ℕ) → Here nodes met k → IsAt nodes k
is_at nodes met k h = (take met nodes, h.object, drop (met + 1) nodes, h.split)

-- the name that is searched is ahead
pub ahead_hit : (birth : ℕ) (key : List ℕ) (nodes : List Keyed) (met k : ℕ) (h : Here nodes met k) → is_named birth key h.object ≡ true
    → key_named birth key (drop met nodes) ≡ Some k
ahead_hit birth key nodes met k h named = rw (h.rest, named) refl

-- a node of another name is no find
pub ahead_miss : (birth : ℕ) (key : List ℕ) (nodes : List Keyed) (met k : ℕ) (h : Here nodes met k) → is_named birth key h.object ≡ false
    → key_named birth key (drop met nodes) ≡ key_named birth key (drop (met + 1) nodes)
ahead_miss birth key nodes met k h apart = rw (h.rest, apart) refl

-- what holds of the nodes up to here holds of fewer
pub taken_split : {X : Type 0} (m n : ℕ) (xs : List X) → m ≤ n → (rest : List X) × (take n xs ≡ take m xs ++ rest)
taken_split zero n xs fewer = (take n xs, refl)
taken_split (suc m) zero xs fewer = absurd (omega (arith, fewer))
taken_split (suc m) (suc n) [] fewer = ([], refl)
taken_split (suc m) (suc n) (x ∷ xs) fewer =
    let later = taken_split m n xs (omega (arith, fewer)) in
    (later.0, ap (λ ys. x ∷ ys) later.1)

-- the node at the tail
pub record AtEnd (nodes : List Keyed) (k : ℕ) : Type 0 where
  pub before : List Keyed
  pub object : Object
  pub split : nodes ≡ before ++ (k, object) ∷ []

-- the last key is that of the last node
pub at_end : (nodes : List Keyed) (k : ℕ) → Some k ≡ last_key nodes → AtEnd nodes k
at_end [] k is = absurd (cc)
at_end (n ∷ []) k is = let same : k ≡ n.0 = cc in record { before = []; object = n.1; split = rw same refl }
at_end (n ∷ m ∷ ns) k is =
    let later = at_end (m ∷ ns) k is in
    record { before = n ∷ later.before; object = later.object; split = ap (λ (ms : List Keyed). n ∷ ms) later.split }

pub no_end : (nodes : List Keyed) → None ≡ last_key nodes → nodes ≡ []
no_end [] is = refl
no_end (n ∷ []) is = absurd (cc)
no_end (n ∷ m ∷ ns) is = let later = no_end (m ∷ ns) is in absurd (cc)

-- the node at the head
pub at_head : (nodes : List Keyed) (k : ℕ) → Some k ≡ first_key nodes → (o : Object) × (rest : List Keyed) × (nodes ≡ (k, o) ∷ rest)
at_head [] k is = absurd (cc)
at_head (n ∷ ns) k is = let same : k ≡ n.0 = cc in (n.1, ns, rw same refl)

pub no_head : (nodes : List Keyed) → None ≡ first_key nodes → nodes ≡ []
no_head [] is = refl
no_head (n ∷ ns) is = absurd (cc)
