-- SPDX-License-Identifier: GPL-2.0-only
-- Lists of pairwise different elements, and the elements of a list by recursion.
use Rattle.shr_model.proofs.Common.{◌≡◌, ◌≢◌, ◌⊎◌, ℕ, zero, suc, ◌+◌, Bool, true, List, [], ◌∷◌, ◌++◌, map, filter, flat_map, Contains, refl, AllByRecursion, ap, sym, ◌∙◌, subst, arith, inl, inr, cases_Bool, cond_both}
use Rattle.shr_model.proofs.BagLaws.{AreApart, each_weaker, each_append}

-- x is an element of the list
abbrev pub Has : {X : Type 0} → List X → X → Type 0
Has [] x = ⊥
Has (y ∷ ys) x = (y ≡ x) ⊎ Has ys x

pub Has_from_Contains : {X : Type 0} (xs : List X) (x : X) → Contains xs x → Has xs x
Has_from_Contains [] x (k, within, at) = absurd (omega arith)
Has_from_Contains (y ∷ ys) x (zero, within, at) = inl at
Has_from_Contains (y ∷ ys) x (suc k, within, at) = inr (Has_from_Contains ys x (k, omega arith, at))

pub Contains_from_Has : {X : Type 0} (xs : List X) (x : X) → Has xs x → Contains xs x
Contains_from_Has [] x h = absurd h
Contains_from_Has (y ∷ ys) x (inl e) = (0, omega arith, e)
Contains_from_Has (y ∷ ys) x (inr h) =
    let rest = Contains_from_Has ys x h in
    (suc rest.0, omega (arith, rest.1), rest.2)

-- what holds of each element holds of one
pub each_has : {X : Type 0} (P : X → Type 0) (xs : List X) (x : X) → AllByRecursion P xs → Has xs x → P x
each_has P [] x all h = absurd h
each_has P (y ∷ ys) x all (inl e) = subst P e all.0
each_has P (y ∷ ys) x all (inr h) = each_has P ys x all.1 h

-- the elements of lists that are made of others
pub Has_left : {X : Type 0} (xs ys : List X) (x : X) → Has xs x → Has (xs ++ ys) x
Has_left [] ys x h = absurd h
Has_left (y ∷ xs) ys x (inl e) = inl e
Has_left (y ∷ xs) ys x (inr h) = inr (Has_left xs ys x h)

pub Has_right : {X : Type 0} (xs ys : List X) (x : X) → Has ys x → Has (xs ++ ys) x
Has_right [] ys x h = h
Has_right (y ∷ xs) ys x h = inr (Has_right xs ys x h)

pub Has_last : {X : Type 0} (xs : List X) (x : X) → Has (xs ++ x ∷ []) x
Has_last [] x = inl refl
Has_last (y ∷ xs) x = inr (Has_last xs x)

pub Has_cases : {X : Type 0} (xs ys : List X) (x : X) → Has (xs ++ ys) x → Has xs x ⊎ Has ys x
Has_cases [] ys x h = inr h
Has_cases (y ∷ xs) ys x (inl e) = inl (inl e)
Has_cases (y ∷ xs) ys x (inr h) = elim (Has_cases xs ys x h) [ inl here ↦ inl (inr here) | inr later ↦ inr later ]

-- an element of the list of an element is one of all these lists together
pub Has_flat_map : {X Y : Type 0} (f : X → List Y) (xs : List X) (x : X) (y : Y) → Has xs x → Has (f x) y → Has (flat_map f xs) y
Has_flat_map f [] x y h at = absurd h
Has_flat_map f (z ∷ zs) x y (inl e) at = Has_left (f z) (flat_map f zs) y (subst (λ v. Has (f v) y) (sym e) at)
Has_flat_map f (z ∷ zs) x y (inr h) at = Has_right (f z) (flat_map f zs) y (Has_flat_map f zs x y h at)

-- an element of all these lists together is one of the list of some element
pub flat_map_has : {X Y : Type 0} (f : X → List Y) (xs : List X) (y : Y) → Has (flat_map f xs) y → (x : X) × Has xs x × Has (f x) y
flat_map_has f [] y h = absurd h
flat_map_has f (x ∷ xs) y h = elim (Has_cases (f x) (flat_map f xs) y h) [
  | inl here ↦ (x, inl refl, here)
  | inr later ↦ let rest = flat_map_has f xs y later in (rest.0, inr rest.1, rest.2)
]

pub Has_map : {X Y : Type 0} (f : X → Y) (xs : List X) (x : X) → Has xs x → Has (map f xs) (f x)
Has_map f [] x h = absurd h
Has_map f (y ∷ ys) x (inl e) = inl (ap f e)
Has_map f (y ∷ ys) x (inr h) = inr (Has_map f ys x h)

-- an element of a mapped list is what some element is mapped to
pub map_has : {X Y : Type 0} (f : X → Y) (xs : List X) (y : Y) → Has (map f xs) y → (x : X) × Has xs x × (f x ≡ y)
map_has f [] y h = absurd h
map_has f (x ∷ xs) y (inl e) = (x, inl refl, e)
map_has f (x ∷ xs) y (inr h) = let rest = map_has f xs y h in (rest.0, inr rest.1, rest.2)

pub Has_filter : {X : Type 0} (test : X → Bool) (xs : List X) (x : X) → Has xs x → test x ≡ true → Has (filter test xs) x
Has_filter test [] x h passes = absurd h
Has_filter test (y ∷ ys) x (inl e) passes =
    let first : test y ≡ true = ap test e ∙ passes in
    rw first (inl e)
Has_filter test (y ∷ ys) x (inr h) passes =
    cond_both (test y) (y ∷ filter test ys) (filter test ys) (λ zs. Has zs x) (λ e. inr (Has_filter test ys x h passes)) (λ e. Has_filter test ys x h passes)

-- a filtered list has elements of the list that pass the test, and no others
pub filter_has : {X : Type 0} (test : X → Bool) (xs : List X) (x : X) → Has (filter test xs) x → Has xs x × (test x ≡ true)
filter_has test [] x h = absurd h
filter_has test (y ∷ ys) x h = elim (cases_Bool (test y)) [
  | inl e ↦ elim (rw e at h) [
    | inl same ↦ (inl same, sym (ap test same) ∙ e)
    | inr later ↦ let rest = filter_has test ys x later in (inr rest.0, rest.1)
  ]
  | inr e ↦ let rest = filter_has test ys x (rw e at h) in (inr rest.0, rest.1)
]

-- an element of a list stands somewhere in it
split_at : {X : Type 0} (xs : List X) (x : X) → Has xs x → (before : List X) × (after : List X) × (xs ≡ before ++ x ∷ after)
split_at [] x h = absurd h
split_at (y ∷ ys) x (inl e) = ([], ys, ap (λ v. v ∷ ys) e)
split_at (y ∷ ys) x (inr h) = let rest = split_at ys x h in (y ∷ rest.0, rest.1, ap (λ vs. y ∷ vs) rest.2)

-- the elements of a list without one that stands somewhere in it
without_middle : {X : Type 0} (before : List X) (x : X) (after : List X) (z : X) → Has (before ++ x ∷ after) z → (x ≡ z) ⊎ Has (before ++ after) z
without_middle [] x after z h = h
without_middle (b ∷ bs) x after z (inl e) = inr (inl e)
without_middle (b ∷ bs) x after z (inr h) = elim (without_middle bs x after z h) [ inl e ↦ inl e | inr rest ↦ inr (inr rest) ]

with_middle : {X : Type 0} (before : List X) (x : X) (after : List X) (z : X) → Has (before ++ after) z → Has (before ++ x ∷ after) z
with_middle [] x after z h = inr h
with_middle (b ∷ bs) x after z (inl e) = inl e
with_middle (b ∷ bs) x after z (inr h) = inr (with_middle bs x after z h)

each_middle : {X : Type 0} (P : X → Type 0) (before : List X) (x : X) (after : List X) → AllByRecursion P (before ++ x ∷ after) → P x × AllByRecursion P (before ++ after)
each_middle P [] x after h = h
each_middle P (b ∷ bs) x after h = let rest = each_middle P bs x after h.1 in (rest.0, (h.0, rest.1))

apart_middle : {X : Type 0} (before : List X) (x : X) (after : List X) → AreApart (before ++ x ∷ after) → AreApart (before ++ after) × AllByRecursion (λ z. x ≢ z) (before ++ after)
apart_middle [] x after h = (h.1, h.0)
apart_middle (b ∷ bs) x after h =
    let rest = apart_middle bs x after h.1 in
    let first = each_middle (λ z. b ≢ z) bs x after h.0 in
    ((first.1, rest.0), ((λ e. first.0 (sym e)), rest.1))

-- two lists of different elements that share none are one such list
pub AreApart_append : {X : Type 0} (xs ys : List X) → AreApart xs → AreApart ys → AllByRecursion (λ x. AllByRecursion (λ y. x ≢ y) ys) xs → AreApart (xs ++ ys)
AreApart_append [] ys h k apart = k
AreApart_append (x ∷ xs) ys h k apart = (each_append (λ y. x ≢ y) xs ys h.0 apart.0, AreApart_append xs ys h.1 k apart.1)

each_map : {X Y : Type 0} (f : X → Y) (P : Y → Type 0) (xs : List X) → AllByRecursion (λ x. P (f x)) xs → AllByRecursion P (map f xs)
each_map f P [] h = tt
each_map f P (x ∷ xs) h = (h.0, each_map f P xs h.1)

-- different elements stay so when they are mapped to different ones
pub AreApart_map : {X Y : Type 0} (f : X → Y) → ((x y : X) → f x ≡ f y → x ≡ y) → (xs : List X) → AreApart xs → AreApart (map f xs)
AreApart_map f one [] h = tt
AreApart_map f one (x ∷ xs) h = (each_map f (λ y. f x ≢ y) xs (each_weaker (λ z. x ≢ z) (λ z. f x ≢ f z) (λ z ne e. ne (one x z e)) xs h.0), AreApart_map f one xs h.1)

each_filter : {X : Type 0} (test : X → Bool) (P : X → Type 0) (xs : List X) → AllByRecursion P xs → AllByRecursion P (filter test xs)
each_filter test P [] h = tt
each_filter test P (x ∷ xs) h =
    cond_both (test x) (x ∷ filter test xs) (filter test xs) (AllByRecursion P) (λ e. (h.0, each_filter test P xs h.1)) (λ e. each_filter test P xs h.1)

-- different elements stay so when some are left out
pub AreApart_filter : {X : Type 0} (test : X → Bool) (xs : List X) → AreApart xs → AreApart (filter test xs)
AreApart_filter test [] h = tt
AreApart_filter test (x ∷ xs) h =
    cond_both (test x) (x ∷ filter test xs) (filter test xs) (λ zs. AreApart zs) (λ e. (each_filter test (λ z. x ≢ z) xs h.0, AreApart_filter test xs h.1)) (λ e. AreApart_filter test xs h.1)

-- the sum of f over the elements
abbrev pub total : {X : Type 0} → (X → ℕ) → List X → ℕ
total f [] = 0
total f (x ∷ xs) = f x + total f xs

pub total_append : {X : Type 0} (f : X → ℕ) (xs ys : List X) → total f (xs ++ ys) ≡ total f xs + total f ys
total_append f [] ys = omega arith
total_append f (x ∷ xs) ys = omega (arith, total_append f xs ys)

-- two lists of pairwise different elements that have the same ones have the same sum
pub total_same : {X : Type 0} (f : X → ℕ) (xs ys : List X) → AreApart xs → AreApart ys → ((x : X) → Has xs x → Has ys x) → ((x : X) → Has ys x → Has xs x) → total f xs ≡ total f ys
total_same f [] [] h k to from = refl
total_same f [] (y ∷ ys) h k to from = absurd (from y (inl refl))
total_same {X} f (x ∷ xs) ys h k to from =
    let split = split_at ys x (to x (inl refl)) in
    let before = split.0 in
    let after = split.1 in
    let apart = apart_middle before x after (subst (λ (zs : List X). AreApart zs) split.2 k) in
    let rest = total_same f xs (before ++ after) h.1 apart.0
    (λ z has. elim (without_middle before x after z (subst (λ (zs : List X). Has zs z) split.2 (to z (inr has)))) [
      | inl e ↦ absurd (each_has (λ v. x ≢ v) xs z h.0 has e)
      | inr there ↦ there
    ])
    (λ z has. elim (from z (subst (λ (zs : List X). Has zs z) (sym split.2) (with_middle before x after z has))) [
      | inl e ↦ absurd (each_has (λ v. x ≢ v) (before ++ after) z apart.1 has e)
      | inr there ↦ there
    ]) in
    omega (arith, ap (total f) split.2, total_append f before (x ∷ after), total_append f before after)
