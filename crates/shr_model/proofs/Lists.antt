-- SPDX-License-Identifier: GPL-2.0-only
-- Lemmas on lists and options that several crates cite.
use Rattle.shr_model.proofs.Common.{◌≡◌, ℕ, zero, suc, List, [], ◌∷◌, get_or, sym, ◌+◌, ◌++◌, ap, ◌∙◌, ◌≤◌, length, take, refl, ◌<◌, map, arith, Some, some, some-injective, some-ne-none, get_elem?, take_all, append-nil, flat_map, slice_get, AllByRecursion, Option, None, subst, Bool, true, false, cond, filter, sum, is_some, ◌||◌}
use Rattle.std.proofs.lemmas.List.{append_assoc, get_or_default, map_more, take_more}
use Rattle.std.proofs.lemmas.List.Concat.{flat_map-append}
use Rattle.std.proofs.lemmas.List.Elements.{filter-append}
use Rattle.std.proofs.lemmas.List.Sums.{sum_by_push}
use Rattle.std.proofs.lemmas.Option.{slice_get-get_or, slice_get_within}
use Rattle.std.specs.List.{position_from}

pub word_of : (ws : List ℕ) (i w : ℕ) → get_elem? ws i ≡ some w → get_or ws i 0 ≡ w
word_of [] i w e = absurd (some-ne-none w (sym e))
word_of (x ∷ xs) zero w e = some-injective x w e
word_of (x ∷ xs) (suc i) w e = word_of xs i w e

pub added_to : {Y : Type 0} (a whole part item next : List Y) → whole ≡ a ++ part → next ≡ whole ++ item → next ≡ a ++ (part ++ item)
added_to {Y} a whole part item next before added = added ∙ (ap (λ (l : List Y). l ++ item) before ∙ append_assoc a part item)

pub flat_all : {X Y : Type 0} (f : X → List Y) (xs : List X) (i : ℕ) (a old : List Y) → length xs ≤ i → old ≡ a ++ flat_map f (take i xs) → old ≡ a ++ flat_map f xs
flat_all {X} {Y} f xs i a old over before = before ∙ ap (λ (l : List X). a ++ flat_map f l) (take_all i xs over)

pub zero_more : (xs : List ℕ) → ((i : ℕ) → get_or xs i 0 ≡ 0) → (i : ℕ) → get_or (xs ++ 0 ∷ []) i 0 ≡ 0
zero_more [] all zero = refl
zero_more [] all (suc i) = refl
zero_more (x ∷ xs) all zero = all 0
zero_more (x ∷ xs) all (suc i) = zero_more xs (λ j. all (suc j)) i

pub flat_one : {X Y : Type 0} (f : X → List Y) (xs : List X) (i : ℕ) (y : X) → i < length xs → y ≡ get_or xs i y → flat_map f (take (i + 1) xs) ≡ flat_map f (take i xs) ++ f y
flat_one {X} {Y} f xs i y lt is = ap (flat_map f) (take_more xs i y lt) ∙ flat_map-append f (take i xs) (get_or xs i y ∷ []) ∙ ap (λ (l : List Y). flat_map f (take i xs) ++ l) (append-nil (f (get_or xs i y)) ∙ ap f (sym is))

-- a loop over a list that adds the items of each element, one element on
pub flat_more : {X Y : Type 0} (f : X → List Y) (xs : List X) (i : ℕ) (y : X) (a old next : List Y) → i < length xs → y ≡ get_or xs i y → old ≡ a ++ flat_map f (take i xs) → next ≡ old ++ f y → next ≡ a ++ flat_map f (take (i + 1) xs)
flat_more {X} {Y} f xs i y a old next lt is before added = added_to a old (flat_map f (take i xs)) (f y) next before added ∙ ap (λ (l : List Y). a ++ l) (sym (flat_one f xs i y lt is))

pub flat_copied : {X Y : Type 0} (f : X → List Y) (xs : List X) (i : ℕ) (d : X) (a old next : List Y) → i < length xs → old ≡ a ++ flat_map f (take i xs) → next ≡ old ++ f (get_or xs i d) → next ≡ a ++ flat_map f (take (i + 1) xs)
flat_copied f xs i d a old next lt before added = flat_more f xs i (get_or xs i d) a old next lt (get_or_default xs i d (get_or xs i d) lt) before added

-- and one that adds one item for each
pub map_step : {X Y : Type 0} (f : X → Y) (xs : List X) (i : ℕ) (d : X) (a old next : List Y) → i < length xs → old ≡ a ++ map f (take i xs) → next ≡ old ++ f (get_or xs i d) ∷ [] → next ≡ a ++ map f (take (i + 1) xs)
map_step {X} {Y} f xs i d a old next lt before added = added_to a old (map f (take i xs)) (f (get_or xs i d) ∷ []) next before added ∙ ap (λ (l : List Y). a ++ l) (sym (map_more f xs i d lt))

pub map_end : {X Y : Type 0} (f : X → Y) (xs : List X) (i : ℕ) (a old : List Y) → length xs ≤ i → old ≡ a ++ map f (take i xs) → old ≡ a ++ map f xs
map_end {X} {Y} f xs i a old over before = before ∙ ap (λ (l : List X). a ++ map f l) (take_all i xs over)

pub none_past : (xs : List ℕ) (n : ℕ) → length xs ≤ n → get_or xs n 0 ≡ 0
none_past [] n le = refl
none_past (x ∷ xs) zero le = absurd (omega arith)
none_past (x ∷ xs) (suc n) le = none_past xs n (omega arith)

pub found_at : {X : Type 0} (xs : List X) (i : ℕ) (x : X) → i < length xs → x ≡ get_or xs i x → slice_get xs i ≡ Some x
found_at {X} xs i x lt is = slice_get-get_or xs i x lt ∙ ap (λ (y : X). Some y) (sym is)

pub all_front : {A : Type 0} (P : A → Type 0) (xs ys : List A) → AllByRecursion P (xs ++ ys) → AllByRecursion P xs
all_front P [] ys h = tt
all_front P (x ∷ xs) ys h = (h.0, all_front P xs ys h.1)

pub all_right : {A : Type 0} (P : A → Type 0) (xs ys : List A) → AllByRecursion P (xs ++ ys) → AllByRecursion P ys
all_right P [] ys h = h
all_right P (x ∷ xs) ys h = all_right P xs ys h.1

pub there : {A : Type 0} (l : List A) (i : ℕ) → i < length l → (a : A) × (get_elem? l i ≡ some a)
there [] i h = absurd (omega arith)
there (x ∷ xs) zero h = (x, refl)
there (x ∷ xs) (suc i) h = there xs i (omega arith)

pub some_injective : {A : Type 0} (x y : A) → Some x ≡ Some y → x ≡ y
some_injective x y e = cc

pub some_at : {A : Type 0} (xs : List A) (n : ℕ) (x : A) → slice_get xs n ≡ Some x → get_elem? xs n ≡ some x
some_at [] n x e = absurd cc
some_at (y ∷ ys) zero x e = let s : y ≡ x = cc in ap some s
some_at (y ∷ ys) (suc n) x e = some_at ys n x e

pub all_both : (P : ℕ → Type 0) (xs ys : List ℕ) → AllByRecursion P xs → AllByRecursion P ys → AllByRecursion P (xs ++ ys)
all_both P [] ys a b = b
all_both P (x ∷ xs) ys a b = (a.0, all_both P xs ys a.1 b)

pub heads : (x y : ℕ) (xs ys : List ℕ) → x ∷ xs ≡ y ∷ ys → x ≡ y
heads x y xs ys e = cc

pub some_same : (a b : ℕ) → ◌≡◌ {A = Option ℕ} (Some a) (Some b) → a ≡ b
some_same a b e = cc

pub all_push : {X : Type 0} (P : X → Type 0) (xs : List X) (x : X) → AllByRecursion P xs → P x → AllByRecursion P (xs ++ x ∷ [])
all_push P [] x h here = (here, tt)
all_push P (y ∷ ys) x h here = (h.0, all_push P ys x h.1 here)

pub there_at : {A : Type 0} (xs : List A) (i : ℕ) → i < length xs → (x : A) × (slice_get xs i ≡ Some x)
there_at [] i lt = absurd (omega arith)
there_at (x ∷ xs) zero lt = (x, refl)
there_at (x ∷ xs) (suc i) lt = there_at xs i (omega arith)

-- an element more at the end
pub get_front : {A : Type 0} (xs : List A) (y : A) (k : ℕ) → k < length xs → slice_get (xs ++ y ∷ []) k ≡ slice_get xs k
get_front [] y k lt = absurd (omega (arith, lt))
get_front (x ∷ xs) y zero lt = refl
get_front (x ∷ xs) y (suc k) lt = get_front xs y k (omega (arith, lt))

pub get_last : {A : Type 0} (xs : List A) (y : A) → slice_get (xs ++ y ∷ []) (length xs) ≡ Some y
get_last [] y = refl
get_last (x ∷ xs) y = get_last xs y

pub sum_push : (ns : List ℕ) (n : ℕ) → sum (ns ++ n ∷ []) ≡ sum ns + n
sum_push ns n = sum_by_push (λ (m : ℕ). m) ns n

pub filter_out : {X : Type 0} (p : X → Bool) (xs : List X) (x : X) → p x ≡ false → filter p (xs ++ x ∷ []) ≡ filter p xs
filter_out {X} p xs x e = filter-append p xs (x ∷ []) ∙ ap (λ (b : Bool). filter p xs ++ cond b (x ∷ []) []) e ∙ append-nil (filter p xs)

-- whether an element passes a test, with an element more at the end
pub position_push : {X : Type 0} (p : X → Bool) (i : ℕ) (xs : List X) (x : X) → is_some (position_from p i (xs ++ x ∷ [])) ≡ (is_some (position_from p i xs) || p x)
position_push p i [] x = by_bool (p x)
  where
    by_bool : (b : Bool) → is_some (cond b (Some i) None) ≡ (false || b)
    by_bool true = refl
    by_bool false = refl
position_push {X} p i (y ∷ ys) x = by_bool (p y) (position_push p (i + 1) ys x)
  where
    by_bool : (b : Bool) → is_some (position_from p (i + 1) (ys ++ x ∷ [])) ≡ (is_some (position_from p (i + 1) ys) || p x) → is_some (cond b (Some i) (position_from p (i + 1) (ys ++ x ∷ []))) ≡ (is_some (cond b (Some i) (position_from p (i + 1) ys)) || p x)
    by_bool true h = refl
    by_bool false h = h

-- an element of a list's front is one of the list
pub taken_at : {X : Type 0} (xs : List X) (k m : ℕ) (x : X) → slice_get (take k xs) m ≡ Some x → (m < k) × (slice_get xs m ≡ Some x)
taken_at [] zero m x at = absurd (let lt = slice_get_within [] m x at in omega (arith, lt))
taken_at [] (suc k) m x at = absurd (let lt = slice_get_within [] m x at in omega (arith, lt))
taken_at (y ∷ ys) zero m x at = absurd (let lt = slice_get_within [] m x at in omega (arith, lt))
taken_at (y ∷ ys) (suc k) zero x at = (omega arith, at)
taken_at (y ∷ ys) (suc k) (suc m) x at = let rest = taken_at ys k m x at in (omega (arith, rest.0), rest.1)

-- a fact of each element and its number, by recursion
abbrev pub AllAt : {X : Type 0} → (ℕ → X → Type 0) → List X → Type 0
AllAt P [] = Unit {0}
AllAt P (x ∷ xs) = P 0 x × AllAt (λ n. P (suc n)) xs

pub each_at : {X : Type 0} (P : ℕ → X → Type 0) (xs : List X) → AllAt P xs → (n : ℕ) (x : X) → slice_get xs n ≡ Some x → P n x
each_at P [] h n x e = absurd (cc)
each_at P (y ∷ ys) h zero x e = let same : y ≡ x = cc in subst (P 0) same h.0
each_at P (y ∷ ys) h (suc n) x e = each_at (λ n. P (suc n)) ys h.1 n x e
