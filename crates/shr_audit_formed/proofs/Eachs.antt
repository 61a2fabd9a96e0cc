-- SPDX-License-Identifier: GPL-2.0-only
-- What is so of each item, and of each two that stand next to one another, by index and by recursion.
use Rattle.shr_audit_formed.proofs.Common.{◌≡◌, ℕ, zero, suc, ◌+◌, ◌<◌, ◌≤◌, Bool, true, false, List, [], ◌∷◌, length, map, Option, Some, None, refl, sym, ap, subst, ◌∙◌, arith, ◌==◌, slice_get, Contains, Decides, AllByRecursion, MapSeen, EachItem, Adjacent, IsUnitLoaded, get_or, option_map, AllAdjacentBelow}
use Rattle.std.proofs.lemmas.List.{get_or_default}
use Rattle.std.proofs.lemmas.Option.{get_or_from_slice_get, slice_get-get_or, slice_get_within, slice_get-map}
use Rattle.std.proofs.lemmas.Bool.Decides.{nat_tests}
use Rattle.shr_model.proofs.Lists.{found_at, some_injective}

-- ---- while a list is gone through

pub same_or_below : (n i : ℕ) → n < i + 1 → (n ≡ i → ⊥) → n < i
same_or_below n i lt ne = grind arith

-- one item more
pub each_more : {X : Type 0} (P : X → Type 0) (xs : List X) (i : ℕ) (y : X) → i < length xs → y ≡ get_or xs i y → ((n : ℕ) (x : X) → n < i → slice_get xs n ≡ Some x → P x) → P y → (n : ℕ) (x : X) → n < i + 1 → slice_get xs n ≡ Some x → P x
each_more {X} P xs i y lt is before here n x below e = by_order (n == i) refl
  where
    by_order : (b : Bool) → (n == i) ≡ b → P x
    by_order true f =
        let same : n ≡ i = grind (arith, nat_tests) in
        let x_is : get_or xs i y ≡ x = get_or_from_slice_get xs i x y (subst (λ (k : ℕ). slice_get xs k ≡ Some x) same e) in
        subst P (is ∙ x_is) here
    by_order false f = before n x (let lower : n < i = grind (arith, nat_tests) in lower) e

pub each_copied : {X : Type 0} (P : X → Type 0) (xs : List X) (i : ℕ) (d : X) → i < length xs → ((n : ℕ) (x : X) → n < i → slice_get xs n ≡ Some x → P x) → P (get_or xs i d) → (n : ℕ) (x : X) → n < i + 1 → slice_get xs n ≡ Some x → P x
each_copied P xs i d lt before here = each_more P xs i (get_or xs i d) lt (get_or_default xs i d (get_or xs i d) lt) before here

-- all items
pub each_all : {X : Type 0} (P : X → Type 0) (xs : List X) (i : ℕ) → length xs ≤ i → ((n : ℕ) (x : X) → n < i → slice_get xs n ≡ Some x → P x) → Decides true (EachItem P xs)
each_all P xs i over before = (λ t n x e. before n x (let lt = slice_get_within xs n x e in let lower : n < i = grind arith in lower) e, λ h. refl)

-- the same of what depends on the number of the item
pub more_at : {X : Type 0} (P : ℕ → X → Type 0) (xs : List X) (i : ℕ) (y : X) → i < length xs → y ≡ get_or xs i y → ((n : ℕ) (x : X) → n < i → slice_get xs n ≡ Some x → P n x) → P i y → (n : ℕ) (x : X) → n < i + 1 → slice_get xs n ≡ Some x → P n x
more_at {X} P xs i y lt is before here n x below e = by_order (n == i) refl
  where
    by_order : (b : Bool) → (n == i) ≡ b → P n x
    by_order true f =
        let same : n ≡ i = grind (arith, nat_tests) in
        let x_is : get_or xs i y ≡ x = get_or_from_slice_get xs i x y (subst (λ (k : ℕ). slice_get xs k ≡ Some x) same e) in
        subst (λ (k : ℕ). P k x) (sym same) (subst (P i) (is ∙ x_is) here)
    by_order false f = before n x (let lower : n < i = grind (arith, nat_tests) in lower) e

pub at_copied : {X : Type 0} (P : ℕ → X → Type 0) (xs : List X) (i : ℕ) (d : X) → i < length xs → ((n : ℕ) (x : X) → n < i → slice_get xs n ≡ Some x → P n x) → P i (get_or xs i d) → (n : ℕ) (x : X) → n < i + 1 → slice_get xs n ≡ Some x → P n x
at_copied P xs i d lt before here = more_at P xs i (get_or xs i d) lt (get_or_default xs i d (get_or xs i d) lt) before here

pub all_at : {X : Type 0} (P : ℕ → X → Type 0) (xs : List X) (i : ℕ) → length xs ≤ i → ((n : ℕ) (x : X) → n < i → slice_get xs n ≡ Some x → P n x) → Decides true ((n : ℕ) (x : X) → slice_get xs n ≡ Some x → P n x)
all_at P xs i over before = (λ t n x e. before n x (let lt = slice_get_within xs n x e in let lower : n < i = grind arith in lower) e, λ h. refl)

-- a test isn't both
pub clash : (b : Bool) → b ≡ true → b ≡ false → ⊥
clash b e f = cc

-- where a part fails, the whole does
pub fails : (P Q : Type 0) (b : Bool) → Decides b P → b ≡ false → (Q → P) → Decides false Q
fails P Q b d f step = (λ t. absurd cc, λ h. absurd (clash b (d.1 (step h)) f))

-- where an item fails, not all are so
pub one_fails : {X : Type 0} (P : ℕ → X → Type 0) (xs : List X) (i : ℕ) (x : X) (b : Bool) → i < length xs → x ≡ get_or xs i x → Decides b (P i x) → b ≡ false → Decides false ((n : ℕ) (y : X) → slice_get xs n ≡ Some y → P n y)
one_fails {X} P xs i x b lt is d f = fails (P i x) ((n : ℕ) (y : X) → slice_get xs n ≡ Some y → P n y) b d f (λ all. all i x (found_at xs i x lt is))

pub each_fail : {X : Type 0} (P : X → Type 0) (xs ys : List X) (i : ℕ) (d : X) (b : Bool) → xs ≡ ys → i < length xs → Decides b (P (get_or xs i d)) → b ≡ false → Decides false (EachItem P ys)
each_fail {X} P xs ys i d b e lt dec f = fails (P (get_or xs i d)) (EachItem P ys) b dec f (λ all. all i (get_or xs i d) (ap (λ (zs : List X). slice_get zs i) (sym e) ∙ slice_get-get_or xs i d lt))

-- all items of what is the same list
pub each_whole : {X : Type 0} (P : X → Type 0) (xs ys : List X) (i : ℕ) → xs ≡ ys → length xs ≤ i → ((n : ℕ) (x : X) → n < i → slice_get xs n ≡ Some x → P x) → Decides true (EachItem P ys)
each_whole {X} P xs ys i e over before = subst (λ (zs : List X). Decides true (EachItem P zs)) e (each_all P xs i over before)

-- what is asked of an item, if there is one
pub at_some : {X : Type 0} (o : Option X) (x : X) (P : X → Type 0) (b : Bool) → Some x ≡ o → Decides b (P x) → Decides b ((y : X) → o ≡ Some y → P y)
at_some o x P b is d = (λ t y e. subst P (some_injective x y (is ∙ e)) (d.0 t), λ all. d.1 (all x (sym is)))

-- ---- by recursion

pub all_of : {X : Type 0} (P : X → Type 0) (xs : List X) → EachItem P xs → AllByRecursion P xs
all_of P [] h = tt
all_of P (x ∷ xs) h = (h 0 x refl, all_of P xs (λ n y e. h (suc n) y e))

none_some : {X : Type 0} (a : X) → ◌≡◌ {A = Option X} None (Some a) → ⊥
none_some a e = cc

pub each_in : {X : Type 0} (P : X → Type 0) (xs : List X) → AllByRecursion P xs → EachItem P xs
each_in {X} P [] h n x e = absurd (no n x e)
  where
    no : (n : ℕ) (x : X) → slice_get [] n ≡ Some x → ⊥
    no n x e = let lt = slice_get_within [] n x e in absurd (omega arith)
each_in {X} P (y ∷ ys) h zero x e = subst P (some_injective y x e) h.0
each_in P (y ∷ ys) h (suc n) x e = each_in P ys h.1 n x e

pub each_weaker : {X : Type 0} (P Q : X → Type 0) (xs : List X) → ((x : X) → P x → Q x) → EachItem P xs → EachItem Q xs
each_weaker P Q xs step h n x e = step x (h n x e)

-- ---- next to one another

pub below_of : {X : Type 0} (R : X → X → Type 0) (xs : List X) → Adjacent R xs → AllAdjacentBelow R xs (length xs)
below_of R xs h k d lt = h k (get_or xs k d) (get_or xs (k + 1) d) (slice_get-get_or xs k d (omega arith)) (slice_get-get_or xs (k + 1) d lt)

pub adjacent_in : {X : Type 0} (R : X → X → Type 0) (xs : List X) → AllAdjacentBelow R xs (length xs) → Adjacent R xs
adjacent_in {X} R xs h n x y e f =
    let lt = slice_get_within xs (n + 1) y f in
    subst (λ (a : X). R a y) (get_or_from_slice_get xs n x x e) (subst (λ (b : X). R (get_or xs n x) b) (get_or_from_slice_get xs (n + 1) y x f) (h n x lt))

mapped_at : {X Y : Type 0} (f : X → Y) (o : Option X) (y : Y) → option_map f o ≡ Some y → (x : X) × ((o ≡ Some x) × (f x ≡ y))
mapped_at f None y e = absurd (none_some y e)
mapped_at f (Some x) y e = (x, (refl, some_injective (f x) y e))

pub mapped : {X Y : Type 0} (f : X → Y) (R : Y → Y → Type 0) (xs : List X) → Adjacent (λ x y. R (f x) (f y)) xs → AllAdjacentBelow R (map f xs) (length (map f xs))
mapped {X} {Y} f R xs h = below_of R (map f xs) (λ n a b e g.
    let x = mapped_at f (slice_get xs n) a (sym (slice_get-map f xs n) ∙ e) in
    let y = mapped_at f (slice_get xs (n + 1)) b (sym (slice_get-map f xs (n + 1)) ∙ g) in
    subst (λ (v : Y). R v b) x.1.1 (subst (λ (v : Y). R (f x.0) v) y.1.1 (h n x.0 y.0 x.1.0 y.1.0)))

pub unmapped : {X Y : Type 0} (f : X → Y) (R : Y → Y → Type 0) (xs : List X) → AllAdjacentBelow R (map f xs) (length (map f xs)) → Adjacent (λ x y. R (f x) (f y)) xs
unmapped f R xs h n x y e g = adjacent_in R (map f xs) h n (f x) (f y) (slice_get-map f xs n ∙ ap (option_map f) e) (slice_get-map f xs (n + 1) ∙ ap (option_map f) g)

-- ---- loaded units

pub contained : (maps : List MapSeen) (unit : ℕ) → IsUnitLoaded maps unit → Contains (map (λ (m : MapSeen). m.unit) maps) unit
contained maps unit h =
    let at : slice_get (map (λ (m : MapSeen). m.unit) maps) h.0 ≡ Some unit = slice_get-map (λ (m : MapSeen). m.unit) maps h.0 ∙ ap (option_map (λ (m : MapSeen). m.unit)) h.1.1.0 ∙ ap (λ (u : ℕ). Some u) h.1.1.1 in
    (h.0, slice_get_within (map (λ (m : MapSeen). m.unit) maps) h.0 unit at, get_or_from_slice_get (map (λ (m : MapSeen). m.unit) maps) h.0 unit unit at)

pub loaded : (maps : List MapSeen) (unit : ℕ) → Contains (map (λ (m : MapSeen). m.unit) maps) unit → IsUnitLoaded maps unit
loaded maps unit h =
    let at : slice_get (map (λ (m : MapSeen). m.unit) maps) h.0 ≡ Some unit = slice_get-get_or (map (λ (m : MapSeen). m.unit) maps) h.0 unit h.1 ∙ ap (λ (u : ℕ). Some u) h.2 in
    let m = mapped_at (λ (m : MapSeen). m.unit) (slice_get maps h.0) unit (sym (slice_get-map (λ (m : MapSeen). m.unit) maps h.0) ∙ at) in
    (h.0, (m.0, (m.1.0, m.1.1)))
