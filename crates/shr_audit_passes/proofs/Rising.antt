-- SPDX-License-Identifier: GPL-2.0-only
-- Numbers from 0 up, as far as they are seen, and the ids of the bits of a word.
use Rattle.shr_audit_passes.proofs.Common.{◌≡◌, ℕ, zero, suc, ◌+◌, ◌*◌, ◌<◌, ◌≤◌, Bool, true, false, cond, List, [], ◌∷◌, ◌++◌, length, get_or, map, filter, take, refl, sym, ap, subst, ◌∙◌, arith, Decides, range_with_len, append-nil, length-map, common_steps, ids_in, append_assoc, map-append, get_or-map, map_more, take-map, is_set}
use Rattle.std.proofs.lemmas.List.FromFn.{length-range_with_len, get_or-range_with_len}
use Rattle.std.proofs.lemmas.List.Elements.{filter-append}
use Rattle.shr_model.specs.Prefixes.{IsPrefixOf}
use Rattle.shr_audit_passes.specs.Seen.{ids_set_below}
use Rattle.shr_audit_formed.proofs.Strip.{range_more}

pub take_range : (a n k : ℕ) → k ≤ n → take k (range_with_len a n) ≡ range_with_len a k
take_range a zero zero h = refl
take_range a zero (suc k) h = absurd (omega arith)
take_range a (suc n) zero h = refl
take_range a (suc n) (suc k) h = ap (λ (xs : List ℕ). a ∷ xs) (take_range (a + 1) n k (omega arith))

-- more than there are numbers are not the first of them
pub too_many : {X : Type 0} (f : X → ℕ) (xs : List X) (n : ℕ) → n < length xs → Decides false (IsPrefixOf (map f xs) (range_with_len 0 n))
too_many f xs n more = (λ t. absurd cc, λ h. let few = ap length h in let count = length-range_with_len 0 n in let all = length-map xs f in absurd (grind (arith, common_steps)))

-- nor are those of which one is another
pub not_rising : {X : Type 0} (f : X → ℕ) (xs : List X) (n i : ℕ) (d : X) → length xs ≤ n → i < length xs → (f (get_or xs i d) ≡ i → ⊥) → Decides false (IsPrefixOf (map f xs) (range_with_len 0 n))
not_rising f xs n i d few lt other = (
  λ t. absurd cc,
  λ h. let all = length-map xs f in
      let same : range_with_len 0 (length (map f xs)) ≡ map f xs = sym (take_range 0 n (length (map f xs)) (omega arith)) ∙ h in
      let at : get_or (range_with_len 0 (length (map f xs))) i 0 ≡ i = get_or-range_with_len 0 (length (map f xs)) i 0 (omega arith) ∙ zero_and i in
      absurd (other (sym (get_or-map f xs i d 0 lt) ∙ sym (ap (λ (ys : List ℕ). get_or ys i 0) same) ∙ at)),
)
  where
    zero_and : (i : ℕ) → 0 + i ≡ i
    zero_and i = omega arith

-- those of which each is its own number are
pub all_rising : {X : Type 0} (f : X → ℕ) (xs : List X) (n i : ℕ) → length xs ≤ n → length xs ≤ i → i ≤ length xs → take i (map f xs) ≡ range_with_len 0 i → Decides true (IsPrefixOf (map f xs) (range_with_len 0 n))
all_rising f xs n i few over up h = (
  λ t. let all = length-map xs f in
      let same : i ≡ length (map f xs) = omega arith in
      take_range 0 n (length (map f xs)) (omega arith) ∙ sym (subst (λ (k : ℕ). take k (map f xs) ≡ range_with_len 0 k) same h) ∙ whole (map f xs),
  λ h. refl,
)
  where
    whole : (xs : List ℕ) → take (length xs) xs ≡ xs
    whole xs = grind (arith, common_steps)

-- one more
pub one_more : {X : Type 0} (f : X → ℕ) (xs : List X) (i : ℕ) (d : X) → i < length xs → f (get_or xs i d) ≡ i → take i (map f xs) ≡ range_with_len 0 i → take (i + 1) (map f xs) ≡ range_with_len 0 (i + 1)
one_more f xs i d lt at h =
    take-map f (i + 1) xs ∙ map_more f xs i d lt ∙ ap (λ (ys : List ℕ). ys ++ f (get_or xs i d) ∷ []) (sym (take-map f i xs) ∙ h) ∙ ap (λ (k : ℕ). range_with_len 0 i ++ k ∷ []) at ∙ sym (range_more 0 i i (omega arith))

-- ---- the bits of a word

ids_are : (unit bits : ℕ) → ids_set_below unit bits 64 ≡ ids_in unit bits
unfolding ids_set_below
ids_are unit bits = refl

pub ids_whole : (unit bits i : ℕ) → i ≡ 64 → ids_set_below unit bits i ≡ ids_in unit bits
ids_whole unit bits i e = ap (ids_set_below unit bits) e ∙ ids_are unit bits

ids_step : (unit bits n : ℕ) → ids_set_below unit bits (n + 1) ≡ ids_set_below unit bits n ++ map (λ (bit : ℕ). 64 * unit + bit) (cond (is_set bits n) (n ∷ []) [])
unfolding ids_set_below
ids_step unit bits n =
    ap (λ (xs : List ℕ). map (λ (bit : ℕ). 64 * unit + bit) (filter (is_set bits) xs)) (range_more 0 n n (omega arith))
    ∙ ap (map (λ (bit : ℕ). 64 * unit + bit)) (filter-append (is_set bits) (range_with_len 0 n) (n ∷ []))
    ∙ map-append (λ (bit : ℕ). 64 * unit + bit) (filter (is_set bits) (range_with_len 0 n)) (cond (is_set bits n) (n ∷ []) [])

pub no_ids : (unit bits : ℕ) → ids_set_below unit bits 0 ≡ []
unfolding ids_set_below
no_ids unit bits = refl

pub id_added : (old start new : List ℕ) (unit bits n : ℕ) → start ≡ old ++ ids_set_below unit bits n → is_set bits n ≡ true → new ≡ start ++ (64 * unit + n) ∷ [] → new ≡ old ++ ids_set_below unit bits (n + 1)
id_added old start new unit bits n s is e =
    let step = ids_step unit bits n ∙ ap (λ (b : Bool). ids_set_below unit bits n ++ map (λ (bit : ℕ). 64 * unit + bit) (cond b (n ∷ []) [])) is in
    e ∙ ap (λ (xs : List ℕ). xs ++ (64 * unit + n) ∷ []) s ∙ append_assoc old (ids_set_below unit bits n) ((64 * unit + n) ∷ []) ∙ ap (λ (xs : List ℕ). old ++ xs) (sym step)

pub id_passed : (old start : List ℕ) (unit bits n : ℕ) → start ≡ old ++ ids_set_below unit bits n → is_set bits n ≡ false → start ≡ old ++ ids_set_below unit bits (n + 1)
id_passed old start unit bits n s isnt =
    let step = ids_step unit bits n ∙ ap (λ (b : Bool). ids_set_below unit bits n ++ map (λ (bit : ℕ). 64 * unit + bit) (cond b (n ∷ []) [])) isnt ∙ append-nil (ids_set_below unit bits n) in
    s ∙ ap (λ (xs : List ℕ). old ++ xs) (sym step)

-- ---- whole lists

-- lists of other lengths differ
pub other_length : {X : Type 0} (f : X → ℕ) (xs : List X) (n : ℕ) → (length xs ≡ n → ⊥) → Decides false (map f xs ≡ range_with_len 0 n)
other_length f xs n other = (λ t. absurd cc, λ h. let all = length-map xs f in let count = length-range_with_len 0 n in absurd (other (sym all ∙ ap length h ∙ count)))

-- of as many numbers the first are all
pub whole_prefix : {X : Type 0} (f : X → ℕ) (xs : List X) (n : ℕ) (b : Bool) → length xs ≡ n → Decides b (IsPrefixOf (map f xs) (range_with_len 0 n)) → Decides b (map f xs ≡ range_with_len 0 n)
whole_prefix f xs n b few d =
    let all : length (map f xs) ≡ n = length-map xs f ∙ few in
    let same : take (length (map f xs)) (range_with_len 0 n) ≡ range_with_len 0 n = ap (λ (k : ℕ). take k (range_with_len 0 n)) all ∙ take_range 0 n n (omega arith) in (
      λ t. sym (d.0 t) ∙ same,
      λ h. d.1 (same ∙ sym h),
    )
