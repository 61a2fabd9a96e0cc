-- SPDX-License-Identifier: GPL-2.0-only
-- What the words say while one seat alone is there.
use Rattle.shr_core.proofs.Common.{◌≡◌, ◌≢◌, ℕ, zero, suc, ◌+◌, ◌<◌, ◌≤◌, true, false, Bool, cond, nat_lt, List, [], ◌∷◌, length, map, sym, refl, ap, subst, ◌∙◌, arith, nat_le, ◌&&◌, nat_tests, some, some-injective, some-ne-none, get_elem?, State, at_map, IsWhole, total, only, from_map, sole, total_zero, View, Slot, Setting, Claims, Tried, Turn, Turns, looks_in, locks_in, sizes_of, refs_of, lookups_of, Sound, IsRoom, spent, hit_attempt, hit_turn, only_some, has_room, holding_of, claims_of, turns_of, view_standing}

-- a sum to which one element alone adds
spike : {A : Type 0} (f : A → ℕ) (l : List A) (id : ℕ) (v : A) → get_elem? l id ≡ some v → ((j : ℕ) (x : A) → j ≢ id → get_elem? l j ≡ some x → f x ≡ 0) → total f l ≡ f v
spike f [] id v at none = absurd (some-ne-none v (sym at))
spike f (y ∷ ys) zero v at none = let same : f y ≡ f v = ap f (some-injective y v at) in omega (arith, same, total_zero f ys (λ j x e. none (suc j) x (λ n. absurd (omega (arith, n))) e))
spike f (y ∷ ys) (suc id) v at none = omega (arith, none 0 y (λ n. absurd (omega (arith, n))) refl, spike f ys id v at (λ j x n e. none (suc j) x (λ m. n (omega (arith, m))) e))

-- no number from the first on is below the lookups now
ended : (f now : ℕ) → ◌≡◌ {A = ℕ} (cond (nat_le f f && nat_lt f now) 1 0) 0 → now ≤ f
ended f now c = let le : nat_le f f ≡ true = grind (arith, nat_tests) in by_lt (nat_lt f now) refl (subst (λ (b : Bool). ◌≡◌ {A = ℕ} (cond (b && nat_lt f now) 1 0) 0) le c)
  where
    by_lt : (b : Bool) → nat_lt f now ≡ b → ◌≡◌ {A = ℕ} (cond (true && nat_lt f now) 1 0) 0 → now ≤ f
    by_lt false e d = grind (arith, nat_tests, e)
    by_lt true e d = let z : ◌≡◌ {A = ℕ} 1 0 = sym (ap {B = ℕ} (λ (x : Bool). cond x 1 0) e) ∙ d in absurd (omega (arith, z))

one_below : (a n : ℕ) → ◌≡◌ {A = ℕ} (cond (nat_lt a (suc n)) 1 0) (cond (nat_lt a n) 1 0 + only n a)
one_below a n = grind (arith, nat_tests)

-- how many of these turns have a number below this one
abbrev below : ℕ → List Turn → ℕ
below n xs = total (λ (x : Turn). cond (nat_lt x.number n) 1 0) xs

below_next : (n : ℕ) (xs : List Turn) → below (suc n) xs ≡ below n xs + total (hit_turn n) xs
below_next n [] = refl
below_next n (x ∷ xs) = omega (arith, one_below x.number n, below_next n xs)

below_none : (xs : List Turn) → below 0 xs ≡ 0
below_none [] = refl
below_none (x ∷ xs) = omega (arith, below_none xs, none x.number)
  where
    none : (a : ℕ) → ◌≡◌ {A = ℕ} (cond (nat_lt a 0) 1 0) 0
    none a = grind (arith, nat_tests)

below_most : (n : ℕ) (xs : List Turn) → below n xs ≤ length xs
below_most n [] = omega arith
below_most n (x ∷ xs) = omega (arith, below_most n xs, one (nat_lt x.number n))
  where
    one : (b : Bool) → cond b 1 0 ≤ 1
    one true = omega arith
    one false = omega arith

below_all : (n last : ℕ) (xs : List Turn) → n ≤ last → ((k : ℕ) → total (hit_turn k) xs ≡ cond (nat_lt k last) 1 0) → below n xs ≡ n
below_all zero last xs low once = below_none xs
below_all (suc n) last xs low once =
    let there : nat_lt n last ≡ true = grind (arith, nat_tests) in
    let here : total (hit_turn n) xs ≡ 1 = once n ∙ ap {B = ℕ} (λ (b : Bool). cond b 1 0) there in
    omega (arith, below_next n xs, below_all n last xs (omega arith) once, here)

-- where each number below the last is that of one turn, there are as many turns
few_made : (last : ℕ) (xs : List Turn) → ((k : ℕ) → total (hit_turn k) xs ≡ cond (nat_lt k last) 1 0) → last ≤ length xs
few_made last xs once = omega (arith, below_all last last xs (omega arith) once, below_most last xs)

module _ (key : Setting) (s : State Slot View) (o : Sound key s) (id : ℕ) (v : View) (me : get_elem? s.views id ≡ some v) (first : v.standing.first ≡ true) (whole : IsWhole v.standing) where
  -- a sum over the seats is the share of the first one, once all others were joined
  pub sum_alone : {A : Type 0} (part : View → A) (f : A → ℕ) → f (part spent) ≡ 0 → total f (map part s.views) ≡ f (part v)
  sum_alone part f none = spike f (map part s.views) id (part v) (at_map part s.views id v me) (λ j x n at. let t = from_map part s.views j x at in
      ap f (sym t.2) ∙ (ap (λ (u : View). f (part u)) (sole view_standing spent s.views id v me first whole o.rules.seated o.emptied j t.0 n t.1) ∙ none))

  -- the references are those that the seat holds
  pub refs_alone : (i : ℕ) → i < key.shape.ids → refs_of (looks_in s.words i) ≡ only_some i v.claims.held + only_some i v.claims.probe
  refs_alone i near = o.rules.looked.refs i near ∙ sum_alone claims_of (λ (x : Claims). only_some i x.held + only_some i x.probe) refl

  -- before its first lookup each id stands at the first number
  pub first_alone : v.claims.attempts ≡ [] → (i : ℕ) → i < key.shape.ids → lookups_of (looks_in s.words i) ≡ key.first_lookup
  first_alone untried i near = let f : ℕ = key.first_lookup in let now : ℕ = lookups_of (looks_in s.words i) in
      let t : total (λ (c : Claims). total (hit_attempt i f) c.attempts) (map claims_of s.views) ≡ 0 = sum_alone claims_of (λ (c : Claims). total (hit_attempt i f) c.attempts) refl ∙ ap (λ (a : List Tried). total (hit_attempt i f) a) untried in
      let low = o.rules.looked.low i near in let high : now ≤ f = ended f now (sym (o.rules.looked.once i f near) ∙ t) in omega (arith, low, high)

  -- the pool's journal has no more entries than the seat made
  pub turns_alone : length o.pool ≤ length v.turns.made
  turns_alone = few_made (length o.pool) v.turns.made (λ n. sym (sum_alone turns_of (λ (t : Turns). total (hit_turn n) t.made) refl) ∙ o.rules.turned.once n)

  -- a room that is taken the seat has itself
  pub lock_alone : (r : ℕ) → IsRoom key.shape r → locks_in (sizes_of key.shape) s.words r ≢ 0 → 0 < has_room r v.holding
  lock_alone r near busy = omega (arith, busy, o.rules.roomed.locks r near, sum_alone holding_of (has_room r) refl)
