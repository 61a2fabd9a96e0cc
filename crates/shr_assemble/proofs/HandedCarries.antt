-- SPDX-License-Identifier: GPL-2.0-only
-- The carries of a group's places: in order, each at a place that is there, and together what was taken.
use Rattle.shr_assemble.proofs.Common.{◌≡◌, ℕ, zero, suc, ◌+◌, ◌<◌, ◌≤◌, inl, inr, ⊎_elim, Bool, true, false, cond, List, [], ◌∷◌, ◌++◌, length, map, refl, sym, ap, subst, ◌∙◌, arith, ◌==◌, ◌*◌, ◌/◌, ◌%◌, AllPairs, sum, sum_by, AllByRecursion, range_with_len, eqb-true, cases_lt, All-from_recursion, AllPairs-cons, sum_by-cons, PlaceAmount, Place, Serial, Carry, total, total-append, Shape, carry_noted, carries_noted, IsBefore, sum_total, above_zero, amount_taken, place_by_number}
use Rattle.shr_offline.specs.Carries as carry

-- ---- what was noted is what was taken

noted_sum : (by : Serial) (amounts : List PlaceAmount) → total (λ (c : Carry). c.amount) (carries_noted by amounts) ≡ sum (map amount_taken amounts)
noted_sum by [] = refl
noted_sum by (a ∷ more) = omega (arith, total-append (λ (c : Carry). c.amount) (carry_noted by a) (carries_noted by more), noted_sum by more, one (a.amount == 0) refl, sum_by-cons (λ (n : ℕ). n) a.amount (map amount_taken more)) where
  one : (b : Bool) → (a.amount == 0) ≡ b → total (λ (c : Carry). c.amount) (cond b [] (record { by = by; place = a.place; amount = a.amount } ∷ [])) ≡ a.amount
  one true e = sym (eqb-true a.amount 0 e)
  one false e = omega arith

pub carried_sum : (by : Serial) (amounts : List PlaceAmount) → sum (map amount_taken amounts) ≡ sum_by (λ (c : Carry). c.amount) (carries_noted by amounts)
carried_sum by amounts = sym (sum_total (λ (c : Carry). c.amount) (carries_noted by amounts) ∙ noted_sum by amounts)

-- ---- the places stand in a row

-- the carry of a command at the place of this number
pub record IsCarryAt (shape : Shape) (by : Serial) (group low high : ℕ) (c : Carry) : Type 0 where
  pub number : ℕ
  pub reached : low ≤ number
  pub within : number < high
  pub own : c.by ≡ by
  pub place : c.place ≡ place_by_number shape group number
  pub some : 0 < c.amount

-- the numbers rise
abbrev pub AreInRow : Shape → Serial → ℕ → ℕ → ℕ → List Carry → Type 0
AreInRow shape by group low high [] = Unit {0}
AreInRow shape by group low high (c ∷ cs) = (h : IsCarryAt shape by group low high c) × AreInRow shape by group (h.number + 1) high cs

-- the id and the node of a number are there
pub row_of : (nodes ids n : ℕ) → nodes ≤ 4 → n < ids * nodes → (n / nodes < ids) × (n % nodes < nodes)
row_of zero ids n most lt = absurd (omega (arith, lt))
row_of (suc (suc (suc (suc (suc k))))) ids n most lt = absurd (omega (arith, most))
row_of nodes ids n most lt = (omega (arith, lt), omega arith)

module _ (shape : Shape) (by : Serial) (group high : ℕ) where
  lower : (low least : ℕ) (cs : List Carry) → least ≤ low → AreInRow shape by group low high cs → AreInRow shape by group least high cs
  lower low least [] le h = tt
  lower low least (c ∷ cs) le h = let from = h.0.reached in (record { number = h.0.number; reached = omega (arith, le, from); within = h.0.within; own = h.0.own; place = h.0.place; some = h.0.some }, h.1)

  abbrev first : Place → List Place → Place
  first d [] = d
  first d (p ∷ ps) = p

  abbrev others : List Place → List Place
  others [] = []
  others (p ∷ ps) = ps

  pub in_row : (n k : ℕ) (amounts : List PlaceAmount) → n + k ≡ high → map carry.amount_place amounts ≡ map (place_by_number shape group) (range_with_len n k) → AreInRow shape by group n high (carries_noted by amounts)
  in_row n k [] end same = tt
  in_row n zero (a ∷ more) end same = absurd (let f = ap (λ (l : List Place). length l) same in omega (arith, f))
  in_row n (suc k) (a ∷ more) end same = by_test (a.amount == 0) refl (in_row (n + 1) k more (omega (arith, end)) (ap others same)) where
    by_test : (b : Bool) → (a.amount == 0) ≡ b → AreInRow shape by group (n + 1) high (carries_noted by more) → AreInRow shape by group n high (cond b [] (record { by = by; place = a.place; amount = a.amount } ∷ []) ++ carries_noted by more)
    by_test true none rest = lower (n + 1) n (carries_noted by more) (omega arith) rest
    by_test false some rest = (record { number = n; reached = omega arith; within = omega (arith, end); own = refl; place = ap (first a.place) same; some = above_zero a.amount some }, rest)

  pub each_in_row : (low : ℕ) (cs : List Carry) → AreInRow shape by group low high cs → AllByRecursion (IsCarryAt shape by group low high) cs
  each_in_row low [] h = tt
  each_in_row low (c ∷ cs) h = (h.0, each_in_row low cs (lower (h.0.number + 1) low cs (let from = h.0.reached in omega (arith, from)) h.1))

  abbrev CarryBefore : Carry → Carry → Type 0
  CarryBefore c d = IsBefore c.place.id c.place.node d.place.id d.place.node

  module _ (some : 0 < shape.nodes) (few : shape.nodes ≤ 4) where
    -- of two numbers the lower one's place comes first
    rows : (nodes n m : ℕ) → 0 < nodes → nodes ≤ 4 → n < m → IsBefore (n / nodes) (n % nodes) (m / nodes) (m % nodes)
    rows zero n m some few lt = absurd (omega (arith, some))
    rows (suc zero) n m some few lt = inl (omega (arith, lt))
    rows (suc (suc zero)) n m some few lt = ⊎_elim (λ a. inl a) (λ a. inr (omega (arith, lt, a), omega (arith, lt, a))) (cases_lt (n / 2) (m / 2))
    rows (suc (suc (suc zero))) n m some few lt = ⊎_elim (λ a. inl a) (λ a. inr (omega (arith, lt, a), omega (arith, lt, a))) (cases_lt (n / 3) (m / 3))
    rows (suc (suc (suc (suc zero)))) n m some few lt = ⊎_elim (λ a. inl a) (λ a. inr (omega (arith, lt, a), omega (arith, lt, a))) (cases_lt (n / 4) (m / 4))
    rows (suc (suc (suc (suc (suc k))))) n m some few lt = absurd (omega (arith, few))

    before_rest : (c : Carry) (low : ℕ) (h : IsCarryAt shape by group low high c) (cs : List Carry) → AllByRecursion (IsCarryAt shape by group (h.number + 1) high) cs → AllByRecursion (CarryBefore c) cs
    before_rest c low h [] all = tt
    before_rest c low h (d ∷ cs) all = let from = all.0.reached in (
      subst (λ (p : Place). IsBefore p.id p.node d.place.id d.place.node) (sym h.place) (subst (λ (q : Place). IsBefore (place_by_number shape group h.number).id (place_by_number shape group h.number).node q.id q.node) (sym all.0.place) (rows shape.nodes h.number all.0.number some few (omega (arith, from)))),
      before_rest c low h cs all.1,
    )

    pub rising : (low : ℕ) (cs : List Carry) → AreInRow shape by group low high cs → AllPairs CarryBefore cs
    rising low [] h = λ i j d lt within. absurd (omega (arith, within))
    rising low (c ∷ cs) h = AllPairs-cons CarryBefore c cs (All-from_recursion (CarryBefore c) cs (before_rest c low h.0 cs (each_in_row (h.0.number + 1) cs h.1))) (rising (h.0.number + 1) cs h.1)
