-- SPDX-License-Identifier: GPL-2.0-only
-- The phases of an id along the journal of registrations.
use Rattle.shr_audit_reasons.proofs.Common.{◌≡◌, ℕ, zero, suc, ◌+◌, ◌-◌, ◌<◌, ◌≤◌, Bool, cond, List, length, get_or, take, Option, Some, None, refl, sym, ap, subst, ◌∙◌, inl, inr, arith, eq-eqb, ◌↔◌, slice_get, option_map, cases_lt, take_all, slice_get-get_or, PoolEntry, id_of, phase_of, IsBehindOf, IsSecondOf, IsNextOf, IsEntryOfId, ne_eqb, take_more, slice_get_cases, slice_get_past}
use Rattle.std.proofs.Math.Nat.{eq-or-lt_of_le}
use Rattle.shr_model.proofs.PoolLaws.{one_of, phase_of_push}
use Rattle.shr_model.proofs.Lists.{some_same}

-- the phase of an id after so many entries
abbrev pub phase : List PoolEntry → ℕ → ℕ → ℕ
phase pool id n = phase_of id (take n pool)

-- how much an entry raises it
raised : ℕ → Option PoolEntry → ℕ
raised id None = 0
raised id (Some e) = one_of id e

one_more : (pool : List PoolEntry) (id k : ℕ) → phase pool id (k + 1) ≡ phase pool id k + raised id (slice_get pool k)
unfolding raised
one_more pool id k = elim (slice_get_cases pool k).1 [
  | inl there ↦
      let e = there.0 in
      ap (phase_of id) (take_more pool k e there.1) ∙ phase_of_push id (take k pool) (get_or pool k e)
      ∙ ap (λ (x : PoolEntry). phase pool id k + one_of id x) there.3
      ∙ ap (λ (o : Option PoolEntry). phase pool id k + raised id o) (sym there.2)
  | inr past ↦
      let over : length pool ≤ k = past.0 in
      ap (phase_of id) (take_all (k + 1) pool (omega (arith, over)) ∙ sym (take_all k pool over))
      ∙ (let e : phase pool id k ≡ phase pool id k + 0 = omega arith in e)
      ∙ ap (λ (o : Option PoolEntry). phase pool id k + raised id o) (sym past.1)
]

raised_one : (id : ℕ) (o : Option PoolEntry) → option_map id_of o ≡ Some id → raised id o ≡ 1
unfolding raised
raised_one id None h = absurd cc
raised_one id (Some e) h = ap (λ (b : Bool). cond b 1 0) (eq-eqb (id_of e) id (some_same (id_of e) id h))

raised_none : (id : ℕ) (o : Option PoolEntry) → (option_map id_of o ≡ Some id → ⊥) → raised id o ≡ 0
unfolding raised
raised_none id None none = refl
raised_none id (Some e) none = ap (λ (b : Bool). cond b 1 0) (ne_eqb (id_of e) id (λ same. none (ap (λ (n : ℕ). Some n) same)))

-- an entry of the id, and another
next_phase : (pool : List PoolEntry) (id k : ℕ) → IsEntryOfId pool id k → phase pool id (k + 1) ≡ phase pool id k + 1
next_phase pool id k h = one_more pool id k ∙ ap (λ (n : ℕ). phase pool id k + n) (raised_one id (slice_get pool k) h)

same_phase : (pool : List PoolEntry) (id k : ℕ) → (IsEntryOfId pool id k → ⊥) → phase pool id (k + 1) ≡ phase pool id k
same_phase pool id k none = let e = one_more pool id k ∙ ap (λ (n : ℕ). phase pool id k + n) (raised_none id (slice_get pool k) none) in omega (arith, e)

-- so many entries further
quiet_for : (pool : List PoolEntry) (id a m : ℕ) → ((n : ℕ) → a ≤ n → n < a + m → IsEntryOfId pool id n → ⊥) → phase pool id (a + m) ≡ phase pool id a
quiet_for pool id a zero none = ap (phase pool id) (let e : a + 0 ≡ a = omega arith in e)
quiet_for pool id a (suc m) none =
    ap (phase pool id) (let e : a + suc m ≡ (a + m) + 1 = omega arith in e)
    ∙ same_phase pool id (a + m) (none (a + m) (omega arith) (omega arith))
    ∙ quiet_for pool id a m (λ n le lt. none n le (omega (arith, lt)))

rises_for : (pool : List PoolEntry) (id a m : ℕ) → phase pool id a ≤ phase pool id (a + m)
rises_for pool id a zero = let e = ap (phase pool id) (let e : a + 0 ≡ a = omega arith in e) in omega (arith, e)
rises_for pool id a (suc m) =
    let before = rises_for pool id a m in
    let step = one_more pool id (a + m) in
    let e = ap (phase pool id) (let e : a + suc m ≡ (a + m) + 1 = omega arith in e) in
    omega (arith, before, step, e)

-- no entry of the id stands between two numbers, and any do
quiet : (pool : List PoolEntry) (id a b : ℕ) → a ≤ b → ((n : ℕ) → a ≤ n → n < b → IsEntryOfId pool id n → ⊥) → phase pool id b ≡ phase pool id a
quiet pool id a b le none =
    let e : a + (b - a) ≡ b = omega (arith, le) in
    ap (phase pool id) (sym e) ∙ quiet_for pool id a (b - a) (λ n from lt. none n from (omega (arith, lt, le)))

rises : (pool : List PoolEntry) (id a b : ℕ) → a ≤ b → phase pool id a ≤ phase pool id b
rises pool id a b le =
    let e : a + (b - a) ≡ b = omega (arith, le) in
    subst (λ (n : ℕ). phase pool id a ≤ phase pool id n) e (rises_for pool id a (b - a))

-- ---- going through the entries

pub next_more : (pool : List PoolEntry) (id from n : ℕ) (d : PoolEntry) → n < length pool → (id_of (get_or pool n d) ≡ id → ⊥)
    → ((m : ℕ) → from ≤ m → m < n → IsEntryOfId pool id m → ⊥) → (m : ℕ) → from ≤ m → m < n + 1 → IsEntryOfId pool id m → ⊥
next_more pool id from n d there none before m le lt of = elim (cases_lt m n) [
  | inl below ↦ before m le below of
  | inr above ↦
      let same : m ≡ n = omega (arith, lt, above) in
      let here : option_map id_of (slice_get pool n) ≡ Some id = subst (λ (k : ℕ). IsEntryOfId pool id k) same of in
      none (some_same (id_of (get_or pool n d)) id (sym (ap (option_map id_of) (slice_get-get_or pool n d there)) ∙ here))
]

pub next_found : (pool : List PoolEntry) (id from n : ℕ) (d : PoolEntry) → from ≤ n → n < length pool → id_of (get_or pool n d) ≡ id → ((m : ℕ) → from ≤ m → m < n → IsEntryOfId pool id m → ⊥) → IsNextOf pool id from (Some n)
next_found pool id from n d le there same before = (le, there, ap (option_map id_of) (slice_get-get_or pool n d there) ∙ ap (λ (k : ℕ). Some k) same, before)

pub next_past : (pool : List PoolEntry) (id from n : ℕ) → length pool ≤ n → ((m : ℕ) → from ≤ m → m < n → IsEntryOfId pool id m → ⊥) → IsNextOf pool id from None
next_past pool id from n over before m le of = elim (cases_lt m n) [
  | inl below ↦ before m le below of
  | inr above ↦
      let none : option_map id_of (slice_get pool m) ≡ None = ap (option_map id_of) (slice_get_past pool m (omega (arith, over, above))) in
      no_some id (sym none ∙ of)
]
  where
    no_some : (k : ℕ) → ◌≡◌ {A = Option ℕ} None (Some k) → ⊥
    no_some k e = cc

-- ---- one first entry alone

pub next_one : (pool : List PoolEntry) (id from : ℕ) (o : Option ℕ) → IsNextOf pool id from o → (n : ℕ) → IsNextOf pool id from (Some n) ↔ (o ≡ Some n)
next_one pool id from None g n = (λ h. absurd (g n h.0 h.2), λ e. absurd cc)
next_one pool id from (Some m) g n = (to, λ e. subst (λ (k : ℕ). IsNextOf pool id from (Some k)) (some_same m n e) g)
  where
    to : IsNextOf pool id from (Some n) → ◌≡◌ {A = Option ℕ} (Some m) (Some n)
    to h = elim (cases_lt m n) [
      | inl lt ↦ absurd (h.3 m g.0 lt g.2)
      | inr le ↦ elim (eq-or-lt_of_le le) [
        | inl same ↦ ap (λ (k : ℕ). Some k) (sym same)
        | inr lt ↦ absurd (g.3 n h.0 lt h.2)
      ]
    ]

-- ---- the second entry of an id, by the one before it

pub of_within : (pool : List PoolEntry) (id n : ℕ) → IsEntryOfId pool id n → n < length pool
of_within pool id n of = elim (slice_get_cases pool n).1 [
  | inl there ↦ there.1
  | inr past ↦ absurd (let none = ap (option_map id_of) past.1 in no_some id (sym none ∙ of))
]
  where
    no_some : (k : ℕ) → ◌≡◌ {A = Option ℕ} None (Some k) → ⊥
    no_some k e = cc

pub before_of : (pool : List PoolEntry) (id n behind : ℕ) → IsBehindOf pool id n behind → 0 < behind → IsEntryOfId pool id (behind - 1)
before_of pool id n behind b some = elim b.of [
  | inl none ↦ absurd (omega (arith, none, some))
  | inr of ↦ of
]

module _ (pool : List PoolEntry) (id entry n behind : ℕ) (b : IsBehindOf pool id n behind) where
  -- after that entry, and up to the next
  at_next : 0 < behind → phase pool id n ≡ phase pool id (behind - 1) + 1
  at_next some =
      let low = b.low in
      let e : behind - 1 + 1 ≡ behind = omega (arith, some) in
      quiet pool id behind n low b.quiet ∙ sym (ap (phase pool id) e) ∙ next_phase pool id (behind - 1) (before_of pool id n behind b some)

  pub second_of_first : IsEntryOfId pool id n → 0 < behind → IsNextOf pool id entry (Some (behind - 1)) → IsSecondOf pool id entry n
  second_of_first of some f =
      let low = b.low in
      let from = f.0 in
      (of, (omega (arith, some, low, from)), at_next some ∙ ap (λ (k : ℕ). k + 1) (quiet pool id entry (behind - 1) f.0 f.3))

  some_before : IsSecondOf pool id entry n → 0 < behind
  some_before h = elim (cases_lt 0 behind) [
    | inl some ↦ some
    | inr none ↦
        let all = quiet pool id 0 n (omega arith) (λ m le lt. b.quiet m (omega (arith, none)) lt) in
        let up = rises pool id 0 entry (omega arith) in
        let p = h.2 in
        absurd (omega (arith, all, up, p))
  ]

  pub first_of_second : IsSecondOf pool id entry n → (0 < behind) × IsNextOf pool id entry (Some (behind - 1))
  first_of_second h = (some, (from, of_within pool id (behind - 1) (before_of pool id n behind b some), before_of pool id n behind b some, none))
    where
      some : 0 < behind
      some = some_before h

      same : phase pool id (behind - 1) ≡ phase pool id entry
      same = let p = h.2 in let q = at_next some in omega (arith, p, q)

      from : entry ≤ behind - 1
      from = elim (cases_lt (behind - 1) entry) [
        | inl past ↦
            let below : entry < n = h.1 in
            let still = quiet pool id entry n (omega (arith, below)) (λ m le lt. b.quiet m (omega (arith, past, le, some)) lt) in
            let p = h.2 in
            absurd (omega (arith, p, still))
        | inr le ↦ le
      ]

      none : (m : ℕ) → entry ≤ m → m < behind - 1 → IsEntryOfId pool id m → ⊥
      none m le lt of =
          let up = rises pool id entry m le in
          let here = next_phase pool id m of in
          let on = rises pool id (m + 1) (behind - 1) (omega (arith, lt)) in
          let e = same in
          absurd (omega (arith, up, here, on, e))
