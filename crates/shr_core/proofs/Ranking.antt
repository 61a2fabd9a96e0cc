-- SPDX-License-Identifier: GPL-2.0-only
-- Events stand in the order of their numbers.
use Rattle.shr_core.proofs.Common.{◌≡◌, ℕ, ◌+◌, ◌<◌, ◌≤◌, cond, eqb, List, [], ◌∷◌, ◌++◌, length, sym, refl, ap, ◌∙◌, arith, eq-eqb, ne_eqb, length-append, dite, ℕ_discrete, some, get_elem?, PoolEntry, Registered, Unregistered, Idle, Deed, total, Event, counted, made, looked, loaded, turned, put_back, raised, cleared, mapped, Moment, at_start, moment_after, moment_next, IsDrawnAt, IsSo, AreEvents, last_moment, Measure, entries, lookups, value, in_order, counted_once, turns, EntryTells, EventTells}

-- no event takes anything away
pub grows : (m : Measure) (t : Moment) (e : Event) → value m t ≤ value m (moment_after t e)
grows (entries k) t (counted x) = omega arith
grows (entries k) t (made x) = dite (ℕ_discrete k x.place)
    (λ e. omega (arith, ap (λ b. length (cond b (t.now k ++ x.entry ∷ []) (t.now k))) (eq-eqb k x.place e), length-append (t.now k) (x.entry ∷ [])))
    (λ n. omega (arith, ap (λ b. length (cond b (t.now k ++ x.entry ∷ []) (t.now k))) (ne_eqb k x.place n)))
grows (entries k) t (looked x) = omega arith
grows (entries k) t (loaded x) = omega arith
grows (entries k) t (turned x) = omega arith
grows (entries k) t (put_back j) = omega arith
grows (entries k) t (raised j) = omega arith
grows (entries k) t (cleared j) = omega arith
grows (entries k) t (mapped x) = omega arith
grows (lookups i) t (counted x) = omega arith
grows (lookups i) t (made x) = omega arith
grows (lookups i) t (looked x) = dite (ℕ_discrete i x.id) (λ e. omega (arith, ap (λ b. cond b (t.next i + 1) (t.next i)) (eq-eqb i x.id e))) (λ n. omega (arith, ap (λ b. cond b (t.next i + 1) (t.next i)) (ne_eqb i x.id n)))
grows (lookups i) t (loaded x) = omega arith
grows (lookups i) t (turned x) = omega arith
grows (lookups i) t (put_back j) = omega arith
grows (lookups i) t (raised j) = omega arith
grows (lookups i) t (cleared j) = omega arith
grows (lookups i) t (mapped x) = omega arith
grows turns t (counted x) = omega arith
grows turns t (made x) = omega arith
grows turns t (looked x) = omega arith
grows turns t (loaded x) = omega arith
grows turns t (turned x) = omega (arith, length-append t.pool (x.entry ∷ []))
grows turns t (put_back j) = omega arith
grows turns t (raised j) = omega arith
grows turns t (cleared j) = omega arith
grows turns t (mapped x) = omega arith

-- a registration tells what is so at its moment
drawn : (t : Moment) (i low high : ℕ) (e : PoolEntry) → IsDrawnAt t e → EntryTells i e low high → (t.next i ≡ low) × (t.next i ≡ high)
drawn t i low high (Registered decl id from) at tells = let is : t.next i ≡ from = ap t.next (sym tells.0) ∙ sym at in (is ∙ sym tells.1, is ∙ sym tells.2)
drawn t i low high (Unregistered decl id to) at tells = let is : t.next i ≡ to = ap t.next (sym tells.0) ∙ sym at in (is ∙ sym tells.1, is ∙ sym tells.2)
drawn t i low high (Idle id) at tells = absurd tells

-- what an event tells is so before it, and after it
told : (ids : ℕ) (m : Measure) (t : Moment) (e : Event) (low high : ℕ) → IsSo ids t e → EventTells m e low high → (value m t ≡ low) × (value m (moment_after t e) ≡ high)
told ids (entries k) t (counted x) low high is tells = let now : length (t.now k) ≡ x.version = ap (λ (j : ℕ). length (t.now j)) (sym tells.0) ∙ sym is in (now ∙ sym tells.1, now ∙ sym tells.2)
told ids (entries k) t (made x) low high is tells = let now : length (t.now k) ≡ x.number = ap (λ (j : ℕ). length (t.now j)) (sym tells.0) ∙ sym is.0 in (
  now ∙ sym tells.1,
  omega (arith, now, tells.2, ap (λ b. length (cond b (t.now k ++ x.entry ∷ []) (t.now k))) (eq-eqb k x.place (sym tells.0)), length-append (t.now k) (x.entry ∷ [])),
)
told ids (entries k) t (looked x) low high is tells = absurd tells
told ids (entries k) t (loaded x) low high is tells = absurd tells
told ids (entries k) t (turned x) low high is tells = absurd tells
told ids (entries k) t (put_back j) low high is tells = absurd tells
told ids (entries k) t (raised j) low high is tells = absurd tells
told ids (entries k) t (cleared j) low high is tells = absurd tells
told ids (entries k) t (mapped x) low high is tells = absurd tells
told ids (lookups i) t (counted x) low high is tells = absurd tells
told ids (lookups i) t (made x) low high is tells = absurd tells
told ids (lookups i) t (looked x) low high is tells = let now : t.next i ≡ x.number = ap t.next (sym tells.0) ∙ sym is.0 in (
  now ∙ sym tells.1,
  omega (arith, now, tells.2, ap (λ b. cond b (t.next i + 1) (t.next i)) (eq-eqb i x.id (sym tells.0))),
)
told ids (lookups i) t (loaded x) low high is tells = let now : t.next i ≡ x.word.lookups = ap t.next (sym tells.0) ∙ sym is.0 in (now ∙ sym tells.1, now ∙ sym tells.2)
told ids (lookups i) t (turned x) low high is tells = drawn t i low high x.entry is.1 tells
told ids (lookups i) t (put_back j) low high is tells = absurd tells
told ids (lookups i) t (raised j) low high is tells = absurd tells
told ids (lookups i) t (cleared j) low high is tells = absurd tells
told ids (lookups i) t (mapped x) low high is tells = absurd tells
told ids turns t (counted x) low high is tells = absurd tells
told ids turns t (made x) low high is tells = absurd tells
told ids turns t (looked x) low high is tells = absurd tells
told ids turns t (loaded x) low high is tells = absurd tells
told ids turns t (turned x) low high is tells = (sym is.0 ∙ sym tells.0, omega (arith, is.0, tells.1, length-append t.pool (x.entry ∷ [])))
told ids turns t (put_back j) low high is tells = absurd tells
told ids turns t (raised j) low high is tells = absurd tells
told ids turns t (cleared j) low high is tells = absurd tells
told ids turns t (mapped x) low high is tells = absurd tells

-- an event stands at or before another by what they tell
pub by_numbers : (ids first : ℕ) (line : List (Deed Event)) → AreEvents ids first line → (i j : ℕ) (d e : Deed Event) → get_elem? line i ≡ some d → get_elem? line j ≡ some e
    → (m : Measure) (low high low' high' : ℕ) → EventTells m d.act low high → EventTells m e.act low' high' → low < high' → i ≤ j
by_numbers ids first line events i j d e at there m low high low' high' tells tells' less =
    in_order moment_next (λ t x. IsSo ids t x.act) (value m) (λ t x. grows m t x.act) (at_start first) line events i j d e at there low high' (λ t is. (told ids m t d.act low high is tells).0) (λ t is. (told ids m t e.act low' high' is tells').1) less

-- a lookup of the id with this number
abbrev pub looks_at : ℕ → ℕ → Event → ℕ
looks_at i n (counted x) = 0
looks_at i n (made x) = 0
looks_at i n (looked x) = cond (eqb x.id i) (cond (eqb x.number n) 1 0) 0
looks_at i n (loaded x) = 0
looks_at i n (turned x) = 0
looks_at i n (put_back j) = 0
looks_at i n (raised j) = 0
looks_at i n (cleared j) = 0
looks_at i n (mapped x) = 0

has_looked : (ids i n : ℕ) (t : Moment) (e : Event) → IsSo ids t e → (t.next i ≤ n → n < (moment_after t e).next i → looks_at i n e ≡ 1) × (n < t.next i → looks_at i n e ≡ 0) × ((moment_after t e).next i ≤ n → looks_at i n e ≡ 0)
has_looked ids i n t (counted x) is = ((λ a b. absurd (omega (arith, a, b))), (λ a. refl), λ a. refl)
has_looked ids i n t (made x) is = ((λ a b. absurd (omega (arith, a, b))), (λ a. refl), λ a. refl)
has_looked ids i n t (looked x) is = dite (ℕ_discrete i x.id)
    (λ e. let next-is : cond (eqb i x.id) (t.next i + 1) (t.next i) ≡ t.next i + 1 = ap (λ b. cond b (t.next i + 1) (t.next i)) (eq-eqb i x.id e) in
    let mine : looks_at i n (looked x) ≡ cond (eqb x.number n) 1 0 = ap {B = ℕ} (λ b. cond b (cond (eqb x.number n) 1 0) 0) (eq-eqb x.id i (sym e)) in
    let number : x.number ≡ t.next i = is.0 ∙ ap t.next (sym e) in (
      (λ a b. omega (arith, mine, ap {B = ℕ} (λ b. cond b 1 0) (eq-eqb x.number n (omega (arith, number, a, b, next-is))))),
      (λ a. omega (arith, mine, ap {B = ℕ} (λ b. cond b 1 0) (ne_eqb x.number n (λ q. omega (arith, q, number, a))))),
      (λ a. omega (arith, mine, ap {B = ℕ} (λ b. cond b 1 0) (ne_eqb x.number n (λ q. omega (arith, q, number, a, next-is))))),
    ))
    (λ m. let next-is : cond (eqb i x.id) (t.next i + 1) (t.next i) ≡ t.next i = ap (λ b. cond b (t.next i + 1) (t.next i)) (ne_eqb i x.id m) in
    let none : looks_at i n (looked x) ≡ 0 = ap {B = ℕ} (λ b. cond b (cond (eqb x.number n) 1 0) 0) (ne_eqb x.id i (λ q. m (sym q))) in
    ((λ a b. absurd (omega (arith, a, b, next-is))), (λ a. none), λ a. none))
has_looked ids i n t (loaded x) is = ((λ a b. absurd (omega (arith, a, b))), (λ a. refl), λ a. refl)
has_looked ids i n t (turned x) is = ((λ a b. absurd (omega (arith, a, b))), (λ a. refl), λ a. refl)
has_looked ids i n t (put_back j) is = ((λ a b. absurd (omega (arith, a, b))), (λ a. refl), λ a. refl)
has_looked ids i n t (raised j) is = ((λ a b. absurd (omega (arith, a, b))), (λ a. refl), λ a. refl)
has_looked ids i n t (cleared j) is = ((λ a b. absurd (omega (arith, a, b))), (λ a. refl), λ a. refl)
has_looked ids i n t (mapped x) is = ((λ a b. absurd (omega (arith, a, b))), (λ a. refl), λ a. refl)

-- every number of an id from the first to its lookups at the end was drawn by one event, and no other
pub lookups_once : (ids first : ℕ) (line : List (Deed Event)) → AreEvents ids first line → (i n : ℕ)
    → (first ≤ n → n < (last_moment first line).next i → total (λ (d : Deed Event). looks_at i n d.act) line ≡ 1) × (n < first → total (λ (d : Deed Event). looks_at i n d.act) line ≡ 0) × ((last_moment first line).next i ≤ n → total (λ (d : Deed Event). looks_at i n d.act) line ≡ 0)
lookups_once ids first line events i n = counted_once moment_next (λ t x. IsSo ids t x.act) (value (lookups i)) (λ t x. grows (lookups i) t x.act) (λ (d : Deed Event). looks_at i n d.act) n (λ t e is. has_looked ids i n t e.act is) (at_start first) line events
