-- SPDX-License-Identifier: GPL-2.0-only
-- What the runs of a sorted list say of its sums.
use Rattle.shr_audit_case.proofs.SumsCommon.{◌≡◌, ℕ, ◌+◌, ◌<◌, ◌≤◌, ◌%◌, ◌^◌, Bool, true, false, cond, ◌&&◌, List, [], ◌∷◌, length, get_or, drop, refl, sym, ap, ◌∙◌, arith, ◌==◌, ◌↔◌, sum_by, nat_tests, sum_by-cons, Move, sum_up_at, sum_down_at, IsSettled, ◌≢◌, suc, inl, inr, IsPermutation}
use Rattle.std.specs.List.Sorted.{IsNonDecreasingBy}
use Rattle.std.proofs.lemmas.Bool.{cases_eq}
use Rattle.std.proofs.lemmas.List.{at_drop_more, at_drop_all}
use Rattle.std.proofs.lemmas.List.Sorted.{sum_by-IsPermutation}
use Rattle.shr_audit_case.specs.Moves.{settles}
use Rattle.shr_model.proofs.PiecesLaws.{same_byte, and_true}
use Rattle.shr_model.proofs.Booleans.{both, is_other, is_same}

-- what moves give to a key
abbrev sum_at : (Move → ℕ) → ℕ → List Move → ℕ
sum_at f key ms = sum_by (λ (m : Move). cond (m.key == key) (f m) 0) ms

-- each key is at least the one before it, and the first at least this one
unfoldable pub Rises : ℕ → List Move → Type 0
Rises key [] = Unit {0}
Rises key (m ∷ ms) = (key ≤ m.key) × Rises m.key ms

lower : (a b : ℕ) (ms : List Move) → a ≤ b → Rises b ms → Rises a ms
unfolding Rises
lower a b [] le r = tt
lower a b (m ∷ ms) le r = let first : b ≤ m.key = r.0 in (omega (arith, le, first), r.1)

other : (a b n : ℕ) → a ≢ b → cond (a == b) n 0 ≡ 0
other a b n ne = grind (arith, nat_tests)

same : (a b n : ℕ) → a ≡ b → cond (a == b) n 0 ≡ n
same a b n e = grind (arith, nat_tests)

-- above a key, nothing is at it
none_above : (f : Move → ℕ) (key least : ℕ) (ms : List Move) → key < least → Rises least ms → sum_by (λ (m : Move). cond (m.key == key) (f m) 0) ms ≡ 0
unfolding Rises
none_above f key least [] lt r = refl
none_above f key least (m ∷ ms) lt r =
    let first : least ≤ m.key = r.0 in
    let here = other m.key key (f m) (λ e. absurd (omega (arith, lt, first, e))) in
    let more = none_above f key m.key ms (omega (arith, lt, first)) r.1 in
    sum_by-cons (λ (m : Move). cond (m.key == key) (f m) 0) m ms ∙ omega (arith, here, more)

-- the run of this key settles, and so does each other key
pub record Settled (key up down : ℕ) (ms : List Move) : Type 0 where
  pub here : (up + sum_up_at key ms) % 2 ^ 64 ≡ (down + sum_down_at key ms) % 2 ^ 64
  pub others : (k : ℕ) → k ≢ key → sum_up_at k ms % 2 ^ 64 ≡ sum_down_at k ms % 2 ^ 64

wrapped : (u x s : ℕ) → ((u + x) % 2 ^ 64 + s) % 2 ^ 64 ≡ (u + (x + s)) % 2 ^ 64
wrapped u x s = omega arith

-- a run goes on, or ends
pub goes_on : (key up down : ℕ) (m : Move) (ms : List Move) → m.key ≡ key → settles key up down (m ∷ ms) ≡ settles key ((up + m.up) % 2 ^ 64) ((down + m.down) % 2 ^ 64) ms
unfolding settles
goes_on key up down m ms e = rw (is_same m.key key e) refl

pub ends_here : (key up down : ℕ) (m : Move) (ms : List Move) → m.key ≢ key → settles key up down (m ∷ ms) ≡ ((up % 2 ^ 64 == down % 2 ^ 64) && settles m.key m.up m.down ms)
unfolding settles
ends_here key up down m ms ne = rw (is_other m.key key ne) refl

-- what a move more gives to the sums of a key
more_same : (f : Move → ℕ) (key : ℕ) (m : Move) (ms : List Move) → m.key ≡ key → sum_at f key (m ∷ ms) ≡ f m + sum_at f key ms
more_same f key m ms e = let a = sum_by-cons (λ (m : Move). cond (m.key == key) (f m) 0) m ms in let b = same m.key key (f m) e in omega (arith, a, b)

more_other : (f : Move → ℕ) (key : ℕ) (m : Move) (ms : List Move) → m.key ≢ key → sum_at f key (m ∷ ms) ≡ sum_at f key ms
more_other f key m ms ne = let a = sum_by-cons (λ (m : Move). cond (m.key == key) (f m) 0) m ms in let b = other m.key key (f m) ne in omega (arith, a, b)

-- the runs settle if and only if the sums of each key do
abbrev up_of : Move → ℕ
up_of m = m.up

abbrev down_of : Move → ℕ
down_of m = m.down

-- a move of this run goes into what went up and down in it
abbrev Run : ℕ → ℕ → ℕ → Move → List Move → Type 0
Run key up down m ms = Settled key ((up + m.up) % 2 ^ 64) ((down + m.down) % 2 ^ 64) ms

mod_of : (a b : ℕ) → a ≡ b → a % 2 ^ 64 ≡ b % 2 ^ 64
mod_of a b e = ap (λ (n : ℕ). n % 2 ^ 64) e

into : (up x s t : ℕ) → t ≡ x + s → (up + t) % 2 ^ 64 ≡ ((up + x) % 2 ^ 64 + s) % 2 ^ 64
into up x s t e = omega (arith, e)

from_run : (key up down : ℕ) (m : Move) (ms : List Move) → m.key ≡ key → Run key up down m ms → Settled key up down (m ∷ ms)
from_run key up down m ms is s = record {
  here = into up m.up (sum_up_at key ms) _ (more_same up_of key m ms is) ∙ s.here ∙ sym (into down m.down (sum_down_at key ms) _ (more_same down_of key m ms is));
  others = λ k ne. mod_of _ _ (more_other up_of k m ms (λ q. ne (sym q ∙ is))) ∙ s.others k ne ∙ sym (mod_of _ _ (more_other down_of k m ms (λ q. ne (sym q ∙ is))));
}

to_run : (key up down : ℕ) (m : Move) (ms : List Move) → m.key ≡ key → Settled key up down (m ∷ ms) → Run key up down m ms
to_run key up down m ms is s = record {
  here = sym (into up m.up (sum_up_at key ms) _ (more_same up_of key m ms is)) ∙ s.here ∙ into down m.down (sum_down_at key ms) _ (more_same down_of key m ms is);
  others = λ k ne. sym (mod_of _ _ (more_other up_of k m ms (λ q. ne (sym q ∙ is)))) ∙ s.others k ne ∙ mod_of _ _ (more_other down_of k m ms (λ q. ne (sym q ∙ is)));
}

zero_more : (a b : ℕ) → b ≡ 0 → (a + b) % 2 ^ 64 ≡ a % 2 ^ 64
zero_more a b e = omega (arith, e)

-- the run of a lower key has ended where another begins
from_next : (key up down : ℕ) (m : Move) (ms : List Move) → key < m.key → Rises m.key ms → up % 2 ^ 64 ≡ down % 2 ^ 64 → Settled m.key m.up m.down ms → Settled key up down (m ∷ ms)
from_next key up down m ms lt r e s =
    let none = λ (f : Move → ℕ). more_other f key m ms (λ q. absurd (omega (arith, lt, q))) ∙ none_above f key m.key ms lt r in
    record {
      here = zero_more up _ (none up_of) ∙ e ∙ sym (zero_more down _ (none down_of));
      others = λ k ne. elim (cases_eq m.key k) as (λ _. sum_up_at k (m ∷ ms) % 2 ^ 64 ≡ sum_down_at k (m ∷ ms) % 2 ^ 64) [
        | inl is ↦ mod_of _ _ (more_same up_of k m ms is) ∙ subst_here k m ms is s.here ∙ sym (mod_of _ _ (more_same down_of k m ms is))
        | inr other ↦ mod_of _ _ (more_other up_of k m ms other) ∙ s.others k (λ q. other (sym q)) ∙ sym (mod_of _ _ (more_other down_of k m ms other))
      ];
    }
  where
    subst_here : (k : ℕ) (m : Move) (ms : List Move) → m.key ≡ k → (m.up + sum_up_at m.key ms) % 2 ^ 64 ≡ (m.down + sum_down_at m.key ms) % 2 ^ 64 → (m.up + sum_up_at k ms) % 2 ^ 64 ≡ (m.down + sum_down_at k ms) % 2 ^ 64
    subst_here k m ms is h = rw is at h

to_next : (key up down : ℕ) (m : Move) (ms : List Move) → key < m.key → Rises m.key ms → Settled key up down (m ∷ ms) → (up % 2 ^ 64 ≡ down % 2 ^ 64) × Settled m.key m.up m.down ms
to_next key up down m ms lt r s =
    let none = λ (f : Move → ℕ). more_other f key m ms (λ q. absurd (omega (arith, lt, q))) ∙ none_above f key m.key ms lt r in (
      sym (zero_more up _ (none up_of)) ∙ s.here ∙ zero_more down _ (none down_of),
      record {
        here = sym (mod_of _ _ (more_same up_of m.key m ms refl)) ∙ s.others m.key (λ q. absurd (omega (arith, lt, q))) ∙ mod_of _ _ (more_same down_of m.key m ms refl);
        others = λ k ne. elim (cases_eq k key) as (λ _. sum_up_at k ms % 2 ^ 64 ≡ sum_down_at k ms % 2 ^ 64) [
          | inl is ↦ mod_of _ _ (at_low up_of k is) ∙ sym (mod_of _ _ (at_low down_of k is))
          | inr other ↦ sym (mod_of _ _ (more_other up_of k m ms (λ q. ne (sym q)))) ∙ s.others k other ∙ mod_of _ _ (more_other down_of k m ms (λ q. ne (sym q)))
        ];
      },
    )
  where
    at_low : (f : Move → ℕ) (k : ℕ) → k ≡ key → sum_at f k ms ≡ 0
    at_low f k is = none_above f k m.key ms (omega (arith, lt, is)) r

rises_over : (key : ℕ) (m : Move) → key ≤ m.key → m.key ≢ key → key < m.key
rises_over key m le ne = grind (arith, le, ne)

plus_zero : (a b : ℕ) → a % 2 ^ 64 ≡ b % 2 ^ 64 → (a + 0) % 2 ^ 64 ≡ (b + 0) % 2 ^ 64
plus_zero a b e = omega (arith, e)

no_zero : (a b : ℕ) → (a + 0) % 2 ^ 64 ≡ (b + 0) % 2 ^ 64 → a % 2 ^ 64 ≡ b % 2 ^ 64
no_zero a b e = omega (arith, e)

-- where the runs settle, the sums of each key do
pub runs_give : (key up down : ℕ) (ms : List Move) → Rises key ms → settles key up down ms ≡ true → Settled key up down ms
unfolding settles Rises
runs_give key up down [] r e = record { here = plus_zero up down (same_byte _ _ e); others = λ k ne. refl }
runs_give key up down (m ∷ ms) r e = elim (cases_eq m.key key) as (λ _. Settled key up down (m ∷ ms)) [
  | inl is ↦ from_run key up down m ms is (runs_give key _ _ ms (lower key m.key ms r.0 r.1) (sym (goes_on key up down m ms is) ∙ e))
  | inr ne ↦ let a = and_true (up % 2 ^ 64 == down % 2 ^ 64) (settles m.key m.up m.down ms) (sym (ends_here key up down m ms ne) ∙ e) in
      from_next key up down m ms (rises_over key m r.0 ne) r.1 (same_byte _ _ a.0) (runs_give m.key m.up m.down ms r.1 a.1)
]

-- and where these do, the runs settle
pub runs_take : (key up down : ℕ) (ms : List Move) → Rises key ms → Settled key up down ms → settles key up down ms ≡ true
unfolding settles Rises
runs_take key up down [] r s = is_same _ _ (no_zero up down s.here)
runs_take key up down (m ∷ ms) r s = elim (cases_eq m.key key) as (λ _. settles key up down (m ∷ ms) ≡ true) [
  | inl is ↦ goes_on key up down m ms is ∙ runs_take key _ _ ms (lower key m.key ms r.0 r.1) (to_run key up down m ms is s)
  | inr ne ↦ let a = to_next key up down m ms (rises_over key m r.0 ne) r.1 s in
      ends_here key up down m ms ne ∙ both _ _ (is_same _ _ a.0) (runs_take m.key m.up m.down ms r.1 a.1)
]

-- ---- a loop over the moves

false_and : (b : Bool) → (false && b) ≡ false
false_and b = refl

pub run_goes_on : (ms : List Move) (i : ℕ) (d : Move) (key up down key' up' down' : ℕ) → i < length ms → (get_or ms i d).key ≡ key → key' ≡ key → up' ≡ (up + (get_or ms i d).up) % 2 ^ 64 → down' ≡ (down + (get_or ms i d).down) % 2 ^ 64
    → settles key' up' down' (drop (i + 1) ms) ≡ settles key up down (drop i ms)
run_goes_on ms i d key up down key' up' down' lt is ke ue de = rw (ke, ue, de) (sym (at_drop_more (settles key up down) ms i d lt ∙ goes_on key up down (get_or ms i d) (drop (i + 1) ms) is))

pub next_run : (ms : List Move) (i : ℕ) (d : Move) (key up down key' up' down' : ℕ) → i < length ms → (get_or ms i d).key ≢ key → up ≡ down → key' ≡ (get_or ms i d).key → up' ≡ (get_or ms i d).up → down' ≡ (get_or ms i d).down
    → settles key' up' down' (drop (i + 1) ms) ≡ settles key up down (drop i ms)
next_run ms i d key up down key' up' down' lt ne e ke ue de =
    rw (ke, ue, de) (sym (at_drop_more (settles key up down) ms i d lt ∙ ends_here key up down (get_or ms i d) (drop (i + 1) ms) ne ∙ ap (λ (b : Bool). b && settles (get_or ms i d).key (get_or ms i d).up (get_or ms i d).down (drop (i + 1) ms)) (is_same _ _ (mod_of up down e))))

pub run_fails : (ms : List Move) (i : ℕ) (d : Move) (key up down : ℕ) → i < length ms → (get_or ms i d).key ≢ key → up < 2 ^ 64 → down < 2 ^ 64 → up ≢ down → settles key up down (drop i ms) ≡ false
run_fails ms i d key up down lt ne h l e =
    at_drop_more (settles key up down) ms i d lt ∙ ends_here key up down (get_or ms i d) (drop (i + 1) ms) ne ∙ ap (λ (b : Bool). b && settles (get_or ms i d).key (get_or ms i d).up (get_or ms i d).down (drop (i + 1) ms)) (is_other _ _ (λ q. e (omega (arith, h, l, q))))

pub last_run : (ms : List Move) (i : ℕ) (key up down : ℕ) → length ms ≤ i → up < 2 ^ 64 → down < 2 ^ 64 → settles key up down (drop i ms) ≡ (up == down)
unfolding settles
last_run ms i key up down le h l = at_drop_all (settles key up down) ms i le ∙ rw (whole up h, whole down l) refl
  where
    whole : (n : ℕ) → n < 2 ^ 64 → n % 2 ^ 64 ≡ n
    whole n h = omega arith

-- ---- what a sort gives

rises_first : (key : ℕ) (ms : List Move) → IsNonDecreasingBy (λ (m : Move). m.key) ms → ((d : Move) → 0 < length ms → key ≤ (get_or ms 0 d).key) → Rises key ms
unfolding Rises
rises_first key [] up first = tt
rises_first key (m ∷ ms) up first = (first m (omega arith), rises_first m.key ms (λ i j d le lt. up (suc i) (suc j) d (omega (arith, le)) (omega (arith, lt))) (λ d lt. up 0 1 d (omega arith) (omega (arith, lt))))

pub rises : (ms : List Move) → IsNonDecreasingBy (λ (m : Move). m.key) ms → Rises 0 ms
rises ms up = rises_first 0 ms up (λ d lt. omega arith)

off : (a b : ℕ) → (0 + a) % 2 ^ 64 ≡ (0 + b) % 2 ^ 64 → a % 2 ^ 64 ≡ b % 2 ^ 64
off a b e = omega (arith, e)

-- the runs of the sorted moves settle if and only if the moves do
pub decided : (ms sorted : List Move) (b : Bool) → IsPermutation ms sorted → IsNonDecreasingBy (λ (m : Move). m.key) sorted → b ≡ settles 0 0 0 sorted → (b ≡ true) ↔ IsSettled ms
decided ms sorted b p up e =
    let r = rises sorted up in
    (λ t. settled_before (runs_give 0 0 0 sorted r (sym e ∙ t)), λ s. e ∙ runs_take 0 0 0 sorted r (settled_after s))
  where
    moved : (f : Move → ℕ) (k : ℕ) → sum_at f k sorted ≡ sum_at f k ms
    moved f k = sum_by-IsPermutation (λ (m : Move). cond (m.key == k) (f m) 0) ms sorted p

    plus_front : (a b : ℕ) → a % 2 ^ 64 ≡ b % 2 ^ 64 → (0 + a) % 2 ^ 64 ≡ (0 + b) % 2 ^ 64
    plus_front a b e = omega (arith, e)

    settled_after : IsSettled ms → Settled 0 0 0 sorted
    settled_after s = record { here = plus_front _ _ (mod_of _ _ (moved up_of 0) ∙ s 0 ∙ sym (mod_of _ _ (moved down_of 0))); others = λ k ne. mod_of _ _ (moved up_of k) ∙ s k ∙ sym (mod_of _ _ (moved down_of k)) }

    settled_before : Settled 0 0 0 sorted → IsSettled ms
    settled_before s k = elim (cases_eq k 0) as (λ _. sum_up_at k ms % 2 ^ 64 ≡ sum_down_at k ms % 2 ^ 64) [
      | inl is ↦ sym (mod_of _ _ (moved up_of k)) ∙ at_zero k is s.here ∙ mod_of _ _ (moved down_of k)
      | inr ne ↦ sym (mod_of _ _ (moved up_of k)) ∙ s.others k ne ∙ mod_of _ _ (moved down_of k)
    ]
      where
        at_zero : (k : ℕ) → k ≡ 0 → (0 + sum_up_at 0 sorted) % 2 ^ 64 ≡ (0 + sum_down_at 0 sorted) % 2 ^ 64 → sum_up_at k sorted % 2 ^ 64 ≡ sum_down_at k sorted % 2 ^ 64
        at_zero k is h = rw is (off _ _ h)
