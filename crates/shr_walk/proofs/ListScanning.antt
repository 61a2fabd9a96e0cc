-- SPDX-License-Identifier: GPL-2.0-only
-- What follows of one scan of a list.
use Rattle.shr_walk.proofs.Common.{◌≡◌, ℕ, suc, ◌+◌, ◌-◌, ◌*◌, ◌<◌, ◌≤◌, inl, inr, cond, Bool, true, false, List, [], ◌∷◌, ◌++◌, length, sym, refl, ap, subst, ◌∙◌, arith, nat_le, ◌||◌, ◌⊎◌, Some, None, nat_tests, append-nil, Place, Serial, Policy, Spent, depth_of, place_number, View, view_of, shape_of, uses_of, spent_by, counted, Uses, Gains, FreesAtMost, scans_with, CacheSeat, Shared, Tells, scans_at, HaveRoom, AreChargesTold, ListScanGives, FindsUsedUp, without_visits}
use Rattle.shr_base.specs.declared.replies.Spent.TheVariants as spent
use native.Mathlib.Nat.{mul-suc, mul-le-mul_left}
use Rattle.shr_walk.specs.declared.lister.ListerScan.{ListerScan}
use Rattle.shr_walk.specs.declared.lister.ListerScan.TheVariants as scan
use Rattle.shr_walk.proofs.Freeing.{few}
use Rattle.shr_walk.proofs.Scanned.{scans_more, scans_same, worn_told}

-- a test that gave something was met
some_of : (b : Bool) (x y : Spent) → cond b (Some x) None ≡ Some y → (b ≡ true) × (x ≡ y)
some_of true x y e = (refl, cc)
some_of false x y e = cc

abbrev charges_in : Spent → ℕ
charges_in (spent.Charges charges uncharges) = charges
charges_in (spent.List at entries items) = 0
charges_in (spent.Lookups id seen) = 0

abbrev uncharges_in : Spent → ℕ
uncharges_in (spent.Charges charges uncharges) = uncharges
uncharges_in (spent.List at entries items) = 0
uncharges_in (spent.Lookups id seen) = 0

over_of : (m n c u : ℕ) (a b : Bool) → nat_le 1048576 m ≡ a → nat_le 4194304 n ≡ b → (a || b) ≡ true → counted m ≡ c → counted n ≡ u → (1048576 ≤ c) ⊎ (4194304 ≤ u)
over_of m n c u true b ma nb h cm un = inl (grind (arith, nat_tests, ma, cm))
over_of m n c u false true ma nb h cm un = inr (grind (arith, nat_tests, nb, un))
over_of m n c u false false ma nb h cm un = cc

-- charges that are used up are told as they were counted
pub charges_spent : (uses : Uses) (c u : ℕ) → spent_by uses ≡ Some (spent.Charges c u) → ((1048576 ≤ c) ⊎ (4194304 ≤ u)) × (counted uses.charges ≡ c) × (counted uses.uncharges ≡ u)
charges_spent uses c u e =
    let h = some_of (nat_le 1048576 uses.charges || nat_le 4194304 uses.uncharges) (spent.Charges (counted uses.charges) (counted uses.uncharges)) (spent.Charges c u) e in
    let cs : counted uses.charges ≡ c = ap charges_in h.1 in
    let us : counted uses.uncharges ≡ u = ap uncharges_in h.1 in (over_of uses.charges uses.uncharges c u (nat_le 1048576 uses.charges) (nat_le 4194304 uses.uncharges) refl refl h.0 cs us, cs, us)

pub charges_told : (s : CacheSeat) (c u : ℕ) → spent_by (uses_of s.charge) ≡ Some (spent.Charges c u) → AreChargesTold c u s
charges_told s c u e = let h = charges_spent (uses_of s.charge) c u e in let cs = h.1 in let us = h.2 in record { over = h.0; charged = omega (arith, cs); uncharged = omega (arith, us) }

module _ (x : Shared) (place : Place) (walk : ℕ) (by : Serial) (policy : Policy) (asked : ℕ) where
  -- a seat whose charges are used up is told so, and never of a list or of lookups
  pub spent_found : (why : Spent) (s : CacheSeat) → spent_by (uses_of s.charge) ≡ Some why → FindsUsedUp x place walk by policy asked why s s
  spent_found (spent.Charges charges uncharges) s e = record { numbers = e; rest = refl }
  spent_found (spent.List at entries items) s e = let uses = uses_of s.charge in let h = (some_of (nat_le 1048576 uses.charges || nat_le 4194304 uses.uncharges) (spent.Charges (counted uses.charges) (counted uses.uncharges)) (spent.List at entries items) e).1 in cc
  spent_found (spent.Lookups id seen) s e = let uses = uses_of s.charge in let h = (some_of (nat_le 1048576 uses.charges || nat_le 4194304 uses.uncharges) (spent.Charges (counted uses.charges) (counted uses.uncharges)) (spent.Lookups id seen) e).1 in cc

  abbrev Gives : ListerScan → CacheSeat → CacheSeat → Type 0
  Gives = ListScanGives x place walk by policy asked

  -- no more is freed than was asked
  pub told_fits : (a : ListerScan) (s t : CacheSeat) → Gives a s t → FreesAtMost asked (without_visits a)
  told_fits (scan.Scanned objects visits stopped) s t h = let f = few policy asked [] h.made.old.items in let most = f.asked in let e = ap (λ l. length l) h.made.told.removed in let n = h.count in omega (arith, most, e, n)
  told_fits scan.Closed s t h = tt
  told_fits (scan.Worn why) s t h = tt
  told_fits scan.NoRoom s t h = tt

  same_seen : (v w : View) → Gains v w [] [] → w.traces.seen ≡ v.traces.seen
  same_seen v w g = g.adds.seen ∙ append-nil v.traces.seen

  -- nothing is counted
  pub told_seen : (a : ListerScan) (s t : CacheSeat) → Gives a s t → (view_of t.core).traces.seen ≡ (view_of s.core).traces.seen
  told_seen (scan.Scanned objects visits stopped) s t h = h.made.gains.adds.seen ∙ append-nil (view_of s.core).traces.seen
  told_seen scan.Closed s t h = same_seen (view_of s.core) (view_of t.core) h.list.gains
  told_seen (scan.Worn (spent.Charges charges uncharges)) s t h = ap (λ (c : CacheSeat). (view_of c.core).traces.seen) h.rest
  told_seen (scan.Worn (spent.List at entries items)) s t h = same_seen (view_of s.core) (view_of t.core) h.list.full.gains
  told_seen (scan.Worn (spent.Lookups id seen)) s t h = absurd h
  told_seen scan.NoRoom s t h = elim h.lacks as (λ _. (view_of t.core).traces.seen ≡ (view_of s.core).traces.seen) [
    | inl same ↦ ap (λ (v : View). v.traces.seen) same
    | inr lacks ↦ same_seen (view_of s.core) (view_of t.core) lacks.free.gains
  ]

  -- the scans of the walk are one more where one was made
  pub told_scans : (a : ListerScan) (s t : CacheSeat) → Gives a s t → scans_at (place_number place) by walk t ≡ scans_with (scans_at (place_number place) by walk s) asked (without_visits a)
  told_scans (scan.Scanned objects visits stopped) s t h =
      let e = ap (λ l. length l) h.made.told.removed in let n = h.count in
      scans_more (place_number place) walk by policy s t h.made.old asked h.made.gains.adds.made
      ∙ ap (λ (m : ℕ). scans_at (place_number place) by walk s ++ record { asked = asked; freed = m } ∷ []) (sym (n ∙ e))
  told_scans scan.Closed s t h = scans_same (place_number place) walk by s t h.list.gains.adds.made
  told_scans (scan.Worn (spent.Charges charges uncharges)) s t h = ap (scans_at (place_number place) by walk) h.rest
  told_scans (scan.Worn (spent.List at entries items)) s t h = scans_same (place_number place) walk by s t h.list.full.gains.adds.made
  told_scans (scan.Worn (spent.Lookups id seen)) s t h = absurd h
  told_scans scan.NoRoom s t h = elim h.lacks as (λ _. scans_at (place_number place) by walk t ≡ scans_at (place_number place) by walk s) [
    | inl same ↦ scans_same (place_number place) walk by s t (ap (λ (v : View). v.traces.made) same ∙ sym (append-nil (view_of s.core).traces.made))
    | inr lacks ↦ scans_same (place_number place) walk by s t lacks.free.gains.adds.made
  ]

  -- what the answer told is so
  pub told_tells : (a : ListerScan) (s t : CacheSeat) → Gives a s t → Tells (shape_of x.core) place false (without_visits a) t
  told_tells (scan.Scanned objects visits stopped) s t h = refl
  told_tells scan.Closed s t h = (refl, h.list.closed)
  told_tells (scan.Worn (spent.Charges charges uncharges)) s t h = (refl, subst (AreChargesTold charges uncharges) (sym h.rest) (charges_told s charges uncharges h.numbers))
  told_tells (scan.Worn (spent.List at entries items)) s t h = (refl, worn_told (shape_of x.core) (view_of s.core) t place by.worker walk policy asked (spent.List at entries items) h.list)
  told_tells (scan.Worn (spent.Lookups id seen)) s t h = absurd h
  told_tells scan.NoRoom s t h = refl

-- ---- room to note what is uncharged
-- fewer objects want no more room
pub fewer : (most n m spare : ℕ) → n ≤ m → most * m ≤ spare → most * n ≤ spare
fewer most n m spare le room = let t = mul-le-mul_left most le in omega (arith, t, room)

-- the next object takes its share
one_of : (most n i : ℕ) → i < n → most * (n - i) ≡ most * (n - (i + 1)) + most
one_of most n i lt = ap (λ k. most * k) (let e : n - i ≡ suc (n - (i + 1)) = omega (arith, lt) in e) ∙ mul-suc most (n - (i + 1))

pub room_for_one : (parents : List ℕ) (n i spare birth : ℕ) → i < n → birth < length parents → HaveRoom parents (n - i) spare → depth_of parents birth ≤ spare
room_for_one parents n i spare birth lt low h = let d = h.deep birth low in let share = one_of h.most n i lt in let room = h.room in omega (arith, d, share, room)

-- and leaves room for the others
pub room_for_rest : (parents : List ℕ) (n i spare left birth : ℕ) → i < n → birth < length parents → HaveRoom parents (n - i) spare → spare ≤ left + depth_of parents birth → HaveRoom parents (n - (i + 1)) left
room_for_rest parents n i spare left birth lt low h least = let d = h.deep birth low in let share = one_of h.most n i lt in let room = h.room in record {
  most = h.most;
  deep = h.deep;
  room = omega (arith, d, share, room, least);
}
