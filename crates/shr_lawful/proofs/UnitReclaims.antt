-- SPDX-License-Identifier: GPL-2.0-only
-- The Reclaim entries of a walk of the pools in a journal are those that the walk made there.
use Rattle.shr_lawful.proofs.UnitsCommon.{◌≡◌, ℕ, zero, suc, ◌+◌, ◌*◌, ◌<◌, ◌≤◌, ◌≢◌, ◌⊎◌, inl, inr, ⊎_elim, Bool, true, false, ◌&&◌, cond, List, [], ◌∷◌, ◌++◌, length, sym, refl, ap, ◌∙◌, arith, eq-eqb, ne_eqb, le-leb, slice_get, Option, Some, None, filter_map, sum, ◌==◌, nat_lt, nat_le, enumerate_from, cons_option, and_parts, eqb-true, cases_lt, leb-true, lt-ltb, same_Some, none-some, slice_get_within, dite, ℕ_discrete, PlainEntry, total, RoomMade, ScanSeen, units_scan_by, ReclaimMade, reclaim_by, times_made}
use Rattle.shr_base.specs.declared.journals.PlainEntry.TheVariants as entry
use Rattle.shr_lawful.proofs.UnitLists.{IsIn, all_zero, total_on, count_total}
use Rattle.shr_model.proofs.Booleans.{no_test}

abbrev Makes : Type 0
Makes = RoomMade PlainEntry

pub cond_yes : (b : Bool) (x y : ℕ) → b ≡ true → cond b x y ≡ x
cond_yes b x y e = ap (λ c. cond c x y) e

pub cond_no : (b : Bool) (x y : ℕ) → b ≡ false → cond b x y ≡ y
cond_no b x y e = ap (λ c. cond c x y) e

pub not_le : (i n : ℕ) → n < i → nat_le i n ≡ false
not_le i n lt = no_test (nat_le i n) (λ e. let le = leb-true i n e in omega (arith, le, lt))

-- ---- a sum over a journal is the sum over what was made, where each entry was made once
module _ (f : ℕ → PlainEntry → ℕ) where
  abbrev at_from : ℕ → Makes → ℕ
  at_from i m = cond (nat_le i m.number) (f m.number m.entry) 0

  abbrev at_one : ℕ → Makes → ℕ
  at_one i m = cond (m.number == i) (f m.number m.entry) 0

  from_one : (i : ℕ) (m : Makes) → at_from i m ≡ at_one i m + at_from (i + 1) m
  from_one i m = dite (ℕ_discrete m.number i)
      (λ e. let a = cond_yes (m.number == i) (f m.number m.entry) 0 (eq-eqb m.number i e) in let b = cond_yes (nat_le i m.number) (f m.number m.entry) 0 (le-leb i m.number (omega (arith, e))) in
      let c = cond_no (nat_le (i + 1) m.number) (f m.number m.entry) 0 (not_le (i + 1) m.number (omega (arith, e))) in omega (arith, a, b, c))
      (λ ne. let a = cond_no (m.number == i) (f m.number m.entry) 0 (ne_eqb m.number i ne) in ⊎_elim
      (λ lt. let b = cond_no (nat_le i m.number) (f m.number m.entry) 0 (not_le i m.number lt) in let c = cond_no (nat_le (i + 1) m.number) (f m.number m.entry) 0 (not_le (i + 1) m.number (omega (arith, lt))) in omega (arith, a, b, c))
      (λ le. let b = cond_yes (nat_le i m.number) (f m.number m.entry) 0 (le-leb i m.number le) in let c = cond_yes (nat_le (i + 1) m.number) (f m.number m.entry) 0 (le-leb (i + 1) m.number (omega (arith, le, ne))) in omega (arith, a, b, c))
      (cases_lt m.number i))

  total_from : (i : ℕ) (l : List Makes) → total (at_from i) l ≡ total (at_one i) l + total (at_from (i + 1)) l
  total_from i [] = refl
  total_from i (m ∷ l) = omega (arith, from_one i m, total_from i l)

  -- one entry has the weight c, as often as it is there
  one_weighs : (i c : ℕ) (l : List Makes) → ((m : Makes) → IsIn m l → m.number ≡ i → f m.number m.entry ≡ c) → total (at_one i) l ≡ total (λ (m : Makes). cond (m.number == i) 1 0) l * c
  one_weighs i c [] h = omega arith
  one_weighs i c (m ∷ l) h = omega (arith, one_weighs i c l (λ x is. h x (suc is.0, is.1)), own)
    where
      times_one : (b : ℕ) → b ≡ 1 → b * c ≡ c
      times_one b e = ap (λ x. x * c) e ∙ omega arith

      times_none : (b : ℕ) → b ≡ 0 → b * c ≡ 0
      times_none b e = ap (λ x. x * c) e ∙ omega arith

      own : at_one i m ≡ cond (m.number == i) 1 0 * c
      own = dite (ℕ_discrete m.number i)
          (λ e. cond_yes (m.number == i) (f m.number m.entry) 0 (eq-eqb m.number i e) ∙ (h m (0, refl) e ∙ sym (times_one (cond (m.number == i) 1 0) (cond_yes (m.number == i) 1 0 (eq-eqb m.number i e)))))
          (λ ne. cond_no (m.number == i) (f m.number m.entry) 0 (ne_eqb m.number i ne) ∙ sym (times_none (cond (m.number == i) 1 0) (cond_no (m.number == i) 1 0 (ne_eqb m.number i ne))))

  module _ (journal : List PlainEntry) (l : List Makes) (stand : (m : Makes) → IsIn m l → slice_get journal m.number ≡ Some m.entry) (once : (n : ℕ) → times_made n l ≡ cond (nat_lt n (length journal)) 1 0) where
    journal_from : (i : ℕ) (es : List PlainEntry) → length journal ≡ i + length es → ((j : ℕ) (e : PlainEntry) → slice_get es j ≡ Some e → slice_get journal (i + j) ≡ Some e)
        → total (λ (e : ℕ × PlainEntry). f e.0 e.1) (enumerate_from i es) ≡ total (at_from i) l
    journal_from i [] long at = sym (all_zero (at_from i) l (λ j m e. cond_no (nat_le i m.number) (f m.number m.entry) 0 (not_le i m.number (let low = slice_get_within journal m.number m.entry (stand m (j, e)) in omega (arith, low, long)))))
    journal_from i (e ∷ es) long at = omega (
      arith,
      journal_from (i + 1) es (omega (arith, long)) (λ j d h. ap (slice_get journal) (let z : i + 1 + j ≡ i + suc j = omega arith in z) ∙ at (suc j) d h),
      total_from i l,
      one_weighs i (f i e) l own,
      one,
      one_times (f i e),
    )
      where
        here_e : slice_get journal i ≡ Some e
        here_e = ap (slice_get journal) (let z : i ≡ i + 0 = omega arith in z) ∙ at 0 e refl

        one_times : (c : ℕ) → 1 * c ≡ c
        one_times c = omega arith

        one : total (λ (m : Makes). cond (m.number == i) 1 0) l * f i e ≡ 1 * f i e
        one = ap (λ x. x * f i e) (sym (count_total (λ (m : Makes). m.number == i) l) ∙ (once i ∙ ap (λ b. cond {A = ℕ} b 1 0) (lt-ltb i (length journal) (slice_get_within journal i e here_e))))

        own : (m : Makes) → IsIn m l → m.number ≡ i → f m.number m.entry ≡ f i e
        own m is number = ap (λ n. f n m.entry) number ∙ ap (f i) (same_Some m.entry e (sym (stand m is) ∙ (ap (slice_get journal) number ∙ here_e)))

    pub journal_is : total (λ (e : ℕ × PlainEntry). f e.0 e.1) (enumerate_from 0 journal) ≡ total (λ (m : Makes). f m.number m.entry) l
    journal_is = journal_from 0 journal (omega arith) (λ j e h. ap (slice_get journal) (let z : 0 + j ≡ j = omega arith in z) ∙ h)
        ∙ total_on (at_from 0) (λ (m : Makes). f m.number m.entry) l (λ m is. cond_yes (nat_le 0 m.number) (f m.number m.entry) 0 (le-leb 0 m.number (omega arith)))

-- ---- lists of what a function gives
abbrev pub weight_of : {B : Type 0} → (B → ℕ) → Option B → ℕ
weight_of f None = 0
weight_of f (Some x) = f x

total_option : {B : Type 0} (f : B → ℕ) (o : Option B) (xs : List B) → total f (cons_option o xs) ≡ weight_of f o + total f xs
total_option f None xs = omega arith
total_option f (Some x) xs = refl

pub total_kept : {A B : Type 0} (f : B → ℕ) (h : A → Option B) (xs : List A) → total f (filter_map h xs) ≡ total (λ x. weight_of f (h x)) xs
total_kept f h [] = refl
total_kept f h (x ∷ xs) = omega (arith, total_kept f h xs, total_option f (h x) (filter_map h xs))

option_in : {B : Type 0} (o : Option B) (xs : List B) (a : B) → IsIn a (cons_option o xs) → (o ≡ Some a) ⊎ IsIn a xs
option_in None xs a is = inr is
option_in (Some x) xs a (zero, e) = inl e
option_in (Some x) xs a (suc j, e) = inr (j, e)

pub kept_in : {A B : Type 0} (h : A → Option B) (xs : List A) (a : B) → IsIn a (filter_map h xs) → (j : ℕ) × (x : A) × (slice_get xs j ≡ Some x) × (h x ≡ Some a)
kept_in h [] a (j, e) = absurd (none-some a e)
kept_in h (x ∷ xs) a is = ⊎_elim (λ e. (0, x, refl, e)) (λ later. let t = kept_in h xs a later in (suc t.0, t.1, t.2, t.3)) (option_in (h x) (filter_map h xs) a is)

in_option : {B : Type 0} (o : Option B) (xs : List B) (a : B) → (o ≡ Some a) ⊎ IsIn a xs → IsIn a (cons_option o xs)
in_option None xs a (inl e) = absurd (none-some a e)
in_option None xs a (inr is) = is
in_option (Some x) xs a (inl e) = (0, e)
in_option (Some x) xs a (inr is) = (suc is.0, is.1)

pub kept_has : {A B : Type 0} (h : A → Option B) (xs : List A) (x : A) (a : B) → IsIn x xs → h x ≡ Some a → IsIn a (filter_map h xs)
kept_has h [] x a (j, e) k = absurd (none-some x e)
kept_has h (y ∷ xs) x a (zero, e) k = in_option (h y) (filter_map h xs) a (inl (ap h (same_Some y x e) ∙ k))
kept_has h (y ∷ xs) x a (suc j, e) k = in_option (h y) (filter_map h xs) a (inr (kept_has h xs x a (j, e) k))

-- a reclaim of this walk is a scan of it
pub scan_is : (worker walk : ℕ) (m : RoomMade PlainEntry) (asked freed : ℕ) → m.entry ≡ entry.Reclaim worker walk asked freed → units_scan_by worker walk m ≡ Some (record { asked = asked; freed = freed })
scan_is worker walk m asked freed e = ap (λ (v : PlainEntry). units_scan_by worker walk (record { number = m.number; entry = v })) e
    ∙ (ap (λ b. cond (b && (walk == walk)) (Some (record { asked = asked; freed = freed })) None) (eq-eqb worker worker refl) ∙ ap (λ b. cond b (Some (record { asked = asked; freed = freed })) None) (eq-eqb walk walk refl))

pub enumerated : {A : Type 0} (i : ℕ) (xs : List A) (j : ℕ) (p : ℕ × A) → slice_get (enumerate_from i xs) j ≡ Some p → (slice_get xs j ≡ Some p.1) × (p.0 ≡ i + j)
enumerated i [] j p e = absurd (none-some p e)
enumerated i (x ∷ xs) zero p e = let same : (i, x) ≡ p = same_Some (i, x) p e in (ap (λ q. Some q.1) same, ap (λ q. q.0) (sym same) ∙ omega arith)
enumerated i (x ∷ xs) (suc j) p e = let t = enumerated (i + 1) xs j p e in (t.0, t.1 ∙ omega arith)

-- the weight of what was reclaimed, by the entry and by the scan that it was
abbrev pub scan_made : ℕ → ScanSeen → ReclaimMade
scan_made number x = record { number = number; asked = x.asked; freed = x.freed }

pub same_weight : (f : ℕ → ℕ → ℕ) (worker walk number : ℕ) (e : PlainEntry) → weight_of (λ (x : ReclaimMade). f x.asked x.freed) (reclaim_by worker walk number e) ≡ weight_of (λ (x : ScanSeen). f x.asked x.freed) (units_scan_by worker walk (record { number = number; entry = e }))
same_weight f worker walk number (entry.Release by n) = refl
same_weight f worker walk number (entry.Grab by got) = refl
same_weight f worker walk number (entry.Reclaim w n asked freed) = by_test ((w == worker) && (n == walk)) where
  by_test : (b : Bool) → weight_of (λ (x : ReclaimMade). f x.asked x.freed) (cond b (Some (record { number = number; asked = asked; freed = freed })) None) ≡ weight_of (λ (x : ScanSeen). f x.asked x.freed) (cond b (Some (record { asked = asked; freed = freed })) None)
  by_test true = refl
  by_test false = refl

-- a reclaim that is told apart is of the worker and of the walk
pub reclaim_is : (worker walk number : ℕ) (e : PlainEntry) (a : ReclaimMade) → reclaim_by worker walk number e ≡ Some a → (asked freed : ℕ) × (e ≡ entry.Reclaim worker walk asked freed) × (a ≡ record { number = number; asked = asked; freed = freed })
reclaim_is worker walk number (entry.Release by n) a h = absurd (none-some a h)
reclaim_is worker walk number (entry.Grab by got) a h = absurd (none-some a h)
reclaim_is worker walk number (entry.Reclaim w n asked freed) a h = by_test ((w == worker) && (n == walk)) refl h where
  by_test : (b : Bool) → ((w == worker) && (n == walk)) ≡ b → cond b (Some (record { number = number; asked = asked; freed = freed })) None ≡ Some a → (x y : ℕ) × (entry.Reclaim w n asked freed ≡ entry.Reclaim worker walk x y) × (a ≡ record { number = number; asked = x; freed = y })
  by_test false e k = absurd (none-some a k)
  by_test true e k = let t = and_parts (w == worker) (n == walk) e in let x : w ≡ worker = eqb-true w worker t.0 in let y : n ≡ walk = eqb-true n walk t.1 in (asked, freed, λ i. entry.Reclaim (x i) (y i) asked freed, sym (same_Some (record { number = number; asked = asked; freed = freed }) a k))
