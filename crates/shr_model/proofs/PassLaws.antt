-- SPDX-License-Identifier: GPL-2.0-only
-- What the loop of a pass knows at each turn, with n asks made and `left` to go.
use Rattle.shr_model.proofs.Common.{◌≡◌, ℕ, zero, suc, ◌+◌, ◌*◌, ◌<◌, ◌≤◌, ◌⊎◌, true, false, cond, leb, min, take, replicate, ap, sym, ◌∙◌, subst, ⊎_elim, arith, nat_tests, Some, None, cases_Bool, Through, Stop, ask_of, due_asks, FollowsArithmetic, batch_of, delta_of, total_of, next_of, ◌/◌, sum, le-leb, take-replicate, NoRoom, Worn}
use Rattle.std.proofs.lemmas.List.Folds.{sum_by-replicate}
use Rattle.std.proofs.Math.Nat.{le-div_iff_mul-le, div-lt_iff_lt-mul}
use mathlib.Core.Logic.{dite}
use native.Mathlib.Decide.{dec_le}
use Rattle.shr_base.specs.declared.walks.Ending.{Ending}
use Rattle.shr_base.specs.declared.walks.PassRecord.{PassRecord}
use Rattle.shr_model.specs.PassSteps.{goes_on}
use Rattle.shr_model.specs.Pass.{due, ask_size, MadeOf}

-- where the batch is at most what can be freed, each ask is a batch
pub small_due : (b F total : ℕ) → b ≤ F → due b F total ≡ total / b
unfolding due
small_due b F total h = ap (λ t. cond t (total / b) (cond (leb F total) 1 0)) (le-leb b F h)

-- a count that isn't below the batch is asked for by batches
pub small_size : (b F total : ℕ) → b ≤ F → ask_size b F total ≡ b
unfolding ask_size
small_size b F total h = ap (λ t. cond t b (min b total)) (le-leb b F h)

small_next : (b F total left n : ℕ) → 0 < b → b ≤ F → left + n * b ≡ total → b ≤ left → (n + 1 ≤ total / b) × (min b left ≡ b)
small_next b F total left n pos small made goes = ((le-div_iff_mul-le {k = b} {x = n + 1} {y = total} pos).1 (omega arith), omega arith)

small_end : (b F total left n : ℕ) → 0 < b → n ≤ total / b → left + n * b ≡ total → left < b → n ≡ total / b
small_end b F total left n pos fits made stops = let h : total / b < n + 1 = (div-lt_iff_lt-mul {k = b} {x = total} {y = n + 1} pos).1 (omega arith) in omega arith

-- where it is more, there is one ask or none
record Large (b F total d m : ℕ) : Type 0 where
  cases : ((d ≡ 1) × (F ≤ total)) ⊎ ((d ≡ 0) × (total < F))
  size : m ≡ min b total

large : (b F total : ℕ) → F < b → Large b F total (due b F total) (ask_size b F total)
unfolding due ask_size
large b F total h = record { cases = grind (arith, nat_tests); size = grind (arith, nat_tests) }

large_next : (b F total left n d m : ℕ) → 0 < F → F < b → total ≤ 2 * F → Large b F total d m → n ≤ d → left + n * m ≡ total → F ≤ left → (n + 1 ≤ d) × (min b left ≡ m)
large_next b F total left zero d m pos big most l fits made goes = let size = l.size in ⊎_elim (λ t. (omega arith, omega arith)) (λ t. absurd (omega arith)) l.cases
large_next b F total left (suc n) d m pos big most l fits made goes = let size = l.size in let one : n ≡ 0 = ⊎_elim (λ t. omega arith) (λ t. omega arith) l.cases in let product : suc n * m ≡ 1 * m = ap (λ k. suc k * m) one in absurd (omega (arith, product, made))

large_end : (b F total left n d m : ℕ) → Large b F total d m → n ≤ d → left + n * m ≡ total → left < F → n ≡ d
large_end b F total left zero d m l fits made stops = ⊎_elim (λ t. absurd (omega arith)) (λ t. omega arith) l.cases
large_end b F total left (suc n) d m l fits made stops = ⊎_elim (λ t. omega arith) (λ t. omega arith) l.cases

-- the loop test
test_true : (b left F : ℕ) → goes_on b left F ≡ true → (b ≤ left) ⊎ (F ≤ left)
test_true b left F e = grind (arith, nat_tests)

test_false : (b left F : ℕ) → goes_on b left F ≡ false → (left < b) × (left < F)
test_false b left F e = grind (arith, nat_tests)

module _ (b F total left n : ℕ) (pos : 0 < b) (some-freeable : 0 < F) (most : total ≤ 2 * F) (fits : n ≤ due b F total) (made : left + n * ask_size b F total ≡ total) where
  -- where the test holds an ask is due, and of the one size
  pub asks_next : goes_on b left F ≡ true → (n + 1 ≤ due b F total) × (min b left ≡ ask_size b F total)
  asks_next e = dite (dec_le b F)
      (λ h. let t = small_next b F total left n pos h (subst (λ k. left + n * k ≡ total) (small_size b F total h) made) (⊎_elim (λ q. q) (λ q. omega arith) (test_true b left F e)) in
      (subst (λ k. n + 1 ≤ k) (sym (small_due b F total h)) t.0, t.1 ∙ sym (small_size b F total h)))
      (λ h. large_next b F total left n (due b F total) (ask_size b F total) some-freeable (omega arith) most (large b F total (omega arith)) fits made (⊎_elim (λ q. omega arith) (λ q. q) (test_true b left F e)))

  -- where it fails all were made
  pub asks_end : goes_on b left F ≡ false → n ≡ due b F total
  asks_end e = let t = test_false b left F e in dite (dec_le b F)
      (λ h. small_end b F total left n pos (subst (λ k. n ≤ k) (small_due b F total h) fits) (subst (λ k. left + n * k ≡ total) (small_size b F total h) made) t.0 ∙ sym (small_due b F total h))
      (λ h. large_end b F total left n (due b F total) (ask_size b F total) (large b F total (omega arith)) fits made t.1)

sum_replicate : (n x : ℕ) → sum (replicate n x) ≡ n * x
sum_replicate n x = sum_by-replicate (λ (y : ℕ). y) n x

-- the sum of the first n due asks
pub asks_sum : (b F total n : ℕ) → n ≤ due b F total → sum (take n (due_asks b F total)) ≡ n * ask_size b F total
asks_sum b F total n h = ap sum (take-replicate n (due b F total) (ask_size b F total) h) ∙ sum_replicate n (ask_size b F total)

some_injective : (x y : ℕ) → Some x ≡ Some y → x ≡ y
some_injective x y e = cc

none_apart : (x : ℕ) → Some x ≡ None → ⊥
none_apart x e = cc

-- an ask says that one was due, and no ask that all were made
ask_tells : (b left F asked : ℕ) → Some asked ≡ ask_of b left F → (goes_on b left F ≡ true) × (asked ≡ min b left)
ask_tells b left F asked e = ⊎_elim (λ t. (t, some_injective asked (min b left) (e ∙ ap (λ x. cond x (Some (min b left)) None) t))) (λ t. absurd (none_apart asked (e ∙ ap (λ x. cond x (Some (min b left)) None) t))) (cases_Bool (goes_on b left F))

module _ (b F total left n : ℕ) (pos : 0 < b) (some-freeable : 0 < F) (most : total ≤ 2 * F) (fits : n ≤ due b F total) (made : left + n * ask_size b F total ≡ total) where
  -- what is known where another ask is due
  pub record Turn (asked : ℕ) : Type 0 where
    pub due_more : n + 1 ≤ due b F total
    pub size : asked ≡ ask_size b F total
    pub some_asked : 1 ≤ asked
    pub within : asked ≤ left

  -- an ask that the formula gives is due, has the size of all asks, and isn't more than is left
  pub next_turn : (asked : ℕ) → Some asked ≡ ask_of b left F → Turn asked
  next_turn asked e = let t = ask_tells b left F asked e in let u = asks_next b F total left n pos some-freeable most fits made t.0 in let is = t.1 in let test = test_true b left F t.0 in record {
    due_more = u.0;
    size = t.1 ∙ u.1;
    some_asked = ⊎_elim (λ h. omega arith) (λ h. omega arith) test;
    within = omega arith;
  }

  -- where the formula gives no ask, all that were due were made
  pub last_turn : None ≡ ask_of b left F → n ≡ due b F total
  last_turn e = asks_end b F total left n pos some-freeable most fits made (⊎_elim (λ t. absurd (none_apart (min b left) (sym (e ∙ ap (λ x. cond x (Some (min b left)) None) t)))) (λ t. t) (cases_Bool (goes_on b left F)))

pub made_le : (n : ℕ) (e : Ending) (k : ℕ) → MadeOf n e k → n ≤ k
made_le n Through k h = omega (arith, h)
made_le n Stop k h = omega (arith, h)
made_le n NoRoom k h = omega (arith, h)
made_le n (Worn spent) k h = omega (arith, h)

-- a record by its parts
pub follows : (priority seeks batch b total delta : ℕ) (p : PassRecord) → b ≡ batch_of batch → total ≡ total_of p.len p.nr priority seeks → delta ≡ delta_of p.len priority seeks
    → MadeOf p.asks p.ending (due b p.len total) → p.scanned ≡ p.asks * ask_size b p.len total → p.next ≡ next_of p.nr delta p.scanned p.len → p.closed ≤ p.asks → FollowsArithmetic priority seeks batch p
follows priority seeks batch b total delta p is-batch is-total is-delta made scanned next closed = record {
  made = subst (λ (x : ℕ). MadeOf p.asks p.ending (due x p.len (total_of p.len p.nr priority seeks))) is-batch (subst (λ (y : ℕ). MadeOf p.asks p.ending (due b p.len y)) is-total made);
  scanned = subst (λ (x : ℕ). p.scanned ≡ sum (take p.asks (due_asks x p.len (total_of p.len p.nr priority seeks)))) is-batch
      (subst (λ (y : ℕ). p.scanned ≡ sum (take p.asks (due_asks b p.len y))) is-total (scanned ∙ sym (asks_sum b p.len total p.asks (made_le p.asks p.ending (due b p.len total) made))));
  next = next ∙ ap (λ d. next_of p.nr d p.scanned p.len) is-delta;
  closed = closed;
}
