-- SPDX-License-Identifier: GPL-2.0-only
-- The halves of the usage words don't wrap, since each seat makes a bounded number of calls.
use Rattle.shr_charge.proofs.Common.{◌≡◌, ℕ, suc, ◌+◌, ◌*◌, ◌^◌, ◌≤◌, Bool, true, false, not, ◌&&◌, eqb, cond, List, [], ◌∷◌, sym, refl, ap, ◌∙◌, ⊎_elim, arith, sum_by, cases_Bool, eqb-true, sum_by_push, sum_by-append, sum_by-cons, UseStep, Each, Uses, no_uses, own_uses, both_uses, one_use, ups_at, downs_at, IsPaced}

-- sums of smaller terms
sum_le : {A : Type 0} (f h : A → ℕ) (l : List A) → Each (λ x. f x ≤ h x) l → sum_by f l ≤ sum_by h l
sum_le f h [] each = omega arith
sum_le f h (x ∷ xs) each = omega (arith, each 0 x refl, sum_le f h xs (λ j y e. each (suc j) y e), sum_by-cons f x xs, sum_by-cons h x xs)

sum_scale : {A : Type 0} (k : ℕ) (f : A → ℕ) (l : List A) → sum_by (λ x. k * f x) l ≡ k * sum_by f l
sum_scale {A} k f [] = omega arith
sum_scale {A} k f (x ∷ xs) = let rest = sum_scale k f xs in let all = sum_by-cons f x xs in let scaled = sum_by-cons (λ (y : A). k * f y) x xs in
    scaled ∙ (ap (λ (n : ℕ). k * f x + n) rest ∙ (let e : k * f x + k * sum_by f xs ≡ k * (f x + sum_by f xs) = omega arith in e ∙ ap (λ (n : ℕ). k * n) (sym all)))

module _ (uses : List Uses) (few : sum_by (λ (u : Uses). u.seats) uses ≤ 65) (paced : Each IsPaced uses) where
  -- all ups of a group fit the high half of its usage word
  pub ups_few : (g : ℕ) → sum_by (λ (u : Uses). ups_at g u.ops) uses ≤ 2 ^ 21 * 65
  ups_few g = omega (
    arith,
    few,
    sum_scale (2 ^ 21) (λ (u : Uses). u.seats) uses,
    sum_le (λ (u : Uses). ups_at g u.ops) (λ (u : Uses). 2 ^ 21 * u.seats) uses (λ j u e. let p = paced j u e in let a = p.up g in let b = p.charges in omega (arith, a, b)),
  )

  -- all downs of a group fit the low half
  pub downs_few : (g : ℕ) → sum_by (λ (u : Uses). downs_at g u.ops) uses ≤ (2 ^ 21 + 2 ^ 25) * 65
  downs_few g = omega (
    arith,
    few,
    sum_scale (2 ^ 21 + 2 ^ 25) (λ (u : Uses). u.seats) uses,
    sum_le (λ (u : Uses). downs_at g u.ops) (λ (u : Uses). (2 ^ 21 + 2 ^ 25) * u.seats) uses (λ j u e. let p = paced j u e in let a = p.down g in let b = p.charges in let c = p.uncharges in omega (arith, a, b, c)),
  )

pub cond_and : (b : Bool) → ◌≡◌ {A = ℕ} (cond (b && false) 1 0) 0
cond_and true = refl
cond_and false = refl

-- one operation more
module _ (u : Uses) (o : UseStep) (c d : ℕ) (paced : IsPaced u) where
  -- a seat that goes up once more is paced
  pub paced_up : o.up ≡ true → ups_at o.group u.ops + 1 ≤ u.charges + c → u.charges + c ≤ 2 ^ 21 * u.seats → u.uncharges + d ≤ 2 ^ 25 * u.seats → IsPaced (both_uses u (one_use o c d))
  paced_up goes room charges uncharges = record {
    up = λ g. let more = sum_by_push (λ (x : UseStep). cond (eqb x.group g && x.up) 1 0) u.ops o in let was = paced.up g in ⊎_elim
        (λ t. let same = eqb-true o.group g t in let flag = ap {B = ℕ} (λ b. cond (b && o.up) 1 0) t ∙ ap {B = ℕ} (λ b. cond b 1 0) goes in let here = ap (λ (k : ℕ). ups_at k u.ops) same in omega (arith, more, flag, here, room))
        (λ f. let flag = ap {B = ℕ} (λ b. cond (b && o.up) 1 0) f in omega (arith, more, flag, was))
        (cases_Bool (eqb o.group g));
    down = λ g. let more = sum_by_push (λ (x : UseStep). cond (eqb x.group g && not x.up) 1 0) u.ops o in let was = paced.down g in
        let flag = ap {B = ℕ} (λ b. cond (eqb o.group g && not b) 1 0) goes ∙ cond_and (eqb o.group g) in omega (arith, more, flag, was);
    charges = omega (arith, charges);
    uncharges = omega (arith, uncharges);
  }

  -- a seat that goes down once more is paced
  pub paced_down : o.up ≡ false → downs_at o.group u.ops + 1 ≤ (u.charges + c) + (u.uncharges + d) → u.charges + c ≤ 2 ^ 21 * u.seats → u.uncharges + d ≤ 2 ^ 25 * u.seats → IsPaced (both_uses u (one_use o c d))
  paced_down goes room charges uncharges = record {
    down = λ g. let more = sum_by_push (λ (x : UseStep). cond (eqb x.group g && not x.up) 1 0) u.ops o in let was = paced.down g in ⊎_elim
        (λ t. let same = eqb-true o.group g t in let flag = ap {B = ℕ} (λ b. cond (b && not o.up) 1 0) t ∙ ap {B = ℕ} (λ b. cond (not b) 1 0) goes in let here = ap (λ (k : ℕ). downs_at k u.ops) same in omega (arith, more, flag, here, room))
        (λ f. let flag = ap {B = ℕ} (λ b. cond (b && not o.up) 1 0) f in omega (arith, more, flag, was))
        (cases_Bool (eqb o.group g));
    up = λ g. let more = sum_by_push (λ (x : UseStep). cond (eqb x.group g && x.up) 1 0) u.ops o in let was = paced.up g in
        let flag = ap {B = ℕ} (λ b. cond (eqb o.group g && b) 1 0) goes ∙ cond_and (eqb o.group g) in omega (arith, more, flag, was);
    charges = omega (arith, charges);
    uncharges = omega (arith, uncharges);
  }

-- a seat that made nothing
pub paced_none : IsPaced no_uses
paced_none = record { up = λ g. omega arith; down = λ g. omega arith; charges = omega arith; uncharges = omega arith }

pub paced_own : IsPaced own_uses
paced_own = record { up = λ g. omega arith; down = λ g. omega arith; charges = omega arith; uncharges = omega arith }

-- a seat with the calls of another
pub paced_join : (u w : Uses) → IsPaced u → IsPaced w → IsPaced (both_uses u w)
paced_join u w p q = record {
  up = λ g. omega (arith, p.up g, q.up g, sum_by-append (λ (x : UseStep). cond (eqb x.group g && x.up) 1 0) u.ops w.ops);
  down = λ g. omega (arith, p.down g, q.down g, sum_by-append (λ (x : UseStep). cond (eqb x.group g && not x.up) 1 0) u.ops w.ops);
  charges = let a = p.charges in let b = q.charges in omega arith;
  uncharges = let a = p.uncharges in let b = q.uncharges in omega arith;
}
