-- SPDX-License-Identifier: GPL-2.0-only
-- The operations of a command in one group: each up is followed by a down, or is the last one and found room.
use Rattle.shr_assemble.proofs.Common.{◌≡◌, ℕ, zero, suc, ◌+◌, ◌<◌, ◌≤◌, ◌&&◌, Bool, true, false, not, cond, ◌==◌, List, [], ◌∷◌, ◌++◌, length, drop, map, refl, sym, ap, subst, ◌∙◌, arith, eqb-true, slice_get, Option, Some, count_by, MatchOption, find, AllByRecursion, same_Some, none-some, slice_get_within, slice_get-get_or, dite, ℕ_discrete, UseStep, Serial, ups, downs, is_by, is_refused, IsBelow, IsDownNext, AreTakenBack, times_of, count_first, IsDownBetween, ops_at, use_group, ups_at, downs_at, Closes}
use Rattle.shr_model.proofs.PoolLaws.{and_false}
use Rattle.shr_assemble.proofs.WalkingCharges.{GoesDown}
use Rattle.shr_lawful.proofs.Listed.{is_by_own}

abbrev pub ways : List UseStep → List Bool
ways ops = map (λ (o : UseStep). o.up) ops

-- each up is followed by a down
abbrev pub Closed : List UseStep → Type 0
Closed [] = Unit {0}
Closed (o ∷ []) = o.up ≡ false
Closed (o ∷ p ∷ os) = (o.up ≡ true → p.up ≡ false) × Closed (p ∷ os)

-- each up is followed by a down, but for one that ends the list and found the usage below the limit
abbrev pub Ends : Option ℕ → List UseStep → Type 0
Ends limit [] = Unit {0}
Ends limit (o ∷ []) = o.up ≡ true → IsBelow limit o
Ends limit (o ∷ p ∷ os) = (o.up ≡ true → p.up ≡ false) × Ends limit (p ∷ os)

pub not_both : {A : Type 0} (b : Bool) → b ≡ true → b ≡ false → A
not_both true e f = absurd (cc)
not_both false e f = absurd (cc)

-- ---- one after the other

pub closed_then : (a b : List UseStep) → Closed a → Closed b → Closed (a ++ b)
closed_then [] b h k = k
closed_then (o ∷ []) [] h k = h
closed_then (o ∷ []) (p ∷ b) h k = ((λ up. not_both o.up up h), k)
closed_then (o ∷ p ∷ a) b h k = (h.0, closed_then (p ∷ a) b h.1 k)

pub closed_ends_then : (limit : Option ℕ) (a b : List UseStep) → Closed a → Ends limit b → Ends limit (a ++ b)
closed_ends_then limit [] b h k = k
closed_ends_then limit (o ∷ []) [] h k = λ up. not_both o.up up h
closed_ends_then limit (o ∷ []) (p ∷ b) h k = ((λ up. not_both o.up up h), k)
closed_ends_then limit (o ∷ p ∷ a) b h k = (h.0, closed_ends_then limit (p ∷ a) b h.1 k)

pub closed_ends : (limit : Option ℕ) (a : List UseStep) → Closed a → Ends limit a
closed_ends limit [] h = tt
closed_ends limit (o ∷ []) h = λ up. not_both o.up up h
closed_ends limit (o ∷ p ∷ a) h = (h.0, closed_ends limit (p ∷ a) h.1)

-- ---- where it comes from

pub closed_downs : (a : List UseStep) → AllByRecursion GoesDown a → Closed a
closed_downs [] h = tt
closed_downs (o ∷ []) h = h.0
closed_downs (o ∷ p ∷ a) h = ((λ up. h.1.0), closed_downs (p ∷ a) h.1)

pub closed_by : (a : List UseStep) → Closes (ways a) → Closed a
closed_by [] h = tt
closed_by (o ∷ []) h = (elim o.up as (λ (b : Bool). o.up ≡ b → Closes (b ∷ []) → o.up ≡ false) [ true ↦ λ e h. absurd h | false ↦ λ e h. e ]) refl h
closed_by (o ∷ p ∷ os) h = two o.up p.up refl refl h (closed_by (p ∷ os)) where
  two : (b c : Bool) → o.up ≡ b → p.up ≡ c → Closes (b ∷ c ∷ ways os) → (Closes (p.up ∷ ways os) → Closed (p ∷ os)) → (o.up ≡ true → p.up ≡ false) × Closed (p ∷ os)
  two false c e d h more = ((λ up. not_both o.up up e), more (subst (λ (b : Bool). Closes (b ∷ ways os)) (sym d) h))
  two true false e d h more = ((λ up. d), more (subst (λ (b : Bool). Closes (b ∷ ways os)) (sym d) h))
  two true true e d h more = absurd h

-- one up at most, which found room
pub ends_short : (limit : Option ℕ) (a : List UseStep) → length a ≤ 1 → AllByRecursion (IsBelow limit) a → Ends limit a
ends_short limit [] few h = tt
ends_short limit (o ∷ []) few h = λ up. h.0
ends_short limit (o ∷ p ∷ a) few h = absurd (omega (arith, few))

-- one up at most, and as many downs
pub closed_pair : (a b : List UseStep) → length a ≤ 1 → length a ≡ length b → AllByRecursion GoesDown b → Closed (a ++ b)
closed_pair [] b few same h = closed_downs b h
closed_pair (o ∷ []) [] few same h = absurd (omega (arith, same))
closed_pair (o ∷ []) (p ∷ b) few same h = ((λ up. h.0), closed_downs (p ∷ b) h)
closed_pair (o ∷ p ∷ a) b few same h = absurd (omega (arith, few))

-- ---- what it says

pub ends_taken : (by : Serial) (limit : Option ℕ) (a : List UseStep) → AllByRecursion (λ (o : UseStep). o.by ≡ by) a → Ends limit a → AreTakenBack limit a
ends_taken by limit [] own h n y e up above = absurd (none-some y e)
ends_taken by limit (o ∷ []) own h zero y e up above = absurd (above (subst (IsBelow limit) (same_Some o y e) (h (ap (λ (z : UseStep). z.up) (same_Some o y e) ∙ up))))
ends_taken by limit (o ∷ []) own h (suc n) y e up above = absurd (none-some y e)
ends_taken by limit (o ∷ p ∷ a) own h zero y e up above =
    let same = same_Some o y e in
    let mine : y.by ≡ by = ap (λ (z : UseStep). z.by) (sym same) ∙ own.0 in
    let first : find (is_by y.by) (p ∷ a) ≡ Some p = ap (λ (b : Bool). cond b (Some p) (find (is_by y.by) a)) (is_by_own y.by p (own.1.0 ∙ sym mine)) in
    subst (λ (f : Option UseStep). MatchOption f ⊥ (λ (z : UseStep). z.up ≡ false)) (sym first) (h.0 (ap (λ (z : UseStep). z.up) same ∙ up))
ends_taken by limit (o ∷ p ∷ a) own h (suc n) y e up above =
    let there : suc (n + 1) ≡ suc n + 1 = omega arith in
    subst (λ (k : ℕ). IsDownNext y.by (drop k (o ∷ p ∷ a))) there (ends_taken by limit (p ∷ a) own.1 h.1 n y e up above)

ends_next : (limit : Option ℕ) (a : List UseStep) → Ends limit a → (n : ℕ) (b : Bool) → slice_get (ways a) n ≡ Some true → slice_get (ways a) (suc n) ≡ Some b → b ≡ false
ends_next limit [] h n b e f = absurd (none-some true e)
ends_next limit (o ∷ []) h zero b e f = absurd (none-some b f)
ends_next limit (o ∷ []) h (suc n) b e f = absurd (none-some true e)
ends_next limit (o ∷ p ∷ a) h zero b e f = sym (same_Some p.up b f) ∙ h.0 (same_Some o.up true e)
ends_next limit (o ∷ p ∷ a) h (suc n) b e f = ends_next limit (p ∷ a) h.1 n b e f

pub ends_between : (limit : Option ℕ) (a : List UseStep) → Ends limit a → IsDownBetween (ways a)
ends_between limit a h n m lt e f = dite (ℕ_discrete m (suc n))
    (λ same. not_both true refl (ends_next limit a h n true e (subst (λ (k : ℕ). slice_get (ways a) k ≡ Some true) same f)))
    (λ other. let low : suc n < m = omega (arith, other, lt) in let long = slice_get_within (ways a) m true f in
    let is = slice_get-get_or (ways a) (suc n) true (omega (arith, low, long)) in
    (suc n, omega arith, low, is ∙ ap Some (ends_next limit a h n _ e is)))

-- ---- the operations of one group

pub at_then : (g : ℕ) (a b : List UseStep) → ops_at g (a ++ b) ≡ ops_at g a ++ ops_at g b
at_then g [] b = refl
at_then g (o ∷ a) b = (elim (o.group == g) as (λ (t : Bool). ops_at g (a ++ b) ≡ ops_at g a ++ ops_at g b → cond t (o ∷ ops_at g (a ++ b)) (ops_at g (a ++ b)) ≡ cond t (o ∷ ops_at g a) (ops_at g a) ++ ops_at g b) [ true ↦ λ e. ap (λ (l : List UseStep). o ∷ l) e | false ↦ λ e. e ]) (at_then g a b)

pub at_all : (P : UseStep → Type 0) (g : ℕ) (ops : List UseStep) → AllByRecursion P ops → AllByRecursion (λ (o : UseStep). P o × (o.group ≡ g)) (ops_at g ops)
at_all P g [] h = tt
at_all P g (o ∷ ops) h = kept (o.group == g) refl (at_all P g ops h.1) where
  kept : (t : Bool) → (o.group == g) ≡ t → AllByRecursion (λ (y : UseStep). P y × (y.group ≡ g)) (ops_at g ops) → AllByRecursion (λ (y : UseStep). P y × (y.group ≡ g)) (cond t (o ∷ ops_at g ops) (ops_at g ops))
  kept true e more = ((h.0, eqb-true o.group g e), more)
  kept false e more = more

pub at_long : (g : ℕ) (ops : List UseStep) → length (ops_at g ops) ≡ times_of g (map use_group ops)
at_long g [] = refl
at_long g (o ∷ ops) = kept (o.group == g) (at_long g ops) ∙ sym (count_first (λ (j : ℕ). j == g) o.group (map use_group ops)) where
  kept : (t : Bool) → length (ops_at g ops) ≡ times_of g (map use_group ops) → length (cond t (o ∷ ops_at g ops) (ops_at g ops)) ≡ cond {A = ℕ} t 1 0 + times_of g (map use_group ops)
  kept true e = omega (arith, e)
  kept false e = omega (arith, e)

-- a count of them is one of all
pub count_at : (p : UseStep → Bool) (g : ℕ) (ops : List UseStep) → count_by p (ops_at g ops) ≡ count_by (λ (o : UseStep). (o.group == g) && p o) ops
count_at p g [] = refl
count_at p g (o ∷ ops) = kept (o.group == g) (count_at p g ops) ∙ sym (count_first (λ (y : UseStep). (y.group == g) && p y) o ops) where
  kept : (t : Bool) → count_by p (ops_at g ops) ≡ count_by (λ (y : UseStep). (y.group == g) && p y) ops → count_by p (cond t (o ∷ ops_at g ops) (ops_at g ops)) ≡ cond {A = ℕ} (t && p o) 1 0 + count_by (λ (y : UseStep). (y.group == g) && p y) ops
  kept true e = count_first p o (ops_at g ops) ∙ ap (λ (n : ℕ). cond {A = ℕ} (p o) 1 0 + n) e
  kept false e = omega (arith, e)

pub ups_is : (g : ℕ) (ops : List UseStep) → ups (ops_at g ops) ≡ ups_at g ops
ups_is g ops = count_at (λ (o : UseStep). o.up) g ops

pub downs_is : (g : ℕ) (ops : List UseStep) → downs (ops_at g ops) ≡ downs_at g ops
downs_is g ops = count_at (λ (o : UseStep). not o.up) g ops

-- the refused ones, by the limit of each group
pub refused_is : (limit : ℕ → Option ℕ) (g : ℕ) (ops : List UseStep) → count_by (is_refused (limit g)) (ops_at g ops) ≡ count_by (λ (o : UseStep). is_refused (limit o.group) o && (o.group == g)) ops
refused_is limit g [] = refl
refused_is limit g (o ∷ ops) = kept (o.group == g) refl (refused_is limit g ops) ∙ sym (count_first (λ (y : UseStep). is_refused (limit y.group) y && (y.group == g)) o ops) where
  with_true : (b : Bool) → b ≡ (b && true)
  with_true true = refl
  with_true false = refl

  kept : (t : Bool) → (o.group == g) ≡ t → count_by (is_refused (limit g)) (ops_at g ops) ≡ count_by (λ (y : UseStep). is_refused (limit y.group) y && (y.group == g)) ops
      → count_by (is_refused (limit g)) (cond t (o ∷ ops_at g ops) (ops_at g ops)) ≡ cond {A = ℕ} (is_refused (limit o.group) o && t) 1 0 + count_by (λ (y : UseStep). is_refused (limit y.group) y && (y.group == g)) ops
  kept true e more = count_first (is_refused (limit g)) o (ops_at g ops)
      ∙ (ap (λ (n : ℕ). cond {A = ℕ} (is_refused (limit g) o) 1 0 + n) more
      ∙ ap (λ (b : Bool). cond {A = ℕ} b 1 0 + count_by (λ (y : UseStep). is_refused (limit y.group) y && (y.group == g)) ops) (ap (λ (n : ℕ). is_refused (limit n) o) (sym (eqb-true o.group g e)) ∙ with_true (is_refused (limit o.group) o)))
  kept false e more = let none = ap (λ (b : Bool). cond {A = ℕ} b 1 0) (and_false (is_refused (limit o.group) o)) in omega (arith, more, none)

-- those of one group are no more than all
pub count_all : (p : UseStep → Bool) (g : ℕ) (ops : List UseStep) → count_by p (ops_at g ops) ≤ count_by p ops
count_all p g [] = omega arith
count_all p g (o ∷ ops) = let e = count_first p o ops in let k = kept (o.group == g) (count_all p g ops) in omega (arith, e, k) where
  kept : (t : Bool) → count_by p (ops_at g ops) ≤ count_by p ops → count_by p (cond t (o ∷ ops_at g ops) (ops_at g ops)) ≤ cond {A = ℕ} (p o) 1 0 + count_by p ops
  kept true le = let e = count_first p o (ops_at g ops) in omega (arith, e, le)
  kept false le = omega (arith, le)
