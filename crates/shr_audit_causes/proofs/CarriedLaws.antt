-- SPDX-License-Identifier: GPL-2.0-only
-- What commands carried, one carry after another.
use Rattle.shr_audit_causes.proofs.OfflinesCommon.{◌≡◌, ℕ, ◌+◌, ◌*◌, ◌%◌, ◌^◌, ◌<◌, ◌≤◌, Bool, true, false, cond, List, [], ◌∷◌, ◌++◌, length, get_or, set, take, replicate, refl, sym, ap, subst, ◌∙◌, arith, eq-eqb, ne_eqb, length-set, get_or-set_same, get_or-set_other, ◌==◌, sum_by, get_or-replicate, length-replicate, take_all, sum_by-cons, dite, ℕ_discrete, Carry, Report, answers_of, serial_of, HasCarriedSums, IsCarriedOf, carried_by, ◌/◌, filter, ◌&&◌, take_more, sum_by-append, carries_of}
use Rattle.std.proofs.lemmas.List.Elements.{filter-append}
use Rattle.std.proofs.Math.Nat.{mod-add-div, add-mul-mod_self_right}
use Rattle.shr_model.specs.Commands.{is_serial}

one_sum : (c : Carry) (b : Bool) → sum_by (λ (x : Carry). x.amount) (cond b (c ∷ []) []) ≡ cond {A = ℕ} b c.amount 0
one_sum c true = sum_by-cons (λ (x : Carry). x.amount) c [] ∙ (let e : c.amount + 0 ≡ c.amount = omega arith in e)
one_sum c false = refl

carried_more : (worker k : ℕ) (carries : List Carry) (c : Carry) (b : Bool) → is_serial (serial_of worker k) c.by ≡ b → carried_by worker k (carries ++ c ∷ []) ≡ carried_by worker k carries + cond {A = ℕ} b c.amount 0
carried_more worker k carries c b e =
    ap (sum_by (λ (x : Carry). x.amount)) (filter-append (λ (x : Carry). is_serial (serial_of worker k) x.by) carries (c ∷ []))
    ∙ sum_by-append (λ (x : Carry). x.amount) (filter (λ (x : Carry). is_serial (serial_of worker k) x.by) carries) (filter (λ (x : Carry). is_serial (serial_of worker k) x.by) (c ∷ []))
    ∙ ap (λ (n : ℕ). carried_by worker k carries + n) (ap (λ (t : Bool). sum_by (λ (x : Carry). x.amount) (cond t (c ∷ []) [])) e ∙ one_sum c b)

-- sums modulo a number
mod_more : (x a m : ℕ) → (x % m + a) % m ≡ (x + a) % m
mod_more x a m =
    let e = mod-add-div x m in
    let f : x + a ≡ (x % m + a) + (x / m) * m = regroup (x % m) (m * (x / m)) ((x / m) * m) e (let g : m * (x / m) ≡ (x / m) * m = omega arith in g) in
    sym (ap (λ (n : ℕ). n % m) f ∙ add-mul-mod_self_right (x % m + a) (x / m) m)
  where
    regroup : (r p q : ℕ) → r + p ≡ x → p ≡ q → x + a ≡ (r + a) + q
    regroup r p q e f = omega (arith, e, f)

module _ (worker : ℕ) (c : Carry) (table : List ℕ) where
  off_worker : (k : ℕ) → (c.by.worker ≡ worker → ⊥) → is_serial (serial_of worker k) c.by ≡ false
  off_worker k other = ap (λ (b : Bool). b && (k == c.by.command)) (ne_eqb worker c.by.worker (λ same. other (sym same)))

  off_command : (k : ℕ) → (c.by.command ≡ k → ⊥) → is_serial (serial_of worker k) c.by ≡ false
  off_command k other = ap (λ (b : Bool). (worker == c.by.worker) && b) (ne_eqb k c.by.command (λ same. other (sym same))) ∙ never (worker == c.by.worker)
    where
      never : (b : Bool) → (b && false) ≡ false
      never true = refl
      never false = refl

  on_command : c.by.worker ≡ worker → is_serial (serial_of worker c.by.command) c.by ≡ true
  on_command same = ap (λ (b : Bool). b && (c.by.command == c.by.command)) (eq-eqb worker c.by.worker (sym same)) ∙ eq-eqb c.by.command c.by.command refl

  stays : (before : List Carry) (k n : ℕ) → is_serial (serial_of worker k) c.by ≡ false → n ≡ carried_by worker k before % 2 ^ 64 → n ≡ carried_by worker k (before ++ c ∷ []) % 2 ^ 64
  stays before k n off is = is ∙ ap (λ (m : ℕ). m % 2 ^ 64) (let e = carried_more worker k before c false off in let same : carried_by worker k before ≡ carried_by worker k (before ++ c ∷ []) = omega (arith, e) in same)

  pub other_worker : (c.by.worker ≡ worker → ⊥) → (before : List Carry) → HasCarriedSums worker before table → HasCarriedSums worker (before ++ c ∷ []) table
  other_worker other before are k lt = stays before k (get_or table k 0) (off_worker k other) (are k lt)

  pub no_command : length table ≤ c.by.command → (before : List Carry) → HasCarriedSums worker before table → HasCarriedSums worker (before ++ c ∷ []) table
  no_command past before are k lt = stays before k (get_or table k 0) (off_command k (λ same. (let e : c.by.command ≡ k = same in omega (arith, e, lt, past)))) (are k lt)

  pub one_noted : (amount : ℕ) → c.by.worker ≡ worker → c.by.command < length table → amount ≡ (get_or table c.by.command 0 + c.amount) % 2 ^ 64
      → (before : List Carry) → HasCarriedSums worker before table → HasCarriedSums worker (before ++ c ∷ []) (set table c.by.command amount)
  one_noted amount same there is before are k lt = dite (ℕ_discrete k c.by.command) here away
    where
      within : k < length table
      within = subst (λ (n : ℕ). k < n) (length-set table c.by.command amount) lt

      here : k ≡ c.by.command → get_or (set table c.by.command amount) k 0 ≡ carried_by worker k (before ++ c ∷ []) % 2 ^ 64
      here e = subst (λ (j : ℕ). get_or (set table c.by.command amount) j 0 ≡ carried_by worker j (before ++ c ∷ []) % 2 ^ 64) (sym e)
          (get_or-set_same table c.by.command amount 0 there ∙ is ∙ ap (λ (n : ℕ). (n + c.amount) % 2 ^ 64) (are c.by.command there) ∙ mod_more (carried_by worker c.by.command before) c.amount (2 ^ 64)
          ∙ ap (λ (n : ℕ). n % 2 ^ 64) (sym (carried_more worker c.by.command before c true (on_command same))))

      away : (k ≡ c.by.command → ⊥) → get_or (set table c.by.command amount) k 0 ≡ carried_by worker k (before ++ c ∷ []) % 2 ^ 64
      away ne = get_or-set_other table c.by.command k amount 0 ne ∙ stays before k (get_or table k 0) (off_command k (λ e. ne (sym e))) (are k within)

pub none_carried : (worker count : ℕ) (table : List ℕ) → table ≡ replicate count 0 → HasCarriedSums worker [] table
none_carried worker count table is k lt = ap (λ (xs : List ℕ). get_or xs k 0) is ∙ get_or-replicate count k 0 0 (subst (λ (n : ℕ). k < n) (ap length is ∙ length-replicate count 0) lt)

pub many_none : (count : ℕ) (table : List ℕ) → table ≡ replicate count 0 → length table ≡ count
many_none count table is = ap length is ∙ length-replicate count 0

pub carries_more : (worker : ℕ) (carries : List Carry) (n : ℕ) (d : Carry) (table : List ℕ) → n < length carries → HasCarriedSums worker (take n carries ++ get_or carries n d ∷ []) table → HasCarriedSums worker (take (n + 1) carries) table
carries_more worker carries n d table lt are = subst (λ (cs : List Carry). HasCarriedSums worker cs table) (sym (take_more carries n d lt)) are

pub all_carried : (r : Report) (worker count : ℕ) (carries : List Carry) (n : ℕ) (table : List ℕ) → carries ≡ carries_of r worker → length carries ≤ n → count ≡ length (answers_of r worker) → length table ≡ count
    → HasCarriedSums worker (take n carries) table → IsCarriedOf r worker table
all_carried r worker count carries n table is over many long are = record {
  count = long ∙ many;
  each = subst (λ (cs : List Carry). HasCarriedSums worker cs table) (take_all n carries over ∙ is) are;
}
