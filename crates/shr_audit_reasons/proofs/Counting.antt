-- SPDX-License-Identifier: GPL-2.0-only
-- Operations and puts counted one after another.
use Rattle.shr_audit_reasons.proofs.SpentCommon.{◌≡◌, ℕ, ◌+◌, ◌<◌, ◌≤◌, Bool, true, false, List, [], ◌∷◌, ◌++◌, length, length-append, get_or, refl, sym, ap, subst, ◌∙◌, arith, filter, UseStep, AreCounted, IsCapped, is_of_kind, zero_more, cond, set, count_by, get_or-set_same, get_or-set_other, length-set, worker_uses}
use mathlib.Core.Logic.{dite}
use native.Mathlib.Decide.{ℕ_discrete}
use Rattle.std.proofs.lemmas.Bool.{eq-eqb, ne_eqb}
use Rattle.std.proofs.lemmas.List.Elements.{filter-append}
use Rattle.std.proofs.lemmas.List.Sums.{length-filter}
use Rattle.shr_laws.specs.Causes.{is_of_worker}

one_in : {X : Type 0} (p : X → Bool) (y : X) (b : Bool) → p y ≡ b → length (filter p (y ∷ [])) ≡ cond b 1 0
one_in p y true e = rw e refl
one_in p y false e = rw e refl

-- one item more
pub filter_one : {X : Type 0} (p : X → Bool) (xs : List X) (y : X) (b : Bool) → p y ≡ b → length (filter p (xs ++ y ∷ [])) ≡ length (filter p xs) + cond b 1 0
filter_one {X} p xs y b e = ap length (filter-append p xs (y ∷ [])) ∙ (length-append (filter p xs) (filter p (y ∷ [])) ∙ ap (λ (n : ℕ). length (filter p xs) + n) (one_in p y b e))

count_one : {X : Type 0} (p : X → Bool) (xs : List X) (y : X) (b : Bool) → p y ≡ b → count_by p (xs ++ y ∷ []) ≡ count_by p xs + cond b 1 0
count_one p xs y b e = sym (length-filter p (xs ++ y ∷ [])) ∙ (filter_one p xs y b e ∙ ap (λ (n : ℕ). n + cond b 1 0) (length-filter p xs))

-- ---- operations

-- an operation that isn't counted for a worker, and one that is
step_off : (kind : Bool) (w : ℕ) (before : List UseStep) (o : UseStep) → cond (is_of_worker w o) (is_of_kind kind o.up) false ≡ false → worker_uses kind w (before ++ o ∷ []) ≡ worker_uses kind w before
step_off kind w before o off = let one = count_one (λ (x : UseStep). cond (is_of_worker w x) (is_of_kind kind x.up) false) before o false off in omega (arith, one)

step_on : (kind : Bool) (w : ℕ) (before : List UseStep) (o : UseStep) → cond (is_of_worker w o) (is_of_kind kind o.up) false ≡ true → worker_uses kind w (before ++ o ∷ []) ≡ worker_uses kind w before + 1
step_on kind w before o on = count_one (λ (x : UseStep). cond (is_of_worker w x) (is_of_kind kind x.up) false) before o true on

never : (b k : Bool) → k ≡ false → cond b k false ≡ false
never true k e = e
never false k e = refl

-- of another kind
pub other_kind : (kind : Bool) (o : UseStep) (counts : List ℕ) → is_of_kind kind o.up ≡ false → (before : List UseStep) → AreCounted kind before counts → AreCounted kind (before ++ o ∷ []) counts
other_kind kind o counts unlike before are w lt = subst (IsCapped (get_or counts w 0)) (sym (step_off kind w before o (never (is_of_worker w o) (is_of_kind kind o.up) unlike))) (are w lt)

off : (kind : Bool) (w : ℕ) (o : UseStep) → (o.by.worker ≡ w → ⊥) → cond (is_of_worker w o) (is_of_kind kind o.up) false ≡ false
off kind w o other = ap (λ (b : Bool). cond b (is_of_kind kind o.up) false) (ne_eqb o.by.worker w other)

-- of a worker that has no part
pub no_part : (kind : Bool) (o : UseStep) (counts : List ℕ) → length counts ≤ o.by.worker → (before : List UseStep) → AreCounted kind before counts → AreCounted kind (before ++ o ∷ []) counts
no_part kind o counts past before are w lt = subst (IsCapped (get_or counts w 0)) (sym (step_off kind w before o (off kind w o (λ same. (let e : o.by.worker ≡ w = same in omega (arith, e)))))) (are w lt)

-- of one that has
pub one_noted : (kind : Bool) (o : UseStep) (counts : List ℕ) (more : ℕ) → o.by.worker < length counts → is_of_kind kind o.up ≡ true → ((count : ℕ) → IsCapped (get_or counts o.by.worker 0) count → IsCapped more (count + 1))
    → (before : List UseStep) → AreCounted kind before counts → AreCounted kind (before ++ o ∷ []) (set counts o.by.worker more)
one_noted kind o counts more there own grows before are w lt = dite (ℕ_discrete w o.by.worker) here away
  where
    within : w < length counts
    within = subst (λ (n : ℕ). w < n) (length-set counts o.by.worker more) lt

    here : w ≡ o.by.worker → IsCapped (get_or (set counts o.by.worker more) w 0) (worker_uses kind w (before ++ o ∷ []))
    here same = subst (λ (v : ℕ). IsCapped (get_or (set counts o.by.worker more) v 0) (worker_uses kind v (before ++ o ∷ []))) (sym same)
        (subst (λ (n : ℕ). IsCapped n (worker_uses kind o.by.worker (before ++ o ∷ []))) (sym (get_or-set_same counts o.by.worker more 0 there))
        (subst (IsCapped more) (sym (step_on kind o.by.worker before o (ap (λ (b : Bool). cond b (is_of_kind kind o.up) false) (eq-eqb o.by.worker o.by.worker refl) ∙ own)))
        (grows (worker_uses kind o.by.worker before) (are o.by.worker there))))

    away : (w ≡ o.by.worker → ⊥) → IsCapped (get_or (set counts o.by.worker more) w 0) (worker_uses kind w (before ++ o ∷ []))
    away ne = subst (λ (n : ℕ). IsCapped n (worker_uses kind w (before ++ o ∷ []))) (sym (get_or-set_other counts o.by.worker w more 0 ne))
        (subst (IsCapped (get_or counts w 0)) (sym (step_off kind w before o (off kind w o (λ same. ne (sym same))))) (are w within))

-- none was noted
pub none_counted : (kind : Bool) (counts : List ℕ) → ((i : ℕ) → get_or counts i 0 ≡ 0) → AreCounted kind [] counts
none_counted kind counts all w lt = subst (λ (n : ℕ). IsCapped n 0) (sym (all w)) (record { most = omega arith; same = λ few. refl })
