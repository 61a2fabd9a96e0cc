-- SPDX-License-Identifier: GPL-2.0-only
-- The words before the last one, and what passes freed.
use Rattle.shr_audit_passes.proofs.Common.{◌≡◌, ℕ, suc, ◌+◌, ◌-◌, ◌<◌, ◌≤◌, Bool, List, [], ◌∷◌, ◌++◌, length, take, Option, Some, None, refl, sym, ap, subst, ◌∙◌, arith, flat_map, sum_by, Decides, sum_by-cons, common_steps, Attempt, MapSeen, PassRecord, WalkRecord, pass_of, ids_in, AreTried, pass_freed, attempt_freed, filter_map, cons_option, length-append, freed_of}

-- all but the last
front_is : {X : Type 0} (xs before : List X) (last : X) → xs ≡ before ++ last ∷ [] → take (length xs - 1) xs ≡ before
front_is {X} xs before last e =
    let count : length xs ≡ length before + 1 = ap length e ∙ length-append before (last ∷ []) in
    let less : length xs - 1 ≡ length before = omega arith in
    ap (λ (k : ℕ). take k xs) less ∙ ap (take (length before)) e ∙ front before (last ∷ [])
  where
    front : (xs ys : List X) → take (length xs) (xs ++ ys) ≡ xs
    front xs ys = grind (arith, common_steps)

-- a list that isn't empty has a last item
front_last : {X : Type 0} (xs : List X) → 0 < length xs → (last : X) × (xs ≡ take (length xs - 1) xs ++ last ∷ [])
front_last [] lt = absurd (omega arith)
front_last {X} (x ∷ xs) lt = go xs x
  where
    less : (n : ℕ) → suc n - 1 ≡ n
    less n = omega arith

    go : (xs : List X) (x : X) → (last : X) × (x ∷ xs ≡ take (suc (length xs) - 1) (x ∷ xs) ++ last ∷ [])
    go [] x = (x, ap (λ (k : ℕ). take k (x ∷ []) ++ x ∷ []) (sym (less 0)))
    go (y ∷ ys) x =
        let more = go ys y in
        (more.0, ap (λ (zs : List X). x ∷ zs) (more.1 ∙ ap (λ (k : ℕ). take k (y ∷ ys) ++ more.0 ∷ []) (less (length ys))) ∙ ap (λ (k : ℕ). take k (x ∷ y ∷ ys) ++ more.0 ∷ []) (sym (less (suc (length ys)))))

abbrev ids_of : MapSeen → List ℕ
ids_of m = ids_in m.unit m.bits

pub before_tried : (maps : List MapSeen) (seen : List ℕ) (attempts : ℕ) (b : Bool) → seen ≡ flat_map (λ (m : MapSeen). ids_in m.unit m.bits) (take (length maps - 1) maps) → 0 < length maps → Decides b (length seen ≤ attempts) → Decides b (AreTried maps attempts)
before_tried maps seen attempts b e lt d = (
  λ t before last f. subst (λ (xs : List MapSeen). length (flat_map (λ (m : MapSeen). ids_in m.unit m.bits) xs) ≤ attempts) (front_is maps before last f) (subst (λ (xs : List ℕ). length xs ≤ attempts) e (d.0 t)),
  λ h. let split = front_last maps lt in d.1 (subst (λ (xs : List ℕ). length xs ≤ attempts) (sym e) (h (take (length maps - 1) maps) split.0 split.1)),
)

-- what passes freed, attempt by attempt
freed_sum : (attempts : List Attempt) → sum_by (λ (p : PassRecord). p.freed) (filter_map (λ (a : Attempt). pass_of a.outcome) attempts) ≡ sum_by attempt_freed attempts
freed_sum [] = refl
freed_sum (a ∷ more) = step (pass_of a.outcome) (filter_map (λ (x : Attempt). pass_of x.outcome) more) (freed_sum more) ∙ sym (sum_by-cons attempt_freed a more)
  where
    step : (o : Option PassRecord) (ps : List PassRecord) → sum_by (λ (p : PassRecord). p.freed) ps ≡ sum_by attempt_freed more → sum_by (λ (p : PassRecord). p.freed) (cons_option o ps) ≡ pass_freed o + sum_by attempt_freed more
    step None ps e = omega arith
    step (Some p) ps e = sum_by-cons (λ (q : PassRecord). q.freed) p ps ∙ ap (λ (n : ℕ). p.freed + n) e

pub told_freed : (w : WalkRecord) (told : ℕ) (b : Bool) → Decides b (told ≡ sum_by attempt_freed w.attempts.items) → Decides b (told ≡ freed_of w)
told_freed w told b d = (λ t. d.0 t ∙ sym (freed_sum w.attempts.items), λ h. d.1 (h ∙ freed_sum w.attempts.items))
