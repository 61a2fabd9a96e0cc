-- SPDX-License-Identifier: GPL-2.0-only
-- A loop that counts what a scan would free: it goes over the objects as they stand.
use Rattle.shr_list.proofs.Common.{◌≡◌, ℕ, zero, suc, ◌+◌, ◌-◌, ◌<◌, List, [], ◌∷◌, ◌++◌, length, drop, refl, sym, ap, ◌∙◌, arith, append_assoc, length-append, get_or, min, append-nil, drop_all, AllByRecursion, Object, Policy, unmarked_object, Removed, Rotate, Skip, Stop, Scanned, case_of, scan_from, scan_spent, scan_none, scan_removed, scan_skipped, scan_rotated, scan_rotated_last, scan_stopped, add-one, drop-cons, nil_from_length, freed_alike, freed_each, rotated_then_removed}

-- how many a scan frees of these
abbrev pub freed_count : Policy → ℕ → List Object → ℕ
freed_count policy n items = length (scan_from policy n [] items).freed

-- the objects wait at the tail that were rotated; with what was freed so far, what the others give
-- is the whole
pub record IsCounting (policy : Policy) (asked met : ℕ) (items : List Object) (freed rotated : ℕ) : Type 0 where
  pub waiting : List Object
  pub number : length waiting ≡ rotated
  pub removed : AllByRecursion (λ (o : Object). case_of policy o ≡ Removed) waiting
  pub total : freed + freed_count policy (asked - met) (drop met items ++ waiting) ≡ freed_count policy asked items

each_push : (policy : Policy) (items : List Object) (x : Object) → AllByRecursion (λ (o : Object). case_of policy o ≡ Removed) items → case_of policy x ≡ Removed
    → AllByRecursion (λ (o : Object). case_of policy o ≡ Removed) (items ++ x ∷ [])
each_push policy [] x each last = (last, tt)
each_push policy (y ∷ ys) x each last = (each.0, each_push policy ys x each.1 last)

-- before the first object nothing is counted
pub counting_begins : (policy : Policy) (asked : ℕ) (items : List Object) → IsCounting policy asked 0 items 0 0
counting_begins policy asked items =
    let whole : asked - 0 ≡ asked = omega arith in
    record { waiting = []; number = refl; removed = tt; total = rw (whole, append-nil items) (omega arith) }

-- a removed object counts
pub counting_removed : (policy : Policy) (asked met : ℕ) (items : List Object) (freed rotated : ℕ) (x : Object) → met < asked → drop met items ≡ x ∷ drop (met + 1) items
    → Removed ≡ case_of policy x → IsCounting policy asked met items freed rotated → IsCounting policy asked (met + 1) items (freed + 1) rotated
counting_removed policy asked met items freed rotated x within first says counting =
    let left : asked - met ≡ suc (asked - (met + 1)) = omega arith in
    let others = drop (met + 1) items ++ counting.waiting in
    let total = rw (left, first) at counting.total in
    let step = ap (λ (s : Scanned). length s.freed) (scan_removed policy (asked - (met + 1)) [] x others (sym says)) in
    record {
      waiting = counting.waiting;
      number = counting.number;
      removed = counting.removed;
      total = omega (arith, total, step);
    }

-- a skipped object does not
pub counting_skipped : (policy : Policy) (asked met : ℕ) (items : List Object) (freed rotated : ℕ) (x : Object) → met < asked → drop met items ≡ x ∷ drop (met + 1) items
    → Skip ≡ case_of policy x → IsCounting policy asked met items freed rotated → IsCounting policy asked (met + 1) items freed rotated
counting_skipped policy asked met items freed rotated x within first says counting =
    let left : asked - met ≡ suc (asked - (met + 1)) = omega arith in
    let others = drop (met + 1) items ++ counting.waiting in
    let total = rw (left, first) at counting.total in
    let step = ap (λ (s : Scanned). s.freed) (scan_skipped policy (asked - (met + 1)) [] x others (sym says)) ∙ freed_alike policy (asked - (met + 1)) (x ∷ []) others in
    record {
      waiting = counting.waiting;
      number = counting.number;
      removed = counting.removed;
      total = omega (arith, total, ap (λ (s : List Object). length s) step);
    }

-- a scan that rotates the first object where others follow
freed_rotated : (policy : Policy) (n : ℕ) (x : Object) (xs : List Object) → case_of policy x ≡ Rotate → 0 < length xs
    → freed_count policy (suc n) (x ∷ xs) ≡ freed_count policy n (xs ++ unmarked_object x ∷ [])
freed_rotated policy n x [] says some = absurd (omega (arith, some))
freed_rotated policy n x (y ∷ ys) says some = ap (λ (s : Scanned). length s.freed) (scan_rotated policy n [] x y ys says)

-- a rotated object that others follow waits at the tail
pub counting_rotated : (policy : Policy) (asked met : ℕ) (items : List Object) (freed rotated : ℕ) (x : Object) → met < asked → drop met items ≡ x ∷ drop (met + 1) items
    → Rotate ≡ case_of policy x → 0 < length (drop (met + 1) items) + rotated → IsCounting policy asked met items freed rotated
    → IsCounting policy asked (met + 1) items freed (rotated + 1)
counting_rotated policy asked met items freed rotated x within first says some counting =
    let left : asked - met ≡ suc (asked - (met + 1)) = omega arith in
    let others = drop (met + 1) items ++ counting.waiting in
    let total = rw (left, first) at counting.total in
    let step = freed_rotated policy (asked - (met + 1)) x others (sym says) (omega (arith, length-append (drop (met + 1) items) counting.waiting, counting.number)) in
    record {
      waiting = counting.waiting ++ unmarked_object x ∷ [];
      number = length-append counting.waiting (unmarked_object x ∷ []) ∙ ap (λ (n : ℕ). n + 1) counting.number;
      removed = each_push policy counting.waiting (unmarked_object x) counting.removed (rotated_then_removed policy x (sym says));
      total = rw (← append_assoc (drop (met + 1) items) counting.waiting (unmarked_object x ∷ [])) (omega (arith, total, step));
    }

-- a rotated object that is the last adds nothing
pub counting_rotated_last : (policy : Policy) (asked met : ℕ) (items : List Object) (freed : ℕ) (x : Object) → met < asked → drop met items ≡ x ∷ drop (met + 1) items
    → Rotate ≡ case_of policy x → drop (met + 1) items ≡ [] → IsCounting policy asked met items freed 0 → IsCounting policy asked (met + 1) items freed 0
counting_rotated_last policy asked met items freed x within first says none counting =
    let left : asked - met ≡ suc (asked - (met + 1)) = omega arith in
    let empty = nil_from_length counting.waiting counting.number in
    let total = rw (left, first, none, empty) at counting.total in
    let step = ap (λ (s : Scanned). length s.freed) (scan_rotated_last policy (asked - (met + 1)) [] x (sym says)) in
    let nothing = ap (λ (s : Scanned). length s.freed) (scan_none policy (asked - (met + 1)) []) in
    record { waiting = []; number = refl; removed = tt; total = rw none (omega (arith, total, step, nothing)) }

-- an object that stops ends the count
pub counting_stopped : (policy : Policy) (asked met : ℕ) (items : List Object) (freed rotated : ℕ) (x : Object) → met < asked → drop met items ≡ x ∷ drop (met + 1) items
    → Stop ≡ case_of policy x → IsCounting policy asked met items freed rotated → freed ≡ freed_count policy asked items
counting_stopped policy asked met items freed rotated x within first says counting =
    let left : asked - met ≡ suc (asked - (met + 1)) = omega arith in
    let others = drop (met + 1) items ++ counting.waiting in
    let total = rw (left, first) at counting.total in
    let step = ap (λ (s : Scanned). length s.freed) (scan_stopped policy (asked - (met + 1)) [] x others (sym says)) in
    omega (arith, total, step)

-- once every object was met as it stands, those that wait are freed as far as the budget goes
ends_at : (policy : Policy) (left : ℕ) (others waiting : List Object) → AllByRecursion (λ (o : Object). case_of policy o ≡ Removed) waiting
    → (0 < left → others ≡ []) → freed_count policy left (others ++ waiting) ≡ min left (length waiting)
ends_at policy zero others waiting removed none = ap (λ (s : Scanned). length s.freed) (scan_spent policy [] (others ++ waiting)) ∙ omega arith
ends_at policy (suc n) others waiting removed none = let empty = none (omega arith) in rw empty (freed_each policy (suc n) waiting removed)

-- what is left of the budget goes to the rotated ones
pub counting_ends : (policy : Policy) (asked met : ℕ) (items : List Object) (freed rotated : ℕ) → met ≡ min asked (length items)
    → IsCounting policy asked met items freed rotated → freed + min (asked - met) rotated ≡ freed_count policy asked items
counting_ends policy asked met items freed rotated all counting =
    let gone = ends_at policy (asked - met) (drop met items) counting.waiting counting.removed (λ some. drop_all met items (omega arith)) in
    omega (arith, counting.total, gone, counting.number)

-- what stands from an index on
pub drop_first : (items : List Object) (met : ℕ) (x : Object) → met < length items → x ≡ get_or items met x → drop met items ≡ x ∷ drop (met + 1) items
drop_first items met x within here = rw add-one (drop-cons items met x within ∙ ap (λ (y : Object). y ∷ drop (suc met) items) (sym here))
