-- SPDX-License-Identifier: GPL-2.0-only
-- A scan, one visit after another.
use Rattle.shr_model.proofs.Common.{◌≡◌, cond, ℕ, zero, suc, ◌+◌, ◌≤◌, Bool, true, false, List, [], ◌∷◌, ◌++◌, length, refl, sym, ap, ◌∙◌, arith, append_assoc, length-append, min, IsPermutation, AllByRecursion, append-nil, map-append, IsPermutation-refl, IsPermutation-sym, IsPermutation-trans, IsPermutation-cons, IsPermutation-middle, IsPermutation-to_front, IsPermutation-append_right, length_permutation, Object, Policy, Plain, Clock, Halt, unmarked_object, LruStatus, Removed, Rotate, Skip, Scanned, case_of, scan_ends, after_visit, after_freeing, scan_of, serials_of, length-map}
use Rattle.shr_base.specs.declared.objects.LruStatus.TheVariants.{Stop}
use Rattle.shr_model.specs.Scan.{scan_from}

-- a scan without a budget
pub scan_spent : (policy : Policy) (skipped items : List Object) → scan_from policy 0 skipped items ≡ scan_ends (skipped ++ items)
unfolding scan_from
scan_spent policy skipped items = refl

-- a scan without an item
pub scan_none : (policy : Policy) (n : ℕ) (skipped : List Object) → scan_from policy n skipped [] ≡ scan_ends skipped
unfolding scan_from
scan_none policy zero skipped = ap scan_ends (append-nil skipped)
scan_none policy (suc n) skipped = refl

-- a scan frees an object that its policy removes, and goes on with the next
pub scan_removed : (policy : Policy) (n : ℕ) (skipped : List Object) (x : Object) (xs : List Object) → case_of policy x ≡ Removed
    → scan_from policy (suc n) skipped (x ∷ xs) ≡ after_freeing x (scan_from policy n skipped xs)
unfolding scan_from
scan_removed policy n skipped x [] says = rw (says, scan_from) (ap (after_freeing x) (sym (scan_none policy n skipped)))
scan_removed policy n skipped x (y ∷ ys) says = rw (says, scan_from) refl

-- a scan leaves an object that its policy skips where it stands
pub scan_skipped : (policy : Policy) (n : ℕ) (skipped : List Object) (x : Object) (xs : List Object) → case_of policy x ≡ Skip
    → scan_from policy (suc n) skipped (x ∷ xs) ≡ after_visit (scan_from policy n (skipped ++ x ∷ []) xs)
unfolding scan_from
scan_skipped policy n skipped x [] says = rw (says, scan_from) (ap after_visit (sym (scan_none policy n (skipped ++ x ∷ []))))
scan_skipped policy n skipped x (y ∷ ys) says = rw (says, scan_from) refl

-- a scan puts an object that its policy rotates at the tail, unmarked
pub scan_rotated : (policy : Policy) (n : ℕ) (skipped : List Object) (x y : Object) (ys : List Object) → case_of policy x ≡ Rotate
    → scan_from policy (suc n) skipped (x ∷ y ∷ ys) ≡ after_visit (scan_from policy n skipped (y ∷ ys ++ unmarked_object x ∷ []))
unfolding scan_from
scan_rotated policy n skipped x y ys says = rw (says, scan_from) refl

-- a rotated object that is the last ends the scan
pub scan_rotated_last : (policy : Policy) (n : ℕ) (skipped : List Object) (x : Object) → case_of policy x ≡ Rotate
    → scan_from policy (suc n) skipped (x ∷ []) ≡ after_visit (scan_ends (skipped ++ unmarked_object x ∷ []))
unfolding scan_from
scan_rotated_last policy n skipped x says = rw (says, scan_from) refl

-- a scan ends at an object at which its policy stops, and leaves it and the rest
pub scan_stopped : (policy : Policy) (n : ℕ) (skipped : List Object) (x : Object) (xs : List Object) → case_of policy x ≡ Stop
    → scan_from policy (suc n) skipped (x ∷ xs) ≡ record { items = skipped ++ x ∷ xs; freed = []; visits = 1; stopped = true }
unfolding scan_from
scan_stopped policy n skipped x [] says = rw (says, scan_from) refl
scan_stopped policy n skipped x (y ∷ ys) says = rw (says, scan_from) refl

-- a scan that had freed these objects and met so many before
abbrev pub resumed : List Object → ℕ → Scanned → Scanned
resumed freed met scan = record { items = scan.items; freed = freed ++ scan.freed; visits = met + scan.visits; stopped = scan.stopped }

-- a scan, by its four parts
abbrev pub scanned : List Object → List Object → ℕ → Bool → Scanned
scanned items freed visits stopped = record { items = items; freed = freed; visits = visits; stopped = stopped }

-- a scan that ends here has freed and met what was noted before
pub resumed_ends : (freed : List Object) (met : ℕ) (items : List Object) → resumed freed met (scan_ends items) ≡ scanned items freed met false
resumed_ends freed met items =
    ap (λ (f : List Object). scanned items f (met + 0) false) (append-nil freed) ∙ ap (λ (v : ℕ). scanned items freed v false) (omega arith)

-- an object that is freed is noted, and the scan goes on
pub resumed_freeing : (freed : List Object) (met : ℕ) (x : Object) (scan : Scanned) → resumed freed met (after_freeing x scan) ≡ resumed (freed ++ x ∷ []) (met + 1) scan
resumed_freeing freed met x scan =
    ap (λ (f : List Object). scanned scan.items f (met + (scan.visits + 1)) scan.stopped) (sym (append_assoc freed (x ∷ []) scan.freed))
    ∙ ap (λ (v : ℕ). scanned scan.items ((freed ++ x ∷ []) ++ scan.freed) v scan.stopped) (omega arith)

-- an object that is only met is counted, and the scan goes on
pub resumed_visit : (freed : List Object) (met : ℕ) (scan : Scanned) → resumed freed met (after_visit scan) ≡ resumed freed (met + 1) scan
resumed_visit freed met scan = ap (λ (v : ℕ). scanned scan.items (freed ++ scan.freed) v scan.stopped) (omega arith)

-- the serials of two lists, one after the other
serials_append : (xs ys : List Object) → serials_of (xs ++ ys) ≡ serials_of xs ++ serials_of ys
serials_append xs ys = map-append (λ (o : Object). o.serial) xs ys

-- the objects before a scan are those that it frees and those that it leaves
abbrev Parts : List Object → List Object → Scanned → Type 0
Parts skipped items scan = IsPermutation (serials_of (skipped ++ items)) (serials_of scan.freed ++ serials_of scan.items)

Parts_freeing : (skipped : List Object) (x : Object) (xs : List Object) (scan : Scanned) → Parts skipped xs scan → Parts skipped (x ∷ xs) (after_freeing x scan)
Parts_freeing skipped x xs scan parts =
    let front = serials_of skipped in
    let back = serials_of xs in
    let here : IsPermutation (front ++ x.serial ∷ back) (x.serial ∷ (front ++ back)) = IsPermutation-middle front x.serial back in
    let later : IsPermutation (front ++ back) (serials_of scan.freed ++ serials_of scan.items) = rw serials_append at parts in
    rw serials_append (IsPermutation-trans _ _ _ here (IsPermutation-cons x.serial _ _ later))

Parts_skipping : (skipped : List Object) (x : Object) (xs : List Object) (scan : Scanned) → Parts (skipped ++ x ∷ []) xs scan → Parts skipped (x ∷ xs) (after_visit scan)
Parts_skipping skipped x xs scan parts = rw (append_assoc skipped (x ∷ []) xs) at parts

Parts_rotating : (skipped : List Object) (x : Object) (xs : List Object) (scan : Scanned) → Parts skipped (xs ++ unmarked_object x ∷ []) scan
    → Parts skipped (x ∷ xs) (after_visit scan)
Parts_rotating skipped x xs scan parts =
    let front = serials_of skipped in
    let back = serials_of xs in
    let turned : IsPermutation (x.serial ∷ back) (back ++ x.serial ∷ []) = IsPermutation-sym _ _ (IsPermutation-to_front back x.serial) in
    let moved : IsPermutation (front ++ x.serial ∷ back) (front ++ (back ++ x.serial ∷ [])) = IsPermutation-append_right front _ _ turned in
    let later : IsPermutation (front ++ (back ++ x.serial ∷ [])) (serials_of scan.freed ++ serials_of scan.items) =
    rw (serials_append skipped (xs ++ unmarked_object x ∷ []), serials_append xs (unmarked_object x ∷ [])) at parts in
    rw serials_append (IsPermutation-trans _ _ _ moved later)

Parts_next : (policy : Policy) (n : ℕ) (skipped : List Object) (x : Object) (xs : List Object) (c : LruStatus) → case_of policy x ≡ c
    → ((before after : List Object) → Parts before after (scan_from policy n before after)) → Parts skipped (x ∷ xs) (scan_from policy (suc n) skipped (x ∷ xs))
Parts_next policy n skipped x xs Removed says later = rw (scan_removed policy n skipped x xs says) (Parts_freeing skipped x xs (scan_from policy n skipped xs) (later skipped xs))
Parts_next policy n skipped x xs Skip says later = rw (scan_skipped policy n skipped x xs says) (Parts_skipping skipped x xs (scan_from policy n (skipped ++ x ∷ []) xs) (later (skipped ++ x ∷ []) xs))
Parts_next policy n skipped x [] Rotate says later = rw (scan_rotated_last policy n skipped x says, serials_append skipped (x ∷ []), serials_append skipped (unmarked_object x ∷ [])) (IsPermutation-refl _)
Parts_next policy n skipped x (y ∷ ys) Rotate says later = rw (scan_rotated policy n skipped x y ys says) (Parts_rotating skipped x (y ∷ ys) (scan_from policy n skipped (y ∷ ys ++ unmarked_object x ∷ [])) (later skipped (y ∷ ys ++ unmarked_object x ∷ [])))
Parts_next policy n skipped x xs Stop says later = rw (scan_stopped policy n skipped x xs says) (IsPermutation-refl _)

-- a scan parts the objects: each was freed once or is left once
pub scan_parts : (policy : Policy) (n : ℕ) (skipped items : List Object)
    → IsPermutation (serials_of (skipped ++ items)) (serials_of (scan_from policy n skipped items).freed ++ serials_of (scan_from policy n skipped items).items)
scan_parts policy zero skipped items = rw (scan_spent policy skipped items) (IsPermutation-refl _)
scan_parts policy (suc n) skipped [] = rw (scan_none policy (suc n) skipped, append-nil skipped) (IsPermutation-refl _)
scan_parts policy (suc n) skipped (x ∷ xs) = Parts_next policy n skipped x xs (case_of policy x) refl (scan_parts policy n)

-- so their numbers add up
pub length_scan : (policy : Policy) (n : ℕ) (items : List Object) → length (scan_of policy n items).freed + length (scan_of policy n items).items ≡ length items
length_scan policy n items =
    let scan = scan_of policy n items in
    let same = length_permutation _ _ (scan_parts policy n [] items) in
    omega (
      arith,
      same,
      length-append (serials_of scan.freed) (serials_of scan.items),
      length-map scan.freed (λ (o : Object). o.serial),
      length-map scan.items (λ (o : Object). o.serial),
      length-map items (λ (o : Object). o.serial),
    )

Within_next : (policy : Policy) (n : ℕ) (skipped : List Object) (x : Object) (xs : List Object) (c : LruStatus) → case_of policy x ≡ c
    → ((before after : List Object) → (scan_from policy n before after).visits ≤ n) → (scan_from policy (suc n) skipped (x ∷ xs)).visits ≤ suc n
Within_next policy n skipped x xs Removed says later = rw (scan_removed policy n skipped x xs says) (omega (arith, later skipped xs))
Within_next policy n skipped x xs Skip says later = rw (scan_skipped policy n skipped x xs says) (omega (arith, later (skipped ++ x ∷ []) xs))
Within_next policy n skipped x [] Rotate says later = rw (scan_rotated_last policy n skipped x says) (omega arith)
Within_next policy n skipped x (y ∷ ys) Rotate says later = rw (scan_rotated policy n skipped x y ys says) (omega (arith, later skipped (y ∷ ys ++ unmarked_object x ∷ [])))
Within_next policy n skipped x xs Stop says later = rw (scan_stopped policy n skipped x xs says) (omega arith)

-- a scan makes no more visits than it was asked for
pub visits_within : (policy : Policy) (n : ℕ) (skipped items : List Object) → (scan_from policy n skipped items).visits ≤ n
visits_within policy zero skipped items = rw (scan_spent policy skipped items) (omega arith)
visits_within policy (suc n) skipped [] = rw (scan_none policy (suc n) skipped) (omega arith)
visits_within policy (suc n) skipped (x ∷ xs) = Within_next policy n skipped x xs (case_of policy x) refl (visits_within policy n)

freed_next : (policy : Policy) (n : ℕ) (skipped : List Object) (x : Object) (xs : List Object) (c : LruStatus) → case_of policy x ≡ c
    → ((before after : List Object) → (scan_from policy n before after).freed ≡ (scan_from policy n [] after).freed)
    → (scan_from policy (suc n) skipped (x ∷ xs)).freed ≡ (scan_from policy (suc n) [] (x ∷ xs)).freed
freed_next policy n skipped x xs Removed says alike =
    rw (scan_removed policy n skipped x xs says, scan_removed policy n [] x xs says) (ap (λ (f : List Object). x ∷ f) (alike skipped xs))
freed_next policy n skipped x xs Skip says alike =
    rw (scan_skipped policy n skipped x xs says, scan_skipped policy n [] x xs says) (alike (skipped ++ x ∷ []) xs ∙ sym (alike (x ∷ []) xs))
freed_next policy n skipped x [] Rotate says alike = rw (scan_rotated_last policy n skipped x says, scan_rotated_last policy n [] x says) refl
freed_next policy n skipped x (y ∷ ys) Rotate says alike =
    rw (scan_rotated policy n skipped x y ys says, scan_rotated policy n [] x y ys says) (alike skipped (y ∷ ys ++ unmarked_object x ∷ []))
freed_next policy n skipped x xs Stop says alike = rw (scan_stopped policy n skipped x xs says, scan_stopped policy n [] x xs says) refl

-- what a scan frees does not depend on what it skipped before
pub freed_alike : (policy : Policy) (n : ℕ) (skipped items : List Object) → (scan_from policy n skipped items).freed ≡ (scan_from policy n [] items).freed
freed_alike policy zero skipped items = rw (scan_spent policy skipped items, scan_spent policy [] items) refl
freed_alike policy (suc n) skipped [] = rw (scan_none policy (suc n) skipped, scan_none policy (suc n) []) refl
freed_alike policy (suc n) skipped (x ∷ xs) = freed_next policy n skipped x xs (case_of policy x) refl (freed_alike policy n)

-- where each object is removed, as many are freed as the budget says
pub freed_each : (policy : Policy) (n : ℕ) (items : List Object) → AllByRecursion (λ (o : Object). case_of policy o ≡ Removed) items
    → length (scan_from policy n [] items).freed ≡ min n (length items)
freed_each policy zero items each = rw (scan_spent policy [] items) (omega arith)
freed_each policy (suc n) [] each = rw (scan_none policy (suc n) []) (omega arith)
freed_each policy (suc n) (x ∷ xs) each = rw (scan_removed policy n [] x xs each.0) (omega (arith, freed_each policy n xs each.1))

-- a rotated object is removed where it is met again
pub rotated_then_removed : (policy : Policy) (x : Object) → case_of policy x ≡ Rotate → case_of policy (unmarked_object x) ≡ Removed
rotated_then_removed Plain x says = absurd (cc)
rotated_then_removed Clock x says =
    elim x.pinned as (λ b. cond b Skip (cond x.marked Rotate Removed) ≡ Rotate → cond b Skip Removed ≡ Removed) [ true ↦ λ h. absurd (cc) | false ↦ λ _. refl ] says
rotated_then_removed Halt x says =
    elim x.pinned as (λ b. cond b Stop Removed ≡ Rotate → cond b Stop Removed ≡ Removed) [ true ↦ λ h. absurd (cc) | false ↦ λ _. refl ] says

-- a scan frees at most what it met, as it meets each object that it frees
Freed_next : (policy : Policy) (n : ℕ) (skipped : List Object) (x : Object) (xs : List Object) (c : LruStatus) → case_of policy x ≡ c
    → ((before after : List Object) → length (scan_from policy n before after).freed ≤ (scan_from policy n before after).visits)
    → length (scan_from policy (suc n) skipped (x ∷ xs)).freed ≤ (scan_from policy (suc n) skipped (x ∷ xs)).visits
Freed_next policy n skipped x xs Removed says later = rw (scan_removed policy n skipped x xs says) (omega (arith, later skipped xs))
Freed_next policy n skipped x xs Skip says later = rw (scan_skipped policy n skipped x xs says) (omega (arith, later (skipped ++ x ∷ []) xs))
Freed_next policy n skipped x [] Rotate says later = rw (scan_rotated_last policy n skipped x says) (omega arith)
Freed_next policy n skipped x (y ∷ ys) Rotate says later = rw (scan_rotated policy n skipped x y ys says) (omega (arith, later skipped (y ∷ ys ++ unmarked_object x ∷ [])))
Freed_next policy n skipped x xs Stop says later = rw (scan_stopped policy n skipped x xs says) (omega arith)

freed_met : (policy : Policy) (n : ℕ) (skipped items : List Object) → length (scan_from policy n skipped items).freed ≤ (scan_from policy n skipped items).visits
freed_met policy zero skipped items = rw (scan_spent policy skipped items) (omega arith)
freed_met policy (suc n) skipped [] = rw (scan_none policy (suc n) skipped) (omega arith)
freed_met policy (suc n) skipped (x ∷ xs) = Freed_next policy n skipped x xs (case_of policy x) refl (freed_met policy n)

-- a scan frees at most what it was asked for, and at most what is there
pub freed_asked : (policy : Policy) (asked : ℕ) (items : List Object) → length (scan_of policy asked items).freed ≤ asked
freed_asked policy asked items = omega (arith, freed_met policy asked [] items, visits_within policy asked [] items)

-- a scan frees no more objects than there are
pub freed_there : (policy : Policy) (asked : ℕ) (items : List Object) → length (scan_of policy asked items).freed ≤ length items
freed_there policy asked items = omega (arith, length_scan policy asked items)
