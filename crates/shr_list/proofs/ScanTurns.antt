-- SPDX-License-Identifier: GPL-2.0-only
-- A turn of the loop that scans: what it did so far, resumed, is the whole scan.
use Rattle.shr_list.proofs.Common.{◌≡◌, ℕ, suc, ◌+◌, ◌-◌, ◌<◌, true, false, List, [], ◌∷◌, ◌++◌, length, sym, ap, ◌∙◌, arith, append-nil, Object, Policy, unmarked_object, Removed, Rotate, Skip, Stop, Scanned, case_of, scan_ends, scan_from, scan_spent, scan_none, scan_removed, scan_skipped, scan_rotated, scan_rotated_last, scan_stopped, resumed, scanned, resumed_ends, resumed_freeing, resumed_visit}

-- one turn of the scan over an object that is removed
pub turn_removed : (policy : Policy) (asked met : ℕ) (skipped ring rest freed : List Object) (x : Object) (whole : Scanned) → met < asked → ring ≡ x ∷ rest
    → Removed ≡ case_of policy x → resumed freed met (scan_from policy (asked - met) skipped ring) ≡ whole
    → resumed (freed ++ x ∷ []) (met + 1) (scan_from policy (asked - (met + 1)) skipped rest) ≡ whole
turn_removed policy asked met skipped ring rest freed x whole within first says so_far =
    let left : asked - met ≡ suc (asked - (met + 1)) = omega arith in
    sym (resumed_freeing freed met x (scan_from policy (asked - (met + 1)) skipped rest))
    ∙ ap (resumed freed met) (sym (scan_removed policy (asked - (met + 1)) skipped x rest (sym says)))
    ∙ rw (left, first) at so_far

-- the same for one that is skipped
pub turn_skipped : (policy : Policy) (asked met : ℕ) (skipped ring rest freed : List Object) (x : Object) (whole : Scanned) → met < asked → ring ≡ x ∷ rest
    → Skip ≡ case_of policy x → resumed freed met (scan_from policy (asked - met) skipped ring) ≡ whole
    → resumed freed (met + 1) (scan_from policy (asked - (met + 1)) (skipped ++ x ∷ []) rest) ≡ whole
turn_skipped policy asked met skipped ring rest freed x whole within first says so_far =
    let left : asked - met ≡ suc (asked - (met + 1)) = omega arith in
    sym (resumed_visit freed met (scan_from policy (asked - (met + 1)) (skipped ++ x ∷ []) rest))
    ∙ ap (resumed freed met) (sym (scan_skipped policy (asked - (met + 1)) skipped x rest (sym says)))
    ∙ rw (left, first) at so_far

-- the same for one that is rotated while others follow
pub turn_rotated : (policy : Policy) (asked met : ℕ) (skipped ring rest freed : List Object) (x : Object) (whole : Scanned) → met < asked → ring ≡ x ∷ rest
    → 0 < length rest → Rotate ≡ case_of policy x → resumed freed met (scan_from policy (asked - met) skipped ring) ≡ whole
    → resumed freed (met + 1) (scan_from policy (asked - (met + 1)) skipped (rest ++ unmarked_object x ∷ [])) ≡ whole
turn_rotated policy asked met skipped ring [] freed x whole within first some says so_far = absurd (omega (arith, some))
turn_rotated policy asked met skipped ring (y ∷ ys) freed x whole within first some says so_far =
    let left : asked - met ≡ suc (asked - (met + 1)) = omega arith in
    sym (resumed_visit freed met (scan_from policy (asked - (met + 1)) skipped (y ∷ ys ++ unmarked_object x ∷ [])))
    ∙ ap (resumed freed met) (sym (scan_rotated policy (asked - (met + 1)) skipped x y ys (sym says)))
    ∙ rw (left, first) at so_far

-- the same for one that is rotated as the last
pub turn_rotated_last : (policy : Policy) (asked met : ℕ) (skipped ring freed : List Object) (x : Object) (whole : Scanned) → met < asked → ring ≡ x ∷ []
    → Rotate ≡ case_of policy x → resumed freed met (scan_from policy (asked - met) skipped ring) ≡ whole
    → resumed freed (met + 1) (scan_from policy (asked - (met + 1)) (skipped ++ unmarked_object x ∷ []) []) ≡ whole
turn_rotated_last policy asked met skipped ring freed x whole within first says so_far =
    let left : asked - met ≡ suc (asked - (met + 1)) = omega arith in
    ap (resumed freed (met + 1)) (scan_none policy (asked - (met + 1)) (skipped ++ unmarked_object x ∷ []))
    ∙ sym (resumed_visit freed met (scan_ends (skipped ++ unmarked_object x ∷ [])))
    ∙ ap (resumed freed met) (sym (scan_rotated_last policy (asked - (met + 1)) skipped x (sym says)))
    ∙ rw (left, first) at so_far

-- a rotated last object ends the scan
pub ends_rotated : (policy : Policy) (asked met : ℕ) (skipped ring rest freed : List Object) (x : Object) (whole : Scanned) → met < asked → ring ≡ x ∷ rest
    → rest ≡ [] → Rotate ≡ case_of policy x → resumed freed met (scan_from policy (asked - met) skipped ring) ≡ whole
    → whole ≡ scanned ((skipped ++ unmarked_object x ∷ []) ++ rest) freed (met + 1) false
ends_rotated policy asked met skipped ring rest freed x whole within first none says so_far =
    let left : asked - met ≡ suc (asked - (met + 1)) = omega arith in
    sym (rw (left, first, none) at so_far)
    ∙ ap (resumed freed met) (scan_rotated_last policy (asked - (met + 1)) skipped x (sym says))
    ∙ resumed_visit freed met (scan_ends (skipped ++ unmarked_object x ∷ []))
    ∙ resumed_ends freed (met + 1) (skipped ++ unmarked_object x ∷ [])
    ∙ ap (λ (xs : List Object). scanned xs freed (met + 1) false) (rw none (sym (append-nil (skipped ++ unmarked_object x ∷ []))))

-- an object that stops ends the scan
pub ends_stopped : (policy : Policy) (asked met : ℕ) (skipped ring rest freed : List Object) (x : Object) (whole : Scanned) → met < asked → ring ≡ x ∷ rest
    → Stop ≡ case_of policy x → resumed freed met (scan_from policy (asked - met) skipped ring) ≡ whole
    → whole ≡ scanned (skipped ++ x ∷ rest) freed (met + 1) true
ends_stopped policy asked met skipped ring rest freed x whole within first says so_far =
    let left : asked - met ≡ suc (asked - (met + 1)) = omega arith in
    sym (rw (left, first) at so_far)
    ∙ ap (resumed freed met) (scan_stopped policy (asked - (met + 1)) skipped x rest (sym says))
    ∙ ap (λ (f : List Object). scanned (skipped ++ x ∷ rest) f (met + 1) true) (append-nil freed)

-- an empty rest ends the scan
pub ends_empty : (policy : Policy) (asked met : ℕ) (skipped ring rest freed : List Object) (whole : Scanned) → ring ≡ [] → rest ≡ []
    → resumed freed met (scan_from policy (asked - met) skipped ring) ≡ whole → whole ≡ scanned (skipped ++ rest) freed met false
ends_empty policy asked met skipped ring rest freed whole first none so_far =
    sym (rw first at so_far)
    ∙ ap (resumed freed met) (scan_none policy (asked - met) skipped)
    ∙ resumed_ends freed met skipped
    ∙ ap (λ (xs : List Object). scanned xs freed met false) (rw none (sym (append-nil skipped)))

-- a spent budget ends the scan
pub ends_spent : (policy : Policy) (asked met : ℕ) (skipped ring freed : List Object) (whole : Scanned) → asked ≡ met
    → resumed freed met (scan_from policy (asked - met) skipped ring) ≡ whole → whole ≡ scanned (skipped ++ ring) freed asked false
ends_spent policy asked met skipped ring freed whole spent so_far =
    let left : asked - met ≡ 0 = omega arith in
    sym (rw left at so_far)
    ∙ ap (resumed freed met) (scan_spent policy skipped ring)
    ∙ resumed_ends freed met (skipped ++ ring)
    ∙ ap (λ (v : ℕ). scanned (skipped ++ ring) freed v false) (sym spent)
