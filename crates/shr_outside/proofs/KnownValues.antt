-- SPDX-License-Identifier: GPL-2.0-only
-- What a sink has of a text, at values worked out by hand.
use Rattle.std.proofs.Common.{◌≡◌, [], ◌∷◌, ◌++◌, true, false, Some, refl, sym, ap, ◌∙◌, arith}
use Rattle.shr_outside.specs.Paper.{Task, HasAllBut}

-- the text is 1 2 3, and the sink told 9 before
abbrev one_two_three : Task
one_two_three = record { written = Some (9 ∷ []); faults = 4; text = 1 ∷ 2 ∷ 3 ∷ [] }

-- a sink that tells 9 1 has all but 2 3
has_a_front : HasAllBut one_two_three (2 ∷ 3 ∷ []) (Some (9 ∷ 1 ∷ [])) 4 false
has_a_front = (record { sent = 1 ∷ []; whole = refl; appended = refl }, omega arith)

-- but not all but 3
has_no_gap : HasAllBut one_two_three (3 ∷ []) (Some (9 ∷ 1 ∷ [])) 4 false → ⊥
has_no_gap h =
    let appended : 9 ∷ 1 ∷ [] ≡ 9 ∷ h.0.sent = h.0.appended in
    let sent : 1 ∷ [] ≡ h.0.sent = cc in
    let whole : 1 ∷ 2 ∷ 3 ∷ [] ≡ 1 ∷ 3 ∷ [] = h.0.whole ∙ ap (λ xs. xs ++ 3 ∷ []) (sym sent) in
    cc

-- a sink that failed has a front, whatever is left
failed_with_a_front : HasAllBut one_two_three [] (Some (9 ∷ 1 ∷ 2 ∷ [])) 5 true
failed_with_a_front = (((λ _. omega arith), record { count = 2; within = omega arith; appended = refl }), omega arith)

-- and its count of failures rose
failed_without_a_fault : HasAllBut one_two_three [] (Some (9 ∷ 1 ∷ 2 ∷ [])) 4 true → ⊥
failed_without_a_fault h = let rose = h.0.0 (λ e. cc) in omega (arith, rose)
