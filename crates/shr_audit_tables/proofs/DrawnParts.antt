-- SPDX-License-Identifier: GPL-2.0-only
-- The numbers of lookups of an id, among those of all workers.
use Rattle.shr_audit_tables.proofs.Common.{◌≡◌, ◌≢◌, ℕ, ◌+◌, ◌/◌, ◌%◌, ◌^◌, ◌<◌, ◌≤◌, ◌⊎◌, inl, inr, ⊎_elim, Bool, true, false, cond, List, [], ◌∷◌, ◌++◌, length, get_or, Option, Some, None, refl, sym, ap, subst, ◌∙◌, arith, ◌==◌, ◌&&◌, nat_lt, count_by, filter, filter_map, flat_map, slice_index, Decides, AllByRecursion, cons_option, cases_lt, nat_tests, Decides-like, get_or_past, flat_map-append, sum_by-cons, sum_by-append, slice_get-get_or, Answered, Attempt, WalkRecord, WorkerPart, number_of, Report, HasNumbers, IsPartNumbered, IsWalkNumbered, lookups_at, EachItem, AreDrawnOnce, IsDrawn, found_draws, answer_draws, tried_draws, attempt_draws, draw_key, part_draws, walk_draws, option_and_then, if◌then◌else◌, IsAnsweredNumbered, IsAttemptNumbered, IsFindNumbered, IsOutcomeNumbered}
use Rattle.shr_base.specs.declared.replies.Found.{Found}
use Rattle.shr_base.specs.declared.walks.Outcome.{Outcome}
use Rattle.shr_base.specs.declared.walks.Outcome.TheVariants as outcome
use Rattle.shr_laws.specs.Lookups.{found_number, found_numbers, tried_numbers}

-- a draw is of this id, with this number
of_draw : ℕ → ℕ → ℕ → Bool
of_draw id number k = ((k / 4294967296) == id) && ((k % 4294967296) == number)

-- how many of these draws are
draws_in : ℕ → ℕ → List ℕ → ℕ
draws_in id number ks = count_by (of_draw id number) ks

-- how many of these numbers are this one
abbrev numbers_in : ℕ → List ℕ → ℕ
numbers_in number ns = count_by (λ n. n == number) ns

draws_both : (id number : ℕ) (xs ys : List ℕ) → draws_in id number (xs ++ ys) ≡ draws_in id number xs + draws_in id number ys
unfolding draws_in
draws_both id number xs ys = sum_by-append (λ (k : ℕ). cond (of_draw id number k) 1 0) xs ys

numbers_both : (number : ℕ) (xs ys : List ℕ) → numbers_in number (xs ++ ys) ≡ numbers_in number xs + numbers_in number ys
numbers_both number xs ys = sum_by-append (λ (n : ℕ). cond (n == number) 1 0) xs ys

-- one draw
one_draw : (id number i n : ℕ) → n < 2 ^ 32 → draws_in id number (draw_key i n ∷ []) ≡ cond (i == id) (cond (n == number) 1 0) 0
unfolding draws_in of_draw
one_draw id number i n small =
    let row : draw_key i n / 4294967296 ≡ i = omega (arith, small) in
    let column : draw_key i n % 4294967296 ≡ n = omega (arith, small) in
    rw (row, column) (by_bool (i == id) (n == number))
  where
    by_bool : (a b : Bool) → 0 + cond (a && b) 1 0 ≡ cond a (cond b 1 0) 0
    by_bool true true = refl
    by_bool true false = refl
    by_bool false true = refl
    by_bool false false = refl

no_draw : (id number : ℕ) → draws_in id number [] ≡ 0
unfolding draws_in
no_draw id number = refl

one_number : (number n : ℕ) (rest : List ℕ) → numbers_in number (n ∷ rest) ≡ cond (n == number) 1 0 + numbers_in number rest
one_number number n rest = sum_by-cons (λ (n : ℕ). cond (n == number) 1 0) n rest

-- ---- answers

found_in : (id number : ℕ) (o : Option Found) → IsFindNumbered o → (rest : List ℕ) → draws_in id number (found_draws o) + numbers_in number rest ≡ numbers_in number (cons_option (option_and_then (λ (f : Found). if f.id == id then Some f.number else None) o) rest)
found_in id number None n rest = let z = no_draw id number in omega (arith, z)
found_in id number (Some f) n rest = let d = one_draw id number f.id f.number n.1 in rw d (by_id (f.id == id) (one_number number f.number rest))
  where
    by_id : (b : Bool) → numbers_in number (f.number ∷ rest) ≡ cond (f.number == number) 1 0 + numbers_in number rest → cond b (cond (f.number == number) 1 0) 0 + numbers_in number rest ≡ numbers_in number (cons_option (cond b (Some f.number) None) rest)
    by_id true e = sym e
    by_id false e = omega arith

answers_in : (id number : ℕ) (xs : List Answered) → AllByRecursion IsAnsweredNumbered xs → draws_in id number (flat_map answer_draws xs) ≡ numbers_in number (filter_map (found_number id) xs)
answers_in id number [] n = no_draw id number
answers_in id number (a ∷ xs) n =
    let both = draws_both id number (answer_draws a) (flat_map answer_draws xs) in
    let more = answers_in id number xs n.1 in
    let here = found_in id number a.found n.0.found (filter_map (found_number id) xs) in
    omega (arith, both, more, here)

-- ---- attempts

outcome_small : (o : Outcome) (n : ℕ) → IsOutcomeNumbered o → number_of o ≡ Some n → n < 2 ^ 32
outcome_small (outcome.Worn seen) n h e = absurd cc
outcome_small (outcome.Gone number what) n h e = let s : number ≡ n = cc in subst (λ (k : ℕ). k < 2 ^ 32) s h
outcome_small (outcome.Skip number len version) n h e = let s : number ≡ n = cc in subst (λ (k : ℕ). k < 2 ^ 32) s h.0
outcome_small (outcome.Ran number pass) n h e = let s : number ≡ n = cc in subst (λ (k : ℕ). k < 2 ^ 32) s h.0
outcome_small (outcome.Empty number version) n h e = let s : number ≡ n = cc in subst (λ (k : ℕ). k < 2 ^ 32) s h.0
outcome_small (outcome.Cleared number first second) n h e = let s : number ≡ n = cc in subst (λ (k : ℕ). k < 2 ^ 32) s h.0
outcome_small (outcome.RestoredSkip number first len version) n h e = let s : number ≡ n = cc in subst (λ (k : ℕ). k < 2 ^ 32) s h.0
outcome_small (outcome.RestoredRan number first pass) n h e = let s : number ≡ n = cc in subst (λ (k : ℕ). k < 2 ^ 32) s h.0

tried_in : (id number i : ℕ) (o : Option ℕ) → ((n : ℕ) → o ≡ Some n → n < 2 ^ 32) → (rest : List ℕ) → draws_in id number (tried_draws i o) + numbers_in number rest ≡ cond (i == id) (numbers_in number (cons_option o rest)) (numbers_in number rest)
tried_in id number i None small rest = let z = no_draw id number in by_id (i == id) z
  where
    by_id : (b : Bool) → draws_in id number [] ≡ 0 → draws_in id number [] + numbers_in number rest ≡ cond b (numbers_in number rest) (numbers_in number rest)
    by_id true z = omega (arith, z)
    by_id false z = omega (arith, z)
tried_in id number i (Some n) small rest = let d = one_draw id number i n (small n refl) in rw d (by_id (i == id) (one_number number n rest))
  where
    by_id : (b : Bool) → numbers_in number (n ∷ rest) ≡ cond (n == number) 1 0 + numbers_in number rest → cond b (cond (n == number) 1 0) 0 + numbers_in number rest ≡ cond b (numbers_in number (n ∷ rest)) (numbers_in number rest)
    by_id true e = sym e
    by_id false e = omega arith

numbers_of : ℕ → List Attempt → List ℕ
numbers_of id xs = filter_map (λ (a : Attempt). number_of a.outcome) (filter (λ (a : Attempt). a.id == id) xs)

numbers_more : (id number : ℕ) (a : Attempt) (xs : List Attempt) → numbers_in number (numbers_of id (a ∷ xs)) ≡ cond (a.id == id) (numbers_in number (cons_option (number_of a.outcome) (numbers_of id xs))) (numbers_in number (numbers_of id xs))
unfolding numbers_of
numbers_more id number a xs = by_id (a.id == id)
  where
    by_id : (b : Bool) → numbers_in number (filter_map (λ (a : Attempt). number_of a.outcome) (cond b (a ∷ filter (λ (a : Attempt). a.id == id) xs) (filter (λ (a : Attempt). a.id == id) xs))) ≡ cond b (numbers_in number (cons_option (number_of a.outcome) (filter_map (λ (a : Attempt). number_of a.outcome) (filter (λ (a : Attempt). a.id == id) xs)))) (numbers_in number (filter_map (λ (a : Attempt). number_of a.outcome) (filter (λ (a : Attempt). a.id == id) xs)))
    by_id true = refl
    by_id false = refl

attempts_in : (id number : ℕ) (xs : List Attempt) → AllByRecursion IsAttemptNumbered xs → draws_in id number (flat_map attempt_draws xs) ≡ numbers_in number (numbers_of id xs)
unfolding numbers_of
attempts_in id number [] n = no_draw id number
attempts_in id number (a ∷ xs) n =
    let both = draws_both id number (attempt_draws a) (flat_map attempt_draws xs) in
    let more = attempts_in id number xs n.1 in
    let here = tried_in id number a.id (number_of a.outcome) (λ m e. outcome_small a.outcome m n.0.outcome e) (numbers_of id xs) in
    let step = numbers_more id number a xs in
    both ∙ ap (λ (m : ℕ). draws_in id number (attempt_draws a) + m) more ∙ here ∙ sym step

walks_in : (id number : ℕ) (ws : List WalkRecord) → AllByRecursion IsWalkNumbered ws → draws_in id number (flat_map walk_draws ws) ≡ numbers_in number (flat_map (λ (w : WalkRecord). numbers_of id w.attempts.items) ws)
walks_in id number [] n = no_draw id number
walks_in id number (w ∷ ws) n =
    let both = draws_both id number (walk_draws w) (flat_map walk_draws ws) in
    let here = attempts_in id number w.attempts.items n.0.attempts in
    let more = walks_in id number ws n.1 in
    let other = numbers_both number (numbers_of id w.attempts.items) (flat_map (λ (w : WalkRecord). numbers_of id w.attempts.items) ws) in
    omega (arith, both, here, more, other)

-- ---- workers

found_of : ℕ → List WorkerPart → List ℕ
found_of id parts = flat_map (λ (part : WorkerPart). filter_map (found_number id) part.answers.items) parts

tried_of : ℕ → List WalkRecord → List ℕ
tried_of id ws = flat_map (λ (w : WalkRecord). numbers_of id w.attempts.items) ws

walks_of : List WorkerPart → List WalkRecord
walks_of parts = flat_map (λ (part : WorkerPart). part.walks.items) parts

parts_in : (id number : ℕ) (parts : List WorkerPart) → AllByRecursion IsPartNumbered parts → draws_in id number (flat_map part_draws parts) ≡ numbers_in number (found_of id parts) + numbers_in number (tried_of id (walks_of parts))
unfolding found_of tried_of walks_of
parts_in id number [] n = no_draw id number
parts_in id number (part ∷ parts) n =
    let both = draws_both id number (part_draws part) (flat_map part_draws parts) in
    let two = draws_both id number (flat_map answer_draws part.answers.items) (flat_map walk_draws part.walks.items) in
    let answers = answers_in id number part.answers.items n.0.answers in
    let walks = walks_in id number part.walks.items n.0.walks in
    let more = parts_in id number parts n.1 in
    let found = numbers_both number (filter_map (found_number id) part.answers.items) (found_of id parts) in
    let tried = ap (numbers_in number) (flat_map-append (λ (w : WalkRecord). numbers_of id w.attempts.items) part.walks.items (walks_of parts)) ∙ numbers_both number (tried_of id part.walks.items) (tried_of id (walks_of parts)) in
    omega (arith, both, two, answers, walks, more, found, tried)

draws_of : (id number : ℕ) (r : Report) → HasNumbers r → draws_in id number (flat_map part_draws r.workers.items) ≡ count_by (λ n. n == number) (found_numbers r id ++ tried_numbers r id)
unfolding found_of tried_of walks_of numbers_of
draws_of id number r n = parts_in id number r.workers.items n.workers ∙ sym (numbers_both number (found_numbers r id) (tried_numbers r id))

-- ---- draws by their numbers

by_key : (id number : ℕ) (ks : List ℕ) → number < 2 ^ 32 → draws_in id number ks ≡ count_by (λ k. k == draw_key id number) ks
unfolding draws_in of_draw
by_key id number [] small = refl
by_key id number (k ∷ ks) small =
    let a = sum_by-cons (λ (k : ℕ). cond (of_draw id number k) 1 0) k ks in
    let b = sum_by-cons (λ (k : ℕ). cond (k == draw_key id number) 1 0) k ks in
    let more = by_key id number ks small in
    a ∙ ap (λ (b : Bool). cond b 1 0 + draws_in id number ks) (same k) ∙ ap (λ (m : ℕ). cond (k == draw_key id number) 1 0 + m) more ∙ sym b
  where
    same : (k : ℕ) → of_draw id number k ≡ (k == draw_key id number)
    same k = by_test (k == draw_key id number) refl
      where
        by_test : (b : Bool) → (k == draw_key id number) ≡ b → (((k / 4294967296) == id) && ((k % 4294967296) == number)) ≡ (k == draw_key id number)
        by_test true e =
            let is : k ≡ draw_key id number = grind (arith, nat_tests) in
            let row : k / 4294967296 ≡ id = omega (arith, is, small) in let column : k % 4294967296 ≡ number = omega (arith, is, small) in
            let t : ((k / 4294967296) == id) ≡ true = grind (arith, nat_tests) in let u : ((k % 4294967296) == number) ≡ true = grind (arith, nat_tests) in rw (t, u, e) refl
        by_test false e = by_row ((k / 4294967296) == id) ((k % 4294967296) == number) refl refl
          where
            by_row : (a b : Bool) → ((k / 4294967296) == id) ≡ a → ((k % 4294967296) == number) ≡ b → (((k / 4294967296) == id) && ((k % 4294967296) == number)) ≡ (k == draw_key id number)
            by_row true true r c =
                let row : k / 4294967296 ≡ id = grind (arith, nat_tests) in let column : k % 4294967296 ≡ number = grind (arith, nat_tests) in
                let is : k ≡ draw_key id number = omega (arith, row, column) in
                let t : (k == draw_key id number) ≡ true = grind (arith, nat_tests) in absurd cc
            by_row true false r c = rw (r, c, e) refl
            by_row false b r c = rw (r, e) refl

none_above : (id number : ℕ) (ks : List ℕ) → 2 ^ 32 ≤ number → draws_in id number ks ≡ 0
unfolding draws_in of_draw
none_above id number [] high = refl
none_above id number (k ∷ ks) high =
    let a = sum_by-cons (λ (k : ℕ). cond (of_draw id number k) 1 0) k ks in
    let none : of_draw id number k ≡ false = not_of k in
    a ∙ rw none (let more = none_above id number ks high in omega (arith, more))
  where
    not_of : (k : ℕ) → of_draw id number k ≡ false
    not_of k = by_row ((k / 4294967296) == id)
      where
        column : ((k % 4294967296) == number) ≡ false
        column = let ne : k % 4294967296 ≢ number = λ e. absurd (omega (arith, e, high)) in grind (arith, nat_tests, ne)

        by_row : (b : Bool) → (b && ((k % 4294967296) == number)) ≡ false
        by_row true = column
        by_row false = refl

low_lookups : (ls : List ℕ) (id : ℕ) → EachItem (λ (l : ℕ). l < 2 ^ 32) ls → slice_index ls id < 2 ^ 32
low_lookups ls id low = ⊎_elim (λ lt. let h = low id (get_or ls id 0) (slice_get-get_or ls id 0 lt) in omega (arith, h)) (λ ge. let h = get_or_past ls id 0 ge in omega (arith, h)) (cases_lt id (length ls))

-- what is decided of the draws is so of the report
pub drawn_of : (r : Report) (keys lookups : List ℕ) (b : Bool) → HasNumbers r → EachItem (λ (l : ℕ). l < 2 ^ 32) lookups → keys ≡ flat_map part_draws r.workers.items → lookups ≡ r.lookups.items → Decides b (AreDrawnOnce keys lookups) → Decides b (IsDrawn r)
drawn_of r keys lookups b numbers low keys_are lookups_are d = Decides-like b to from d
  where
    low' : EachItem (λ (l : ℕ). l < 2 ^ 32) r.lookups.items
    low' = subst (λ (ls : List ℕ). EachItem (λ (l : ℕ). l < 2 ^ 32) ls) lookups_are low

    to : AreDrawnOnce keys lookups → IsDrawn r
    to law id number = by_size (cases_lt number (2 ^ 32))
      where
        by_size : (number < 2 ^ 32) ⊎ (2 ^ 32 ≤ number) → count_by (λ n. n == number) (found_numbers r id ++ tried_numbers r id) ≡ cond (nat_lt number (lookups_at r id)) 1 0
        by_size (inl small) =
            let e = law id number small in
            let f : count_by (λ k. k == draw_key id number) (flat_map part_draws r.workers.items) ≡ cond (nat_lt number (slice_index r.lookups.items id)) 1 0 = rw (keys_are, lookups_are) at e in
            sym (draws_of id number r numbers) ∙ by_key id number (flat_map part_draws r.workers.items) small ∙ f
        by_size (inr high) =
            let l = low_lookups r.lookups.items id low' in
            let t : nat_lt number (slice_index r.lookups.items id) ≡ false = grind (arith, nat_tests) in
            sym (draws_of id number r numbers) ∙ none_above id number (flat_map part_draws r.workers.items) high ∙ sym (rw t refl)

    from : IsDrawn r → AreDrawnOnce keys lookups
    from law id number small = rw (keys_are, lookups_are) (sym (by_key id number (flat_map part_draws r.workers.items) small) ∙ draws_of id number r numbers ∙ law id number)
