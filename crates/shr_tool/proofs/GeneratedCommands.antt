-- SPDX-License-Identifier: GPL-2.0-only
-- The commands of a generated script, and how many they are.
use Rattle.shr_tool.proofs.Common.{◌≡◌, ℕ, zero, suc, ◌+◌, ◌*◌, ◌<◌, ◌^◌, ◌-◌, Bool, true, false, List, [], ◌∷◌, ◌++◌, length, map, refl, sym, ap, ◌∙◌, arith, slice_get, sum_by, Option, Some, None, codes, same_Some, Command, Put, Unregister, Script, content_of, generated, is_offline, commands_of, ◌%◌, ◌==◌, eqb, eq-eqb, nat_lt, if◌then◌else◌, slice_index_or, decimal, option_and_then, range_with_len, none-some, Target, On, Get, Shrink, Balance, Offline, commands_from, generated_command, node_by, target_by, priority_by, key_text, value_text, worker_group, group_at, drawn_after, chosen_by, answers_in, commands_in, later_of, limit_of}
use Rattle.std.proofs.lemmas.Bool.{and_parts, and_from, eqb-true}
use Rattle.std.proofs.lemmas.Fmt.{decimal_injective}
use Rattle.std.proofs.lemmas.List.FromFn.{length-map-range_with_len}
use Rattle.std.proofs.lemmas.List.Sums.{sum_by-cons}
use Rattle.shr_base.specs.declared.ends.WorkerPart.{WorkerPart}
use Rattle.shr_base.specs.declared.scripts.GroupDecl.{GroupDecl}
use Rattle.shr_base.specs.declared.scripts.WorkerScript.{WorkerScript}
use Rattle.shr_model.specs.Groups.{is_later}

-- ---- lists over numbers

range_at : {A : Type 0} (f : ℕ → A) (a n k : ℕ) (x : A) → slice_get (map f (range_with_len a n)) k ≡ Some x → (k < n) × (x ≡ f (a + k))
range_at f a zero k x at = absurd (none-some x at)
range_at f a (suc n) zero x at = (omega arith, sym (same_Some (f a) x at) ∙ ap f (let same : a ≡ a + 0 = omega arith in same))
range_at f a (suc n) (suc k) x at = let t = range_at f (a + 1) n k x at in let lt = t.0 in (omega (arith, lt), t.1 ∙ ap f (let same : a + 1 + k ≡ a + suc k = omega arith in same))

at_number : {A : Type 0} (f : ℕ → A) (n k : ℕ) (x : A) → slice_get (map f (range_with_len 0 n)) k ≡ Some x → (k < n) × (x ≡ f k)
at_number f n k x at = let t = range_at f 0 n k x at in (t.0, t.1 ∙ ap f (let same : 0 + k ≡ k = omega arith in same))

-- ---- how many commands

-- as many where each of the one has as many as each of the other
pub sums_agree : (parts : List WorkerPart) (workers : List WorkerScript) → ((i : ℕ) → length (answers_in (slice_get parts i)) ≡ length (commands_in (slice_get workers i)))
    → sum_by (λ (p : WorkerPart). length p.answers.items) parts ≡ sum_by (λ (w : WorkerScript). length w.commands.items) workers
sums_agree [] [] each = refl
sums_agree [] (w ∷ ws) each = let first = each 0 in let rest = sums_agree [] ws (λ i. each (suc i)) in omega (arith, first, rest, sum_by-cons (λ (y : WorkerScript). length y.commands.items) w ws)
sums_agree (p ∷ ps) [] each = let first = each 0 in let rest = sums_agree ps [] (λ i. each (suc i)) in omega (arith, first, rest, sum_by-cons (λ (y : WorkerPart). length y.answers.items) p ps)
sums_agree (p ∷ ps) (w ∷ ws) each = let first = each 0 in let rest = sums_agree ps ws (λ i. each (suc i)) in
    omega (arith, first, rest, sum_by-cons (λ (y : WorkerPart). length y.answers.items) p ps, sum_by-cons (λ (y : WorkerScript). length y.commands.items) w ws)

sum_of_lists : (workers : List WorkerScript) → sum_by (λ (w : WorkerScript). length w.commands.items) workers ≡ sum_by length (map (λ (w : WorkerScript). w.commands.items) workers)
sum_of_lists [] = refl
sum_of_lists (w ∷ ws) = let rest = sum_of_lists ws in
    omega (arith, rest, sum_by-cons (λ (y : WorkerScript). length y.commands.items) w ws, sum_by-cons length w.commands.items (map (λ (y : WorkerScript). y.commands.items) ws))

sum_of_range : (x : ℕ → ℕ) (commands a n : ℕ) → sum_by length (map (λ w. commands_from (x w) w commands) (range_with_len a n)) ≡ n * commands
sum_of_range x commands a zero = omega arith
sum_of_range x commands a (suc n) =
    let first = length-map-range_with_len (λ j. generated_command a commands j (chosen_by (drawn_after (x a) (j + 1)))) 0 commands in
    let rest = sum_of_range x commands (a + 1) n in
    omega (arith, first, rest, sum_by-cons length (commands_from (x a) a commands) (map (λ w. commands_from (x w) w commands) (range_with_len (a + 1) n)))

-- ---- one command

in_lists : (workers : List WorkerScript) (w k : ℕ) (c : Command) → slice_get (commands_in (slice_get workers w)) k ≡ Some c
    → (cs : List Command) × (slice_get (map (λ (y : WorkerScript). y.commands.items) workers) w ≡ Some cs) × (slice_get cs k ≡ Some c)
in_lists [] w k c at = absurd (none-some c at)
in_lists (y ∷ ys) zero k c at = (y.commands.items, refl, at)
in_lists (y ∷ ys) (suc w) k c at = in_lists ys w k c at

-- what was drawn for a command
abbrev drawn_for : ℕ → ℕ → ℕ → ℕ → ℕ
drawn_for seed commands w k = chosen_by (drawn_after (drawn_after seed (w * commands)) (k + 1))

-- a command of worker w with number k
pub record IsMade (seed workers commands w k : ℕ) (c : Command) : Type 0 where
  pub worker : w < workers
  pub number : k < commands
  pub is : c ≡ generated_command w commands k (drawn_for seed commands w k)

-- a put of a generated script
pub record IsPut (w commands k group decl : ℕ) (key : List ℕ) : Type 0 where
  pub group_is : group ≡ worker_group w
  pub decl_fits : decl < 3
  pub key_is : key ≡ key_text k
  pub not_last : is_offline w commands k ≡ false

-- an `offline` of one
pub record IsLast (w commands k group : ℕ) : Type 0 where
  pub group_is : group ≡ worker_group w
  pub last : is_offline w commands k ≡ true

module _ (w commands k r : ℕ) where
  -- what is chosen by four tests
  abbrev chosen : Bool → Bool → Bool → Bool → Command
  chosen off put get shrink = if off then Offline (worker_group w) else (if put then Put (target_by w r) (key_text k) (value_text k) else (if get then On (target_by w r) (key_text (k - 1)) Get else
      (if shrink then Shrink (worker_group w) (node_by r) (priority_by r) false else Balance (node_by r) (priority_by r) false)))

  put_of : (off put get shrink : Bool) → is_offline w commands k ≡ off → (at : Target) (key value : List ℕ) → Put at key value ≡ chosen off put get shrink → IsPut w commands k at.group at.decl key
  put_of true put get shrink off at key value e = absurd cc
  put_of false true get shrink off at key value e = let here : at ≡ target_by w r = cc in let same = ap (λ (t : Target). t.decl) here in record { group_is = ap (λ (t : Target). t.group) here; decl_fits = omega (arith, same); key_is = cc; not_last = off }
  put_of false false true shrink off at key value e = absurd cc
  put_of false false false true off at key value e = absurd cc
  put_of false false false false off at key value e = absurd cc

  offline_of : (off put get shrink : Bool) → is_offline w commands k ≡ off → (group : ℕ) → Offline group ≡ chosen off put get shrink → IsLast w commands k group
  offline_of true put get shrink off group e = record { group_is = cc; last = off }
  offline_of false true get shrink off group e = absurd cc
  offline_of false false true shrink off group e = absurd cc
  offline_of false false false true off group e = absurd cc
  offline_of false false false false off group e = absurd cc

  unregister_none : (off put get shrink : Bool) (decl : ℕ) → Unregister decl ≡ chosen off put get shrink → ⊥
  unregister_none true put get shrink decl e = absurd cc
  unregister_none false true get shrink decl e = absurd cc
  unregister_none false false true shrink decl e = absurd cc
  unregister_none false false false true decl e = absurd cc
  unregister_none false false false false decl e = absurd cc

module _ (s : Script) (seed workers commands : ℕ) (content : content_of s ≡ generated seed workers commands) where
  lists : map (λ (w : WorkerScript). w.commands.items) s.workers.items ≡ map (λ w. commands_from (drawn_after seed (w * commands)) w commands) (range_with_len 0 workers)
  lists = ap (λ t. t.workers) content

  -- as many commands as workers with so many each
  pub commands_in_all : sum_by (λ (w : WorkerScript). length w.commands.items) s.workers.items ≡ workers * commands
  commands_in_all = sum_of_lists s.workers.items ∙ ap (λ l. sum_by length l) lists ∙ sum_of_range (λ w. drawn_after seed (w * commands)) commands 0 workers

  pub made : (w k : ℕ) (c : Command) → slice_get (commands_of s w) k ≡ Some c → IsMade seed workers commands w k c
  made w k c at =
      let t = in_lists s.workers.items w k c at in
      let one = at_number (λ v. commands_from (drawn_after seed (v * commands)) v commands) workers w t.0 (ap (λ l. slice_get l w) (sym lists) ∙ t.1) in
      let two = at_number (λ j. generated_command w commands j (chosen_by (drawn_after (drawn_after seed (w * commands)) (j + 1)))) commands k c (ap (λ l. slice_get l k) (sym one.1) ∙ t.2) in
      record { worker = one.0; number = two.0; is = two.1 }

  pub put_made : (w k : ℕ) (at : Target) (key value : List ℕ) → slice_get (commands_of s w) k ≡ Some (Put at key value) → IsPut w commands k at.group at.decl key
  put_made w k at key value there = put_of w commands k (drawn_for seed commands w k) (is_offline w commands k) (nat_lt (k % 8) 5) (k % 8 == 5) (k % 8 == 6) refl at key value (made w k (Put at key value) there).is

  pub offline_made : (w k group : ℕ) → slice_get (commands_of s w) k ≡ Some (Offline group) → IsLast w commands k group
  offline_made w k group at = offline_of w commands k (drawn_for seed commands w k) (is_offline w commands k) (nat_lt (k % 8) 5) (k % 8 == 5) (k % 8 == 6) refl group (made w k (Offline group) at).is

  pub no_unregister : (w k decl : ℕ) → slice_get (commands_of s w) k ≡ Some (Unregister decl) → ⊥
  no_unregister w k decl at = unregister_none w commands k (drawn_for seed commands w k) (is_offline w commands k) (nat_lt (k % 8) 5) (k % 8 == 5) (k % 8 == 6) decl (made w k (Unregister decl) at).is

  -- ---- no group has a limit
  no_limits : (a n g : ℕ) → option_and_then (λ limit. limit) (slice_get (map (λ (y : GroupDecl). y.limit) (map group_at (range_with_len a n))) g) ≡ None
  no_limits a zero g = refl
  no_limits a (suc n) zero = refl
  no_limits a (suc n) (suc g) = no_limits (a + 1) n g

  pub no_limit : (g : ℕ) → limit_of s g ≡ None
  no_limit zero = refl
  no_limit (suc g) = ap (λ l. option_and_then (λ (limit : Option ℕ). limit) (slice_get (map (λ (y : GroupDecl). y.limit) l) g)) (ap (λ t. t.groups) content) ∙ no_limits 0 workers g

  -- ---- each group is there from the start
  none_later : (a n g : ℕ) → slice_index_or (map (λ (y : GroupDecl). y.later) (map group_at (range_with_len a n))) g false ≡ false
  none_later a zero g = refl
  none_later a (suc n) zero = refl
  none_later a (suc n) (suc g) = none_later (a + 1) n g

  pub no_later : (g : ℕ) → is_later (later_of s) g ≡ false
  no_later zero = refl
  no_later (suc g) = ap (λ l. slice_index_or (map (λ (y : GroupDecl). y.later) l) g false) (ap (λ t. t.groups) content) ∙ none_later 0 workers g

  -- ---- an `offline` of a put's group comes later
  pub goes_later : (w k j : ℕ) → w < workers → k < commands → is_offline w commands k ≡ false → is_offline w commands j ≡ true → k < j
  goes_later w k j within few not last = before (k + 1 == commands) refl
    where
      parts : (w % 2 == 1 ≡ true) × (j + 1 == commands ≡ true)
      parts = and_parts (w % 2 == 1) (j + 1 == commands) last

      at_end : j + 1 ≡ commands
      at_end = eqb-true (j + 1) commands parts.1

      before : (b : Bool) → (k + 1 == commands) ≡ b → k < j
      before true e = let no : true ≡ false = sym (and_from (w % 2 == 1) (k + 1 == commands) parts.0 e) ∙ not in absurd cc
      before false e = let apart : k + 1 ≡ commands → ⊥ = (λ same. let yes : eqb (k + 1) commands ≡ true = eq-eqb (k + 1) commands same in let no : true ≡ false = sym yes ∙ e in cc) in
          grind (arith, apart, at_end, few)

-- each key is another
pub same_key : (j k : ℕ) → j < 2 ^ 64 → k < 2 ^ 64 → key_text j ≡ key_text k → j ≡ k
same_key j k low high e = decimal_injective j k low high (tails (decimal j) (decimal k) e)
  where
    tails : (a b : List ℕ) → codes "k" ++ a ≡ codes "k" ++ b → a ≡ b
    tails a b same = cc
