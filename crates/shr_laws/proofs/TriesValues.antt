-- SPDX-License-Identifier: GPL-2.0-only
-- The second whole report's put tried once, and reports of a run, changed in one place, whose put's charges are not those of tries.
use Rattle.shr_laws.proofs.Common.{◌≡◌, ℕ, suc, zero, ◌==◌, ◌||◌, Bool, true, false, cond, List, [], ◌∷◌, ◌++◌, map, filter, length, refl, AllByRecursion, arith, ap, sym, ◌∙◌, ⊎_elim, length-append, cases_Bool, UseStep, Put, ops_by, is_refused, limit_of, uses_at, parents_of, at, eqb-true}
use Rattle.shr_base.specs.declared.replies.Reply.TheVariants as reply
use Rattle.shr_model.specs.Commands.{rounds_from}
use Rattle.shr_model.specs.Freeings.{is_at_or_above}
use Rattle.shr_model.specs.Groups.{path_within}
use Rattle.shr_laws.specs.Tries.{outcomes_in, refused_in, AreTriesOfPut, AreTriesOf, AreAllTries}
use Rattle.shr_laws.proofs.SecondCases.{each_answer}
use Rattle.shr_laws.proofs.SecondReport.{kept, by, put, place, held, unheld, uses, script, report, target}

-- the second report

none_kept : (p : UseStep → Bool) (os : List UseStep) → AllByRecursion (λ (o : UseStep). p o ≡ false) os → filter p os ≡ []
none_kept p [] h = refl
none_kept p (o ∷ os) h = ap {A = Bool} (λ (t : Bool). cond t (o ∷ filter p os) (filter p os)) h.0 ∙ none_kept p os h.1

zero_not : (g : ℕ) → (0 == suc (suc g)) ≡ false
zero_not g = grind (arith)

one_not : (g : ℕ) → (1 == suc (suc g)) ≡ false
one_not g = grind (arith)

none_at : (g : ℕ) → uses_at report (suc (suc g)) ≡ []
none_at g = none_kept (λ (o : UseStep). o.group == suc (suc g)) uses (zero_not g, (zero_not g, (one_not g, (one_not g, tt))))

off_path : (g : ℕ) → is_at_or_above (0 ∷ 0 ∷ []) (suc (suc g)) 1 ≡ false
unfolding path_within
off_path g = ap (λ (b : Bool). b || ((0 == suc (suc g)) || false)) (one_not g) ∙ ap (λ (b : Bool). b || false) (zero_not g)

one_try : (g : ℕ) → refused_in script report (by 0) g ≡ outcomes_in (parents_of script) 1 [] true g
unfolding path_within
one_try zero = refl
one_try (suc zero) = refl
one_try (suc (suc g)) = ap (λ (os : List UseStep). map (is_refused (limit_of script (suc (suc g)))) (filter (λ (o : UseStep). o.up) (ops_by (by 0) os))) (none_at g)
    ∙ sym (ap (λ (b : Bool). cond b ([] ++ false ∷ []) []) (off_path g))

pub are_tries : AreAllTries script report
unfolding rounds_from
are_tries = each_answer _ (record { rounds = []; made = refl; each = one_try }, (tt, (tt, (tt, tt))))

-- reports whose put's charges aren't

-- a put that found no cache had no charge
uncharged : AreTriesOf script (record report { uses = kept [] }) (by 0) put (unheld (reply.NoCache 1)) → ⊥
unfolding path_within
uncharged h = let front : List Bool = map (λ (j : ℕ). j == 1) (filter (λ (j : ℕ). is_at_or_above (0 ∷ 0 ∷ []) j 1) h.rounds) in
    let e : [] ≡ front ++ false ∷ [] = h.each 1 in absurd (omega (arith, ap (λ (l : List Bool). length l) e, length-append front (false ∷ [])))

-- a put of the root's charged the group below it
beside_the_path : AreTriesOfPut script report (by 0) 0 (Put (target 0 0 0) [] []) (held (reply.Added (at place 0)) 0) → ⊥
unfolding path_within
beside_the_path h = let e : false ∷ [] ≡ [] = h.each 1 in cc

-- the root, if it refused, refused each try that came to it
all_refused : (rounds : List ℕ) → map (λ (j : ℕ). j == 0) (filter (λ (j : ℕ). is_at_or_above (0 ∷ 0 ∷ []) j 0) rounds) ++ [] ≡ false ∷ [] → ⊥
unfolding path_within
all_refused [] e = cc
all_refused (j ∷ rounds) e = ⊎_elim
    (λ (t : (0 == j) ≡ true). let head : (j == 0) ∷ (map (λ (k : ℕ). k == 0) (filter (λ (k : ℕ). (0 == k) || false) rounds) ++ []) ≡ false ∷ [] = sym (ap (λ (b : Bool). map (λ (k : ℕ). k == 0) (cond (b || false) (j ∷ filter (λ (k : ℕ). (0 == k) || false) rounds) (filter (λ (k : ℕ). (0 == k) || false) rounds)) ++ []) t) ∙ e in
    let same : (j == 0) ≡ false = cc in let is : 0 ≡ j = eqb-true 0 j t in let yes : (j == 0) ≡ true = ap (λ (n : ℕ). n == 0) (sym is) in cc)
    (λ (f : (0 == j) ≡ false). all_refused rounds (sym (ap (λ (b : Bool). map (λ (k : ℕ). k == 0) (cond (b || false) (j ∷ filter (λ (k : ℕ). (0 == k) || false) rounds) (filter (λ (k : ℕ). (0 == k) || false) rounds)) ++ []) f) ∙ e))
    (cases_Bool (0 == j))

-- a put that met its group offline charged it
charged_offline : AreTriesOf script report (by 0) put (unheld (reply.Offline 0)) → ⊥
unfolding path_within
charged_offline h = all_refused h.rounds (sym (h.each 0))

-- the tries that the parent and the group refused in this order are not those of the other order
other_order : outcomes_in (0 ∷ 0 ∷ 1 ∷ []) 2 (1 ∷ 2 ∷ []) true 2 ≡ outcomes_in (0 ∷ 0 ∷ 1 ∷ []) 2 (2 ∷ 1 ∷ []) true 2 → ⊥
unfolding path_within
other_order e = let f : false ∷ true ∷ false ∷ [] ≡ true ∷ false ∷ false ∷ [] = e in cc
