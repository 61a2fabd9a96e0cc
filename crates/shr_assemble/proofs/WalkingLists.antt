-- SPDX-License-Identifier: GPL-2.0-only
-- The lists of a walk's work are those that its record tells of.
use Rattle.shr_assemble.proofs.Common.{◌≡◌, ℕ, zero, suc, ◌+◌, ◌<◌, ◌≤◌, ⊎_elim, Bool, true, false, cond, List, [], ◌∷◌, ◌++◌, length, map, sym, refl, ap, subst, ◌∙◌, arith, eq-eqb, slice_get, Option, Some, None, flat_map, filter, filter_map, sum_by, cons_option, sum_by-cons, sum_by-append, same_Some, none-some, Policy, Place, Attempt, PassRecord, pass_of, amount_of, amount_at, sum_at, place_number, is_place, is_place_itself, takes_of, gives_of, takes_both, gives_both, Each, Each-append, Each-none, Made, IsScanOf, scan_at, IsScanMade, AreScannedBy, WalkParts, AreParts, Shared, Walk, map-append, WordStep, told_step, steps_passed, list_scan_by, place_of_walk, place_of, moves_made, Moves}
use Rattle.std.specs.Option.{option_map_or, option_to_list}
use Rattle.shr_deferred.specs.Moves.{no_moves}
use Rattle.shr_pass.specs.Passes.{moves_by}
use Rattle.shr_pass.specs.declared.answers.PassAnswer.TheVariants as answer
use Rattle.shr_pass.specs.declared.answers.ScanSeen.{ScanSeen}
use Rattle.shr_walk.specs.Attempts.{WasHeld}
use Rattle.shr_assemble.proofs.WalkingParts.{found_cases}
use Rattle.shr_walk.proofs.Passing.{scan_is}

pub flat_same : {A B : Type 0} (f g : A → List B) (l : List A) → ((a : A) → f a ≡ g a) → flat_map f l ≡ flat_map g l
flat_same f g [] h = refl
flat_same f g (a ∷ l) h = ap (λ v. v ++ flat_map f l) (h a) ∙ ap (λ v. g a ++ v) (flat_same f g l h)

-- ---- what passes took and gave
abbrev moves_in : Place → Option PassRecord → Moves
moves_in place pass = option_map_or (λ p. moves_by place (answer.Ran p)) pass no_moves

visit_takes : (place : Place) (pass : Option PassRecord) → takes_of (moves_in place pass) ≡ map (λ (q : PassRecord). amount_of place q.nr) (option_to_list pass)
visit_takes place None = refl
visit_takes place (Some p) = refl

visit_gives : (place : Place) (pass : Option PassRecord) → gives_of (moves_in place pass) ≡ map (λ (q : PassRecord). amount_of place q.next) (option_to_list pass)
visit_gives place None = refl
visit_gives place (Some p) = refl

module _ (p : Place) (f : PassRecord → ℕ) where
  one_pass : (t : Bool) (place : Place) → is_place p place ≡ t → (o : Option PassRecord) (rest : List PassRecord) → sum_at p (map (λ (q : PassRecord). amount_of place (f q)) (option_to_list o)) + sum_by f rest ≡ sum_by f (cond t (cons_option o rest) rest)
  one_pass true place e None rest = omega arith
  one_pass false place e None rest = omega arith
  one_pass true place e (Some q) rest = let a = sum_by-cons (amount_at p) (amount_of place (f q)) [] in let b = sum_by-cons f q rest in let c = ap (λ (t : Bool). cond t (f q) 0) e in omega (arith, a, b, c)
  one_pass false place e (Some q) rest = let a = sum_by-cons (amount_at p) (amount_of place (f q)) [] in let c = ap (λ (t : Bool). cond t (f q) 0) e in omega (arith, a, c)

  pass_first : (t : Bool) (a : Attempt) (l : List Attempt) → filter_map (λ (b : Attempt). pass_of b.outcome) (cond t (a ∷ l) l) ≡ cond t (cons_option (pass_of a.outcome) (filter_map (λ (b : Attempt). pass_of b.outcome) l)) (filter_map (λ (b : Attempt). pass_of b.outcome) l)
  pass_first true a l = refl
  pass_first false a l = refl

  abbrev pub passes_near : Walk → List Attempt → List PassRecord
  passes_near walk l = filter_map (λ (b : Attempt). pass_of b.outcome) (filter (λ (b : Attempt). is_place p (place_of walk b)) l)

  near_more : (walk : Walk) (a : Attempt) (l : List Attempt) → sum_at p (map (λ (q : PassRecord). amount_of (place_of walk a) (f q)) (option_to_list (pass_of a.outcome))) + sum_by f (passes_near walk l) ≡ sum_by f (passes_near walk (a ∷ l))
  near_more walk a l = one_pass (is_place p (place_of walk a)) (place_of walk a) refl (pass_of a.outcome) (passes_near walk l)
      ∙ ap (sum_by f) (sym (pass_first (is_place p (place_of walk a)) a (filter (λ (b : Attempt). is_place p (place_of walk b)) l)))

pub all_taken : (p : Place) (walk : Walk) (l : List Attempt) → sum_at p (takes_of (flat_map (moves_made walk) l)) ≡ sum_by (λ (q : PassRecord). q.nr) (passes_near p (λ (q : PassRecord). q.nr) walk l)
all_taken p walk [] = refl
all_taken p walk (a ∷ l) = let e = ap (sum_at p) (takes_both (moves_made walk a) (flat_map (moves_made walk) l)) ∙ sum_by-append (amount_at p) (takes_of (moves_made walk a)) (takes_of (flat_map (moves_made walk) l)) in
    let d = ap (sum_at p) (visit_takes (place_of walk a) (pass_of a.outcome)) in let n = near_more p (λ (q : PassRecord). q.nr) walk a l in omega (arith, e, d, n, all_taken p walk l)

pub all_given : (p : Place) (walk : Walk) (l : List Attempt) → sum_at p (gives_of (flat_map (moves_made walk) l)) ≡ sum_by (λ (q : PassRecord). q.next) (passes_near p (λ (q : PassRecord). q.next) walk l)
all_given p walk [] = refl
all_given p walk (a ∷ l) = let e = ap (sum_at p) (gives_both (moves_made walk a) (flat_map (moves_made walk) l)) ∙ sum_by-append (amount_at p) (gives_of (moves_made walk a)) (gives_of (flat_map (moves_made walk) l)) in
    let d = ap (sum_at p) (visit_gives (place_of walk a) (pass_of a.outcome)) in let n = near_more p (λ (q : PassRecord). q.next) walk a l in omega (arith, e, d, n, all_given p walk l)

-- the moves of a walk, in their order
visit_steps : (place : Place) (pass : Option PassRecord) → map told_step (moves_in place pass) ≡ steps_passed place pass
visit_steps place None = refl
visit_steps place (Some p) = refl

pub all_steps : (walk : Walk) (l : List Attempt) → map told_step (flat_map (moves_made walk) l) ≡ flat_map (λ (a : Attempt). steps_passed (place_of walk a) (pass_of a.outcome)) l
all_steps walk [] = refl
all_steps walk (a ∷ l) = map-append told_step (moves_made walk a) (flat_map (moves_made walk) l)
    ∙ (ap (λ (v : List WordStep). v ++ map told_step (flat_map (moves_made walk) l)) (visit_steps (place_of walk a) (pass_of a.outcome)) ∙ ap (λ (v : List WordStep). steps_passed (place_of walk a) (pass_of a.outcome) ++ v) (all_steps walk l))

-- ---- an entry that was made is of an attempt with a pass

none_there : (k worker walk : ℕ) (policy : Policy) (made : List Made) → Each (IsScanMade k worker walk policy) made → filter_map (scan_at k worker walk) made ≡ [] → made ≡ []
none_there k worker walk policy [] h e = refl
none_there k worker walk policy (m ∷ made) h e = let here = h 0 m refl in let z = scan_is worker walk policy m.entry here.1 in
    let one : scan_at k worker walk m ≡ Some z.0 = ap (λ (b : Bool). cond b (list_scan_by worker walk m.entry) None) (eq-eqb m.place k here.0) ∙ z.1 in
    let n : suc (length (filter_map (scan_at k worker walk) made)) ≡ 0 = ap (λ (o : Option ScanSeen). length (cons_option o (filter_map (scan_at k worker walk) made))) (sym one) ∙ ap (λ (l : List ScanSeen). length l) e in absurd (omega (arith, n))

-- the attempt, its pass, and that the entry is a Scan of the walk at its place
pub record IsOfAttempt (walk : Walk) (l : List Attempt) (m : Made) : Type 0 where
  pub k : ℕ
  pub attempt : Attempt
  pub at : slice_get l k ≡ Some attempt
  pub pass : PassRecord
  pub passed : pass_of attempt.outcome ≡ Some pass
  pub place : m.place ≡ place_number (place_of_walk walk attempt.id)
  pub policy : Policy
  pub scan : IsScanOf walk.by.worker walk.number policy m.entry

module _ (x : Shared) (walk : Walk) where
  pub of_attempts : (l : List Attempt) (p : WalkParts) → AreParts x walk l p → Each (IsOfAttempt walk l) p.made
  of_attempts [] p h = subst (λ (y : WalkParts). Each (IsOfAttempt walk []) y.made) (sym h) (Each-none (IsOfAttempt walk []))
  of_attempts (a ∷ l) p (q, s, e, i, rest) = subst (λ (y : WalkParts). Each (IsOfAttempt walk (a ∷ l)) y.made) (sym e)
      (Each-append (IsOfAttempt walk (a ∷ l)) q.made s.made
      (⊎_elim
      (λ none. subst (Each (IsOfAttempt walk (a ∷ l))) (sym none.0.no_entry) (Each-none (IsOfAttempt walk (a ∷ l))))
      (λ some. λ j m at. by_pass (pass_of a.outcome) refl some.0 j m at)
      (found_cases x walk a.id a.outcome i.first i.more i.held q.made q.ops i.found))
      (λ j m at. let z = of_attempts l s rest j m at in record { k = suc z.k; attempt = z.attempt; at = z.at; pass = z.pass; passed = z.passed; place = z.place; policy = z.policy; scan = z.scan })) where
        by_pass : (o : Option PassRecord) → pass_of a.outcome ≡ o → WasHeld x walk (place_of_walk walk a.id) a.outcome i.more i.held q.made q.ops → Each (IsOfAttempt walk (a ∷ l)) q.made
        by_pass (Some p') e' h = λ j m at. let here = h.by.scans j m at in record { k = 0; attempt = a; at = refl; pass = p'; passed = e'; place = here.0; policy = h.d.policy; scan = here.1 }
        by_pass None e' h = let none : q.made ≡ [] = none_there (place_number (place_of_walk walk a.id)) walk.by.worker walk.number h.d.policy q.made h.by.scans
            (subst (λ ps. AreScannedBy walk.priority h.d.seeks h.d.batch ps (filter_map (scan_at (place_number (place_of_walk walk a.id)) walk.by.worker walk.number) q.made)) e' h.by.scanned) in
            subst (Each (IsOfAttempt walk (a ∷ l))) (sym none) (Each-none (IsOfAttempt walk (a ∷ l)))

-- the pass of an attempt at a place is among those there
pub pass_there : (p : Place) (f : PassRecord → ℕ) (walk : Walk) (l : List Attempt) (k : ℕ) (a : Attempt) (q : PassRecord) → slice_get l k ≡ Some a → pass_of a.outcome ≡ Some q → p ≡ place_of walk a → 0 < length (passes_near p f walk l)
pass_there p f walk [] k a q at passed here = absurd (none-some a at)
pass_there p f walk (b ∷ l) zero a q at passed here =
    let same : b ≡ a = same_Some b a at in
    let yes : is_place p (place_of walk b) ≡ true = ap (λ z. is_place p (place_of walk z)) same ∙ (ap (λ z. is_place p z) (sym here) ∙ is_place_itself p) in
    let e : length (passes_near p f walk (b ∷ l)) ≡ suc (length (passes_near p f walk l)) = ap (λ t. length (filter_map (λ (c : Attempt). pass_of c.outcome) (cond t (b ∷ filter (λ (c : Attempt). is_place p (place_of walk c)) l) (filter (λ (c : Attempt). is_place p (place_of walk c)) l)))) yes
    ∙ ap (λ o. length (cons_option o (passes_near p f walk l))) (ap (λ (z : Attempt). pass_of z.outcome) same ∙ passed) in omega (arith, e)
pass_there p f walk (b ∷ l) (suc k) a q at passed here = let lt = pass_there p f walk l k a q at passed here in
    let n = more_near (is_place p (place_of walk b)) b (filter (λ (c : Attempt). is_place p (place_of walk c)) l) (pass_of b.outcome) refl in omega (arith, lt, n) where
      more_near : (t : Bool) (b : Attempt) (l : List Attempt) (o : Option PassRecord) → pass_of b.outcome ≡ o → length (filter_map (λ (c : Attempt). pass_of c.outcome) l) ≤ length (filter_map (λ (c : Attempt). pass_of c.outcome) (cond t (b ∷ l) l))
      more_near false b l o e = omega arith
      more_near true b l None e = let d = ap (λ z. length (cons_option z (filter_map (λ (c : Attempt). pass_of c.outcome) l))) e in omega (arith, d)
      more_near true b l (Some r) e = let d = ap (λ z. length (cons_option z (filter_map (λ (c : Attempt). pass_of c.outcome) l))) e in omega (arith, d)
