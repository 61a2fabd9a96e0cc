-- SPDX-License-Identifier: GPL-2.0-only
-- What the matches of `clap` give.
use Rattle.shr_gen.proofs.FormsCommon.{◌≡◌, ◌∙◌, List, ℕ, [], ◌∷◌, length, Bool, true, false, ◌≤◌, ◌<◌, ◌^◌, Option, Some, None, sym, ap, subst, refl, zero, suc, codes, decimal, arith, option_map, get_or, AllByRecursion, same_Some, Row, Text, IsAmong, fault_of, first_of, rows_of, subcommand_of, has_hyphen, IsPlainWord, the_app, Form, Run, Audit, AreRunWords, AreAuditWords, AreGenWords, AreNoForm, ReadsAs, ◌||◌, cond, ne_eqb, list_any, first_decimal, decimal_digit, none-some, first_value}
use Rattle.std.specs.Borrow.{Bor}
use Rattle.clap.specs.declared.error.ErrorKind.{ErrorKind}
use Rattle.clap.specs.declared.parser.matches.Found.{Found}
use Rattle.clap.proofs.WalkLemmas.{first_value-rows}
use Rattle.shr_gen.proofs.Reading.{sizes_fit}
use Rattle.shr_gen.proofs.Splitting.{AreSplit, as_run, as_audit, as_gen, split, run_right, run_met, audit_right, audit_met, gen_right, gen_met, rows, first_is, second_is, third_is}
use Rattle.std.proofs.lemmas.Bool.{or_parts}

module _ (f : Found) (id : Text) (result : Option (Bor (List ℕ))) (t : List ℕ) (told : option_map (λ (s : Bor (List ℕ)). s.now) result ≡ first_value f id) (first : first_of id (rows_of f) ≡ Some t) where
  -- the word that was given is the row's first
  pub given_is : (s : Bor (List ℕ)) → result ≡ Some s → s.now ≡ t
  given_is s is = same_Some s.now t (ap (option_map (λ (x : Bor (List ℕ)). x.now)) (sym is) ∙ told ∙ first_value-rows f id ∙ first)

  pub given_not : result ≡ None → ⊥
  given_not is = none-some t (ap (option_map (λ (x : Bor (List ℕ)). x.now)) (sym is) ∙ told ∙ first_value-rows f id ∙ first)

-- ---- hyphens

-- a byte above the hyphen's is none
plain_first : (ds : List ℕ) → (0 < length ds → 48 ≤ get_or ds 0 0) → has_hyphen ds ≡ false
plain_first [] digit = refl
plain_first (x ∷ xs) digit = ne_eqb x 45 (λ same. let low = digit (omega arith) in omega (arith, same, low))

-- a number begins with a digit
plain_decimal : (n : ℕ) → n < 2 ^ 64 → has_hyphen (decimal n) ≡ false
plain_decimal zero fits = ap has_hyphen (decimal_digit 0 (omega arith))
plain_decimal (suc n) fits = plain_first (decimal (suc n)) (λ some. let high = first_decimal (suc n) (omega arith) fits in omega (arith, high))

no_hyphen_run : (words : List (List ℕ)) → AreRunWords words → list_any has_hyphen words ≡ false
no_hyphen_run words is = ap (list_any has_hyphen) is

no_hyphen_audit : (words : List (List ℕ)) → AreAuditWords words → list_any has_hyphen words ≡ false
no_hyphen_audit words is = ap (list_any has_hyphen) is

no_hyphen_gen : (words : List (List ℕ)) (s w c : ℕ) → AreGenWords words s w c → list_any has_hyphen words ≡ false
no_hyphen_gen words s w c is = let fit = sizes_fit w c is.made in
    ap (list_any has_hyphen) is.spelled
    ∙ (ap (λ b. b || (has_hyphen (decimal w) || (has_hyphen (decimal c) || false))) (plain_decimal s is.seed_fits)
    ∙ (ap (λ b. b || (has_hyphen (decimal c) || false)) (plain_decimal w fit.0) ∙ ap (λ b. b || false) (plain_decimal c fit.1)))

true_not_false : (b : Bool) → b ≡ true → b ≡ false → ⊥
true_not_false b yes_it no_it = let no : true ≡ false = sym yes_it ∙ no_it in absurd cc

-- words of which one begins with a hyphen are of no form
pub hyphened : (words : List (List ℕ)) → list_any has_hyphen words ≡ true → AreNoForm words
hyphened words some = record {
  run = λ is. true_not_false (list_any has_hyphen words) some (no_hyphen_run words is);
  audit = λ is. true_not_false (list_any has_hyphen words) some (no_hyphen_audit words is);
  gen = λ s w c is. true_not_false (list_any has_hyphen words) some (no_hyphen_gen words s w c is);
}

plain_one : (w : List ℕ) → has_hyphen w ≡ false → IsPlainWord w
plain_one [] none = refl
plain_one (x ∷ xs) none = ap (λ b. cond b (Some xs) None) none

-- and where none does, each is plain
pub all_plain : (words : List (List ℕ)) → list_any has_hyphen words ≡ false → AllByRecursion IsPlainWord words
all_plain [] none = tt
all_plain (w ∷ ws) none = let t = or_parts (has_hyphen w) (list_any has_hyphen ws) none in (plain_one w t.0, all_plain ws t.1)

-- ---- what the split words are read as

among_none : (k : ErrorKind) (kinds : List ErrorKind) → kinds ≡ [] → IsAmong k kinds → ⊥
among_none k kinds none among = subst (IsAmong k) none among

-- words with which the command finds a fault are of no form
pub faulted : (words : List (List ℕ)) (k : ErrorKind) → AllByRecursion IsPlainWord words → IsAmong k (fault_of the_app words) → AreNoForm words
faulted words k plain among = record { run = run; audit = audit; gen = gen }
  where
    run : AreRunWords words → ⊥
    run is = among_none k (fault_of the_app words) (ap (fault_of the_app) is ∙ run_right) among

    audit : AreAuditWords words → ⊥
    audit is = among_none k (fault_of the_app words) (ap (fault_of the_app) is ∙ audit_right) among

    gen : (s w c : ℕ) → AreGenWords words s w c → ⊥
    gen s w c is =
        let plains : AllByRecursion IsPlainWord (codes "gen" ∷ decimal s ∷ decimal w ∷ decimal c ∷ []) = subst (AllByRecursion IsPlainWord) is.spelled plain in
        among_none k (fault_of the_app words) (ap (fault_of the_app) is.spelled ∙ gen_right (decimal s) (decimal w) (decimal c) plains.1.0 plains.1.1.0 plains.1.1.1.0) among

module _ (words : List (List ℕ)) (plain : AllByRecursion IsPlainWord words) (met : Option (List ℕ × List Row)) (is_met : met ≡ subcommand_of the_app words) (form : Option Form)
    (when_run : (rows : List Row) → met ≡ Some (codes "run", rows) → form ≡ Some Run)
    (when_audit : (rows : List Row) → met ≡ Some (codes "audit", rows) → form ≡ Some Audit)
    (when_gen : (rows : List Row) (a b c : List ℕ) → met ≡ Some (codes "gen", rows) → first_of (codes "seed") rows ≡ Some a → first_of (codes "workers") rows ≡ Some b → first_of (codes "commands") rows ≡ Some c → ReadsAs (codes "gen" ∷ a ∷ b ∷ c ∷ []) form) where
  -- words with which the command finds none are read as the form that they are of
  pub faultless : fault_of the_app words ≡ [] → ReadsAs words form
  faultless none = by_split (split words plain none)
    where
      run : words ≡ codes "run" ∷ [] → ReadsAs words form
      run is = subst (ReadsAs words) (sym (when_run [] (is_met ∙ ap (subcommand_of the_app) is ∙ run_met))) is

      audit : words ≡ codes "audit" ∷ [] → ReadsAs words form
      audit is = subst (ReadsAs words) (sym (when_audit [] (is_met ∙ ap (subcommand_of the_app) is ∙ audit_met))) is

      gen : (a b c : List ℕ) → words ≡ codes "gen" ∷ a ∷ b ∷ c ∷ [] → ReadsAs words form
      gen a b c is =
          let plains : AllByRecursion IsPlainWord (codes "gen" ∷ a ∷ b ∷ c ∷ []) = subst (AllByRecursion IsPlainWord) is plain in
          subst (λ ws. ReadsAs ws form) (sym is)
          (when_gen (rows a b c plains.1.0 plains.1.1.0 plains.1.1.1.0) a b c (is_met ∙ ap (subcommand_of the_app) is ∙ gen_met a b c plains.1.0 plains.1.1.0 plains.1.1.1.0)
          (first_is a b c plains.1.0 plains.1.1.0 plains.1.1.1.0) (second_is a b c plains.1.0 plains.1.1.0 plains.1.1.1.0) (third_is a b c plains.1.0 plains.1.1.0 plains.1.1.1.0))

      by_split : AreSplit words → ReadsAs words form
      by_split (as_run is) = run is
      by_split (as_audit is) = audit is
      by_split (as_gen a b c is) = gen a b c is
