-- SPDX-License-Identifier: GPL-2.0-only
-- What words are read as, by what each of them spells.
use Rattle.std.proofs.Common.{◌≡◌, ℕ, zero, suc, ◌*◌, ◌^◌, ◌<◌, ◌≤◌, List, [], ◌∷◌, length, map, get_or, codes, decimal, Some, None, sym, refl, ap, ◌∙◌, subst, arith}
use Rattle.std.specs.Prelude.{Result, Ok, Err}
use Rattle.std.specs.Str.Parse.{ParsesUnsigned}
use Rattle.std.proofs.lemmas.Fmt.{parse-decimal, decimal_injective}
use Rattle.shr_gen.specs.Generated.{MayBeGenerated}
use Rattle.shr_gen.specs.Forms.{Spells, AreRunWords, AreAuditWords, AreNoForm}

-- a word that isn't read as a number spells none
pub unread : {E : Type 0} (word : List ℕ) (r : Result ℕ E) (e : E) → ParsesUnsigned 64 10 word r → r ≡ Err e → Spells word None
unread word r e reads fails n fits is = let ok = parse-decimal 64 n word r fits fits is reads in let no : Err e ≡ Ok n = sym fails ∙ ok in absurd cc

-- nor does one that is read as a number which is spelled otherwise
pub spelled_otherwise : {E : Type 0} (word : List ℕ) (r : Result ℕ E) (m : ℕ) → ParsesUnsigned 64 10 word r → r ≡ Ok m → (decimal m ≡ word → ⊥) → Spells word None
spelled_otherwise word r m reads read other n fits is =
    let ok = parse-decimal 64 n word r fits fits is reads in let same : m ≡ n = (let e : Ok m ≡ Ok n = sym read ∙ ok in cc) in other (subst (λ k. decimal k ≡ word) (sym same) (sym is))

pub few_commands : (workers commands : ℕ) → 1 ≤ workers → workers * commands ≤ 20000 → commands ≤ 20000
few_commands zero commands some most = absurd (omega (arith, some))
few_commands (suc w) commands some most = omega (arith, most)

-- the numbers of a script that may be made have 64 bits
pub sizes_fit : (workers commands : ℕ) → MayBeGenerated workers commands → (workers < 2 ^ 64) × (commands < 2 ^ 64)
sizes_fit workers commands h = let most = h.most_workers in let few = few_commands workers commands h.some_workers h.most_commands in (omega (arith, most), omega (arith, few))

gen_words : List ℕ → List ℕ → List ℕ → List (List ℕ)
gen_words a b c = codes "gen" ∷ a ∷ b ∷ c ∷ []

pub record Same (a b c x y z : List ℕ) : Type 0 where
  pub first : a ≡ x
  pub second : b ≡ y
  pub third : c ≡ z

pub same_words : (a b c x y z : List ℕ) → codes "gen" ∷ a ∷ b ∷ c ∷ [] ≡ codes "gen" ∷ x ∷ y ∷ z ∷ [] → Same a b c x y z
same_words a b c x y z e = record { first = cc; second = cc; third = cc }

not_run : (a b c : List ℕ) → AreRunWords (codes "gen" ∷ a ∷ b ∷ c ∷ []) → ⊥
not_run a b c e = absurd cc

not_audit : (a b c : List ℕ) → AreAuditWords (codes "gen" ∷ a ∷ b ∷ c ∷ []) → ⊥
not_audit a b c e = absurd cc

-- `gen` and three words, of which one spells no number, or not one that serves
pub no_seed : (a b c : List ℕ) → Spells a None → AreNoForm (codes "gen" ∷ a ∷ b ∷ c ∷ [])
no_seed a b c none = record { run = not_run a b c; audit = not_audit a b c; gen = λ s w k h. none s h.seed_fits (same_words a b c (decimal s) (decimal w) (decimal k) h.spelled).first }

pub no_workers : (a b c : List ℕ) → Spells b None → AreNoForm (codes "gen" ∷ a ∷ b ∷ c ∷ [])
no_workers a b c none = record { run = not_run a b c; audit = not_audit a b c; gen = λ s w k h. none w (sizes_fit w k h.made).0 (same_words a b c (decimal s) (decimal w) (decimal k) h.spelled).second }

pub no_commands : (a b c : List ℕ) → Spells c None → AreNoForm (codes "gen" ∷ a ∷ b ∷ c ∷ [])
no_commands a b c none = record { run = not_run a b c; audit = not_audit a b c; gen = λ s w k h. none k (sizes_fit w k h.made).1 (same_words a b c (decimal s) (decimal w) (decimal k) h.spelled).third }

pub no_sizes : (a b c : List ℕ) (w k : ℕ) → Spells b (Some w) → Spells c (Some k) → (MayBeGenerated w k → ⊥) → AreNoForm (codes "gen" ∷ a ∷ b ∷ c ∷ [])
no_sizes a b c w k workers commands none = record {
  run = not_run a b c;
  audit = not_audit a b c;
  gen = λ s v j h.
      let same = same_words a b c (decimal s) (decimal v) (decimal j) h.spelled in
      let fit = sizes_fit v j h.made in
      let w_is : v ≡ w = decimal_injective v w fit.0 workers.1 (sym same.second ∙ workers.0) in
      let k_is : j ≡ k = decimal_injective j k fit.1 commands.1 (sym same.third ∙ commands.0) in
      none (subst (λ n. MayBeGenerated n k) w_is (subst (λ n. MayBeGenerated v n) k_is h.made));
}

-- one word, which is neither of those that are a form alone
pub no_single : (word : List ℕ) → (word ≡ codes "run" → ⊥) → (word ≡ codes "audit" → ⊥) → AreNoForm (word ∷ [])
no_single word run audit = record {
  run = λ is. run (only word (codes "run") is);
  audit = λ is. audit (only word (codes "audit") is);
  gen = λ s w k h. many word (decimal s) (decimal w) (decimal k) h.spelled;
}
  where
    only : (a b : List ℕ) → a ∷ [] ≡ b ∷ [] → a ≡ b
    only a b e = cc

    many : (a s w k : List ℕ) → a ∷ [] ≡ codes "gen" ∷ s ∷ w ∷ k ∷ [] → ⊥
    many a s w k e = absurd cc

-- ---- the words of a list by their places

pub one_word : {X : Type 0} (f : X → List ℕ) (xs : List X) (a : X) → length xs ≡ 1 → a ≡ get_or xs 0 a → map f xs ≡ f a ∷ []
one_word f [] a long first = absurd (omega (arith, long))
one_word f (x ∷ []) a long first = ap (λ y. f y ∷ []) (sym first)
one_word f (x ∷ y ∷ xs) a long first = absurd (omega (arith, long))

pub four_words : {X : Type 0} (f : X → List ℕ) (xs : List X) (a b c d : X) → length xs ≡ 4 → a ≡ get_or xs 0 a → b ≡ get_or xs 1 b → c ≡ get_or xs 2 c → d ≡ get_or xs 3 d
    → map f xs ≡ f a ∷ f b ∷ f c ∷ f d ∷ []
four_words f [] a b c d long one two three four = absurd (omega (arith, long))
four_words f (x ∷ []) a b c d long one two three four = absurd (omega (arith, long))
four_words f (x ∷ y ∷ []) a b c d long one two three four = absurd (omega (arith, long))
four_words f (x ∷ y ∷ z ∷ []) a b c d long one two three four = absurd (omega (arith, long))
four_words f (x ∷ y ∷ z ∷ w ∷ []) a b c d long one two three four = rw (one, two, three, four) refl
four_words f (x ∷ y ∷ z ∷ w ∷ v ∷ xs) a b c d long one two three four = absurd (omega (arith, long))
