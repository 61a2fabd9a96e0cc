-- SPDX-License-Identifier: GPL-2.0-only
-- One more of some places in a row.
use Rattle.shr_audit_formed.proofs.Common.{◌≡◌, ℕ, zero, suc, ◌+◌, ◌<◌, Bool, true, false, List, [], ◌∷◌, ◌++◌, length, flat_map, map, refl, sym, ap, ◌∙◌, arith, Decides, range_with_len, ◌==◌, MapEnd, Where, wheres, IsNotStripped, append_assoc}
use Rattle.std.proofs.lemmas.List.{append-nil, append_cancel_left}
use Rattle.std.proofs.lemmas.List.Concat.{flat_map-append}
use Rattle.shr_laws.proofs.FirstLawful.{zero_not}

pub one_on : (n : ℕ) → suc n + 1 ≡ suc (n + 1)
one_on n = omega arith

pub range_more : (a n j : ℕ) → a + n ≡ j → range_with_len a (n + 1) ≡ range_with_len a n ++ j ∷ []
range_more a zero j e = let same : a ≡ j = omega arith in rw same refl
range_more a (suc n) j e = ap (range_with_len a) (one_on n) ∙ ap (λ (xs : List ℕ). a ∷ xs) (range_more (a + 1) n j (omega arith))

-- the others behind the first k
range_split : (a n k : ℕ) → k < n → (rest : List ℕ) × (range_with_len a n ≡ range_with_len a (k + 1) ++ rest)
range_split a zero k lt = absurd (omega arith)
range_split a (suc n) zero lt = (range_with_len (a + 1) n, refl)
range_split a (suc n) (suc k) lt = let more = range_split (a + 1) n k (omega arith) in (more.0, ap (λ (xs : List ℕ). a ∷ xs) more.1 ∙ ap (λ (xs : List ℕ). xs ++ more.0) (sym (ap (range_with_len a) (one_on k))))

-- one place more is met
pub met : (g : ℕ → List Where) (a k j : ℕ) (all rest more : List Where) → a + k ≡ j → all ≡ flat_map g (range_with_len a k) ++ rest → rest ≡ g j ++ more → all ≡ flat_map g (range_with_len a (k + 1)) ++ more
met g a k j all rest more e f h =
    f ∙ ap (λ (xs : List Where). flat_map g (range_with_len a k) ++ xs) h ∙ sym (append_assoc (flat_map g (range_with_len a k)) (g j) more)
    ∙ ap (λ (xs : List Where). (flat_map g (range_with_len a k) ++ xs) ++ more) (sym (append-nil (g j)))
    ∙ ap (λ (xs : List Where). xs ++ more) (sym (flat_map-append g (range_with_len a k) (j ∷ [])) ∙ ap (flat_map g) (sym (range_more a k j e)))

-- where one isn't met, all are not
pub not_met : (g : ℕ → List Where) (a n k j : ℕ) (all rest : List Where) → a + k ≡ j → k < n → all ≡ flat_map g (range_with_len a k) ++ rest → IsNotStripped (g j) rest → IsNotStripped (flat_map g (range_with_len a n)) all
not_met g a n k j all rest e lt f none tail h =
    let split = range_split a n k lt in
    let others = flat_map g split.0 ++ tail in
    let places : flat_map g (range_with_len a n) ≡ flat_map g (range_with_len a k) ++ (g j ++ flat_map g split.0) =
    ap (flat_map g) (split.1 ∙ ap (λ (xs : List ℕ). xs ++ split.0) (range_more a k j e) ∙ append_assoc (range_with_len a k) (j ∷ []) split.0) ∙ flat_map-append g (range_with_len a k) (j ∷ split.0) in
    let whole : all ≡ flat_map g (range_with_len a k) ++ (g j ++ others) =
    h ∙ ap (λ (xs : List Where). xs ++ tail) places ∙ append_assoc (flat_map g (range_with_len a k)) (g j ++ flat_map g split.0) tail ∙ ap (λ (xs : List Where). flat_map g (range_with_len a k) ++ xs) (append_assoc (g j) (flat_map g split.0) tail) in
    none others (append_cancel_left (flat_map g (range_with_len a k)) rest (g j ++ others) (sym f ∙ whole))

-- single places as rows of one
pub singles : (f : ℕ → Where) (xs : List ℕ) → flat_map (λ x. f x ∷ []) xs ≡ map f xs
singles f [] = refl
singles f (x ∷ xs) = ap (λ (ys : List Where). f x ∷ ys) (singles f xs)

-- all are met where nothing is left
pub nothing_left : (places all rest : List Where) (b : Bool) → all ≡ places ++ rest → Decides b (rest ≡ []) → Decides b (all ≡ places)
nothing_left places all rest b e d = (
  λ t. e ∙ ap (λ (xs : List Where). places ++ xs) (d.0 t) ∙ append-nil places,
  λ h. d.1 (append_cancel_left places rest [] (sym e ∙ h ∙ sym (append-nil places))),
)

-- none are met where they aren't the first
pub none_met : (places all : List Where) → IsNotStripped places all → Decides false (all ≡ places)
none_met places all none = (λ t. absurd cc, λ h. absurd (none [] (h ∙ sym (append-nil places))))

-- no words of bits stand nowhere
pub empty_decides : (maps : List MapEnd) (b : Bool) → b ≡ (length maps == 0) → Decides b (wheres maps ≡ [])
empty_decides [] b e = (λ t. refl, λ h. e)
empty_decides (m ∷ ms) b e = (λ t. absurd (no b t (e ∙ zero_not (length ms))), λ h. absurd (long h))
  where
    no : (b : Bool) → b ≡ true → b ≡ false → ⊥
    no b t e = cc

    long : wheres (m ∷ ms) ≡ [] → ⊥
    long h = let n : suc (length (wheres ms)) ≡ 0 = ap length h in absurd (omega arith)
