-- SPDX-License-Identifier: GPL-2.0-only
-- Runs of two sections, of which one stands behind the other: what the laws of each give for both.
use Rattle.std.proofs.Common.{◌≡◌, ℕ, ◌+◌, ◌-◌, ◌≤◌, ⊎_elim, List, [], ◌++◌, refl, sym, ap, ◌∙◌, append_assoc, arith}
use Rattle.std.specs.Prelude.{min}
use Rattle.std.proofs.lemmas.List.{append-nil}
use Rattle.std.proofs.lemmas.Bool.{cases_lt}
use Rattle.shr_print.specs.Then.{then_text, then_known}

-- nothing between two texts of the first
glue_front : (p q r s t : List ℕ) → q ≡ [] → p ++ r ≡ t → (p ++ q) ++ (r ++ s) ≡ t ++ s
glue_front p q r s t none e = ap (λ x. (p ++ x) ++ (r ++ s)) none ∙ ap (λ x. x ++ (r ++ s)) (append-nil p) ∙ sym (append_assoc p r s) ∙ ap (λ x. x ++ s) e

-- nothing between two texts of the second
glue_back : (p q r s u : List ℕ) → r ≡ [] → q ++ s ≡ u → (p ++ q) ++ (r ++ s) ≡ p ++ u
glue_back p q r s u none e = ap (λ x. (p ++ q) ++ (x ++ s)) none ∙ append_assoc p q s ∙ ap (λ x. p ++ x) e

-- no item has no text
pub then_empty : (first second : ℕ → ℕ → List ℕ) (size n : ℕ) → ((k : ℕ) → first k k ≡ []) → ((k : ℕ) → second k k ≡ []) → then_text first second size n n ≡ []
then_empty first second size n f s = rw (f (min n size), s (n - size)) refl

-- all of both
pub then_whole : (first second : ℕ → ℕ → List ℕ) (size more : ℕ) → then_text first second size 0 (size + more) ≡ first 0 size ++ second 0 more
then_whole first second size more =
    let start : min 0 size ≡ 0 = omega arith in
    let end : min (size + more) size ≡ size = omega arith in
    let none : 0 - size ≡ 0 = omega arith in
    let rest : size + more - size ≡ more = omega arith in
    rw (start, end, none, rest) refl

-- the same of what is known
pub then_all : (first second : ℕ → ℕ → Type 0) (size more : ℕ) → first 0 size → second 0 more → then_known first second size 0 (size + more)
then_all first second size more f s =
    let start : min 0 size ≡ 0 = omega arith in
    let end : min (size + more) size ≡ size = omega arith in
    let none : 0 - size ≡ 0 = omega arith in
    let rest : size + more - size ≡ more = omega arith in
    (rw (start, end) f, rw (none, rest) s)

-- and back
pub then_parts : (first second : ℕ → ℕ → Type 0) (size more : ℕ) → then_known first second size 0 (size + more) → first 0 size × second 0 more
then_parts first second size more h =
    let start : min 0 size ≡ 0 = omega arith in
    let end : min (size + more) size ≡ size = omega arith in
    let none : 0 - size ≡ 0 = omega arith in
    let rest : size + more - size ≡ more = omega arith in
    (rw (start, end) at h.0, rw (none, rest) at h.1)

-- two runs of neighbours are one
pub then_joined : (first second : ℕ → ℕ → List ℕ) (size more from to end : ℕ) → ((k : ℕ) → first k k ≡ []) → ((k : ℕ) → second k k ≡ [])
    → ((a b c : ℕ) → a ≤ b → b ≤ c → c ≤ size → first a b ++ first b c ≡ first a c)
    → ((a b c : ℕ) → a ≤ b → b ≤ c → c ≤ more → second a b ++ second b c ≡ second a c)
    → from ≤ to → to ≤ end → end ≤ size + more → then_text first second size from to ++ then_text first second size to end ≡ then_text first second size from end
then_joined first second size more from to end f s fs ss le le' within = ⊎_elim
    (λ in_first.
    let same : from - size ≡ to - size = omega (arith, le, in_first) in
    let none = ap (λ k. second k (to - size)) same ∙ s (to - size) in
    let whole = fs (min from size) (min to size) (min end size) (omega (arith, le)) (omega (arith, le')) (omega arith) in
    glue_front (first (min from size) (min to size)) (second (from - size) (to - size)) (first (min to size) (min end size)) (second (to - size) (end - size)) (first (min from size) (min end size)) none whole
    ∙ ap (λ k. first (min from size) (min end size) ++ second k (end - size)) (sym same))
    (λ in_second.
    let same : min to size ≡ min end size = omega (arith, le', in_second) in
    let none = ap (λ k. first k (min end size)) same ∙ f (min end size) in
    let whole = ss (from - size) (to - size) (end - size) (omega (arith, le)) (omega (arith, le')) (omega (arith, within)) in
    glue_back (first (min from size) (min to size)) (second (from - size) (to - size)) (first (min to size) (min end size)) (second (to - size) (end - size)) (second (from - size) (end - size)) none whole
    ∙ ap (λ k. first (min from size) k ++ second (from - size) (end - size)) same)
    (cases_lt to size)

-- of no item all is known
pub then_none : (first second : ℕ → ℕ → Type 0) (size n : ℕ) → ((k : ℕ) → first k k) → ((k : ℕ) → second k k) → then_known first second size n n
then_none first second size n f s = (f (min n size), s (n - size))

-- what is known of two runs of neighbours is known of both
pub then_both : (first second : ℕ → ℕ → Type 0) (size more from to end : ℕ)
    → ((a b c : ℕ) → a ≤ b → b ≤ c → c ≤ size → first a b → first b c → first a c)
    → ((a b c : ℕ) → a ≤ b → b ≤ c → c ≤ more → second a b → second b c → second a c)
    → from ≤ to → to ≤ end → end ≤ size + more → then_known first second size from to → then_known first second size to end → then_known first second size from end
then_both first second size more from to end f s le le' within front next = (
  f (min from size) (min to size) (min end size) (omega (arith, le)) (omega (arith, le')) (omega arith) front.0 next.0,
  s (from - size) (to - size) (end - size) (omega (arith, le)) (omega (arith, le')) (omega (arith, within)) front.1 next.1,
)
