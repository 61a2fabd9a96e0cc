-- SPDX-License-Identifier: GPL-2.0-only
use Rattle.std.proofs.Common.{◌≡◌, ◌∙◌, ℕ, List, ◌++◌, Option, Some, None, Bor, ap}
use Rattle.std.specs.Prelude.{◌≢◌, IfSome, MatchOption, codes}
use Rattle.std.proofs.lemmas.Slice.Eq.{strip_prefix_is}
use Rattle.std.proofs.lemmas.Bool.Decides.{Decides-eqb}
use Rattle.shr_model.specs.PieceParts.{left}
use Rattle.shr_model.specs.Pieces.{pieces}
use Rattle.shr_script.proofs.line.behind_put.Goals as goal

-- the parts of bytes that begin so
begins : (s p q : List ℕ) (r : Option (Bor (List ℕ))) → p ≡ q → MatchOption r ((rest : List ℕ) → s ≢ p ++ rest) (λ x. s ≡ p ++ x.now)
    → IfSome r (λ x. pieces 32 s ≡ pieces 32 (q ++ x.now))
begins s p q None e h = tt
begins s p q (Some x) e h = ap (pieces 32) h ∙ ap (λ (v : List ℕ). pieces 32 (v ++ x.now)) e

pub returns-in-Some : goal.returns-in-Some
unfolding left
returns-in-Some c =
    let s = c.in-Some.bytes.now in
    let put = c.as_slice.result.now in
    let found = strip_prefix_is Decides-eqb s put c.strip_prefix.result c.strip_prefix.ensures.cases in
    rw c.in-Some.is (begins s put (codes "put ") c.strip_prefix.result c.as_slice.ensures found)
