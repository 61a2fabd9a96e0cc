-- SPDX-License-Identifier: GPL-2.0-only
-- What drafts say, at known lines.
use Rattle.shr_audit_text.proofs.Common.{◌≡◌, ℕ, ◌+◌, [], ◌∷◌, None, refl, arith, codes, Report, kept, no_part, padded, with_reply, nothing_read}
use Rattle.shr_base.specs.declared.replies.Reply.TheVariants as reply
use Rattle.shr_model.specs.Pieces.{cut, pieces}
use Rattle.shr_model.specs.PieceParts.{left}
use Rattle.shr_report.specs.ReadWords.{num}
use Rattle.shr_audit_text.specs.declared.said.Said.TheVariants as said
use Rattle.shr_audit_text.specs.Said.{plain_kind_of}
use Rattle.shr_audit_text.specs.Draft.{with_last}
use Rattle.shr_audit_text.specs.Reading.{Reads, IsTight}

last_of_three : with_last (λ (n : ℕ). n + 10) (1 ∷ 2 ∷ 3 ∷ []) ≡ 1 ∷ 2 ∷ 13 ∷ []
unfolding with_last
last_of_three = refl

last_of_none : with_last (λ (n : ℕ). n + 10) [] ≡ []
unfolding with_last
last_of_none = refl

-- an answer of the third worker makes three parts, and its walks would be the third's
third_worker : with_reply 2 reply.Root [] ≡ no_part ∷ no_part ∷ record no_part { answers = kept (record { reply = reply.Root; found = None } ∷ []) } ∷ []
unfolding with_last
third_worker = refl

same_worker : padded 0 (no_part ∷ []) ≡ no_part ∷ []
same_worker = refl

-- one line that says the version, and a line feed at the end
version_read : Reads (codes "report 2" ∷ [] ∷ []) nothing_read (record nothing_read { version = 2 })
unfolding Reads left cut pieces plain_kind_of num
version_read = (said.Version 2, (record { is = refl; numbered = omega arith }, (refl, refl)))

-- without the line feed it isn't a line
no_line_feed : (r : Report) → Reads (codes "report 2" ∷ []) nothing_read r → ⊥
unfolding Reads
no_line_feed r h = no h.0
  where
    no : codes "report 2" ≡ [] → ⊥
    no e = cc

tight : IsTight {X = ℕ} (kept (1 ∷ []))
tight = refl

loose : IsTight {X = ℕ} (record { items = 1 ∷ []; spare = 2 }) → ⊥
loose h = absurd (omega arith)
