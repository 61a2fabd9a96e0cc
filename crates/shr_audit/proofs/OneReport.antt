-- SPDX-License-Identifier: GPL-2.0-only
-- Bytes are the text of one report whose lists have no room to spare.
use Rattle.shr_audit.proofs.Common.{◌≡◌, ℕ, List, [], ◌∷◌, sym, subst, ◌∙◌, Report, nothing_read, with_said}
use Rattle.shr_model.specs.Pieces.{pieces}
use Rattle.shr_audit_text.specs.declared.said.Said.{Said}
use Rattle.shr_audit_text.specs.Reading.{Says, Reads, IsReportOf}
use Rattle.shr_audit_text.proofs.Whole.{reads_of}
use Rattle.shr_model.proofs.Lists.{some_injective}

one_said : (version : ℕ) (line : List ℕ) (x y : Said) → Says version line x → Says version line y → x ≡ y
one_said version line x y h k = some_injective x y (sym h.is ∙ k.is)

-- lines make one report of what was read before them
one_reads : (ls : List (List ℕ)) (before r s : Report) → Reads ls before r → Reads ls before s → r ≡ s
unfolding Reads
one_reads [] before r s h k = absurd h
one_reads (line ∷ []) before r s h k = sym h.1 ∙ k.1
one_reads (line ∷ next ∷ ls) before r s h k =
    one_reads (next ∷ ls) (with_said h.0 before) r s h.1.1 (subst (λ (x : Said). Reads (next ∷ ls) (with_said x before) s) (sym (one_said before.version line h.0 k.0 h.1.0 k.1.0)) k.1.1)

pub one_report : (bytes : List ℕ) (r s : Report) → IsReportOf bytes r → IsReportOf bytes s → r ≡ s
one_report bytes r s h k = one_reads (pieces 10 bytes) nothing_read r s (reads_of bytes r h) (reads_of bytes s k)
