-- SPDX-License-Identifier: GPL-2.0-only
-- Parts of a text that are printed one after the other.
use Rattle.std.proofs.Common.{◌≡◌, ℕ, List, [], ◌++◌, Option, sym, ◌∙◌, append_assoc}
use Rattle.shr_outside.specs.declared.paper.Paper.{Paper}
use Rattle.shr_outside.specs.Paper.{Prints, PrintsTo}

module _ {K : Type 0} (written : K → Option (List ℕ)) (faults : K → ℕ) where
  -- the same text
  pub prints_as : (a b : Paper K) (xs ys : List ℕ) → Prints written faults a b xs → xs ≡ ys → Prints written faults a b ys
  prints_as a b xs ys p e = (p.0, λ task left h. p.1 task left (rw (sym e) at h))

  -- two parts
  pub prints_both : (a b c : Paper K) (xs ys : List ℕ) → Prints written faults a b xs → Prints written faults b c ys → Prints written faults a c (xs ++ ys)
  prints_both a b c xs ys p q = (q.0 ∙ p.0, λ task left h. q.1 task left (p.1 task (ys ++ left) (rw (append_assoc xs ys left) at h)))

  -- a part more of what is left
  pub prints_part : (a b c : Paper K) (whole rest part next : List ℕ) → PrintsTo written faults a b whole rest → Prints written faults b c part → rest ≡ part ++ next → PrintsTo written faults a c whole next
  prints_part a b c whole rest part next p q e = (q.0 ∙ p.0, λ task left h. q.1 task (next ++ left) (rw (e, append_assoc part next left) at (p.1 task left h)))

  -- nothing is left
  pub prints_all : (a b : Paper K) (whole rest : List ℕ) → PrintsTo written faults a b whole rest → rest ≡ [] → Prints written faults a b whole
  prints_all a b whole rest p e = (p.0, λ task left h. rw e at (p.1 task left h))
