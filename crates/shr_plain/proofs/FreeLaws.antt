-- SPDX-License-Identifier: GPL-2.0-only
-- Journals of units with one entry more.
use Rattle.shr_plain.proofs.Common.{◌≡◌, ℕ, ◌≤◌, List, [], ◌∷◌, ◌++◌, sym, refl, subst, arith, append_assoc, append-nil, PlainEntry, Release, Grab, Reclaim, free_of, IsPlainEntry, fold, free_after, IsPlainJournal}
use Rattle.shr_model.specs.Follow.{Follow}

free_from_push : (n : ℕ) (es : List PlainEntry) (e : PlainEntry) → fold free_after n (es ++ e ∷ []) ≡ free_after (fold free_after n es) e
free_from_push n [] e = refl
free_from_push n (x ∷ es) e = free_from_push (free_after n x) es e

-- the free units after one entry more
pub free_push : (es : List PlainEntry) (e : PlainEntry) → free_of (es ++ e ∷ []) ≡ free_after (free_of es) e
free_push es e = free_from_push 0 es e

free_low : (before : List PlainEntry) (e : PlainEntry) → free_of before ≤ 20000 → IsPlainEntry before e → free_after (free_of before) e ≤ 20000
free_low before (Release by units) low is = is
free_low before (Grab by got) low is = omega (arith, low)
free_low before (Reclaim worker walk asked freed) low is = omega (arith, low)

still_low : (before es : List PlainEntry) → free_of before ≤ 20000 → Follow IsPlainEntry before es → free_of (before ++ es) ≤ 20000
still_low before [] low all = subst (λ (l : List PlainEntry). free_of l ≤ 20000) (sym (append-nil before)) low
still_low before (e ∷ es) low all = subst (λ (l : List PlainEntry). free_of l ≤ 20000) (append_assoc before (e ∷ []) es)
    (still_low (before ++ e ∷ []) es (let more = free_push before e in let after = free_low before e low all.0 in omega (arith, more, after)) all.1)

-- a journal leaves at most 20,000 units free
pub journal_low : (journal : List PlainEntry) → IsPlainJournal journal → free_of journal ≤ 20000
journal_low journal is = still_low [] journal (omega arith) is
