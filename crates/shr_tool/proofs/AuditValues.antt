-- SPDX-License-Identifier: GPL-2.0-only
-- Where a script ends, at known bytes.
use Rattle.shr_tool.proofs.Common.{◌≡◌, inl, inr, [], ◌∷◌, refl, codes, IsOtherLine, AreOtherLines, IsSplit}
use Rattle.shr_tool.proofs.OneSplit.{one_split}

-- no line
no_lines : AreOtherLines []
no_lines = record { lines = []; others = tt; are = refl }

-- a line of another word
a_line : IsOtherLine (codes "a")
a_line = record { one = refl; other = λ e. absurd cc }

one_line : AreOtherLines (codes "a\n")
one_line = record { lines = codes "a" ∷ []; others = (a_line, tt); are = refl }

-- the first line that is `end` is the script's last
first_end : IsSplit (codes "end\nend\n") (codes "end\n") (codes "end\n")
first_end = record { whole = refl; ending = inl (record { before = []; others = no_lines; is = refl }) }

behind_a_line : IsSplit (codes "a\nend\nreport") (codes "a\nend\n") (codes "report")
behind_a_line = record { whole = refl; ending = inl (record { before = codes "a\n"; others = one_line; is = refl }) }

-- and no later one is
not_the_last : IsSplit (codes "end\nend\n") (codes "end\nend\n") [] → ⊥
not_the_last h = let e : codes "end\nend\n" ≡ codes "end\n" = (one_split (codes "end\nend\n") (codes "end\nend\n") [] (codes "end\n") (codes "end\n") h first_end).0 in absurd cc

-- `end` without a line feed ends none
open_end : IsSplit (codes "a\nend") (codes "a\nend") []
open_end = record { whole = refl; ending = inr (record { before = codes "a\n"; last = codes "end"; others = one_line; one = refl; is = refl }, refl) }

-- a line that is `end` is no other line, and two lines are none
end_is_no_other : IsOtherLine (codes "end") → ⊥
end_is_no_other h = h.other refl

two_are_none : IsOtherLine (codes "a\nb") → ⊥
two_are_none h = absurd (let e = h.one in cc)
