-- SPDX-License-Identifier: GPL-2.0-only
-- What the answers of a shrinker's two calls say.
use Rattle.std.specs.Prelude.{ℕ, ◌≤◌, List, [], ◌∷◌, ◌++◌}
use Rattle.shr_pass.specs.declared.answers.Count.{Count}
use Rattle.shr_pass.specs.declared.answers.Count.TheVariants.{Empty, Skip, Many}
use Rattle.shr_pass.specs.declared.answers.ScanSeen.{ScanSeen}
use Rattle.shr_pass.specs.declared.answers.ScanAnswer.{ScanAnswer}
use Rattle.shr_pass.specs.declared.answers.ScanAnswer.TheVariants.{Freed, Closed, Stop, NoRoom, Worn}

-- a number of objects that a pass can work with
abbrev pub IsCountable : ℕ → Type 0
IsCountable len = (1 ≤ len) × (len ≤ 1048576)

-- a count that isn't Empty is of a number that a pass can work with
abbrev pub CountFits : Count → Type 0
CountFits (Empty version) = Unit {0}
CountFits (Skip len version) = IsCountable len
CountFits (Many len version) = IsCountable len

-- P holds where the count is Empty
abbrev pub IfEmpty : Count → Type 0 → Type 0
IfEmpty (Empty version) P = P
IfEmpty (Skip len version) P = Unit {0}
IfEmpty (Many len version) P = Unit {0}

-- no more was freed than was asked
abbrev pub FreesAtMost : ℕ → ScanAnswer → Type 0
FreesAtMost asked (Freed objects) = objects ≤ asked
FreesAtMost asked Closed = Unit {0}
FreesAtMost asked Stop = Unit {0}
FreesAtMost asked NoRoom = Unit {0}
FreesAtMost asked (Worn spent) = Unit {0}

-- the scans that freed, with one more call
abbrev pub scans_with : List ScanSeen → ℕ → ScanAnswer → List ScanSeen
scans_with xs asked (Freed objects) = xs ++ (record { asked = asked; freed = objects }) ∷ []
scans_with xs asked Closed = xs
scans_with xs asked Stop = xs
scans_with xs asked NoRoom = xs
scans_with xs asked (Worn spent) = xs

-- 1 for an answer of Closed
abbrev pub closed_by : ScanAnswer → ℕ
closed_by (Freed objects) = 0
closed_by Closed = 1
closed_by Stop = 0
closed_by NoRoom = 0
closed_by (Worn spent) = 0
