-- SPDX-License-Identifier: GPL-2.0-only
-- The journal of one pool on one node, and how many of its units are free.
use Rattle.std.specs.Prelude.{◌≡◌, ℕ, ◌+◌, ◌-◌, ◌≤◌, nat_le, min, cond, List, [], fold}
use Rattle.shr_base.specs.declared.journals.PlainEntry.{PlainEntry}
use Rattle.shr_base.specs.declared.journals.PlainEntry.TheVariants.{Release, Grab, Reclaim}
use Rattle.shr_model.specs.Follow.{Follow}

-- how many units are free after an entry, of so many before it
abbrev pub free_after : ℕ → PlainEntry → ℕ
free_after free (Release by units) = free + units
free_after free (Grab by got) = free - cond got 1 0
free_after free (Reclaim worker walk asked freed) = free - freed

-- how many units a journal leaves free
abbrev pub free_of : List PlainEntry → ℕ
free_of journal = fold free_after 0 journal

-- the outcome of an entry behind these: a Release leaves at most 20,000 units free, a Grab got one
-- exactly where one was free, and a Reclaim freed the lesser of what it asked and what was free
abbrev pub IsPlainEntry : List PlainEntry → PlainEntry → Type 0
IsPlainEntry before (Release by units) = free_of before + units ≤ 20000
IsPlainEntry before (Grab by got) = got ≡ nat_le 1 (free_of before)
IsPlainEntry before (Reclaim worker walk asked freed) = freed ≡ min asked (free_of before)

-- each entry has the outcome that those before it leave it
abbrev pub IsPlainJournal : List PlainEntry → Type 0
IsPlainJournal journal = Follow IsPlainEntry [] journal
