-- SPDX-License-Identifier: GPL-2.0-only
-- The fields of a lookup word: declaration 63 to 56, phase 55 to 40, lookups 39 to 8, references 7
-- to 0.
use Rattle.std.specs.Prelude.{ℕ, ◌-◌, ◌/◌, ◌%◌, ◌^◌}
use Rattle.shr_base.specs.declared.ends.LookupWord.{LookupWord}

-- the references in a lookup word
abbrev pub refs_of : ℕ → ℕ
refs_of w = w % 256

-- the number of lookups in a lookup word, which is the number of the next one
abbrev pub lookups_of : ℕ → ℕ
lookups_of w = w / 256 % 2 ^ 32

-- the phase in a lookup word; modulo 3 it is 0 for idle, 1 for live, 2 for dying
abbrev pub phase_in : ℕ → ℕ
phase_in w = w / 2 ^ 40 % 2 ^ 16

-- the declaration in a lookup word
abbrev pub decl_in : ℕ → ℕ
decl_in w = w / 2 ^ 56

-- a lookup word taken apart
abbrev pub word_in : ℕ → LookupWord
word_in w = record { decl = decl_in w; phase = phase_in w; lookups = lookups_of w; refs = refs_of w }

-- from so many lookups on an id is looked up no more: the rest is for seats that have loaded the word and not yet added
abbrev pub last_lookups : ℕ
last_lookups = 2 ^ 32 - 256
