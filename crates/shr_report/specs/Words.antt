-- SPDX-License-Identifier: GPL-2.0-only
-- The text of a word.
use Rattle.std.specs.Prelude.{ℕ, List, ◌∷◌, map}
use Rattle.shr_laws.specs.Lines.{numeral}
use Rattle.shr_report.specs.declared.lines.Word.{Word}
use Rattle.shr_report.specs.declared.lines.Word.TheVariants.{Text, Value, Number}

-- a word as it is printed
abbrev pub word_text : Word → List ℕ
word_text (Text t) = t.now
word_text (Value v) = 61 ∷ v.now
word_text (Number n) = numeral n

-- words as they are printed
abbrev pub word_texts : List Word → List (List ℕ)
word_texts words = map word_text words
