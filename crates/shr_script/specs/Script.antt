-- SPDX-License-Identifier: GPL-2.0-only
-- A script as lines, its spelling, and its faults.
use Rattle.std.specs.Prelude.{◌≡◌, ℕ, Bool, true, false, List, [], ◌∷◌, ◌++◌, Some, Ok}
use Rattle.shr_model.specs.Pieces.{joined}
use Rattle.shr_words.specs.Classes.{Word, words_of, AreOf}
use Rattle.shr_script.specs.declared.kind.Phase.{Phase}
use Rattle.shr_script.specs.declared.kind.Phase.TheVariants.{Done}
use Rattle.shr_script.specs.Lines.{State, start, Line, first_word, classes, allowed, own, after}

-- ---- the one spelling of lines

-- the words of a line, with one space between each two
abbrev pub line_text : State → Line → Word
line_text st l = joined 32 (first_word l.0) (words_of (classes st l.0) l.1)

-- the bytes of these lines, each with its line feed, in what was said before them
unfoldable pub spell_lines : State → List Line → List ℕ
spell_lines st [] = []
spell_lines st (l ∷ ls) = line_text st l ++ (10 ∷ spell_lines (after st l.0 l.1) ls)

-- what these lines have said
unfoldable pub state_after_lines : State → List Line → State
state_after_lines st [] = st
state_after_lines st (l ∷ ls) = state_after_lines (after st l.0 l.1) ls

-- the line may stand here, its words are of their classes, and it keeps its own rule
pub record IsLine (st : State) (l : Line) : Type 0 where
  pub stands : allowed st.version st.phase (Some l.0) ≡ Ok l.0
  pub words : AreOf (classes st l.0) l.1
  pub rule : own st l.0 l.1 ≡ Ok tt

-- each of the lines may stand where it does, after those before it
unfoldable pub AreLines : State → List Line → Type 0
AreLines st [] = Unit {0}
AreLines st (l ∷ ls) = IsLine st l × AreLines (after st l.0 l.1) ls

-- the end line was read
abbrev pub is_end_read : Phase → Bool
is_end_read Done = true
is_end_read p = false

-- from the header to the end
pub record IsScript (ls : List Line) : Type 0 where
  pub lines : AreLines start ls
  pub ended : is_end_read (state_after_lines start ls).phase ≡ true
