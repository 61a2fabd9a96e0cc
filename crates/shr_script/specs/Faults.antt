-- SPDX-License-Identifier: GPL-2.0-only
-- The first fault of bytes that spell no script, and the reading of lines.
use Rattle.std.specs.Prelude.{◌≡◌, ℕ, ◌+◌, Bool, true, false, ◌&&◌, if◌then◌else◌, List, [], ◌∷◌, ◌++◌, length, bytes_eq, Option, Some, None, Result, Ok, Err}
use Rattle.shr_base.specs.declared.scripts.Code.{Code}
use Rattle.shr_base.specs.declared.scripts.Code.TheVariants as codes_of
use Rattle.shr_model.specs.Pieces.{pieces, joined}
use Rattle.shr_words.specs.Classes.{◌>>=◌, Word}
use Rattle.shr_script.specs.Lines.{State, start, Line, after}
use Rattle.shr_script.specs.LineReading.{line_of}
use Rattle.shr_script.specs.Script.{spell_lines, state_after_lines, AreLines, is_end_read}

-- ---- faults

-- The verdict on a part between line feeds: None where the script is complete, and nothing follows.
-- The last part has no line feed.
abbrev pub part_verdict : Bool → State → Word → Bool → Result (Option Line) Code
part_verdict true st part last = if last && bytes_eq part [] then Ok None else Err codes_of.Trailing
part_verdict false st part last = if last then Err codes_of.NoEnd else (line_of st (pieces 32 part) >>= λ l. Ok (Some l))

-- what is said of a part after these lines: a line, the end of a complete script, or a code
unfoldable pub verdict : State → Word → Bool → Result (Option Line) Code
verdict st part last = part_verdict (is_end_read st.phase) st part last

-- no part follows
abbrev pub is_last : List Word → Bool
is_last [] = true
is_last (p ∷ ps) = false

-- The bytes are lines that are good, and then a part that is bad: the first bad line is the one
-- behind them, and its code is the verdict on that part.
pub record IsFaultFrom (st : State) (first : ℕ) (bytes : List ℕ) (line : ℕ) (code : Code) : Type 0 where
  pub good : List Line
  pub part : Word
  pub others : List Word
  pub are_good : AreLines st good
  pub bytes_are : bytes ≡ spell_lines st good ++ joined 10 part others
  pub parted : pieces 10 (joined 10 part others) ≡ part ∷ others
  pub line_is : line ≡ length good + first
  pub bad : verdict (state_after_lines st good) part (is_last others) ≡ Err code

-- the first bad line of the bytes has this number and this code
abbrev pub IsFault : List ℕ → ℕ → Code → Type 0
IsFault bytes line code = IsFaultFrom start 1 bytes line code

-- ---- reading

-- the number of a line, and its code
abbrev pub Fault : Type 0
Fault = ℕ × Code

infixl 10 ◌>>>◌
-- what was read is handed on, and the first fault ends the reading
abbrev pub ◌>>>◌ : {A B : Type 0} → Result A Fault → (A → Result B Fault) → Result B Fault
(Ok x) >>> f = f x
(Err e) >>> f = Err e

-- a code becomes the fault of this line
abbrev pub at_line : {A : Type 0} → ℕ → Result A Code → Result A Fault
at_line n (Ok x) = Ok x
at_line n (Err code) = Err (n, code)

-- nothing more where the script is complete, and else the line and those behind it
abbrev pub behind : Option Line → (Line → Result (List Line) Fault) → Result (List Line) Fault
behind None f = Ok []
behind (Some l) f = f l >>> λ ls. Ok (l ∷ ls)

-- the lines that these parts are, the first of which has this number, or their first fault
unfoldable pub lines_from : State → ℕ → List Word → Result (List Line) Fault
lines_from st n [] = Err (n, codes_of.NoEnd)
lines_from st n (p ∷ ps) = at_line n (verdict st p (is_last ps)) >>> λ v. behind v (λ l. lines_from (after st l.0 l.1) (n + 1) ps)

-- the lines that the bytes are, or their first fault
abbrev pub lines_read : List ℕ → Result (List Line) Fault
lines_read bytes = lines_from start 1 (pieces 10 bytes)
