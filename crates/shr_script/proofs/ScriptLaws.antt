-- SPDX-License-Identifier: GPL-2.0-only
-- Scripts that are read are spelled so, scripts that are spelled are read, and a fault is that of
-- the first bad line.
use Rattle.shr_script.proofs.Common.{◌≡◌, ℕ, suc, ◌+◌, Bool, true, false, cond, List, [], ◌∷◌, ◌++◌, length, Option, Some, None, Result, Ok, Err, refl, sym, ap, subst, ◌∙◌, append_assoc, arith, inl, inr, ◌⊎◌, bytes_eq, append-nil, bytes_eq-Decides, Code, Word, words_of, and_true, bind_ok, ok_is, Kind, Phase, Start, Sizes, Groups, Caches, Pools, Workers, Swept, Done, State, start, Line, first_word, misplaced, unless, allowed, classes, after, as_header, IsLine, is_end_read, IsScript, part_verdict, is_last, IsFault, Fault, ◌>>>◌, at_line, behind, lines_read, zero-add, list_all, cut_first, joined_cut, pieces_parts, pieces_joined, words_clean, line_parts, no_feed}
use Rattle.shr_base.specs.declared.scripts.Code.TheVariants as codes_of
use Rattle.shr_model.specs.Pieces.{cut, pieces, joined}
use Rattle.shr_model.specs.PieceParts.{is_part_of}
use Rattle.shr_script.specs.LineReading.{plain_line, line_of}
use Rattle.shr_script.specs.Script.{line_text, spell_lines, state_after_lines, AreLines}
use Rattle.shr_script.specs.Faults.{verdict, IsFaultFrom, lines_from}
use Rattle.shr_script.proofs.LineLaws.{first_clean, may_stand, line_takes, line_again}

-- ---- one line

header_ok : (p : Phase) (r : Result Line Code) (l : Line) → as_header p r ≡ Ok l → r ≡ Ok l
header_ok Start (Ok x) l e = e
header_ok Start (Err c) l e = absurd cc
header_ok Sizes r l e = e
header_ok Groups r l e = e
header_ok Caches r l e = e
header_ok Pools r l e = e
header_ok Workers r l e = e
header_ok Swept r l e = e
header_ok Done r l e = e

header_is : (p : Phase) (l : Line) → as_header p (Ok l) ≡ Ok l
header_is Start l = refl
header_is Sizes l = refl
header_is Groups l = refl
header_is Caches l = refl
header_is Pools l = refl
header_is Workers l = refl
header_is Swept l = refl
header_is Done l = refl

-- a part that is read as a line is the line's text
part_takes : (st : State) (part : Word) (l : Line) → line_of st (pieces 32 part) ≡ Ok l → (part ≡ line_text st l) × IsLine st l
unfolding line_of pieces
part_takes st part l e =
    let t = line_takes st (pieces 32 part) l (header_ok st.phase (plain_line st (pieces 32 part)) l e) in
    let p : (cut 32 part).first ∷ (cut 32 part).others ≡ first_word l.0 ∷ words_of (classes st l.0) l.1 = t.0 in
    let f : (cut 32 part).first ≡ first_word l.0 = cc in
    let o : (cut 32 part).others ≡ words_of (classes st l.0) l.1 = cc in
    (sym (joined_cut 32 part) ∙ rw (f, o) refl, t.1)

not_done : (version : ℕ) (p : Phase) (k : Kind) → allowed version p (Some k) ≡ Ok k → is_end_read p ≡ false
not_done version p k e = by p (may_stand version p k k e)
  where
    by : (q : Phase) → unless (misplaced q k) k ≡ Ok k → is_end_read q ≡ false
    by Start e = refl
    by Sizes e = refl
    by Groups e = refl
    by Caches e = refl
    by Pools e = refl
    by Workers e = refl
    by Swept e = refl
    by Done e = absurd cc

-- the text of a line is read as the line
pub verdict_again : (st : State) (l : Line) → IsLine st l → verdict st (line_text st l) false ≡ Ok (Some l)
unfolding verdict line_of
verdict_again st l h =
    let w = first_word l.0 in
    let ws = words_of (classes st l.0) l.1 in
    let parts : pieces 32 (joined 32 w ws) ≡ w ∷ ws = line_parts w ws (first_clean l.0) (words_clean (classes st l.0) l.1 h.words) in
    rw (not_done st.version st.phase l.0 h.stands, parts, line_again st l h, header_is st.phase l) refl

text_parts : (st : State) (l : Line) (rest : List ℕ) → IsLine st l → pieces 10 (line_text st l ++ (10 ∷ rest)) ≡ line_text st l ∷ pieces 10 rest
unfolding pieces
text_parts st l rest h =
    rw (cut_first 10 (line_text st l) rest (no_feed (first_word l.0) (words_of (classes st l.0) l.1) (first_clean l.0) (words_clean (classes st l.0) l.1 h.words))) refl

-- ---- good lines, and what follows

-- what was read before, and what is still read
abbrev pub with_front : List Line → Result (List Line) Fault → Result (List Line) Fault
with_front front read = read >>> λ ls. Ok (front ++ ls)

last_of : (bytes : List ℕ) → is_last (pieces 10 bytes) ≡ false
unfolding pieces
last_of bytes = refl

regroup : (l : Line) (front : List Line) (r : Result (List Line) Fault) → (with_front front r >>> λ ls. Ok (l ∷ ls)) ≡ with_front (l ∷ front) r
regroup l front (Ok x) = refl
regroup l front (Err e) = refl

front_none : (r : Result (List Line) Fault) → with_front [] r ≡ r
front_none (Ok x) = refl
front_none (Err e) = refl

-- the spelling of good lines is read as these, whatever follows
pub lines_again : (st : State) (n : ℕ) (ls : List Line) (rest : List ℕ) → AreLines st ls
    → lines_from st n (pieces 10 (spell_lines st ls ++ rest)) ≡ with_front ls (lines_from (state_after_lines st ls) (length ls + n) (pieces 10 rest))
unfolding lines_from spell_lines state_after_lines AreLines
lines_again st n [] rest h = let z : 0 + n ≡ n = omega arith in rw z (sym (front_none (lines_from st n (pieces 10 rest))))
lines_again st n (l ∷ ls) rest h =
    let next = after st l.0 l.1 in
    let more = spell_lines next ls ++ rest in
    let grouped : spell_lines st (l ∷ ls) ++ rest ≡ line_text st l ++ (10 ∷ more) = append_assoc (line_text st l) (10 ∷ spell_lines next ls) rest in
    let k : suc (length ls) + n ≡ length ls + (n + 1) = omega arith in
    ap (λ (bytes : List ℕ). lines_from st n (pieces 10 bytes)) grouped
    ∙ rw (text_parts st l more h.0, last_of more, verdict_again st l h.0, lines_again next (n + 1) ls rest h.1, k) (regroup l ls (lines_from (state_after_lines next ls) (length ls + (n + 1)) (pieces 10 rest)))

-- ---- the two laws of scripts

done_at : (st : State) (n : ℕ) → is_end_read st.phase ≡ true → lines_from st n (pieces 10 []) ≡ Ok []
unfolding lines_from verdict pieces cut
done_at st n h = rw h refl

front_all : (ls : List Line) → with_front ls (Ok []) ≡ Ok ls
front_all ls = ap (λ (x : List Line). Ok x) (append-nil ls)

-- the spelling of a script's lines is read as these lines
pub script_again : (ls : List Line) → IsScript ls → lines_read (spell_lines start ls) ≡ Ok ls
script_again ls h =
    ap (λ (bytes : List ℕ). lines_read bytes) (sym (append-nil (spell_lines start ls)))
    ∙ lines_again start 1 ls [] h.lines
    ∙ ap (with_front ls) (done_at (state_after_lines start ls) (length ls + 1) h.ended)
    ∙ front_all ls

-- a fault of bytes is what reading them gives
pub fault_again : (bytes : List ℕ) (line : ℕ) (code : Code) → IsFault bytes line code → lines_read bytes ≡ Err (line, code)
unfolding lines_from
fault_again bytes line code h =
    ap (λ (xs : List ℕ). lines_read xs) h.bytes_are
    ∙ lines_again start 1 h.good (joined 10 h.part h.others) h.are_good
    ∙ rw (h.parted, h.bad, sym h.line_is) refl

-- the parts of a script that is read are the spelling of its lines
pub bind_line : {A B : Type 0} (r : Result A Fault) (f : A → Result B Fault) (y : B) → (r >>> f) ≡ Ok y → (x : A) × (r ≡ Ok x) × (f x ≡ Ok y)
bind_line (Ok x) f y e = (x, refl, e)
bind_line (Err d) f y e = absurd cc

abbrev good : {A : Type 0} → A → Result A Fault
good x = Ok x

good_is : {A : Type 0} (x y : A) → good x ≡ good y → x ≡ y
good_is x y e = cc

at_ok : {A : Type 0} (n : ℕ) (r : Result A Code) (x : A) → at_line n r ≡ Ok x → r ≡ Ok x
at_ok {A} n (Ok y) x e = ap (λ (z : A). Ok z) (good_is y x e)
at_ok n (Err c) x e = absurd cc

-- a part spells a line that may stand here
pub record IsNext (st : State) (part : Word) (l : Line) : Type 0 where
  pub text : part ≡ line_text st l
  pub line : IsLine st l

abbrev done_with : Option Line → Result (Option Line) Code
done_with v = Ok v

some_is : (l m : Line) → Some l ≡ Some m → l ≡ m
some_is l m e = cc

none_some : (l : Line) → done_with (Some l) ≡ done_with None → ⊥
none_some l e = cc

ended_by : (t : Bool) (part : Word) → bytes_eq part [] ≡ t → cond t (done_with None) (Err codes_of.Trailing) ≡ Ok None → (true ≡ true) × (part ≡ [])
ended_by true part is e = (refl, (bytes_eq-Decides part []).0 is)
ended_by false part is e = absurd cc

line_by : (t : Bool) (l : Line) → cond t (done_with None) (Err codes_of.Trailing) ≡ Ok (Some l) → ⊥
line_by true l e = cc
line_by false l e = cc

ended_at : (b : Bool) (st : State) (part : Word) → part_verdict b st part true ≡ Ok None → (b ≡ true) × (part ≡ [])
ended_at true st part e = ended_by (bytes_eq part []) part refl e
ended_at false st part e = absurd cc

pub not_last : (b : Bool) (st : State) (part : Word) (l : Line) → part_verdict b st part true ≡ Ok (Some l) → ⊥
not_last true st part l e = line_by (bytes_eq part []) l e
not_last false st part l e = cc

not_ended : (b : Bool) (st : State) (part : Word) → part_verdict b st part false ≡ Ok None → ⊥
not_ended true st part e = cc
not_ended false st part e = let a = bind_ok (line_of st (pieces 32 part)) (λ l. Ok (Some l)) None e in none_some a.0 a.2

-- a part whose verdict is a line spells that line
pub next_at : (b : Bool) (st : State) (part : Word) (l : Line) → part_verdict b st part false ≡ Ok (Some l) → IsNext st part l
next_at true st part l e = absurd cc
next_at false st part l e =
    let a = bind_ok (line_of st (pieces 32 part)) (λ m. Ok (Some m)) (Some l) e in
    let t = part_takes st part a.0 a.1 in
    subst (λ (m : Line). IsNext st part m) (some_is a.0 l (ok_is (Some a.0) (Some l) a.2)) (record { text = t.0; line = t.1 })

-- bytes spell lines that may stand, up to the end line
pub record TakesLines (st : State) (bytes : List ℕ) (ls : List Line) : Type 0 where
  pub spelled : bytes ≡ spell_lines st ls
  pub lines : AreLines st ls
  pub ended : is_end_read (state_after_lines st ls).phase ≡ true

takes_end : (st : State) (n : ℕ) (part : Word) (ls : List Line) (v : Option Line) → verdict st part true ≡ Ok v → behind v (λ l. lines_from (after st l.0 l.1) (n + 1) []) ≡ Ok ls → TakesLines st part ls
unfolding verdict spell_lines state_after_lines AreLines
takes_end st n part ls None e f =
    let a = ended_at (is_end_read st.phase) st part e in
    subst (λ (ms : List Line). TakesLines st part ms) (good_is [] ls f) (record { spelled = a.1; lines = tt; ended = a.0 })
takes_end st n part ls (Some l) e f = absurd (not_last (is_end_read st.phase) st part l e)

takes_line : (st : State) (n : ℕ) (part q : Word) (qs : List Word) (ls : List Line) (v : Option Line) → verdict st part false ≡ Ok v → behind v (λ l. lines_from (after st l.0 l.1) (n + 1) (q ∷ qs)) ≡ Ok ls
    → ((l : Line) (ms : List Line) → lines_from (after st l.0 l.1) (n + 1) (q ∷ qs) ≡ Ok ms → TakesLines (after st l.0 l.1) (joined 10 q qs) ms) → TakesLines st (part ++ (10 ∷ joined 10 q qs)) ls
unfolding verdict spell_lines state_after_lines AreLines
takes_line st n part q qs ls None e f more = absurd (not_ended (is_end_read st.phase) st part e)
takes_line st n part q qs ls (Some l) e f more =
    let a = bind_line (lines_from (after st l.0 l.1) (n + 1) (q ∷ qs)) (λ ms. Ok (l ∷ ms)) ls f in
    let first = next_at (is_end_read st.phase) st part l e in
    let others = more l a.0 a.1 in
    subst (λ (ms : List Line). TakesLines st (part ++ (10 ∷ joined 10 q qs)) ms) (good_is (l ∷ a.0) ls a.2)
    (record { spelled = rw (← first.text, ← others.spelled) refl; lines = (first.line, others.lines); ended = others.ended })

-- parts that were read are the spelling of their lines
pub lines_take : (st : State) (n : ℕ) (part : Word) (parts : List Word) (ls : List Line) → lines_from st n (part ∷ parts) ≡ Ok ls → TakesLines st (joined 10 part parts) ls
unfolding lines_from joined
lines_take st n part [] ls e =
    let a = bind_line (at_line n (verdict st part true)) (λ v. behind v (λ l. lines_from (after st l.0 l.1) (n + 1) [])) ls e in
    takes_end st n part ls a.0 (at_ok n (verdict st part true) a.0 a.1) a.2
lines_take st n part (q ∷ qs) ls e =
    let a = bind_line (at_line n (verdict st part false)) (λ v. behind v (λ l. lines_from (after st l.0 l.1) (n + 1) (q ∷ qs))) ls e in
    takes_line st n part q qs ls a.0 (at_ok n (verdict st part false) a.0 a.1) a.2 (λ l ms m. lines_take (after st l.0 l.1) (n + 1) q qs ms m)

-- bytes that were read are the spelling of a script's lines
pub script_takes : (bytes : List ℕ) (ls : List Line) → lines_read bytes ≡ Ok ls → (bytes ≡ spell_lines start ls) × IsScript ls
unfolding pieces
script_takes bytes ls e =
    let t = lines_take start 1 (cut 10 bytes).first (cut 10 bytes).others ls e in
    (sym (joined_cut 10 bytes) ∙ t.spelled, record { lines = t.lines; ended = t.ended })

-- ---- the first bad line

abbrev err : Code → Result (Option Line) Code
err c = Err c

abbrev failed : Fault → Result (List Line) Fault
failed f = Err f

fault_is : (f g : Fault) → failed f ≡ failed g → f ≡ g
fault_is f g e = cc

behind_fault : (l : Line) (r : Result (List Line) Fault) (f : Fault) → (r >>> λ ls. Ok (l ∷ ls)) ≡ Err f → r ≡ Err f
behind_fault l (Ok ls) f e = absurd cc
behind_fault l (Err g) f e = ap (λ (x : Fault). failed x) (fault_is g f e)

fault_by : (st : State) (n : ℕ) (part : Word) (ps : List Word) (line : ℕ) (code : Code) (r : Result (Option Line) Code) → verdict st part (is_last ps) ≡ r → at_line n r >>> (λ v. behind v (λ l. lines_from (after st l.0 l.1) (n + 1) ps)) ≡ Err (line, code)
    → ((verdict st part (is_last ps) ≡ Err code) × (line ≡ n)) ⊎ ((l : Line) × (verdict st part (is_last ps) ≡ Ok (Some l)) × (lines_from (after st l.0 l.1) (n + 1) ps ≡ Err (line, code)))
fault_by st n part ps line code (Ok None) is e = absurd cc
fault_by st n part ps line code (Ok (Some l)) is e = inr (l, is, behind_fault l (lines_from (after st l.0 l.1) (n + 1) ps) (line, code) e)
fault_by st n part ps line code (Err c) is e =
    let p : (n, c) ≡ (line, code) = fault_is (n, c) (line, code) e in
    inl (is ∙ ap (λ (f : ℕ × Code). err f.1) p, sym (ap (λ (f : ℕ × Code). f.0) p))

here : (st : State) (n : ℕ) (part : Word) (parts : List Word) (line : ℕ) (code : Code) → list_all (is_part_of 10) (part ∷ parts) ≡ true → verdict st part (is_last parts) ≡ Err code → line ≡ n → IsFaultFrom st n (joined 10 part parts) line code
unfolding spell_lines state_after_lines AreLines
here st n part parts line code clean bad is =
    record { good = []; part = part; others = parts; are_good = tt; bytes_are = refl; parted = pieces_joined 10 part parts clean; line_is = is ∙ sym (zero-add n); bad = bad }

counted : (m n : ℕ) → m + (n + 1) ≡ suc m + n
counted m n = omega arith

later : (st : State) (n : ℕ) (part q : Word) (qs : List Word) (line : ℕ) (code : Code) (l : Line) → IsNext st part l → IsFaultFrom (after st l.0 l.1) (n + 1) (joined 10 q qs) line code → IsFaultFrom st n (part ++ (10 ∷ joined 10 q qs)) line code
unfolding spell_lines state_after_lines AreLines
later st n part q qs line code l next f =
    let rest = joined 10 f.part f.others in
    let spelled = spell_lines (after st l.0 l.1) f.good in
    let bytes : part ++ (10 ∷ joined 10 q qs) ≡ (line_text st l ++ (10 ∷ spelled)) ++ rest = rw (← next.text, f.bytes_are) (sym (append_assoc part (10 ∷ spelled) rest)) in
    let number : line ≡ length (l ∷ f.good) + n = f.line_is ∙ counted (length f.good) n in
    record { good = l ∷ f.good; part = f.part; others = f.others; are_good = (next.line, f.are_good); bytes_are = bytes; parted = f.parted; line_is = number; bad = f.bad }

-- parts whose reading failed have the fault that it tells
pub faults_take : (st : State) (n : ℕ) (part : Word) (parts : List Word) (line : ℕ) (code : Code) → list_all (is_part_of 10) (part ∷ parts) ≡ true → lines_from st n (part ∷ parts) ≡ Err (line, code) → IsFaultFrom st n (joined 10 part parts) line code
unfolding lines_from verdict joined
faults_take st n part [] line code clean e =
    elim (fault_by st n part [] line code (verdict st part true) refl e) [
      | inl h ↦ here st n part [] line code clean h.0 h.1
      | inr h ↦ absurd (not_last (is_end_read st.phase) st part h.0 h.1)
    ]
faults_take st n part (q ∷ qs) line code clean e =
    elim (fault_by st n part (q ∷ qs) line code (verdict st part false) refl e) [
      | inl h ↦ here st n part (q ∷ qs) line code clean h.0 h.1
      | inr h ↦
          let a = and_true (is_part_of 10 part) (list_all (is_part_of 10) (q ∷ qs)) clean in
          later st n part q qs line code h.0 (next_at (is_end_read st.phase) st part h.0 h.1) (faults_take (after st h.0.0 h.0.1) (n + 1) q qs line code a.1 h.2)
    ]

-- bytes whose reading failed have the fault that it tells
pub fault_takes : (bytes : List ℕ) (line : ℕ) (code : Code) → lines_read bytes ≡ Err (line, code) → IsFault bytes line code
unfolding pieces
fault_takes bytes line code e =
    subst (λ (xs : List ℕ). IsFault xs line code) (joined_cut 10 bytes) (faults_take start 1 (cut 10 bytes).first (cut 10 bytes).others line code (pieces_parts 10 bytes) e)

-- ---- no two lists of lines are spelled alike

abbrev read_as : List Line → Result (List Line) Fault
read_as ls = Ok ls

read_as_is : (ls ms : List Line) → read_as ls ≡ read_as ms → ls ≡ ms
read_as_is ls ms e = cc

-- no two scripts are spelled alike
pub once_lines : (ls ms : List Line) → IsScript ls → IsScript ms → spell_lines start ls ≡ spell_lines start ms → ls ≡ ms
once_lines ls ms g h e = read_as_is ls ms (sym (script_again ls g) ∙ ap lines_read e ∙ script_again ms h)
