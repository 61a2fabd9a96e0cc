-- SPDX-License-Identifier: GPL-2.0-only
-- What a run says of the bytes.
use Rattle.shr_script.proofs.Common.{◌≡◌, Bool, ℕ, List, Some, Result, Ok, Err, sym, ap, subst, ◌∙◌, ◌⊎◌, inl, inr, refl, Code, pieces, next_part, Word, said_state, State, Line, start, IsScript, IsFault, Fault, lines_read, ◌>>>◌, state_after_lines, is_last, Content, lines_of, Drafted, drafted, empty, content_by, part_step, run_from, run_of, spell_lines, IsSpelling, made_by, Ends, error_at, Runs, ReadsScript, IsCause, TellsFault}
use Rattle.shr_script.specs.declared.stopped.Stopped.{Stopped}
use Rattle.shr_script.specs.declared.stopped.Stopped.TheVariants as stops
use Rattle.shr_script.specs.declared.draft.Draft.{Draft}
use Rattle.shr_script.specs.declared.said.Said.{Said}
use Rattle.shr_script.specs.declared.read.ReadError.{ReadError}
use Rattle.shr_script.specs.declared.read.ReadError.TheVariants as errors
use Rattle.shr_script.proofs.RunLaws.{run_is, made, run_fails}
use Rattle.shr_script.proofs.ScriptLaws.{bind_line, script_takes, script_again, fault_takes, fault_again}
use Rattle.shr_script.proofs.MadeLaws.{content_made, lines_of-made, parents-made}
use Rattle.shr_script.proofs.ContentLaws.{content_made-lines_of}

run_lines : (bytes : List ℕ) → run_of bytes ≡ (lines_read bytes >>> made start empty)
run_lines bytes = run_is start empty 1 (pieces 10 bytes)

abbrev good : State × Drafted → Result (State × Drafted) Fault
good x = Ok x

abbrev bad : Fault → Result (State × Drafted) Fault
bad f = Err f

good_is : (x y : State × Drafted) → good x ≡ good y → x ≡ y
good_is x y e = cc

bad_is : (f g : Fault) → bad f ≡ bad g → f ≡ g
bad_is f g e = cc

-- the lines of a script spell what they make
pub made_spells : (bytes : List ℕ) (ls : List Line) → IsScript ls → bytes ≡ spell_lines start ls → IsSpelling bytes (content_made ls)
made_spells bytes ls h e =
    let same = lines_of-made ls h in
    record {
      valid = record { lines = subst IsScript (sym same) h; parents = parents-made ls h };
      spelled = e ∙ ap (spell_lines start) (sym same);
    }

-- bytes whose run ended well spell the script that it drafted
pub is_read : (bytes : List ℕ) (said : Said) (draft : Draft) → run_of bytes ≡ Ok (said_state said, drafted draft) → IsSpelling bytes (content_by (said_state said) (drafted draft))
is_read bytes said draft e =
    let a = bind_line (lines_read bytes) (made start empty) (said_state said, drafted draft) (sym (run_lines bytes) ∙ e) in
    let t = script_takes bytes a.0 a.1 in
    let m = good_is (state_after_lines start a.0, made_by start empty a.0) (said_state said, drafted draft) a.2 in
    subst (IsSpelling bytes) (ap (λ (x : State × Drafted). content_by x.0 x.1) m) (made_spells bytes a.0 t.1 t.0)

-- what a spelling gives
spelled_runs : (bytes : List ℕ) (t : Content) → IsSpelling bytes t → run_of bytes ≡ Ok (state_after_lines start (lines_of t), made_by start empty (lines_of t))
spelled_runs bytes t h = run_lines bytes ∙ ap (λ (r : Result (List Line) Fault). r >>> made start empty) (ap lines_read h.spelled ∙ script_again (lines_of t) h.valid.lines)

-- such bytes spell no other script
pub only_read : (bytes : List ℕ) (said : Said) (draft : Draft) → run_of bytes ≡ Ok (said_state said, drafted draft) → (t : Content) → IsSpelling bytes t → content_by (said_state said) (drafted draft) ≡ t
only_read bytes said draft e t h =
    let m = good_is (said_state said, drafted draft) (state_after_lines start (lines_of t), made_by start empty (lines_of t)) (sym e ∙ spelled_runs bytes t h) in
    ap (λ (x : State × Drafted). content_by x.0 x.1) m ∙ content_made-lines_of t h.valid

-- bytes whose run failed for a fault spell no script
pub only_failed : (bytes : List ℕ) (e : ReadError) → Runs (Err e) (run_of bytes) → (t : Content) → IsSpelling bytes t → ReadsScript (Err e) t
only_failed bytes (errors.Fault line code) r t h = let both : good (state_after_lines start (lines_of t), made_by start empty (lines_of t)) ≡ bad (line, code) = sym (spelled_runs bytes t h) ∙ r in cc
only_failed bytes errors.Memory r t h = tt

failed_lines : (r : Result (List Line) Fault) (f : Fault) → (r >>> made start empty) ≡ bad f → r ≡ Err f
failed_lines (Ok ls) f e = absurd cc
failed_lines (Err g) f e = ap (λ (x : Fault). Err x) (bad_is g f e)

-- a run that failed for a fault tells the first bad line
pub is_cause : (bytes : List ℕ) (e : ReadError) → Runs (Err e) (run_of bytes) → IsCause e bytes
is_cause bytes (errors.Fault line code) r = fault_takes bytes line code (failed_lines (lines_read bytes) (line, code) (sym (run_lines bytes) ∙ r))
is_cause bytes errors.Memory r = tt

fault_runs : (bytes : List ℕ) (line : ℕ) (code : Code) → IsFault bytes line code → run_of bytes ≡ Err (line, code)
fault_runs bytes line code h = run_lines bytes ∙ ap (λ (r : Result (List Line) Fault). r >>> made start empty) (fault_again bytes line code h)

-- bytes whose run ended well have no fault
pub told_read : (bytes : List ℕ) (said : Said) (draft : Draft) → run_of bytes ≡ Ok (said_state said, drafted draft) → (line : ℕ) (code : Code) → IsFault bytes line code → ⊥
told_read bytes said draft e line code h = let both : good (said_state said, drafted draft) ≡ bad (line, code) = sym e ∙ fault_runs bytes line code h in cc

-- a run that failed for a fault tells the one that the bytes have
pub told_failed : (bytes : List ℕ) (e : ReadError) → Runs (Err e) (run_of bytes) → (line : ℕ) (code : Code) → IsFault bytes line code → TellsFault (Err e) (line, code)
told_failed bytes (errors.Fault l c) r line code h = bad_is (l, c) (line, code) (sym r ∙ fault_runs bytes line code h)
told_failed bytes errors.Memory r line code h = tt

-- a part that stops the reading stops the run at its line
pub run_stops : (st : State) (d : Drafted) (n : ℕ) (parts : List Word) (p : Word) (ps : List Word) (last : Bool) (x : State × Drafted) (e : Stopped) (total : Result (State × Drafted) Fault) → Some (p, ps) ≡ next_part parts → last ≡ is_last ps
    → Ends x (Err e) (part_step st d p last) → run_from st d n parts ≡ total → Runs (Err (error_at n e)) total
run_stops st d n parts p ps last x (stops.Bad code) total e is h so_far = run_fails st d n parts p ps last code total e is h so_far
run_stops st d n parts p ps last x stops.Memory total e is h so_far = tt

-- ---- the definitions alone

abbrev read : List Line → Result (List Line) Fault
read ls = Ok ls

abbrev refused : Fault → Result (List Line) Fault
refused f = Err f

refused_is : (f g : Fault) → refused f ≡ refused g → f ≡ g
refused_is f g e = cc

-- bytes have one fault at most
pub same_fault : (bytes : List ℕ) (line other : ℕ) (code another : Code) → IsFault bytes line code → IsFault bytes other another → (line ≡ other) × (code ≡ another)
same_fault bytes line other code another g h =
    let p = refused_is (line, code) (other, another) (sym (fault_again bytes line code g) ∙ fault_again bytes other another h) in
    (ap (λ (f : Fault). f.0) p, ap (λ (f : Fault). f.1) p)

-- bytes that spell a script have no fault
pub faultless : (bytes : List ℕ) (t : Content) (line : ℕ) (code : Code) → IsSpelling bytes t → IsFault bytes line code → ⊥
faultless bytes t line code g h =
    let both : read (lines_of t) ≡ refused (line, code) = sym (script_again (lines_of t) g.valid.lines) ∙ ap lines_read (sym g.spelled) ∙ fault_again bytes line code h in cc

-- bytes are the spelling of a script, or they have a fault
pub either_way : (bytes : List ℕ) → ((t : Content) × IsSpelling bytes t) ⊎ ((f : Fault) × IsFault bytes f.0 f.1)
either_way bytes = by (lines_read bytes) refl
  where
    by : (r : Result (List Line) Fault) → lines_read bytes ≡ r → ((t : Content) × IsSpelling bytes t) ⊎ ((f : Fault) × IsFault bytes f.0 f.1)
    by (Ok ls) e = let t = script_takes bytes ls e in inl (content_made ls, made_spells bytes ls t.1 t.0)
    by (Err f) e = inr (f, fault_takes bytes f.0 f.1 e)
