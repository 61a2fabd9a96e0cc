-- SPDX-License-Identifier: GPL-2.0-only
-- A run over the parts of a script is the reading of its lines, and what they make.
use Rattle.shr_script.proofs.Common.{◌≡◌, ℕ, ◌+◌, Bool, true, false, cond, ◌&&◌, List, [], ◌∷◌, Option, Some, None, Result, Ok, Err, refl, sym, ap, subst, ◌∙◌, bytes_eq, Code, pieces, next_part, ◌>>=◌, Word, Item, items_said, Kind, Phase, Start, Sizes, Groups, Caches, Pools, Workers, Swept, Done, State, Line, classes, own, after, as_header, is_end_read, part_verdict, is_last, Fault, ◌>>>◌, at_line, behind, Drafted, added, kind_step}
use Rattle.shr_base.specs.declared.scripts.Code.TheVariants as codes_of
use Rattle.shr_words.specs.WordReading.{taken}
use Rattle.shr_script.proofs.CommandLaws.{kind_step_is}
use Rattle.shr_script.specs.LineReading.{kind_at, plain_line, line_of}
use Rattle.shr_script.specs.Script.{state_after_lines}
use Rattle.shr_script.specs.Faults.{verdict, lines_from}
use Rattle.shr_script.specs.Drafted.{plain_step, headed, line_step, part_by, part_step, run_from, made_by}

-- what a line leads to
abbrev pub led : State → Drafted → Line → Result (State × Drafted) Code
led st d l = Ok (after st l.0 l.1, added st d l.0 l.1)

own_is : (st : State) (d : Drafted) (k : Kind) (xs : List Item) (r : Result (Unit {0}) Code) → (r >>= λ _. Ok (after st k xs, added st d k xs)) ≡ ((r >>= λ _. Ok (k, xs)) >>= led st d)
own_is st d k xs (Ok x) = refl
own_is st d k xs (Err e) = refl

items_is : (st : State) (d : Drafted) (k : Kind) (r : Result (List Item) Code)
    → (r >>= λ xs. own st k xs >>= λ _. Ok (after st k xs, added st d k xs)) ≡ ((r >>= λ xs. own st k xs >>= λ _. Ok (k, xs)) >>= led st d)
items_is st d k (Ok xs) = own_is st d k xs (own st k xs)
items_is st d k (Err e) = refl

kind_is : (st : State) (d : Drafted) (ws : List Word) (r : Result Kind Code)
    → (r >>= λ k. kind_step st d k ws) ≡ ((r >>= λ k. items_said (classes st k) ws >>= λ xs. own st k xs >>= λ _. Ok (k, xs)) >>= led st d)
kind_is st d ws (Ok k) = kind_step_is st d k ws ∙ items_is st d k (items_said (classes st k) ws)
kind_is st d ws (Err e) = refl

plain_is : (st : State) (d : Drafted) (ws : List Word) → plain_step st d ws ≡ (plain_line st ws >>= led st d)
unfolding plain_step plain_line taken
plain_is st d [] = refl
plain_is st d (w ∷ ws) = kind_is st d ws (kind_at st.version st.phase w)

headed_is : (st : State) (d : Drafted) (p : Phase) (r : Result Line Code) → headed p (r >>= led st d) ≡ (as_header p r >>= led st d)
headed_is st d Start (Ok l) = refl
headed_is st d Start (Err e) = refl
headed_is st d Sizes r = refl
headed_is st d Groups r = refl
headed_is st d Caches r = refl
headed_is st d Pools r = refl
headed_is st d Workers r = refl
headed_is st d Swept r = refl
headed_is st d Done r = refl

step_is : (st : State) (d : Drafted) (ws : List Word) → line_step st d ws ≡ (line_of st ws >>= led st d)
unfolding line_step line_of
step_is st d ws = ap (headed st.phase) (plain_is st d ws) ∙ headed_is st d st.phase (plain_line st ws)

-- what a verdict leads to
abbrev pub told : State → Drafted → Option Line → Result (Bool × (State × Drafted)) Code
told st d None = Ok (true, (st, d))
told st d (Some l) = Ok (false, (after st l.0 l.1, added st d l.0 l.1))

line_told : (st : State) (d : Drafted) (r : Result Line Code) → ((r >>= led st d) >>= λ x. Ok (false, x)) ≡ ((r >>= λ l. Ok (Some l)) >>= told st d)
line_told st d (Ok l) = refl
line_told st d (Err e) = refl

ended_told : (st : State) (d : Drafted) (t : Bool) → cond t (Ok (true, (st, d))) (Err codes_of.Trailing) ≡ (cond t (Ok None) (Err codes_of.Trailing) >>= told st d)
ended_told st d true = refl
ended_told st d false = refl

part_told : (b : Bool) (st : State) (d : Drafted) (p : Word) (last : Bool) → part_by b st d p last ≡ (part_verdict b st p last >>= told st d)
part_told true st d p last = ended_told st d (last && bytes_eq p [])
part_told false st d p true = refl
part_told false st d p false = ap (λ (r : Result (State × Drafted) Code). r >>= λ x. Ok (false, x)) (step_is st d (pieces 32 p)) ∙ line_told st d (line_of st (pieces 32 p))

-- a part's step is its verdict, and what that line makes
pub part_is : (st : State) (d : Drafted) (p : Word) (last : Bool) → part_step st d p last ≡ (verdict st p last >>= told st d)
unfolding part_step verdict
part_is st d p last = part_told (is_end_read st.phase) st d p last

-- what lines make
abbrev pub made : State → Drafted → List Line → Result (State × Drafted) Fault
made st d ls = Ok (state_after_lines st ls, made_by st d ls)

more_made : (st : State) (d : Drafted) (l : Line) (r : Result (List Line) Fault) → (r >>> made (after st l.0 l.1) (added st d l.0 l.1)) ≡ ((r >>> λ ls. Ok (l ∷ ls)) >>> made st d)
unfolding state_after_lines made_by
more_made st d l (Ok ls) = refl
more_made st d l (Err e) = refl

run_on : (st : State) (d : Drafted) (n : ℕ) (ps : List Word) (r : Result (Option Line) Code) → ((l : Line) → run_from (after st l.0 l.1) (added st d l.0 l.1) (n + 1) ps ≡ (lines_from (after st l.0 l.1) (n + 1) ps >>> made (after st l.0 l.1) (added st d l.0 l.1)))
    → (at_line n (r >>= told st d) >>> λ x. cond x.0 (Ok x.1) (run_from x.1.0 x.1.1 (n + 1) ps)) ≡ ((at_line n r >>> λ v. behind v (λ l. lines_from (after st l.0 l.1) (n + 1) ps)) >>> made st d)
unfolding state_after_lines made_by
run_on st d n ps (Ok None) more = refl
run_on st d n ps (Ok (Some l)) more = more l ∙ more_made st d l (lines_from (after st l.0 l.1) (n + 1) ps)
run_on st d n ps (Err e) more = refl

-- a run over parts reads their lines, and makes what these make
pub run_is : (st : State) (d : Drafted) (n : ℕ) (ps : List Word) → run_from st d n ps ≡ (lines_from st n ps >>> made st d)
unfolding run_from lines_from
run_is st d n [] = refl
run_is st d n (p ∷ ps) = rw (part_is st d p (is_last ps)) (run_on st d n ps (verdict st p (is_last ps)) (λ l. run_is (after st l.0 l.1) (added st d l.0 l.1) (n + 1) ps))

-- ---- the loop

abbrev ended : {A : Type 0} → A → Option A
ended x = Some x

pair_is : {A : Type 0} (x y : A) → ended x ≡ ended y → x ≡ y
pair_is x y e = cc

run_next : (st : State) (d : Drafted) (n : ℕ) (parts : List Word) (p : Word) (ps : List Word) (last : Bool) → Some (p, ps) ≡ next_part parts → last ≡ is_last ps
    → run_from st d n parts ≡ (at_line n (part_step st d p last) >>> λ x. cond x.0 (Ok x.1) (run_from x.1.0 x.1.1 (n + 1) ps))
unfolding run_from
run_next st d n [] p ps last e is = absurd cc
run_next st d n (q ∷ qs) p ps last e is = rw is (subst (λ (x : Word × List Word). run_from st d n (q ∷ qs) ≡ (at_line n (part_step st d x.0 (is_last x.1)) >>> λ y. cond y.0 (Ok y.1) (run_from y.1.0 y.1.1 (n + 1) x.1))) (pair_is (q, qs) (p, ps) (sym e)) refl)

-- the run ends well at a part that completes the script
pub run_ended : (st : State) (d : Drafted) (n : ℕ) (parts : List Word) (p : Word) (ps : List Word) (last : Bool) (x : State × Drafted) (total : Result (State × Drafted) Fault) → Some (p, ps) ≡ next_part parts → last ≡ is_last ps
    → part_step st d p last ≡ Ok (true, x) → run_from st d n parts ≡ total → total ≡ Ok x
run_ended st d n parts p ps last x total e is h so_far = sym so_far ∙ run_next st d n parts p ps last e is ∙ rw h refl

-- the run goes on behind a part that doesn't
pub run_goes_on : (st : State) (d : Drafted) (n : ℕ) (parts : List Word) (p : Word) (ps : List Word) (last : Bool) (x : State × Drafted) (total : Result (State × Drafted) Fault) → Some (p, ps) ≡ next_part parts → last ≡ is_last ps
    → part_step st d p last ≡ Ok (false, x) → run_from st d n parts ≡ total → run_from x.0 x.1 (n + 1) ps ≡ total
run_goes_on st d n parts p ps last x total e is h so_far = sym (run_next st d n parts p ps last e is ∙ rw h refl) ∙ so_far

-- the run fails at a part that is bad
pub run_fails : (st : State) (d : Drafted) (n : ℕ) (parts : List Word) (p : Word) (ps : List Word) (last : Bool) (code : Code) (total : Result (State × Drafted) Fault) → Some (p, ps) ≡ next_part parts → last ≡ is_last ps
    → part_step st d p last ≡ Err code → run_from st d n parts ≡ total → total ≡ Err (n, code)
run_fails st d n parts p ps last code total e is h so_far = sym so_far ∙ run_next st d n parts p ps last e is ∙ rw h refl

-- the run fails where no part is left
pub run_out : (st : State) (d : Drafted) (n : ℕ) (parts : List Word) (total : Result (State × Drafted) Fault) → None ≡ next_part parts → run_from st d n parts ≡ total → total ≡ Err (n, codes_of.NoEnd)
unfolding run_from
run_out st d n [] total e so_far = sym so_far
run_out st d n (p ∷ ps) total e so_far = absurd cc
