-- SPDX-License-Identifier: GPL-2.0-only
-- Two parts of a script, read behind one head, make the script.
use Rattle.std.proofs.Common.{◌≡◌, ℕ, ◌+◌, ◌<◌, ◌≤◌, true, List, [], ◌∷◌, ◌++◌, length, map, Option, Some, None, Result, Ok, Err, refl, sym, ap, subst, ◌∙◌, append_assoc, arith}
use Rattle.std.specs.Prelude.{flat_map, sum_by, IfSome}
use Rattle.std.proofs.lemmas.Grind.{flat_map-append}
use Rattle.std.proofs.lemmas.List.{append_cancel_left, append_cancel_right, length-append, length-map}
use Rattle.std.proofs.lemmas.List.Sums.{sum_by-cons}
use Rattle.shr_base.specs.declared.scripts.Code.TheVariants as codes_of
use Rattle.shr_base.specs.declared.scripts.Command.{Command}
use Rattle.shr_base.specs.declared.scripts.Script.{Script}
use Rattle.shr_base.specs.declared.scripts.Sweep.{Sweep}
use Rattle.shr_model.specs.Pieces.{pieces, joined}
use Rattle.shr_script.specs.declared.kind.Kind.TheVariants.{Worker}
use Rattle.shr_script.specs.declared.kind.Phase.TheVariants.{Workers}
use Rattle.shr_script.specs.Content.{Content, declarations, group_line, cache_line, pool_line, command_line, worker_command_lines, sweep_lines, end_line, lines_of, content_of}
use Rattle.shr_script.specs.Spelling.{IsSpelling}
use Rattle.shr_script.specs.Lines.{State, Line, start, after}
use Rattle.shr_script.specs.Script.{IsScript, AreLines, is_end_read, spell_lines, state_after_lines}
use Rattle.shr_script.specs.Faults.{Fault, lines_from, lines_read}
use Rattle.shr_script.proofs.ContentLaws.{state_after-append}
use Rattle.shr_script.proofs.SaidLaws.{cut_lines, commands_said, declared_state, begun}
use Rattle.shr_script.proofs.ScriptLaws.{lines_again, script_again, with_front}
use Rattle.shr_reading.specs.Parts.{IsHead, AreDeclaredAlike, DoFit, joined_content, end_text}
use Rattle.shr_reading.proofs.Moves.{Within, not_full, moved, spell-append, join_lines, spell_moved, lines_moved}

-- ---- lists

same_front : {A : Type 0} (xs ys us vs : List A) → xs ++ us ≡ ys ++ vs → length xs ≡ length ys → xs ≡ ys
same_front [] [] us vs e l = refl
same_front [] (y ∷ ys) us vs e l = absurd (omega (arith, l))
same_front (x ∷ xs) [] us vs e l = absurd (omega (arith, l))
same_front {A} (x ∷ xs) (y ∷ ys) us vs e l =
    let h : x ≡ y = cc in
    let t : xs ++ us ≡ ys ++ vs = cc in
    ap (λ (z : A). z ∷ xs) h ∙ ap (λ (zs : List A). y ∷ zs) (same_front xs ys us vs t (omega (arith, l)))

-- ---- the head

-- the lines of the declarations
abbrev declared : Content → List Line
declared t = declarations t.version t.nodes t.ids t.groups t.caches t.pools

-- the lines behind the workers
abbrev last : Option Sweep → List Line
last z = sweep_lines z ++ end_line ∷ []

abbrev work : List (List Command) → List Line
work ws = flat_map worker_command_lines ws

-- what the declarations have said, as the lines behind them see it
declared_said : (t : Content) → state_after_lines start (declared t) ≡ declared_state t
unfolding state_after_lines
declared_said t = refl

end_spelled : (st : State) → spell_lines st (end_line ∷ []) ≡ end_text
unfolding spell_lines joined
end_spelled st = refl

-- the bytes of a head, and its lines
record Headed (bytes : List ℕ) (h : Content) : Type 0 where
  spelled : bytes ≡ spell_lines start (declared h)
  lines : AreLines start (declared h)

headed : (bytes : List ℕ) (h : Content) → IsHead bytes h → Headed bytes h
headed bytes h is =
    let d = declared h in
    let lines : lines_of h ≡ d ++ (end_line ∷ []) = rw (is.no_worker, is.no_sweep) refl in
    let whole = is.spelled.spelled ∙ ap (spell_lines start) lines ∙ spell-append d (end_line ∷ []) start ∙ ap (λ (xs : List ℕ). spell_lines start d ++ xs) (end_spelled (state_after_lines start d)) in
    record {
      spelled = append_cancel_right bytes (spell_lines start d) end_text whole;
      lines = (cut_lines d (end_line ∷ []) start (subst (AreLines start) lines is.spelled.valid.lines.lines)).0;
    }

-- ---- a part behind the head

-- what was read behind some lines
read_behind : (front ls : List Line) (r : Result (List Line) Fault) → with_front front r ≡ Ok ls → (ms : List Line) × (front ++ ms ≡ ls)
read_behind front ls (Ok ms) e = (ms, cc)
read_behind front ls (Err f) e = absurd cc

count : (t : Content) → length (declared t) ≡ 2 + (length t.groups + (length t.caches + length t.pools))
count t =
    let a = length-append (map group_line t.groups) (map cache_line t.caches ++ map pool_line t.pools) in
    let b = length-append (map cache_line t.caches) (map pool_line t.pools) in
    let g = length-map t.groups group_line in
    let c = length-map t.caches cache_line in
    let p = length-map t.pools pool_line in
    omega (arith, a, b, g, c, p)

-- the lines behind the declarations
abbrev behind : Content → List Line
behind t = work t.workers ++ last t.sweep

-- what is spelled behind the head are the lines behind its declarations
record Behind (h : Content) (bytes : List ℕ) (t : Content) : Type 0 where
  same : declared t ≡ declared h
  spelled : bytes ≡ spell_lines (declared_state h) (behind t)
  lines : AreLines (declared_state h) (behind t)

behind_head : (head bytes : List ℕ) (h t : Content) → Headed head h → IsSpelling (head ++ bytes) t → AreDeclaredAlike h t → Behind h bytes t
unfolding state_after_lines
behind_head head bytes h t is spelled alike =
    let d = declared h in
    let st = declared_state h in
    let read = lines_from (state_after_lines start d) (length d + 1) (pieces 10 bytes) in
    let front : with_front d read ≡ Ok (lines_of t) =
    sym (ap lines_read (ap (λ (xs : List ℕ). xs ++ bytes) is.spelled) ∙ lines_again start 1 d bytes is.lines)
    ∙ ap lines_read spelled.spelled ∙ script_again (lines_of t) spelled.valid.lines in
    let more = read_behind d (lines_of t) read front in
    let groups = alike.groups in
    let caches = alike.caches in
    let pools = alike.pools in
    let same : declared t ≡ d = same_front (declared t) d (behind t) more.0 (sym more.1) (omega (arith, count h, count t, groups, caches, pools)) in
    let lines : lines_of t ≡ d ++ behind t = ap (λ (ls : List Line). ls ++ behind t) same in
    let whole : head ++ bytes ≡ head ++ spell_lines st (behind t) =
    spelled.spelled ∙ ap (spell_lines start) lines ∙ spell-append d (behind t) start ∙ ap (λ (xs : List ℕ). xs ++ spell_lines st (behind t)) (sym is.spelled) in
    record {
      same = same;
      spelled = append_cancel_left head bytes (spell_lines st (behind t)) whole;
      lines = (cut_lines d (behind t) start (subst (AreLines start) lines spelled.valid.lines.lines)).1;
    }

-- ---- what workers say

-- where the workers are
abbrev at_work : State → ℕ → ℕ → State
at_work st n m = moved st Workers n m

all_worked : (ws : List (List Command)) (st : State) (n m : ℕ) → state_after_lines (at_work st n m) (work ws) ≡ at_work st (n + length ws) (m + sum_by length ws)
unfolding state_after_lines
all_worked [] st n m =
    let a : n ≡ n + 0 = omega arith in
    let b : m ≡ m + 0 = omega arith in
    ap (λ (k : ℕ). at_work st k m) a ∙ ap (λ (k : ℕ). at_work st (n + 0) k) b
all_worked (w ∷ ws) st n m =
    let s = at_work st (n + 1) m in
    let a : n + 1 + length ws ≡ n + length (w ∷ ws) = omega arith in
    let sum = sum_by-cons length w ws in
    let b : m + length w + sum_by length ws ≡ m + sum_by length (w ∷ ws) = omega (arith, sum) in
    state_after-append (map command_line w) (work ws) s
    ∙ ap (λ (t : State). state_after_lines t (work ws)) (commands_said w s)
    ∙ all_worked ws st (n + 1) (m + length w)
    ∙ ap (λ (k : ℕ). at_work st k (m + length w + sum_by length ws)) a
    ∙ ap (λ (k : ℕ). at_work st (n + length (w ∷ ws)) k) b

-- some workers behind the declarations
worked : (ws : List (List Command)) (h : Content) → 0 < length ws → state_after_lines (declared_state h) (work ws) ≡ at_work (declared_state h) (length ws) (sum_by length ws)
unfolding state_after_lines
worked [] h some = absurd (omega (arith, some))
worked (w ∷ ws) h some =
    let st = declared_state h in
    let b = begun h in
    all_worked (w ∷ ws) st st.workers st.commands
    ∙ ap (λ (k : ℕ). at_work st (k + length (w ∷ ws)) (st.commands + sum_by length (w ∷ ws))) b.workers
    ∙ ap (λ (k : ℕ). at_work st (0 + length (w ∷ ws)) (k + sum_by length (w ∷ ws))) b.commands
    ∙ ap (λ (k : ℕ). at_work st k (0 + sum_by length (w ∷ ws))) (let z : 0 + length (w ∷ ws) ≡ length (w ∷ ws) = omega arith in z)
    ∙ ap (λ (k : ℕ). at_work st (length (w ∷ ws)) k) (let z : 0 + sum_by length (w ∷ ws) ≡ sum_by length (w ∷ ws) = omega arith in z)

-- the last lines say nothing of workers and commands
last_within : (z : Option Sweep) (st : State) → Within st → Within (state_after_lines st (last z))
unfolding state_after_lines
last_within None st h = record { workers = h.workers; commands = h.commands }
last_within (Some z) st h = record { workers = h.workers; commands = h.commands }

-- and are the end
last_ends : (z : Option Sweep) (st : State) → is_end_read (state_after_lines st (last z)).phase ≡ true
unfolding state_after_lines
last_ends None st = refl
last_ends (Some z) st = refl

-- ---- the second part behind the first

-- some workers that may stand behind the declarations may stand behind other workers, if they aren't
-- too many
behind_workers : (ws : List (List Command)) (z : Option Sweep) (st : State) (n m : ℕ) → 0 < length ws → AreLines st (work ws ++ last z) → n + length ws ≤ 64 → m + sum_by length ws ≤ 20000
    → AreLines (at_work st n m) (work ws ++ last z)
unfolding state_after_lines AreLines
behind_workers [] z st n m some h few short = absurd (omega (arith, some))
behind_workers (w ∷ ws) z st n m some h few short =
    let rest = (map command_line w ++ work ws) ++ last z in
    let next = after st Worker [] in
    let end : State = at_work st (n + length (w ∷ ws)) (m + sum_by length (w ∷ ws)) in
    let all : state_after_lines (moved next Workers (n + 1) m) rest ≡ state_after_lines end (last z) =
    state_after-append (work (w ∷ ws)) (last z) (at_work st n m) ∙ ap (λ (s : State). state_after_lines s (last z)) (all_worked (w ∷ ws) st n m) in
    let within : Within (state_after_lines end (last z)) = last_within z end (record { workers = few; commands = short }) in (
      record {
        stands = refl;
        words = tt;
        rule = not_full 64 n codes_of.TooMany (omega (arith, few));
      },
      lines_moved rest next (n + 1) m h.1 (subst Within (sym all) within),
    )

-- ---- the script of both

-- two parts behind a head that fit make the script of both
joined_spells : (head left right tail : List ℕ) (h a b : Content) → IsHead head h → DoFit h a b → IsSpelling (head ++ (left ++ end_text)) a → IsSpelling (head ++ (right ++ tail)) b
    → IsSpelling (head ++ ((left ++ right) ++ tail)) (joined_content a b)
unfolding state_after_lines
joined_spells head left right tail h a b is fit one two =
    let d = declared h in
    let st = declared_state h in
    let front = headed head h is in
    let first = behind_head head (left ++ end_text) h a front one fit.first_declared in
    let second = behind_head head (right ++ tail) h b front two fit.second_declared in
    let alone : behind a ≡ work a.workers ++ (end_line ∷ []) = ap (λ (z : Option Sweep). work a.workers ++ last z) fit.no_sweep in
    let s = at_work st (length a.workers) (sum_by length a.workers) in
    let at : state_after_lines st (work a.workers) ≡ s = worked a.workers h fit.some_first in
    let left_is : left ≡ spell_lines st (work a.workers) =
    append_cancel_right left (spell_lines st (work a.workers)) end_text
    (first.spelled ∙ ap (spell_lines st) alone ∙ spell-append (work a.workers) (end_line ∷ []) st ∙ ap (λ (xs : List ℕ). spell_lines st (work a.workers) ++ xs) (end_spelled (state_after_lines st (work a.workers)))) in
    let right_is : right ++ tail ≡ spell_lines s (behind b) = second.spelled ∙ sym (spell_moved (behind b) st Workers (length a.workers) (sum_by length a.workers)) in
    let lines : lines_of (joined_content a b) ≡ d ++ (work a.workers ++ behind b) =
    ap (λ (ls : List Line). ls ++ (work (a.workers ++ b.workers) ++ last b.sweep)) second.same
    ∙ ap (λ (ls : List Line). d ++ (ls ++ last b.sweep)) (flat_map-append worker_command_lines a.workers b.workers)
    ∙ ap (λ (ls : List Line). d ++ ls) (append_assoc (work a.workers) (work b.workers) (last b.sweep)) in
    let work_lines : AreLines st (work a.workers ++ behind b) =
    join_lines (work a.workers) (behind b) st (cut_lines (work a.workers) (end_line ∷ []) st (subst (AreLines st) alone first.lines)).0
    (subst (λ (t : State). AreLines t (behind b)) (sym at) (behind_workers b.workers b.sweep st (length a.workers) (sum_by length a.workers) fit.some_second second.lines fit.workers fit.commands)) in
    let script : IsScript (d ++ (work a.workers ++ behind b)) = record {
      lines = join_lines d (work a.workers ++ behind b) start front.lines work_lines;
      ended = ap (λ (t : State). is_end_read t.phase) (state_after-append d (work a.workers ++ behind b) start ∙ state_after-append (work a.workers) (behind b) st ∙ state_after-append (work b.workers) (last b.sweep) (state_after_lines st (work a.workers)))
          ∙ last_ends b.sweep (state_after_lines (state_after_lines st (work a.workers)) (work b.workers));
    } in
    record {
      valid = record { lines = subst IsScript (sym lines) script; parents = two.valid.parents };
      spelled = ap (λ (xs : List ℕ). head ++ xs) (append_assoc left right tail)
          ∙ ap (λ (xs : List ℕ). xs ++ (left ++ (right ++ tail))) front.spelled
          ∙ ap (λ (xs : List ℕ). spell_lines start d ++ (xs ++ (right ++ tail))) left_is
          ∙ ap (λ (xs : List ℕ). spell_lines start d ++ (spell_lines st (work a.workers) ++ xs)) right_is
          ∙ ap (λ (t : State). spell_lines start d ++ (spell_lines st (work a.workers) ++ spell_lines t (behind b))) (sym at)
          ∙ ap (λ (xs : List ℕ). spell_lines start d ++ xs) (sym (spell-append (work a.workers) (behind b) st))
          ∙ sym (spell-append d (work a.workers ++ behind b) start)
          ∙ ap (spell_lines start) (sym lines);
    }

-- what holds of the item of an answer holds of an item that it is
pub some_is : (r : Option Script) (s : Script) (P : Script → Type 0) → r ≡ Some s → IfSome r P → P s
some_is r s P e h = subst (λ (o : Option Script). IfSome o P) e h

-- what two parts are joined to is spelled by both
pub joined_is : (head run left right tail : List ℕ) (h a b : Content) (r : Option Script) → IsHead head h → run ≡ left ++ right → IsSpelling (head ++ (left ++ end_text)) a → IsSpelling (head ++ (right ++ tail)) b → IfSome r (λ s. DoFit h a b) → IfSome r (λ s. content_of s ≡ joined_content a b)
    → IfSome r (λ s. IsSpelling (head ++ (run ++ tail)) (content_of s))
joined_is head run left right tail h a b None is cut one two fit made = tt
joined_is head run left right tail h a b (Some s) is cut one two fit made =
    let P : List ℕ → Content → Type 0 = λ xs t. IsSpelling (head ++ (xs ++ tail)) t in
    subst (λ (xs : List ℕ). P xs (content_of s)) (sym cut) (subst (P (left ++ right)) (sym made) (joined_spells head left right tail h a b is fit one two))
