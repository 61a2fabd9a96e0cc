-- SPDX-License-Identifier: GPL-2.0-only
-- Walks of the pools, and isolations, are parted in one way.
use Rattle.shr_report.proofs.Common.{◌≡◌, ℕ, List, ◌++◌, flat_map, sym, ap, ◌∙◌, append_assoc, arith, AllByRecursion, AllZip, Serial, Isolation, PlainWalk, numbered, pass_line, plain_lines, isolation_line, IsSamePlain, PlainHead, read_plain, read_pass_line, IsolationHead, read_isolation}
use Rattle.shr_report.proofs.Printed.{one_line}
use Rattle.shr_report.proofs.PlainLinesBack.{plain_head_of, plain_line, printed_plain, printed_pass, isolation_head_of, printed_isolation}
use Rattle.shr_report.proofs.Sections.{kind, kind_plain, kind_pass, kind_isolation, section, flat_numbered, lines_each, zip_same}

-- this command made the walk
abbrev pub IsPlainBy : Serial → PlainWalk → Type 0
IsPlainBy by w = w.by ≡ by

plain_parts : (n : ℕ) (w : PlainWalk) (rest : List ℕ) → plain_lines n w ++ rest ≡ plain_line n w.node w.priority w.answer ++ (numbered pass_line 0 w.tries.items ++ rest)
plain_parts n w rest = append_assoc (plain_line n w.node w.priority w.answer) (numbered pass_line 0 w.tries.items) rest

-- the lines of a walk of the pools begin with its first line
pub kind_plains : (n : ℕ) (w : PlainWalk) (rest : List ℕ) → kind (plain_lines n w ++ rest) ≡ 13
kind_plains n w rest = ap kind (plain_parts n w rest) ∙ kind_plain n w.node w.priority w.answer (numbered pass_line 0 w.tries.items ++ rest)

plain_same : (v w : PlainWalk) → plain_head_of v.node v.priority v.answer ≡ plain_head_of w.node w.priority w.answer → v.by ≡ w.by → v.tries.items ≡ w.tries.items → IsSamePlain v w
plain_same v w e by tries = record {
  by = by;
  node = ap (λ (h : PlainHead). h.node) e;
  priority = ap (λ (h : PlainHead). h.priority) e;
  tries = tries;
  answer = ap (λ (h : PlainHead). h.answer) e;
}

plain_once : (by : Serial) (n m : ℕ) (v w : PlainWalk) (rest rest' : List ℕ) → IsPlainBy by v → IsPlainBy by w → (kind rest ≡ 14 → ⊥) → (kind rest' ≡ 14 → ⊥)
    → plain_lines n v ++ rest ≡ plain_lines m w ++ rest' → IsSamePlain v w × (rest ≡ rest')
plain_once by n m v w rest rest' h k a b e =
    let one = one_line read_plain (plain_head_of v.node v.priority v.answer) (plain_head_of w.node w.priority w.answer)
    (plain_line n v.node v.priority v.answer) (plain_line m w.node w.priority w.answer)
    (numbered pass_line 0 v.tries.items ++ rest) (numbered pass_line 0 w.tries.items ++ rest')
    (printed_plain n v.node v.priority v.answer) (printed_plain m w.node w.priority w.answer)
    (sym (plain_parts n v rest) ∙ e ∙ plain_parts m w rest') in
    let tries = lines_each read_pass_line pass_line (λ j. j ≡ 14) kind_pass printed_pass 0 0 v.tries.items w.tries.items rest rest' a b one.1 in
    (plain_same v w one.0 (h ∙ sym k) tries.0, tries.1)

other_kind : (k : ℕ) → k ≡ 13 → k ≡ 14 → ⊥
other_kind k a b = absurd (omega arith)

-- a text of walks of the pools of a command is that of one list of them only
pub plains_once : (by : Serial) (n m : ℕ) (vs ws : List PlainWalk) (rest rest' : List ℕ) → AllByRecursion (IsPlainBy by) vs → AllByRecursion (IsPlainBy by) ws → (kind rest ≡ 13 → ⊥) → (kind rest' ≡ 13 → ⊥)
    → (kind rest ≡ 14 → ⊥) → (kind rest' ≡ 14 → ⊥) → numbered plain_lines n vs ++ rest ≡ numbered plain_lines m ws ++ rest' → AllZip IsSamePlain vs ws × (rest ≡ rest')
plains_once by n m vs ws rest rest' h k a b c d e =
    section plain_lines (IsPlainBy by) IsSamePlain (λ j. j ≡ 13) (λ j. j ≡ 14 → ⊥) kind_plains (λ i x more. other_kind (kind (plain_lines i x ++ more)) (kind_plains i x more))
    (plain_once by) n m vs ws rest rest' h k a b c d e

-- ---- isolations

-- this command made the isolation
abbrev pub IsIsolationBy : Serial → Isolation → Type 0
IsIsolationBy by i = i.by ≡ by

isolated : Serial → IsolationHead → Isolation
isolated by h = record { by = by; place = h.place; budget = h.budget; visits = h.visits; freed = h.freed; ending = h.ending }

isolation_same : (i j : Isolation) → isolation_head_of i ≡ isolation_head_of j → i.by ≡ j.by → i ≡ j
unfolding isolated
isolation_same i j e f = ap (λ (s : Serial). isolated s (isolation_head_of i)) f ∙ ap (λ (h : IsolationHead). isolated j.by h) e

isolation_once : (by : Serial) (i j : Isolation) (rest rest' : List ℕ) → IsIsolationBy by i → IsIsolationBy by j → isolation_line i ++ rest ≡ isolation_line j ++ rest' → (i ≡ j) × (rest ≡ rest')
isolation_once by i j rest rest' p q e =
    let one = one_line read_isolation (isolation_head_of i) (isolation_head_of j) (isolation_line i) (isolation_line j) rest rest' (printed_isolation i) (printed_isolation j) e in
    (isolation_same i j one.0 (p ∙ sym q), one.1)

-- a text of isolations of a command is that of one list of them only
pub isolations_once : (by : Serial) (is js : List Isolation) (rest rest' : List ℕ) → AllByRecursion (IsIsolationBy by) is → AllByRecursion (IsIsolationBy by) js → (kind rest ≡ 8 → ⊥) → (kind rest' ≡ 8 → ⊥)
    → flat_map isolation_line is ++ rest ≡ flat_map isolation_line js ++ rest' → (is ≡ js) × (rest ≡ rest')
isolations_once by is js rest rest' h k a b e =
    let both = section (λ (n : ℕ) (i : Isolation). isolation_line i) (IsIsolationBy by) (λ i j. i ≡ j) (λ n. n ≡ 8) (λ n. Unit {0}) (λ n i rest. kind_isolation i rest) (λ n i rest. tt)
    (λ n m i j rest rest' p q x y e. isolation_once by i j rest rest' p q e) 0 0 is js rest rest' h k a b tt tt
    (ap (λ (t : List ℕ). t ++ rest) (sym (flat_numbered isolation_line 0 is)) ∙ e ∙ ap (λ (t : List ℕ). t ++ rest') (flat_numbered isolation_line 0 js)) in
    (zip_same is js both.0, both.1)
