-- SPDX-License-Identifier: GPL-2.0-only
-- The answers of workers are parted in one way, each with what else stands of its command.
use Rattle.shr_report.proofs.Common.{◌≡◌, ℕ, suc, ◌+◌, ◌≤◌, List, [], ◌∷◌, ◌++◌, length, Option, refl, sym, ap, ◌∙◌, append_assoc, arith, AllByRecursion, AllZip, prefix_len, Serial, Found, Reply, Answered, WalkRecord, Carry, PlainWalk, Isolation, reply_line, found_lines, is_walk_of, is_carry_of, is_plain_of, is_isolation_of, Logs, log_lines, after_command, IsSameWalk, IsSamePlain, read_reply_line}
use Rattle.shr_laws.specs.Text.{answer_lines}
use Rattle.shr_report.proofs.Printed.{one_line}
use Rattle.shr_report.proofs.LinesBack.{printed_reply}
use Rattle.shr_report.proofs.Sections.{kind, kind_reply}
use Rattle.shr_report.proofs.WalksBack.{HasBitWords}
use Rattle.shr_report.proofs.PartsBack.{Remain, none_left, IsOutside, from_not, reply_outside, found_once, IsAny, IsAnyPlain, IsAnyIsolation, LogsRemain, logs_left, SameNow, log_from, logs_once, zip_parts, zip_none, same_parts, IsPast, IsAnsweredWell}

-- ---- the answers of a worker, one behind another

-- two runs of answers and of all that a worker has besides with one text are the same
pub record Answers (us vs : List Answered) (l m : Logs) (rest rest' : List ℕ) : Type 0 where
  pub answers : us ≡ vs
  pub isolations : l.isolations ≡ m.isolations
  pub walks : AllZip IsSameWalk l.walks m.walks
  pub carries : l.carries ≡ m.carries
  pub plain : AllZip IsSamePlain l.plain m.plain
  pub others : rest ≡ rest'

later_answers : ℕ → ℕ → List Answered → Logs → List ℕ
later_answers w k us l = answer_lines w (k + 1) us (after_command k l)

answer_parts : (w k : ℕ) (a : Answered) (us : List Answered) (l : Logs) (rest : List ℕ)
    → answer_lines w k (a ∷ us) l ++ rest ≡ reply_line w k a.reply ++ (found_lines a.found ++ (log_lines k l ++ (later_answers w k us l ++ rest)))
unfolding answer_lines later_answers
answer_parts w k a us l rest = regrouped (reply_line w k a.reply) (found_lines a.found) (log_lines k l) (answer_lines w (k + 1) us (after_command k l)) rest
  where
    regrouped : (a b c d e : List ℕ) → (a ++ b ++ c ++ d) ++ e ≡ a ++ (b ++ (c ++ (d ++ e)))
    regrouped a b c d e = simp append_assoc

after_answers : (w k : ℕ) (us : List Answered) (l : Logs) (rest : List ℕ) → IsOutside (kind rest) → IsOutside (kind (answer_lines w k us l ++ rest))
unfolding answer_lines
after_answers w k [] l rest h = h
after_answers w k (a ∷ us) l rest h = reply_outside (kind (answer_lines w k (a ∷ us) l ++ rest)) (ap kind (answer_parts w k a us l rest) ∙ kind_reply w k a.reply (found_lines a.found ++ (log_lines k l ++ (later_answers w k us l ++ rest))))

answered : Reply → Option Found → Answered
answered r f = record { reply = r; found = f }

answered_same : (a b : Answered) → a.reply ≡ b.reply → a.found ≡ b.found → a ≡ b
unfolding answered
answered_same a b e f = ap (λ (r : Reply). answered r a.found) e ∙ ap (λ (g : Option Found). answered b.reply g) f

answers_same : (a b : Answered) (us vs : List Answered) → a ≡ b → us ≡ vs → a ∷ us ≡ b ∷ vs
answers_same a b us vs e f = cc

record OneAnswer (w k : ℕ) (a b : Answered) (us vs : List Answered) (l m : Logs) (rest rest' : List ℕ) : Type 0 where
  same : a ≡ b
  logs : SameNow k l m
  later : later_answers w k us l ++ rest ≡ later_answers w k vs m ++ rest'

tail_outside : (w k : ℕ) (us : List Answered) (l : Logs) (rest : List ℕ) → IsOutside (kind rest) → IsOutside (kind (later_answers w k us l ++ rest))
unfolding later_answers
tail_outside w k us l rest h = after_answers w (k + 1) us (after_command k l) rest h

one_answer : (w k N M : ℕ) (a b : Answered) (us vs : List Answered) (l m : Logs) (rest rest' : List ℕ) → IsAnsweredWell a → IsAnsweredWell b
    → LogsRemain w k N l → LogsRemain w k M m → IsOutside (kind rest) → IsOutside (kind rest')
    → answer_lines w k (a ∷ us) l ++ rest ≡ answer_lines w k (b ∷ vs) m ++ rest' → OneAnswer w k a b us vs l m rest rest'
one_answer w k N M a b us vs l m rest rest' h j p q o o' e =
    let t = later_answers w k us l ++ rest in
    let t' = later_answers w k vs m ++ rest' in
    let out = tail_outside w k us l rest o in
    let out' = tail_outside w k vs m rest' o' in
    let first = one_line read_reply_line (w, a.reply) (w, b.reply) (reply_line w k a.reply) (reply_line w k b.reply) (found_lines a.found ++ (log_lines k l ++ t)) (found_lines b.found ++ (log_lines k m ++ t'))
    (printed_reply w k a.reply h) (printed_reply w k b.reply j) (sym (answer_parts w k a us l rest) ∙ e ∙ answer_parts w k b vs m rest') in
    let second = found_once a.found b.found (log_lines k l ++ t) (log_lines k m ++ t') (from_not 8 _ 7 (log_from k l t out) (omega arith) (omega arith)) (from_not 8 _ 7 (log_from k m t' out') (omega arith) (omega arith)) first.1 in
    let third = logs_once w k N M l m t t' p q out out' second.1 in
    record {
      same = answered_same a b (ap (λ (x : ℕ × Reply). x.1) first.0) second.0;
      logs = third.0;
      later = third.1;
    }

pub count_down : (k n N : ℕ) → k + suc n ≡ N → (k + 1) + n ≡ N
count_down k n N e = omega arith

none_both : {X : Type 0} (serial : X → Serial) (P : X → Type 0) (w k N M : ℕ) (xs ys : List X) → Remain X serial P w k N xs → Remain X serial P w k M ys → N ≤ k → M ≤ k → (xs ≡ []) × (ys ≡ [])
none_both serial P w k N M xs ys p q a b = (none_left (λ x. (serial x).command) k N xs p.sorted p.below a, none_left (λ x. (serial x).command) k M ys q.sorted q.below b)

-- behind the last answer nothing is left
none_more : (w k N M : ℕ) (l m : Logs) (rest rest' : List ℕ) → LogsRemain w k N l → LogsRemain w k M m → N ≤ k → M ≤ k → rest ≡ rest' → Answers [] [] l m rest rest'
none_more w k N M l m rest rest' p q a b e =
    let isolations = none_both (λ (x : Isolation). x.by) IsAnyIsolation w k N M l.isolations m.isolations p.isolations q.isolations a b in
    let walks = none_both (λ (x : WalkRecord). x.by) HasBitWords w k N M l.walks m.walks p.walks q.walks a b in
    let carries = none_both (λ (x : Carry). x.by) IsAny w k N M l.carries m.carries p.carries q.carries a b in
    let plain = none_both (λ (x : PlainWalk). x.by) IsAnyPlain w k N M l.plain m.plain p.plain q.plain a b in
    record {
      answers = refl;
      isolations = isolations.0 ∙ sym isolations.1;
      walks = zip_none IsSameWalk l.walks m.walks walks.0 walks.1;
      carries = carries.0 ∙ sym carries.1;
      plain = zip_none IsSamePlain l.plain m.plain plain.0 plain.1;
      others = e;
    }

-- a text of answers is that of one run of answers only
pub answers_once : (w k N M : ℕ) (us vs : List Answered) (l m : Logs) (rest rest' : List ℕ) → AllByRecursion IsAnsweredWell us → AllByRecursion IsAnsweredWell vs
    → k + length us ≡ N → k + length vs ≡ M → LogsRemain w k N l → LogsRemain w k M m
    → IsOutside (kind rest) → IsOutside (kind rest') → IsPast w rest → IsPast w rest'
    → answer_lines w k us l ++ rest ≡ answer_lines w k vs m ++ rest' → Answers us vs l m rest rest'
unfolding answer_lines later_answers
answers_once w k N M [] [] l m rest rest' h j a b p q o o' z z' e = none_more w k N M l m rest rest' p q (omega arith) (omega arith) e
answers_once w k N M [] (b ∷ vs) l m rest rest' h j a c p q o o' z z' e =
    absurd (z k b.reply (found_lines b.found ++ (log_lines k m ++ (later_answers w k vs m ++ rest'))) j.0 (e ∙ answer_parts w k b vs m rest'))
answers_once w k N M (a ∷ us) [] l m rest rest' h j c d p q o o' z z' e =
    absurd (z' k a.reply (found_lines a.found ++ (log_lines k l ++ (later_answers w k us l ++ rest))) h.0 (sym e ∙ answer_parts w k a us l rest))
answers_once w k N M (a ∷ us) (b ∷ vs) l m rest rest' h j c d p q o o' z z' e =
    let one = one_answer w k N M a b us vs l m rest rest' h.0 j.0 p q o o' e in
    let more = answers_once w (k + 1) N M us vs (after_command k l) (after_command k m) rest rest' h.1 j.1 (count_down k (length us) N c) (count_down k (length vs) M d) (logs_left w k N l p) (logs_left w k M m q) o o' z z' one.later in
    record {
      answers = answers_same a b us vs one.same more.answers;
      isolations = same_parts (prefix_len (is_isolation_of k) l.isolations) (prefix_len (is_isolation_of k) m.isolations) l.isolations m.isolations one.logs.isolations more.isolations;
      walks = zip_parts IsSameWalk (prefix_len (is_walk_of k) l.walks) (prefix_len (is_walk_of k) m.walks) l.walks m.walks one.logs.walks more.walks;
      carries = same_parts (prefix_len (is_carry_of k) l.carries) (prefix_len (is_carry_of k) m.carries) l.carries m.carries one.logs.carries more.carries;
      plain = zip_parts IsSamePlain (prefix_len (is_plain_of k) l.plain) (prefix_len (is_plain_of k) m.plain) l.plain m.plain one.logs.plain more.plain;
      others = more.others;
    }

pub answer_first : (w k : ℕ) (a : Answered) (us : List Answered) (l : Logs) (rest : List ℕ) → (more : List ℕ) × (answer_lines w k (a ∷ us) l ++ rest ≡ reply_line w k a.reply ++ more)
answer_first w k a us l rest = (found_lines a.found ++ (log_lines k l ++ (later_answers w k us l ++ rest)), answer_parts w k a us l rest)
