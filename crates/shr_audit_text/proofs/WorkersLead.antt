-- SPDX-License-Identifier: GPL-2.0-only
-- The lines of the workers lead to what they did.
use Rattle.shr_audit_text.proofs.Common.{◌≡◌, ℕ, suc, ◌+◌, ◌<◌, ◌≤◌, ◌^◌, List, [], ◌∷◌, ◌++◌, length, take, drop, flat_map, Option, Some, None, refl, sym, ap, subst, ◌∙◌, append_assoc, arith, codes, replicate, AllByRecursion, prefix_len, append-nil, take-append-drop, length-append, replicate-append-replicate, Answered, WalkRecord, Carry, PlainWalk, Isolation, WorkerPart, Report, line, numeral, walk_lines, carry_line, plain_lines, isolation_line, worker_lines, IsPartWell, IsWalkNumbered, IsCarryNumbered, IsIsolationNumbered, IsPlainNumbered, IsPartNumbered, with_more, with_last, last_changed, no_part, padded, with_reply, IsTightPart, IsTightWalk, IsTightPlain, read_reply_line, read_found, LendsWord, IsWalkWell, IsAnsweredNumbered, IsFindNumbered, IsReplyNumbered, printed_reply, printed_found, with_found}
use Rattle.shr_model.specs.Pieces.{cut, pieces}
use Rattle.shr_base.specs.declared.replies.Found.{Found}
use Rattle.shr_base.specs.declared.replies.Reply.{Reply}
use Rattle.shr_laws.specs.Lines.{numbered}
use Rattle.shr_laws.specs.AnswerText.{reply_line, found_lines}
use Rattle.shr_laws.specs.Text.{is_walk_of, is_carry_of, is_plain_of, is_isolation_of, Logs, log_lines, after_command, logs_of, answer_lines}
use Rattle.shr_report.proofs.PartsBack.{Remain, now_of, none_left}
use Rattle.shr_report.proofs.WorkersBack.{AreParts, LastAnswers, last_later, of_commands, silent, zero_on}
use Rattle.shr_audit_text.specs.declared.said.Said.TheVariants as said
use Rattle.shr_audit_text.specs.declared.kinds.Kind.TheVariants as kind
use Rattle.shr_audit_text.specs.declared.kinds.PlainKind.TheVariants as plain
use Rattle.shr_audit_text.specs.Said.{plain_kind_of, within_kind_of, is_entry, is_unit}
use Rattle.shr_audit_text.proofs.Leads.{Leads, first_word, leads_none, leads_then, leads_printed, leads_items, leads_flat}
use Rattle.shr_audit_text.proofs.Flat.{Head, report_of, no_tail}
use Rattle.shr_audit_text.proofs.Lasts.{last_is, tight_is, padded_same, padded_more}
use Rattle.shr_audit_text.proofs.WalksLead.{Kinds, kinds, part, at_part, by_of, IsWalkFit, IsPlainFit, one_isolation, one_walk, one_carry, one_plain}
use Rattle.shr_report.proofs.AnswersBack.{count_down}

-- ---- an answer

-- what is known of an answer of a report
pub record IsAnswerFit (a : Answered) : Type 0 where
  pub lends : LendsWord a.reply
  pub numbers : IsAnsweredNumbered a

abbrev answer : Reply → Option Found → Answered
answer r f = record { reply = r; found = f }

abbrev add_answer : Reply → WorkerPart → WorkerPart
add_answer r p = record p { answers = with_more (answer r None) p.answers }

reply_leads : (h : Head) (w k : ℕ) (before done : List WorkerPart) (ans : List Answered) (ks : Kinds) (r : Reply) → w < 2 ^ 16 → LendsWord r → IsReplyNumbered r → padded w before ≡ done ++ part ans ks ∷ []
    → Leads (reply_line w k r) (report_of h before [] [] no_tail) (at_part h done (part (ans ++ answer r None ∷ []) ks))
unfolding first_word cut pieces plain_kind_of within_kind_of is_entry is_unit
reply_leads h w k before done ans ks r few lends fits e =
    let ends : with_reply w r before ≡ done ++ part (ans ++ answer r None ∷ []) ks ∷ [] = ap (λ (ps : List WorkerPart). with_last (add_answer r) ps) e ∙ last_is (add_answer r) done (part ans ks) in
    subst (λ (ps : List WorkerPart). Leads (reply_line w k r) (report_of h before [] [] no_tail) (report_of h ps [] [] no_tail)) ends
    (leads_printed read_reply_line (w, r) (reply_line w k r) kind.Reply (λ x. said.Reply x.0 x.1) (report_of h before [] [] no_tail) (printed_reply w k r lends) refl (λ f ws. refl) (few, fits))

abbrev put_found : Found → Answered → Answered
put_found f a = record a { found = Some f }

found_leads : (h : Head) (done : List WorkerPart) (ans : List Answered) (ks : Kinds) (r : Reply) (f : Option Found) → IsFindNumbered f
    → Leads (found_lines f) (at_part h done (part (ans ++ answer r None ∷ []) ks)) (at_part h done (part (ans ++ answer r f ∷ []) ks))
unfolding first_word cut pieces plain_kind_of
found_leads h done ans ks r None fits = leads_none (at_part h done (part (ans ++ answer r None ∷ []) ks))
found_leads h done ans ks r (Some f) fits =
    let ends : with_found f (done ++ part (ans ++ answer r None ∷ []) ks ∷ []) ≡ done ++ part (ans ++ answer r (Some f) ∷ []) ks ∷ [] =
    last_is (λ (p : WorkerPart). record p { answers = last_changed (put_found f) p.answers }) done (part (ans ++ answer r None ∷ []) ks)
    ∙ ap (λ (xs : List Answered). done ++ part xs ks ∷ []) (last_is (put_found f) ans (answer r None)) in
    subst (λ (ps : List WorkerPart). Leads (found_lines (Some f)) (at_part h done (part (ans ++ answer r None ∷ []) ks)) (report_of h ps [] [] no_tail)) ends
    (leads_printed read_found f (line (codes "find") (numeral f.id ∷ numeral f.number ∷ numeral f.entry ∷ [])) (kind.Plain plain.Found) (λ x. said.Found x) (at_part h done (part (ans ++ answer r None ∷ []) ks)) (printed_found f) refl (λ f ws. refl) fits)

-- what is of a command
abbrev IsIsolationOf : ℕ → ℕ → Isolation → Type 0
IsIsolationOf w k i = IsIsolationNumbered i × (i.by ≡ by_of w k)

abbrev IsWalkOf : ℕ → ℕ → WalkRecord → Type 0
IsWalkOf w k x = IsWalkFit x × (x.by ≡ by_of w k)

abbrev IsCarryOf : ℕ → ℕ → Carry → Type 0
IsCarryOf w k c = IsCarryNumbered c × (c.by ≡ by_of w k)

abbrev IsPlainOf : ℕ → ℕ → PlainWalk → Type 0
IsPlainOf w k x = IsPlainFit x × (x.by ≡ by_of w k)

-- all that stands of a command
record AreOf (w k : ℕ) (ks : Kinds) : Type 0 where
  isolations : AllByRecursion (IsIsolationOf w k) ks.isolations
  walks : AllByRecursion (IsWalkOf w k) ks.walks
  carries : AllByRecursion (IsCarryOf w k) ks.carries
  plain : AllByRecursion (IsPlainOf w k) ks.plain

-- some behind others
abbrev joined_kinds : Kinds → Kinds → Kinds
joined_kinds ks more = kinds (ks.isolations ++ more.isolations) (ks.walks ++ more.walks) (ks.carries ++ more.carries) (ks.plain ++ more.plain)

-- what stands of a command leads to it
kinds_lead : (h : Head) (w k n m : ℕ) (done : List WorkerPart) (ans : List Answered) (a : Answered) (ks more : Kinds) → length done ≡ w → length ans ≡ k → AreOf w k more
    → Leads (((flat_map isolation_line more.isolations ++ numbered walk_lines n more.walks) ++ flat_map carry_line more.carries) ++ numbered plain_lines m more.plain) (at_part h done (part (ans ++ a ∷ []) ks)) (at_part h done (part (ans ++ a ∷ []) (joined_kinds ks more)))
kinds_lead h w k n m done ans a ks more e f are =
    let us = ans ++ a ∷ [] in
    let x1 = at_part h done (part us (kinds (ks.isolations ++ more.isolations) ks.walks ks.carries ks.plain)) in
    let x2 = at_part h done (part us (kinds (ks.isolations ++ more.isolations) (ks.walks ++ more.walks) ks.carries ks.plain)) in
    let x3 = at_part h done (part us (kinds (ks.isolations ++ more.isolations) (ks.walks ++ more.walks) (ks.carries ++ more.carries) ks.plain)) in
    let x0 = at_part h done (part us ks) in
    let x4 = at_part h done (part us (joined_kinds ks more)) in
    let is = ks.isolations ++ more.isolations in
    let ws = ks.walks ++ more.walks in
    let cs = ks.carries ++ more.carries in
    let t1 = flat_map isolation_line more.isolations in
    let t2 = numbered walk_lines n more.walks in
    let t3 = flat_map carry_line more.carries in
    let t4 = numbered plain_lines m more.plain in
    let l1 : Leads t1 x0 x1 = leads_flat (λ (vs : List Isolation). at_part h done (part us (kinds vs ks.walks ks.carries ks.plain))) isolation_line (IsIsolationOf w k) (λ i vs g. one_isolation h w k done ans a ks.walks ks.carries vs ks.plain i e f g.0 g.1) more.isolations ks.isolations are.isolations in
    let l2 : Leads t2 x1 x2 = leads_items (λ (vs : List WalkRecord). at_part h done (part us (kinds is vs ks.carries ks.plain))) walk_lines (IsWalkOf w k) (λ j x vs g. one_walk h w k j done ans a vs ks.carries is ks.plain x e f g.0 g.1) n more.walks ks.walks are.walks in
    let l3 : Leads t3 x2 x3 = leads_flat (λ (vs : List Carry). at_part h done (part us (kinds is ws vs ks.plain))) carry_line (IsCarryOf w k) (λ c vs g. one_carry h w k done ans a ws vs is ks.plain c e f g.0 g.1) more.carries ks.carries are.carries in
    let l4 : Leads t4 x3 x4 = leads_items (λ (vs : List PlainWalk). at_part h done (part us (kinds is ws cs vs))) plain_lines (IsPlainOf w k) (λ j x vs g. one_plain h w k j done ans a ws cs is vs x e f g.0 g.1) m more.plain ks.plain are.plain in
    leads_then ((t1 ++ t2) ++ t3) t4 x0 x3 x4 (leads_then (t1 ++ t2) t3 x0 x2 x3 (leads_then t1 t2 x0 x1 x2 l1 l2) l3) l4

-- ---- the answers of a worker

-- what is known of all that a worker has besides its answers, from a command on
record AreLogs (w k n : ℕ) (l : Logs) : Type 0 where
  isolations : Remain Isolation (λ x. x.by) IsIsolationNumbered w k n l.isolations
  walks : Remain WalkRecord (λ x. x.by) IsWalkFit w k n l.walks
  carries : Remain Carry (λ x. x.by) IsCarryNumbered w k n l.carries
  plain : Remain PlainWalk (λ x. x.by) IsPlainFit w k n l.plain

-- all of it, and what is of a command
abbrev all_of : Logs → Kinds
all_of l = kinds l.isolations l.walks l.carries l.plain

abbrev now_in : ℕ → Logs → Kinds
now_in k l = kinds (take (prefix_len (is_isolation_of k) l.isolations) l.isolations) (take (prefix_len (is_walk_of k) l.walks) l.walks) (take (prefix_len (is_carry_of k) l.carries) l.carries) (take (prefix_len (is_plain_of k) l.plain) l.plain)

are_now : (w k n : ℕ) (l : Logs) → AreLogs w k n l → AreOf w k (now_in k l)
are_now w k n l r = record {
  isolations = (now_of (λ (x : Isolation). x.by) IsIsolationNumbered w k n l.isolations r.isolations).here;
  walks = (now_of (λ (x : WalkRecord). x.by) IsWalkFit w k n l.walks r.walks).here;
  carries = (now_of (λ (x : Carry). x.by) IsCarryNumbered w k n l.carries r.carries).here;
  plain = (now_of (λ (x : PlainWalk). x.by) IsPlainFit w k n l.plain r.plain).here;
}

are_later : (w k n : ℕ) (l : Logs) → AreLogs w k n l → AreLogs w (k + 1) n (after_command k l)
are_later w k n l r = record {
  isolations = (now_of (λ (x : Isolation). x.by) IsIsolationNumbered w k n l.isolations r.isolations).others;
  walks = (now_of (λ (x : WalkRecord). x.by) IsWalkFit w k n l.walks r.walks).others;
  carries = (now_of (λ (x : Carry). x.by) IsCarryNumbered w k n l.carries r.carries).others;
  plain = (now_of (λ (x : PlainWalk). x.by) IsPlainFit w k n l.plain r.plain).others;
}

joined : {X : Type 0} (before : List X) (n : ℕ) (xs : List X) → (before ++ take n xs) ++ drop n xs ≡ before ++ xs
joined {X} before n xs = append_assoc before (take n xs) (drop n xs) ∙ ap (λ (ys : List X). before ++ ys) (take-append-drop n xs)

all_joined : (k : ℕ) (ks : Kinds) (l : Logs) → joined_kinds (joined_kinds ks (now_in k l)) (all_of (after_command k l)) ≡ joined_kinds ks (all_of l)
all_joined k ks l = rw (
  joined ks.isolations (prefix_len (is_isolation_of k) l.isolations) l.isolations,
  joined ks.walks (prefix_len (is_walk_of k) l.walks) l.walks,
  joined ks.carries (prefix_len (is_carry_of k) l.carries) l.carries,
  joined ks.plain (prefix_len (is_plain_of k) l.plain) l.plain,
) refl

longer : (ans : List Answered) (a : Answered) (k : ℕ) → length ans ≡ k → length (ans ++ a ∷ []) ≡ k + 1
longer ans a k e = simp length-append (omega arith)

-- an answer with what stands of its command, where the later ones lead on
answer_leads : (h : Head) (w k N : ℕ) (before done : List WorkerPart) (ans : List Answered) (ks : Kinds) (a : Answered) (us : List Answered) (l : Logs)
    → length done ≡ w → length ans ≡ k → w < 2 ^ 16 → IsAnswerFit a → AreLogs w k N l → padded w before ≡ done ++ part ans ks ∷ []
    → Leads (answer_lines w (k + 1) us (after_command k l)) (at_part h done (part (ans ++ a ∷ []) (joined_kinds ks (now_in k l)))) (at_part h done (part ((ans ++ a ∷ []) ++ us) (joined_kinds (joined_kinds ks (now_in k l)) (all_of (after_command k l)))))
    → Leads (answer_lines w k (a ∷ us) l) (report_of h before [] [] no_tail) (at_part h done (part (ans ++ a ∷ us) (joined_kinds ks (all_of l))))
unfolding answer_lines
answer_leads h w k N before done ans ks a us l e f few fit logs pad later =
    let t1 = reply_line w k a.reply in
    let t2 = found_lines a.found in
    let t3 = log_lines k l in
    let t4 = answer_lines w (k + 1) us (after_command k l) in
    let x0 = report_of h before [] [] no_tail in
    let x1 = at_part h done (part (ans ++ answer a.reply None ∷ []) ks) in
    let x2 = at_part h done (part (ans ++ a ∷ []) ks) in
    let x3 = at_part h done (part (ans ++ a ∷ []) (joined_kinds ks (now_in k l))) in
    let z = at_part h done (part ((ans ++ a ∷ []) ++ us) (joined_kinds (joined_kinds ks (now_in k l)) (all_of (after_command k l)))) in
    let answers : (ans ++ a ∷ []) ++ us ≡ ans ++ a ∷ us = append_assoc ans (a ∷ []) us in
    let last : z ≡ at_part h done (part (ans ++ a ∷ us) (joined_kinds ks (all_of l))) = ap (λ (xs : List Answered). at_part h done (part xs (joined_kinds (joined_kinds ks (now_in k l)) (all_of (after_command k l))))) answers ∙ ap (λ (js : Kinds). at_part h done (part (ans ++ a ∷ us) js)) (all_joined k ks l) in
    let l1 : Leads t1 x0 x1 = reply_leads h w k before done ans ks a.reply few fit.lends fit.numbers.reply pad in
    let l2 : Leads t2 x1 x2 = found_leads h done ans ks a.reply a.found fit.numbers.found in
    let l3 : Leads t3 x2 x3 = kinds_lead h w k l.walk l.plain_walk done ans a ks (now_in k l) e f (are_now w k N l logs) in
    subst (λ (r : Report). Leads (answer_lines w k (a ∷ us) l) x0 r) last
    (leads_then ((t1 ++ t2) ++ t3) t4 x0 x3 z (leads_then (t1 ++ t2) t3 x0 x2 x3 (leads_then t1 t2 x0 x1 x2 l1 l2) l3) later)

no_kinds : (w k N : ℕ) (l : Logs) (ks : Kinds) → AreLogs w k N l → N ≤ k → ks ≡ joined_kinds ks (all_of l)
no_kinds w k N l ks r le =
    let i = none_left (λ (x : Isolation). x.by.command) k N l.isolations r.isolations.sorted r.isolations.below le in
    let x = none_left (λ (x : WalkRecord). x.by.command) k N l.walks r.walks.sorted r.walks.below le in
    let c = none_left (λ (x : Carry). x.by.command) k N l.carries r.carries.sorted r.carries.below le in
    let p = none_left (λ (x : PlainWalk). x.by.command) k N l.plain r.plain.sorted r.plain.below le in
    rw (i, x, c, p, append-nil ks.isolations, append-nil ks.walks, append-nil ks.carries, append-nil ks.plain) refl

none_answered : (h : Head) (w k : ℕ) (done : List WorkerPart) (ans : List Answered) (ks js : Kinds) (l : Logs) → ks ≡ js → Leads (answer_lines w k [] l) (at_part h done (part ans ks)) (at_part h done (part (ans ++ []) js))
unfolding answer_lines
none_answered h w k done ans ks js l same =
    let last : at_part h done (part ans ks) ≡ at_part h done (part (ans ++ []) js) = ap (λ (xs : List Answered). at_part h done (part xs ks)) (sym (append-nil ans)) ∙ ap (λ (is : Kinds). at_part h done (part (ans ++ []) is)) same in
    subst (λ (r : Report). Leads [] (at_part h done (part ans ks)) r) last (leads_none (at_part h done (part ans ks)))

-- from a report whose last part is this worker's
answers_lead : (h : Head) (w k N : ℕ) (done : List WorkerPart) (ans : List Answered) (ks : Kinds) (us : List Answered) (l : Logs)
    → length done ≡ w → length ans ≡ k → w < 2 ^ 16 → k + length us ≡ N → AllByRecursion IsAnswerFit us → AreLogs w k N l
    → Leads (answer_lines w k us l) (at_part h done (part ans ks)) (at_part h done (part (ans ++ us) (joined_kinds ks (all_of l))))
answers_lead h w k N done ans ks [] l e f few count fits logs = no_answers (no_kinds w k N l ks logs (omega arith))
  where
    no_answers : ks ≡ joined_kinds ks (all_of l) → Leads (answer_lines w k [] l) (at_part h done (part ans ks)) (at_part h done (part (ans ++ []) (joined_kinds ks (all_of l))))
    no_answers same = none_answered h w k done ans ks (joined_kinds ks (all_of l)) l same
answers_lead h w k N done ans ks (a ∷ us) l e f few count fits logs =
    answer_leads h w k N (done ++ part ans ks ∷ []) done ans ks a us l e f few fits.0 logs (padded_same w done (part ans ks) e)
    (answers_lead h w (k + 1) N done (ans ++ a ∷ []) (joined_kinds ks (now_in k l)) us (after_command k l) e (longer ans a k f) few (count_down k (length us) N count) fits.1 (are_later w k N l logs))

-- ---- the parts

-- what is known of a part of a report
pub record IsPartFit (p : WorkerPart) : Type 0 where
  pub numbers : IsPartNumbered p
  pub tight : IsTightPart p

part_is : (p : WorkerPart) → IsTightPart p → part p.answers.items (all_of (logs_of p)) ≡ p
part_is p tight = rw (tight_is p.answers tight.answers, tight_is p.walks tight.walks, tight_is p.carries tight.carries, tight_is p.plain tight.plain, tight_is p.isolations tight.isolations) refl

all_answers : (ans : List Answered) → AllByRecursion (λ (a : Answered). LendsWord a.reply) ans → AllByRecursion IsAnsweredNumbered ans → AllByRecursion IsAnswerFit ans
all_answers [] h k = tt
all_answers (a ∷ ans) h k = (record { lends = h.0; numbers = k.0 }, all_answers ans h.1 k.1)

all_walks : (xs : List WalkRecord) → AllByRecursion IsWalkWell xs → AllByRecursion IsWalkNumbered xs → AllByRecursion IsTightWalk xs → AllByRecursion IsWalkFit xs
all_walks [] h k t = tt
all_walks (x ∷ xs) h k t = (record { bits = h.0.words; numbers = k.0; tight = t.0 }, all_walks xs h.1 k.1 t.1)

all_plain : (xs : List PlainWalk) → AllByRecursion IsPlainNumbered xs → AllByRecursion IsTightPlain xs → AllByRecursion IsPlainFit xs
all_plain [] k t = tt
all_plain (x ∷ xs) k t = (record { numbers = k.0; tight = t.0 }, all_plain xs k.1 t.1)

logs_are : (w : ℕ) (p : WorkerPart) → IsPartWell w p → IsPartFit p → AreLogs w 0 (length p.answers.items) (logs_of p)
logs_are w p well fit = record {
  isolations = of_commands (λ (x : Isolation). x.by) IsIsolationNumbered w (length p.answers.items) p.isolations.items fit.numbers.isolations well.isolations;
  walks = of_commands (λ (x : WalkRecord). x.by) IsWalkFit w (length p.answers.items) p.walks.items (all_walks p.walks.items well.walks fit.numbers.walks fit.tight.each) (record { by = well.walkers; order = well.walk_order });
  carries = of_commands (λ (x : Carry). x.by) IsCarryNumbered w (length p.answers.items) p.carries.items fit.numbers.carries (record { by = well.carriers; order = well.carry_order });
  plain = of_commands (λ (x : PlainWalk). x.by) IsPlainFit w (length p.answers.items) p.plain.items (all_plain p.plain.items fit.numbers.plain fit.tight.each_plain) well.plain;
}

-- nothing besides answers
abbrev no_logs : Kinds
no_logs = kinds [] [] [] []

-- the lines of a part that has an answer lead to it
part_leads : (h : Head) (w : ℕ) (before done : List WorkerPart) (p : WorkerPart) (a : Answered) (us : List Answered) → length done ≡ w → w < 2 ^ 16 → IsPartWell w p → IsPartFit p → p.answers.items ≡ a ∷ us → padded w before ≡ done ++ no_part ∷ []
    → Leads (worker_lines w p) (report_of h before [] [] no_tail) (report_of h (done ++ p ∷ []) [] [] no_tail)
part_leads h w before done p a us e few well fit is pad =
    let N = length p.answers.items in
    let l = logs_of p in
    let count : 0 + length (a ∷ us) ≡ N = zero_on (length (a ∷ us)) ∙ ap length (sym is) in
    let fits : AllByRecursion IsAnswerFit (a ∷ us) = subst (λ xs. AllByRecursion IsAnswerFit xs) is (all_answers p.answers.items well.answers fit.numbers.answers) in
    let logs = logs_are w p well fit in
    let later = answers_lead h w (0 + 1) N done (a ∷ []) (now_in 0 l) us (after_command 0 l) e refl few (count_down 0 (length us) N count) fits.1 (are_later w 0 N l logs) in
    let all = answer_leads h w 0 N before done [] no_logs a us l e refl few fits.0 logs pad later in
    subst (λ (q : WorkerPart). Leads (worker_lines w p) (report_of h before [] [] no_tail) (report_of h (done ++ q ∷ []) [] [] no_tail)) (part_is p fit.tight)
    (subst (λ (xs : List Answered). Leads (answer_lines w 0 xs l) (report_of h before [] [] no_tail) (at_part h done (part xs (all_of l)))) (sym is) all)

empty_part : (w : ℕ) (p : WorkerPart) → IsPartWell w p → IsPartFit p → p.answers.items ≡ [] → p ≡ no_part
empty_part w p well fit e =
    let logs = logs_are w p well fit in
    let none : length p.answers.items ≤ 0 = rw e (omega arith) in
    let same : no_logs ≡ all_of (logs_of p) = no_kinds w 0 (length p.answers.items) (logs_of p) no_logs logs none in
    sym (part_is p fit.tight) ∙ ap (λ (xs : List Answered). part xs (all_of (logs_of p))) e ∙ ap (λ (ks : Kinds). part [] ks) (sym same)

no_answer : (p : WorkerPart) → p.answers.items ≡ [] → 0 < length p.answers.items → ⊥
no_answer p e h = let k = rw e at h in absurd (omega arith)

one_more : (m : ℕ) (front done : List WorkerPart) → done ≡ front ++ replicate m no_part → done ++ no_part ∷ [] ≡ front ++ replicate (m + 1) no_part
one_more m front done e =
    ap (λ (xs : List WorkerPart). xs ++ no_part ∷ []) e ∙ append_assoc front (replicate m no_part) (no_part ∷ []) ∙ ap (λ (xs : List WorkerPart). front ++ xs) (replicate-append-replicate m 1 no_part)

length_more : (w : ℕ) (done : List WorkerPart) (p : WorkerPart) → length done ≡ w → length (done ++ p ∷ []) ≡ w + 1
length_more w done p e = simp length-append (omega arith)

-- the lines of a part, and those of later ones
both_lead : (h : Head) (w : ℕ) (front middle all : List WorkerPart) (p : WorkerPart) (ps : List WorkerPart) → Leads (worker_lines w p) (report_of h front [] [] no_tail) (report_of h middle [] [] no_tail) → Leads (numbered worker_lines (w + 1) ps) (report_of h middle [] [] no_tail) (report_of h all [] [] no_tail)
    → Leads (numbered worker_lines w (p ∷ ps)) (report_of h front [] [] no_tail) (report_of h all [] [] no_tail)
unfolding numbered
both_lead h w front middle all p ps l k = leads_then (worker_lines w p) (numbered worker_lines (w + 1) ps) (report_of h front [] [] no_tail) (report_of h middle [] [] no_tail) (report_of h all [] [] no_tail) l k

none_leads : (h : Head) (w : ℕ) (ps : List WorkerPart) → Leads (numbered worker_lines w []) (report_of h ps [] [] no_tail) (report_of h ps [] [] no_tail)
unfolding numbered
none_leads h w ps = leads_none (report_of h ps [] [] no_tail)

few_of : (w n : ℕ) → w + suc n ≤ 2 ^ 16 → w < 2 ^ 16
few_of w n h = omega arith

few_later : (w n : ℕ) → w + suc n ≤ 2 ^ 16 → (w + 1) + n ≤ 2 ^ 16
few_later w n h = omega arith

-- the lines of parts lead to them, where those before that are left out had no answer
parts_lead : (h : Head) (w m : ℕ) (front done : List WorkerPart) (p : WorkerPart) (ps : List WorkerPart) (us : List Answered) → p.answers.items ≡ us → done ≡ front ++ replicate m no_part → length done ≡ w → w + length (p ∷ ps) ≤ 2 ^ 16
    → AreParts w (p ∷ ps) → AllByRecursion IsPartFit (p ∷ ps) → LastAnswers (p ∷ ps)
    → Leads (numbered worker_lines w (p ∷ ps)) (report_of h front [] [] no_tail) (report_of h (done ++ p ∷ ps) [] [] no_tail)
unfolding AreParts
parts_lead h w m front done p [] [] is e len few well fits last = absurd (no_answer p is (last [] p refl))
parts_lead h w m front done p [] (a ∷ us) is e len few well fits last =
    both_lead h w front (done ++ p ∷ []) (done ++ p ∷ []) p [] (part_leads h w front done p a us len (few_of w 0 few) well.0 fits.0 is (padded_more w m front done e len)) (none_leads h (w + 1) (done ++ p ∷ []))
parts_lead h w m front done p (q ∷ qs) [] is e len few well fits last =
    let none : p ≡ no_part = empty_part w p well.0 fits.0 is in
    let lag : done ++ p ∷ [] ≡ front ++ replicate (m + 1) no_part = ap (λ (x : WorkerPart). done ++ x ∷ []) none ∙ one_more m front done e in
    let here : Leads (worker_lines w p) (report_of h front [] [] no_tail) (report_of h front [] [] no_tail) = subst (λ (t : List ℕ). Leads t (report_of h front [] [] no_tail) (report_of h front [] [] no_tail)) (sym (silent w p is)) (leads_none (report_of h front [] [] no_tail)) in
    let more = parts_lead h (w + 1) (m + 1) front (done ++ p ∷ []) q qs q.answers.items refl lag (length_more w done p len) (few_later w (length (q ∷ qs)) few) well.1 fits.1 (last_later p (q ∷ qs) last) in
    both_lead h w front front (done ++ p ∷ q ∷ qs) p (q ∷ qs) here
    (subst (λ (ps : List WorkerPart). Leads (numbered worker_lines (w + 1) (q ∷ qs)) (report_of h front [] [] no_tail) (report_of h ps [] [] no_tail)) (append_assoc done (p ∷ []) (q ∷ qs)) more)
parts_lead h w m front done p (q ∷ qs) (a ∷ us) is e len few well fits last =
    let here = part_leads h w front done p a us len (few_of w (length (q ∷ qs)) few) well.0 fits.0 is (padded_more w m front done e len) in
    let more = parts_lead h (w + 1) 0 (done ++ p ∷ []) (done ++ p ∷ []) q qs q.answers.items refl (sym (append-nil (done ++ p ∷ []))) (length_more w done p len) (few_later w (length (q ∷ qs)) few) well.1 fits.1 (last_later p (q ∷ qs) last) in
    both_lead h w front (done ++ p ∷ []) (done ++ p ∷ q ∷ qs) p (q ∷ qs) here
    (subst (λ (ps : List WorkerPart). Leads (numbered worker_lines (w + 1) (q ∷ qs)) (report_of h (done ++ p ∷ []) [] [] no_tail) (report_of h ps [] [] no_tail)) (append_assoc done (p ∷ []) (q ∷ qs)) more)

-- the lines of the workers lead to their parts
pub lead_workers : (h : Head) (ps : List WorkerPart) → length ps ≤ 2 ^ 16 → AreParts 0 ps → AllByRecursion IsPartFit ps → LastAnswers ps → Leads (numbered worker_lines 0 ps) (report_of h [] [] [] no_tail) (report_of h ps [] [] no_tail)
lead_workers h [] few well fits last = none_leads h 0 []
lead_workers h (p ∷ ps) few well fits last = parts_lead h 0 0 [] [] p ps p.answers.items refl refl refl (zero_few (length (p ∷ ps)) few) well fits last
  where
    zero_few : (n : ℕ) → n ≤ 2 ^ 16 → 0 + n ≤ 2 ^ 16
    zero_few n h = omega arith
