-- SPDX-License-Identifier: GPL-2.0-only
-- Answers noted one after another.
use Rattle.shr_audit_reasons.proofs.Common.{◌≡◌, ℕ, zero, suc, ◌++◌, [], ◌∷◌, ◌+◌, ◌<◌, ◌≤◌, Bool, true, false, List, length, Option, Some, None, refl, sym, ap, subst, ◌∙◌, inl, inr, arith, ◌↔◌, slice_get, option_map, IsSomeAnd, nat_tests, slice_get_within, Serial, Reply, Script, WorkerPart, Report, command_at, reply_at, serial_of, Cited, Never, Once, Often, AreCited, AreCitedBefore, AnswerCites, CitesNow, IsEarlier, NotesAnswer, TellsCited, cited_in, noted_at, ◌⊎◌, ◌==◌, not, answer_at, answers_in, answers_of, IsNever, after_cited}
use Rattle.std.proofs.lemmas.List.{get_or-set_same, get_or-set_other, length-set}
use Rattle.shr_base.specs.declared.replies.Answered.{Answered}
use Rattle.shr_audit_reasons.specs.declared.cites.What.{What}
use Rattle.shr_report.proofs.Reading.{either}
use Rattle.std.proofs.lemmas.Bool.{or_parts}
use Rattle.shr_model.proofs.Lists.{some_injective}

-- ---- the order of commands

none_before : (x : Serial) → IsEarlier 0 0 x → ⊥
none_before x (inl lt) = omega (arith, lt)
none_before x (inr h) = let lt = h.1 in omega (arith, lt)

not_before_itself : (w k : ℕ) → IsEarlier w k (serial_of w k) → ⊥
not_before_itself w k (inl lt) = let below : w < w = lt in omega arith
not_before_itself w k (inr h) = let below : k < k = h.1 in omega arith

one_later : (w k : ℕ) (x : Serial) → IsEarlier w k x → IsEarlier w (k + 1) x
one_later w k x (inl lt) = inl lt
one_later w k x (inr h) = inr (h.0, (let lt = h.1 in omega (arith, lt)))

itself_later : (w k : ℕ) → IsEarlier w (k + 1) (serial_of w k)
itself_later w k = inr (refl, (omega arith))

before_or_itself : (w k : ℕ) (x : Serial) → IsEarlier w (k + 1) x → IsEarlier w k x ⊎ (x ≡ serial_of w k)
before_or_itself w k x (inl lt) = inl (inl lt)
before_or_itself w k x (inr h) = by_order (x.command == k) refl
  where
    by_order : (b : Bool) → (x.command == k) ≡ b → IsEarlier w k x ⊎ (x ≡ serial_of w k)
    by_order true f =
        let same : x.command ≡ k = grind (arith, nat_tests) in
        inr (ap (λ (v : ℕ). serial_of v x.command) h.0 ∙ ap (λ (j : ℕ). serial_of w j) same)
    by_order false f = inl (inr (h.0, (let below = h.1 in let other : x.command ≡ k → ⊥ = grind (arith, nat_tests) in grind arith)))

-- the same is told of what is so of the same commands
pub tells_same : (P Q : Serial → Type 0) → ((x : Serial) → P x → Q x) → ((x : Serial) → Q x → P x) → (c : Cited) → TellsCited P c → TellsCited Q c
tells_same P Q to from Never t = λ x q. t x (from x q)
tells_same P Q to from (Once w k) t = (to (serial_of w k) t.0, λ x q. t.1 x (from x q))
tells_same P Q to from (Often w k others) t = record {
  so = to (serial_of w k) t.so;
  two = (t.two.0, t.two.1, to t.two.0 t.two.2);
  first = λ x q same. t.first x (from x q) same;
  alone = λ e x q. t.alone e x (from x q);
  apart = λ e. (let y = t.apart e in (y.0, y.1, to y.0 y.2));
}

-- tests of workers
same_of : (v w : ℕ) → not (v == w) ≡ false → w ≡ v
same_of v w e = by (v == w) refl e
  where
    by : (b : Bool) → (v == w) ≡ b → not b ≡ false → w ≡ v
    by true f g = let same : v ≡ w = grind (arith, nat_tests) in sym same
    by false f g = absurd cc

apart_of : (v w : ℕ) → not (v == w) ≡ true → w ≡ v → ⊥
apart_of v w e same = by (v == w) refl e
  where
    by : (b : Bool) → (v == w) ≡ b → not b ≡ true → ⊥
    by true f g = absurd cc
    by false f g = let other : v ≡ w → ⊥ = grind (arith, nat_tests) in other (sym same)

-- one more is so, which comes behind all of which it was
module _ (P Q : Serial → Type 0) (w k : ℕ) (to : (x : Serial) → P x → Q x) (from : (x : Serial) → Q x → P x ⊎ (x ≡ serial_of w k)) (earlier : (x : Serial) → P x → IsEarlier w k x) (own : Q (serial_of w k)) where
  not_itself : (x : Serial) → P x → serial_of w k ≡ x → ⊥
  not_itself x p same = not_before_itself w k (subst (IsEarlier w k) (sym same) (earlier x p))

  firsts : (v j : ℕ) → P (serial_of v j) → ((x : Serial) → P x → x.worker ≡ v → j ≤ x.command) → (x : Serial) → Q x → x.worker ≡ v → j ≤ x.command
  firsts v j so first x q same = elim (from x q) [
    | inl p ↦ first x p same
    | inr is ↦
        let here : w ≡ v = sym (ap (λ (y : Serial). y.worker) is) ∙ same in
        let command : x.command ≡ k = ap (λ (y : Serial). y.command) is in
        elim (earlier (serial_of v j) so) [
          | inl below ↦ let lt : v < w = below in absurd (omega (arith, lt, here))
          | inr h ↦ let lt : j < k = h.1 in omega (arith, lt, command)
        ]
  ]

  pub tells_more : (c : Cited) → TellsCited P c → TellsCited Q (after_cited c w k)
  tells_more Never t = (own, λ x q. elim (from x q) [ inl p ↦ absurd (t x p) | inr same ↦ same ])
  tells_more (Once v j) t = record {
    so = to (serial_of v j) t.0;
    two = (serial_of w k, not_itself (serial_of v j) t.0, own);
    first = firsts v j t.0 (λ x p same. (let e = ap (λ (y : Serial). y.command) (t.1 x p) in omega (arith, e)));
    alone = λ e x q. elim (from x q) [
      | inl p ↦ ap (λ (y : Serial). y.worker) (t.1 x p)
      | inr is ↦ ap (λ (y : Serial). y.worker) is ∙ same_of v w e
    ];
    apart = λ e. (serial_of w k, apart_of v w e, own);
  }
  tells_more (Often v j others) t = record {
    so = to (serial_of v j) t.so;
    two = (t.two.0, t.two.1, to t.two.0 t.two.2);
    first = firsts v j t.so t.first;
    alone = λ e x q. elim (from x q) [
      | inl p ↦ t.alone (or_parts others (not (v == w)) e).0 x p
      | inr is ↦ ap (λ (y : Serial). y.worker) is ∙ same_of v w (or_parts others (not (v == w)) e).1
    ];
    apart = λ e. elim (either others (not (v == w)) e) [
      | inl holds ↦ (let y = t.apart holds in (y.0, y.1, to y.0 y.2))
      | inr other ↦ (serial_of w k, apart_of v w other, own)
    ];
  }

-- ---- one answer

-- an answer that says nothing of an entry
pub nothing_told : (s : Script) (r : Report) (what : What) (w k n : ℕ) (c : Cited) → (AnswerCites s r what n (serial_of w k) → ⊥)
    → TellsCited (λ x. IsEarlier w k x × AnswerCites s r what n x) c → TellsCited (λ x. IsEarlier w (k + 1) x × AnswerCites s r what n x) c
nothing_told s r what w k n c silent t = tells_same (λ x. IsEarlier w k x × AnswerCites s r what n x) (λ x. IsEarlier w (k + 1) x × AnswerCites s r what n x)
    (λ x p. (one_later w k x p.0, p.1))
    (λ x q. elim (before_or_itself w k x q.0) [ inl before ↦ (before, q.1) | inr same ↦ absurd (silent (subst (λ (y : Serial). AnswerCites s r what n y) same q.1)) ]) c t

-- one that speaks of it
something_told : (s : Script) (r : Report) (what : What) (w k n : ℕ) (c : Cited) → AnswerCites s r what n (serial_of w k)
    → TellsCited (λ x. IsEarlier w k x × AnswerCites s r what n x) c → TellsCited (λ x. IsEarlier w (k + 1) x × AnswerCites s r what n x) (after_cited c w k)
something_told s r what w k n c own t = tells_more (λ x. IsEarlier w k x × AnswerCites s r what n x) (λ x. IsEarlier w (k + 1) x × AnswerCites s r what n x) w k
    (λ x p. (one_later w k x p.0, p.1))
    (λ x q. elim (before_or_itself w k x q.0) [ inl before ↦ inl (before, q.1) | inr same ↦ inr same ])
    (λ x p. p.0) (itself_later w k, own) c t

-- what an answer tells is noted
pub answer_noted : (s : Script) (r : Report) (what : What) (w k : ℕ) (told : Option ℕ) (table : List Cited) → ((n : ℕ) → AnswerCites s r what n (serial_of w k) ↔ (told ≡ Some n)) → NotesAnswer s r what w k table (noted_at told w k table)
answer_noted s r what w k None table tells = record {
  count = refl;
  noted = λ before n lt. nothing_told s r what w k n (cited_in table n) (λ c. let e : ◌≡◌ {A = Option ℕ} None (Some n) = (tells n).0 c in cc) (before n lt);
}
answer_noted s r what w k (Some m) table tells = record {
  count = length-set table m (after_cited (cited_in table m) w k);
  noted = λ before n lt. at before n (subst (λ (i : ℕ). n < i) (length-set table m (after_cited (cited_in table m) w k)) lt);
}
  where
    new : List Cited
    new = noted_at (Some m) w k table

    at : AreCitedBefore s r what w k table → (n : ℕ) → n < length table → TellsCited (λ x. IsEarlier w (k + 1) x × AnswerCites s r what n x) (cited_in new n)
    at before n lt = by_order (n == m) refl
      where
        by_order : (b : Bool) → (n == m) ≡ b → TellsCited (λ x. IsEarlier w (k + 1) x × AnswerCites s r what n x) (cited_in new n)
        by_order true f =
            let same : m ≡ n = grind (arith, nat_tests) in
            let here : m < length table = subst (λ (i : ℕ). i < length table) (sym same) lt in
            subst (λ (i : ℕ). TellsCited (λ x. IsEarlier w (k + 1) x × AnswerCites s r what i x) (cited_in new i)) same
            (subst (TellsCited (λ x. IsEarlier w (k + 1) x × AnswerCites s r what m x)) (sym (get_or-set_same table m (after_cited (cited_in table m) w k) Never here))
            (something_told s r what w k m (cited_in table m) ((tells m).1 refl) (before m here)))
        by_order false f =
            let other : n ≡ m → ⊥ = grind (arith, nat_tests) in
            subst (TellsCited (λ x. IsEarlier w (k + 1) x × AnswerCites s r what n x)) (sym (get_or-set_other table m n (after_cited (cited_in table m) w k) Never other))
            (nothing_told s r what w k n (cited_in table n) (λ c. other (sym (some_injective m n ((tells n).0 c)))) (before n lt))

-- what the answer to a command tells, by its reply
cites_reply : (s : Script) (r : Report) (what : What) (w k n : ℕ) (a : Answered) → answer_at r (serial_of w k) ≡ Some a → AnswerCites s r what n (serial_of w k) ↔ CitesNow r what (command_at s (serial_of w k)) a.reply n
cites_reply s r what w k n a there = (to (answer_at r (serial_of w k)) there, from (answer_at r (serial_of w k)) there)
  where
    to : (o : Option Answered) → o ≡ Some a → IsSomeAnd (option_map (λ (b : Answered). b.reply) o) (λ x. CitesNow r what (command_at s (serial_of w k)) x n) → CitesNow r what (command_at s (serial_of w k)) a.reply n
    to None e c = absurd c
    to (Some b) e c = subst (λ (x : Answered). CitesNow r what (command_at s (serial_of w k)) x.reply n) (some_injective b a e) c

    from : (o : Option Answered) → o ≡ Some a → CitesNow r what (command_at s (serial_of w k)) a.reply n → IsSomeAnd (option_map (λ (b : Answered). b.reply) o) (λ x. CitesNow r what (command_at s (serial_of w k)) x n)
    from None e c = absurd (cc)
    from (Some b) e c = subst (λ (x : Answered). CitesNow r what (command_at s (serial_of w k)) x.reply n) (sym (some_injective b a e)) c

pub told_noted : (s : Script) (r : Report) (what : What) (w k : ℕ) (a : Answered) (told : Option ℕ) (table : List Cited) → Some a ≡ answer_at r (serial_of w k)
    → ((n : ℕ) → CitesNow r what (command_at s (serial_of w k)) a.reply n ↔ (told ≡ Some n)) → NotesAnswer s r what w k table (noted_at told w k table)
told_noted s r what w k a told table there tells = answer_noted s r what w k told table (λ n. (let c = cites_reply s r what w k n a (sym there) in (λ h. (tells n).0 (c.0 h), λ e. c.1 ((tells n).1 e))))

-- there is no answer
pub none_noted : (s : Script) (r : Report) (what : What) (w k : ℕ) (table : List Cited) → answer_at r (serial_of w k) ≡ None → NotesAnswer s r what w k table table
none_noted s r what w k table none = record {
  count = refl;
  noted = λ before n lt. nothing_told s r what w k n (cited_in table n) (λ c. no (answer_at r (serial_of w k)) none n c) (before n lt);
}
  where
    no : (o : Option Answered) → o ≡ None → (n : ℕ) → IsSomeAnd (option_map (λ (a : Answered). a.reply) o) (λ x. CitesNow r what (command_at s (serial_of w k)) x n) → ⊥
    no None e n c = c
    no (Some a) e n c = absurd cc

-- ---- workers

-- a command with an answer has a number below that of its worker's answers
has_answer : (r : Report) (x : Serial) (P : Reply → Type 0) → IsSomeAnd (reply_at r x) P → x.command < length (answers_of r x.worker)
has_answer r x P h = there (answer_at r x) refl h
  where
    there : (o : Option Answered) → answer_at r x ≡ o → IsSomeAnd (option_map (λ (a : Answered). a.reply) o) P → x.command < length (answers_of r x.worker)
    there None e c = absurd c
    there (Some a) e c = slice_get_within (answers_of r x.worker) x.command a e

-- and a worker below the number of parts
has_part : (r : Report) (x : Serial) (P : Reply → Type 0) → IsSomeAnd (reply_at r x) P → x.worker < length r.workers.items
has_part r x P h = there (slice_get r.workers.items x.worker) refl (has_answer r x P h)
  where
    there : (o : Option WorkerPart) → slice_get r.workers.items x.worker ≡ o → x.command < length (answers_in o) → x.worker < length r.workers.items
    there None e lt = absurd (omega (arith, lt))
    there (Some part) e lt = slice_get_within r.workers.items x.worker part e

-- the next worker begins where the last answer of this one was noted
pub next_worker : (s : Script) (r : Report) (what : What) (w k : ℕ) (table : List Cited) → length (answers_of r w) ≤ k → AreCitedBefore s r what w k table → AreCitedBefore s r what (w + 1) 0 table
next_worker s r what w k table over before n lt = tells_same (λ x. IsEarlier w k x × AnswerCites s r what n x) (λ x. IsEarlier (w + 1) 0 x × AnswerCites s r what n x)
    (λ x p. (up x p.0, p.1)) (λ x q. (down x q.0 q.1, q.1)) (cited_in table n) (before n lt)
  where
    up : (x : Serial) → IsEarlier w k x → IsEarlier (w + 1) 0 x
    up x (inl below) = inl (omega (arith, below))
    up x (inr h) = inl (let same = h.0 in omega (arith, same))

    down : (x : Serial) → IsEarlier (w + 1) 0 x → AnswerCites s r what n x → IsEarlier w k x
    down x (inr h) c = absurd (let below = h.1 in omega (arith, below))
    down x (inl below) c = by_order (x.worker == w) refl
      where
        by_order : (b : Bool) → (x.worker == w) ≡ b → IsEarlier w k x
        by_order true f =
            let same : x.worker ≡ w = grind (arith, nat_tests) in
            let few : x.command < length (answers_of r w) = subst (λ (v : ℕ). x.command < length (answers_of r v)) same (has_answer r x (λ y. CitesNow r what (command_at s x) y n) c) in
            inr (same, (omega (arith, few, over)))
        by_order false f = inl (let other : x.worker ≡ w → ⊥ = grind (arith, nat_tests) in grind arith)

-- an empty table, and one place more in it
pub never_none : (table : List Cited) → table ≡ [] → (n : ℕ) → cited_in table n ≡ Never
never_none table none n = ap (λ (xs : List Cited). cited_in xs n) none

pub never_push : (table : List Cited) → ((n : ℕ) → cited_in table n ≡ Never) → (n : ℕ) → cited_in (table ++ Never ∷ []) n ≡ Never
never_push [] h zero = refl
never_push [] h (suc n) = h n
never_push (x ∷ xs) h zero = h 0
never_push (x ∷ xs) h (suc n) = never_push xs (λ m. h (suc m)) n

-- before the first
pub first_worker : (s : Script) (r : Report) (what : What) (size : ℕ) (table : List Cited) → IsNever size table → AreCitedBefore s r what 0 0 table
first_worker s r what size table never n lt = subst (TellsCited (λ x. IsEarlier 0 0 x × AnswerCites s r what n x)) (sym (never.each n)) (λ x p. none_before x p.0)

-- behind the last
pub last_worker : (s : Script) (r : Report) (what : What) (w : ℕ) (table : List Cited) → length r.workers.items ≤ w → AreCitedBefore s r what w 0 table → AreCited s r what (length table) table
last_worker s r what w table over before = record {
  count = refl;
  each = λ n lt. tells_same (λ x. IsEarlier w 0 x × AnswerCites s r what n x) (λ x. AnswerCites s r what n x) (λ x p. p.1)
      (λ x c. (inl (let part = has_part r x (λ y. CitesNow r what (command_at s x) y n) c in omega (arith, part, over)), c)) (cited_in table n) (before n lt);
}
