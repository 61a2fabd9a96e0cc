-- SPDX-License-Identifier: GPL-2.0-only
-- The workers of a report are parted in one way.
use Rattle.shr_report.proofs.Common.{◌≡◌, ℕ, suc, ◌+◌, ◌<◌, ◌≤◌, List, [], ◌∷◌, ◌++◌, length, map, Some, ◌⊎◌, inl, inr, refl, sym, ap, subst, ◌∙◌, append_assoc, arith, slice_get, AllByRecursion, AllZip, AllAdjacentBelow, Serial, Reply, Answered, WalkRecord, Carry, PlainWalk, Isolation, WorkerPart, reply_line, logs_of, worker_lines, LendsWord, AreOfCommands, IsPartWell, read_reply_line, add-zero, slice_index_or, IsWalkWell, IsSamePart}
use Rattle.shr_laws.specs.Lines.{numbered}
use Rattle.shr_laws.specs.Text.{answer_lines}
use Rattle.shr_report.proofs.Printed.{one_line}
use Rattle.shr_report.proofs.LinesBack.{printed_reply}
use Rattle.shr_report.proofs.Sections.{kind, kind_reply, all_any}
use Rattle.shr_report.proofs.WalksBack.{HasBitWords}
use Rattle.shr_report.proofs.PartsBack.{Sorted, all_second, Remain, IsAny, IsAnyPlain, IsAnyIsolation, LogsRemain, IsOutside, IsPast, IsAnsweredWell, reply_outside}
use Rattle.shr_report.proofs.AnswersBack.{answers_once, answer_first}

-- the parts are well formed, each for the worker of its number
unfoldable pub AreParts : ℕ → List WorkerPart → Type 0
AreParts n [] = Unit {0}
AreParts n (p ∷ ps) = IsPartWell n p × AreParts (n + 1) ps

-- parts that are well formed one by one are so together
pub parts_from : (n : ℕ) (ps : List WorkerPart) → ((i : ℕ) (p : WorkerPart) → slice_get ps i ≡ Some p → IsPartWell (n + i) p) → AreParts n ps
unfolding AreParts
parts_from n [] h = tt
parts_from n (p ∷ ps) h =
    let first : IsPartWell n p = subst (λ (j : ℕ). IsPartWell j p) (add-zero n) (h 0 p refl) in
    (first, parts_from (n + 1) ps (λ i q e. subst (λ (j : ℕ). IsPartWell j q) (moved n i) (h (suc i) q e)))
  where
    moved : (n i : ℕ) → n + suc i ≡ (n + 1) + i
    moved n i = omega arith

-- ---- what follows from the facts of a part

sorted_tail : {X : Type 0} (c : X → ℕ) (x : X) (xs : List X) → AllAdjacentBelow (λ n m. n ≤ m) (map c (x ∷ xs)) (length (map c (x ∷ xs))) → Sorted c (c x) xs
unfolding Sorted
sorted_tail c x [] h = tt
sorted_tail c x (y ∷ ys) h = (h 0 0 (omega arith), sorted_tail c y ys (λ k d lt. later k d lt (h (suc k) d)))
  where
    later : (k d : ℕ) → k + 1 < length (map c (y ∷ ys)) → (suc k + 1 < length (map c (x ∷ y ∷ ys)) → slice_index_or (map c (x ∷ y ∷ ys)) (suc k) d ≤ slice_index_or (map c (x ∷ y ∷ ys)) (suc k + 1) d)
        → slice_index_or (map c (y ∷ ys)) k d ≤ slice_index_or (map c (y ∷ ys)) (k + 1) d
    later k d lt h = let e : suc k + 1 ≡ suc (k + 1) = omega arith in let g = rw e at h in g (omega arith)

pub sorted_from : {X : Type 0} (c : X → ℕ) (xs : List X) → AllAdjacentBelow (λ n m. n ≤ m) (map c xs) (length (map c xs)) → Sorted c 0 xs
unfolding Sorted
sorted_from c [] h = tt
sorted_from c (x ∷ xs) h = (omega arith, sorted_tail c x xs h)

pub all_first : {X : Type 0} (P Q : X → Type 0) (xs : List X) → AllByRecursion (λ x. P x × Q x) xs → AllByRecursion P xs
all_first P Q [] h = tt
all_first P Q (x ∷ xs) h = (h.0.0, all_first P Q xs h.1)

all_bit_words : (ws : List WalkRecord) → AllByRecursion IsWalkWell ws → AllByRecursion HasBitWords ws
all_bit_words [] h = tt
all_bit_words (w ∷ ws) h = (h.0.words, all_bit_words ws h.1)

pub walks_remain : (w : ℕ) (p : WorkerPart) → IsPartWell w p → Remain WalkRecord (λ x. x.by) HasBitWords w 0 (length p.answers.items) p.walks.items
walks_remain w p h = record {
  sorted = sorted_from (λ (x : WalkRecord). x.by.command) p.walks.items h.walk_order;
  workers = all_first (λ (x : WalkRecord). x.by.worker ≡ w) (λ (x : WalkRecord). x.by.command < length p.answers.items) p.walks.items h.walkers;
  below = all_second (λ (x : WalkRecord). x.by.worker ≡ w) (λ (x : WalkRecord). x.by.command < length p.answers.items) p.walks.items h.walkers;
  each = all_bit_words p.walks.items h.walks;
}

pub carries_remain : (w : ℕ) (p : WorkerPart) → IsPartWell w p → Remain Carry (λ x. x.by) IsAny w 0 (length p.answers.items) p.carries.items
carries_remain w p h = record {
  sorted = sorted_from (λ (x : Carry). x.by.command) p.carries.items h.carry_order;
  workers = all_first (λ (x : Carry). x.by.worker ≡ w) (λ (x : Carry). x.by.command < length p.answers.items) p.carries.items h.carriers;
  below = all_second (λ (x : Carry). x.by.worker ≡ w) (λ (x : Carry). x.by.command < length p.answers.items) p.carries.items h.carriers;
  each = all_any p.carries.items;
}

pub of_commands : {X : Type 0} (serial : X → Serial) (P : X → Type 0) (w n : ℕ) (xs : List X) → AllByRecursion P xs → AreOfCommands X serial w n xs → Remain X serial P w 0 n xs
of_commands serial P w n xs each h = record {
  sorted = sorted_from (λ x. (serial x).command) xs h.order;
  workers = all_first (λ x. (serial x).worker ≡ w) (λ x. (serial x).command < n) xs h.by;
  below = all_second (λ x. (serial x).worker ≡ w) (λ x. (serial x).command < n) xs h.by;
  each = each;
}

logs_remain : (w : ℕ) (p : WorkerPart) → IsPartWell w p → LogsRemain w 0 (length p.answers.items) (logs_of p)
logs_remain w p h = record {
  isolations = of_commands (λ (x : Isolation). x.by) IsAnyIsolation w (length p.answers.items) p.isolations.items (all_any p.isolations.items) h.isolations;
  walks = walks_remain w p h;
  carries = carries_remain w p h;
  plain = of_commands (λ (x : PlainWalk). x.by) IsAnyPlain w (length p.answers.items) p.plain.items (all_any p.plain.items) h.plain;
}

-- ---- the parts one behind another

-- the last has an answer
abbrev pub LastAnswers : List WorkerPart → Type 0
LastAnswers ps = (before : List WorkerPart) (part : WorkerPart) → ps ≡ before ++ part ∷ [] → 0 < length part.answers.items

pub last_later : (p : WorkerPart) (ps : List WorkerPart) → LastAnswers (p ∷ ps) → LastAnswers ps
last_later p ps h before part e = h (p ∷ before) part (ap (λ (x : List WorkerPart). p ∷ x) e)

-- a text that begins with an answer of a worker from this one on
pub record Replies (m : ℕ) (bytes : List ℕ) : Type 0 where
  worker : ℕ
  command : ℕ
  reply : Reply
  more : List ℕ
  is : bytes ≡ reply_line worker command reply ++ more
  low : m ≤ worker
  lends : LendsWord reply

worker_parts : (m : ℕ) (p : WorkerPart) (ps : List WorkerPart) (rest : List ℕ) → numbered worker_lines m (p ∷ ps) ++ rest ≡ worker_lines m p ++ (numbered worker_lines (m + 1) ps ++ rest)
unfolding numbered
worker_parts m p ps rest = append_assoc (worker_lines m p) (numbered worker_lines (m + 1) ps) rest

pub silent : (m : ℕ) (p : WorkerPart) → p.answers.items ≡ [] → worker_lines m p ≡ []
unfolding answer_lines
silent m p e = rw e refl

speaks : (m : ℕ) (p : WorkerPart) (a : Answered) (us : List Answered) (rest : List ℕ) → p.answers.items ≡ a ∷ us → LendsWord a.reply → Replies m (worker_lines m p ++ rest)
speaks m p a us rest e l =
    let more = answer_first m 0 a us (logs_of p) rest in
    record {
      worker = m;
      command = 0;
      reply = a.reply;
      more = more.0;
      is = ap (λ (xs : List Answered). answer_lines m 0 xs (logs_of p) ++ rest) e ∙ more.1;
      low = omega arith;
      lends = l;
    }

earlier : (m : ℕ) (bytes bytes' : List ℕ) → bytes ≡ bytes' → Replies (m + 1) bytes' → Replies m bytes
earlier m bytes bytes' e r = record { worker = r.worker; command = r.command; reply = r.reply; more = r.more; is = e ∙ r.is; low = let l = r.low in omega arith; lends = r.lends }

all_of : (us vs : List Answered) → us ≡ vs → AllByRecursion IsAnsweredWell us → AllByRecursion IsAnsweredWell vs
all_of us vs e h = subst (λ xs. AllByRecursion IsAnsweredWell xs) e h

is_empty : (p : WorkerPart) → p.answers.items ≡ [] → 0 < length p.answers.items → ⊥
is_empty p e h = let k = rw e at h in absurd (omega arith)

front_at : (m : ℕ) (p : WorkerPart) (ps : List WorkerPart) (rest : List ℕ) (us : List Answered) → p.answers.items ≡ us → AllByRecursion IsAnsweredWell us → LastAnswers (p ∷ ps)
    → ((q : WorkerPart) (qs : List WorkerPart) → ps ≡ q ∷ qs → Replies (m + 1) (numbered worker_lines (m + 1) ps ++ rest)) → Replies m (numbered worker_lines m (p ∷ ps) ++ rest)
front_at m p ps rest (a ∷ us) e h last later =
    let r = speaks m p a us (numbered worker_lines (m + 1) ps ++ rest) e h.0 in
    subst (λ (t : List ℕ). Replies m t) (sym (worker_parts m p ps rest)) r
front_at m p [] rest [] e h last later = absurd (is_empty p e (last [] p refl))
front_at m p (q ∷ qs) rest [] e h last later =
    earlier m (numbered worker_lines m (p ∷ q ∷ qs) ++ rest) (numbered worker_lines (m + 1) (q ∷ qs) ++ rest)
    (worker_parts m p (q ∷ qs) rest ∙ ap (λ (t : List ℕ). t ++ (numbered worker_lines (m + 1) (q ∷ qs) ++ rest)) (silent m p e)) (later q qs refl)

-- parts begin with an answer
front : (m : ℕ) (ps : List WorkerPart) (rest : List ℕ) (q : WorkerPart) (qs : List WorkerPart) → ps ≡ q ∷ qs → AreParts m ps → LastAnswers ps → Replies m (numbered worker_lines m ps ++ rest)
unfolding AreParts
front m [] rest q qs e h last = absurd cc
front m (p ∷ ps) rest q qs e h last =
    front_at m p ps rest p.answers.items refl h.0.answers last (λ r rs f. front (m + 1) ps rest r rs f h.1 (last_later p ps last))

-- either an answer of a worker from this one on, or what stands behind the workers
begins : (m : ℕ) (ps : List WorkerPart) (rest : List ℕ) → AreParts m ps → LastAnswers ps → 14 < kind rest → (14 < kind (numbered worker_lines m ps ++ rest)) ⊎ Replies m (numbered worker_lines m ps ++ rest)
unfolding numbered
begins m [] rest h last late = inl late
begins m (p ∷ ps) rest h last late = inr (front m (p ∷ ps) rest p ps refl h last)

late_outside : (k : ℕ) → 14 < k → IsOutside k
late_outside k h le = h

six_late : (k : ℕ) → k ≡ 6 → 14 < k → ⊥
six_late k e h = absurd (omega arith)

replies_kind : (m : ℕ) (bytes : List ℕ) → Replies m bytes → kind bytes ≡ 6
replies_kind m bytes r = ap kind r.is ∙ kind_reply r.worker r.command r.reply r.more

outside_of : (m : ℕ) (bytes : List ℕ) → (14 < kind bytes) ⊎ Replies m bytes → IsOutside (kind bytes)
outside_of m bytes (inl h) = late_outside (kind bytes) h
outside_of m bytes (inr r) = reply_outside (kind bytes) (replies_kind m bytes r)

past_of : (w : ℕ) (bytes : List ℕ) → (14 < kind bytes) ⊎ Replies (w + 1) bytes → IsPast w bytes
past_of w bytes (inl h) k r more l e = six_late (kind bytes) (ap kind e ∙ kind_reply w k r more) h
past_of w bytes (inr s) k r more l e =
    let one = one_line read_reply_line (w, r) (s.worker, s.reply) (reply_line w k r) (reply_line s.worker s.command s.reply) more s.more (printed_reply w k r l) (printed_reply s.worker s.command s.reply s.lends) (sym e ∙ s.is) in
    let same : w ≡ s.worker = ap (λ (x : ℕ × Reply). x.0) one.0 in
    let low : w + 1 ≤ s.worker = s.low in
    absurd (omega arith)

pub zero_on : (n : ℕ) → 0 + n ≡ n
zero_on n = omega arith

-- a text of workers is that of one list of workers only
pub workers_once : (w : ℕ) (ps qs : List WorkerPart) (rest rest' : List ℕ) → AreParts w ps → AreParts w qs → LastAnswers ps → LastAnswers qs
    → 14 < kind rest → 14 < kind rest' → numbered worker_lines w ps ++ rest ≡ numbered worker_lines w qs ++ rest' → AllZip IsSamePart ps qs × (rest ≡ rest')
unfolding AreParts numbered
workers_once w [] [] rest rest' h k last last' a b e = (tt, e)
workers_once w [] (q ∷ qs) rest rest' h k last last' a b e =
    absurd (six_late (kind rest) (ap kind e ∙ replies_kind w (numbered worker_lines w (q ∷ qs) ++ rest') (front w (q ∷ qs) rest' q qs refl k last')) a)
workers_once w (p ∷ ps) [] rest rest' h k last last' a b e =
    absurd (six_late (kind rest') (ap kind (sym e) ∙ replies_kind w (numbered worker_lines w (p ∷ ps) ++ rest) (front w (p ∷ ps) rest p ps refl h last)) b)
workers_once w (p ∷ ps) (q ∷ qs) rest rest' h k last last' a b e =
    let more = numbered worker_lines (w + 1) ps ++ rest in
    let more' = numbered worker_lines (w + 1) qs ++ rest' in
    let begin = begins (w + 1) ps rest h.1 (last_later p ps last) a in
    let begin' = begins (w + 1) qs rest' k.1 (last_later q qs last') b in
    let one = answers_once w 0 (length p.answers.items) (length q.answers.items) p.answers.items q.answers.items (logs_of p) (logs_of q) more more' h.0.answers k.0.answers
    (zero_on (length p.answers.items)) (zero_on (length q.answers.items)) (logs_remain w p h.0) (logs_remain w q k.0)
    (outside_of (w + 1) more begin) (outside_of (w + 1) more' begin') (past_of w more begin) (past_of w more' begin') (sym (worker_parts w p ps rest) ∙ e ∙ worker_parts w q qs rest') in
    let others = workers_once (w + 1) ps qs rest rest' h.1 k.1 (last_later p ps last) (last_later q qs last') a b one.others in
    let same : IsSamePart p q = record {
      answers = one.answers;
      walks = one.walks;
      carries = one.carries;
      plain = one.plain;
      isolations = one.isolations;
    } in
    ((same, others.0), others.1)

late_of : (bytes : List ℕ) → (14 < kind bytes) ⊎ Replies 0 bytes → 5 < kind bytes
late_of bytes (inl h) = omega arith
late_of bytes (inr r) = let e = replies_kind 0 bytes r in omega arith

-- workers begin with an answer, or what stands behind them begins
pub workers_late : (ps : List WorkerPart) (rest : List ℕ) → AreParts 0 ps → LastAnswers ps → 14 < kind rest → 5 < kind (numbered worker_lines 0 ps ++ rest)
workers_late ps rest h last late = late_of (numbered worker_lines 0 ps ++ rest) (begins 0 ps rest h last late)
