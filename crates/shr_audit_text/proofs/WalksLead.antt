-- SPDX-License-Identifier: GPL-2.0-only
-- The lines of a walk, and of a carry, lead to it.
use Rattle.shr_audit_text.proofs.Common.{◌≡◌, ℕ, ◌-◌, ◌<◌, ◌%◌, ◌^◌, List, [], ◌∷◌, ◌++◌, length, take, drop, flat_map, refl, sym, ap, subst, ◌∙◌, append_assoc, arith, AllByRecursion, prefix_len, append-nil, take-append-drop, length-append, Kept, Serial, Answered, Attempt, MapSeen, WalkRecord, Carry, PlainTry, PlainWalk, Isolation, WorkerPart, Report, numbered, walk_lines, carry_line, plain_lines, isolation_line, read_amount, IsBitWord, IsWalkNumbered, IsCarryNumbered, IsIsolationNumbered, IsPlainNumbered, all_both, kept, with_more, with_last, last_changed, last_command, walk_begun, isolated, plain_begun, passed_walk, IsTightWalk, IsTightPlain, read_attempt, read_map, read_walk, IsSeenNumbered, IsAttemptNumbered, IsTryNumbered, printed_attempt, printed_map, printed_walk, walk_line, amount_of, printed_carry, all_taken, with_walk, with_carry, with_isolation, with_plain, plain_head_of, isolation_head_of, read_isolation, read_pass_line, read_plain}
use Rattle.shr_model.specs.Pieces.{cut, pieces}
use Rattle.shr_laws.specs.WalkText.{attempt_line, map_line, map_lines, is_in_unit, pass_line}
use Rattle.shr_report.proofs.LinesBack as walk_heads
use Rattle.shr_report.proofs.PlainLinesBack.{printed_isolation, printed_pass, plain_line, printed_plain}
use Rattle.shr_report.proofs.PlainLinesBack as lines
use Rattle.shr_report.proofs.WalksBack.{HasBitWords}
use Rattle.shr_audit_text.specs.declared.said.Said.TheVariants as said
use Rattle.shr_audit_text.specs.declared.kinds.Kind.TheVariants as kind
use Rattle.shr_audit_text.specs.declared.kinds.PlainKind.TheVariants as plain
use Rattle.shr_audit_text.specs.Said.{plain_kind_of, head_of}
use Rattle.shr_audit_text.proofs.Leads.{Leads, first_word, leads_then, leads_printed, leads_items, leads_flat}
use Rattle.shr_audit_text.proofs.Flat.{Head, report_of, no_tail}
use Rattle.shr_audit_text.proofs.Lasts.{last_is, tight_is}

-- what a worker has besides its answers
pub record Kinds : Type 0 where
  pub isolations : List Isolation
  pub walks : List WalkRecord
  pub carries : List Carry
  pub plain : List PlainWalk

-- a part of these lists
abbrev pub part : List Answered → Kinds → WorkerPart
part answers k = record { answers = kept answers; walks = kept k.walks; carries = kept k.carries; plain = kept k.plain; isolations = kept k.isolations }

abbrev pub kinds : List Isolation → List WalkRecord → List Carry → List PlainWalk → Kinds
kinds isolations walks carries plain = record { isolations = isolations; walks = walks; carries = carries; plain = plain }

-- a report whose last part is this one
abbrev pub at_part : Head → List WorkerPart → WorkerPart → Report
at_part h done q = report_of h (done ++ q ∷ []) [] [] no_tail

-- a walk of these maps and attempts
abbrev walked : WalkRecord → List MapSeen → List Attempt → WalkRecord
walked x maps attempts = record { by = x.by; group = x.group; node = x.node; priority = x.priority; nofs = x.nofs; maps = kept maps; attempts = kept attempts; answer = x.answer }

-- the last walk of the last part is changed
walk_changed : (change : WalkRecord → WalkRecord) (done : List WorkerPart) (ans : List Answered) (ws : List WalkRecord) (cs : List Carry) (is : List Isolation) (ps : List PlainWalk) (v : WalkRecord)
    → with_last (λ (p : WorkerPart). record p { walks = last_changed change p.walks }) (done ++ part ans (kinds is (ws ++ v ∷ []) cs ps) ∷ []) ≡ done ++ part ans (kinds is (ws ++ change v ∷ []) cs ps) ∷ []
walk_changed change done ans ws cs is ps v =
    last_is (λ (p : WorkerPart). record p { walks = last_changed change p.walks }) done (part ans (kinds is (ws ++ v ∷ []) cs ps))
    ∙ ap (λ (xs : List WalkRecord). done ++ part ans (kinds is xs cs ps) ∷ []) (last_is change ws v)

-- a map that fits
abbrev IsMapFit : MapSeen → Type 0
IsMapFit m = IsBitWord m.bits × IsSeenNumbered m

one_map : (h : Head) (done : List WorkerPart) (ans : List Answered) (ws : List WalkRecord) (cs : List Carry) (is : List Isolation) (ps : List PlainWalk) (x : WalkRecord) (ms : List MapSeen) (us : List Attempt) (m : MapSeen) → IsMapFit m
    → Leads (map_line m) (at_part h done (part ans (kinds is (ws ++ walked x ms us ∷ []) cs ps))) (at_part h done (part ans (kinds is (ws ++ walked x (ms ++ m ∷ []) us ∷ []) cs ps)))
unfolding first_word cut pieces plain_kind_of
one_map h done ans ws cs is ps x ms us m k =
    subst (λ (all : List WorkerPart). Leads (map_line m) (at_part h done (part ans (kinds is (ws ++ walked x ms us ∷ []) cs ps))) (report_of h all [] [] no_tail))
    (walk_changed (λ (w : WalkRecord). record w { maps = with_more m w.maps }) done ans ws cs is ps (walked x ms us))
    (leads_printed read_map m (map_line m) (kind.Plain plain.Map) (λ y. said.Map y) (at_part h done (part ans (kinds is (ws ++ walked x ms us ∷ []) cs ps))) (printed_map m k.0) refl (λ f ws. refl) k.1)

one_attempt : (h : Head) (done : List WorkerPart) (ans : List Answered) (ws : List WalkRecord) (cs : List Carry) (is : List Isolation) (ps : List PlainWalk) (x : WalkRecord) (ms : List MapSeen) (u : Attempt) (us : List Attempt) → IsAttemptNumbered u
    → Leads (attempt_line u) (at_part h done (part ans (kinds is (ws ++ walked x ms us ∷ []) cs ps))) (at_part h done (part ans (kinds is (ws ++ walked x ms (us ++ u ∷ []) ∷ []) cs ps)))
unfolding first_word cut pieces plain_kind_of
one_attempt h done ans ws cs is ps x ms u us k =
    subst (λ (all : List WorkerPart). Leads (attempt_line u) (at_part h done (part ans (kinds is (ws ++ walked x ms us ∷ []) cs ps))) (report_of h all [] [] no_tail))
    (walk_changed (λ (w : WalkRecord). record w { attempts = with_more u w.attempts }) done ans ws cs is ps (walked x ms us))
    (leads_printed read_attempt u (attempt_line u) (kind.Plain plain.Try) (λ y. said.Try y) (at_part h done (part ans (kinds is (ws ++ walked x ms us ∷ []) cs ps))) (printed_attempt u) refl (λ f ws. refl) k)

attempts_lead : (h : Head) (done : List WorkerPart) (ans : List Answered) (ws : List WalkRecord) (cs : List Carry) (is : List Isolation) (ps : List PlainWalk) (x : WalkRecord) (ms : List MapSeen) (us before : List Attempt) → AllByRecursion IsAttemptNumbered us
    → Leads (flat_map attempt_line us) (at_part h done (part ans (kinds is (ws ++ walked x ms before ∷ []) cs ps))) (at_part h done (part ans (kinds is (ws ++ walked x ms (before ++ us) ∷ []) cs ps)))
attempts_lead h done ans ws cs is ps x ms us before all =
    leads_flat (λ (vs : List Attempt). at_part h done (part ans (kinds is (ws ++ walked x ms vs ∷ []) cs ps))) attempt_line IsAttemptNumbered (λ u vs k. one_attempt h done ans ws cs is ps x ms u vs k) us before all

maps_lead : (h : Head) (done : List WorkerPart) (ans : List Answered) (ws : List WalkRecord) (cs : List Carry) (is : List Isolation) (ps : List PlainWalk) (x : WalkRecord) (ms seen : List MapSeen) (us before : List Attempt) → AllByRecursion IsMapFit ms → AllByRecursion IsAttemptNumbered us
    → Leads (map_lines ms us) (at_part h done (part ans (kinds is (ws ++ walked x seen before ∷ []) cs ps))) (at_part h done (part ans (kinds is (ws ++ walked x (seen ++ ms) (before ++ us) ∷ []) cs ps)))
unfolding map_lines
maps_lead h done ans ws cs is ps x [] seen us before all each =
    subst (λ (ns : List MapSeen). Leads (flat_map attempt_line us) (at_part h done (part ans (kinds is (ws ++ walked x seen before ∷ []) cs ps))) (at_part h done (part ans (kinds is (ws ++ walked x ns (before ++ us) ∷ []) cs ps))))
    (sym (append-nil seen)) (attempts_lead h done ans ws cs is ps x seen us before each)
maps_lead h done ans ws cs is ps x (m ∷ ms) seen us before all each =
    let n = prefix_len (is_in_unit m.unit) us in
    let split = all_taken IsAttemptNumbered n us each in
    let here = attempts_lead h done ans ws cs is ps x (seen ++ m ∷ []) (take n us) before split.0 in
    let more = maps_lead h done ans ws cs is ps x ms (seen ++ m ∷ []) (drop n us) (before ++ take n us) all.1 split.1 in
    let maps : (seen ++ m ∷ []) ++ ms ≡ seen ++ m ∷ ms = append_assoc seen (m ∷ []) ms in
    let attempts : (before ++ take n us) ++ drop n us ≡ before ++ us = append_assoc before (take n us) (drop n us) ∙ ap (λ (vs : List Attempt). before ++ vs) (take-append-drop n us) in
    let at : List MapSeen → List Attempt → Report = λ ns vs. at_part h done (part ans (kinds is (ws ++ walked x ns vs ∷ []) cs ps)) in
    let last : at ((seen ++ m ∷ []) ++ ms) ((before ++ take n us) ++ drop n us) ≡ at (seen ++ m ∷ ms) (before ++ us) = rw (maps, attempts) refl in
    leads_then (map_line m ++ flat_map attempt_line (take n us)) (map_lines ms (drop n us)) (at seen before) (at (seen ++ m ∷ []) (before ++ take n us)) (at (seen ++ m ∷ ms) (before ++ us))
    (leads_then (map_line m) (flat_map attempt_line (take n us)) (at seen before) (at (seen ++ m ∷ []) before) (at (seen ++ m ∷ []) (before ++ take n us)) (one_map h done ans ws cs is ps x seen before m all.0) here)
    (subst (λ (r : Report). Leads (map_lines ms (drop n us)) (at (seen ++ m ∷ []) (before ++ take n us)) r) last more)

-- ---- whose a walk or a carry is

low : (n m : ℕ) → n < m → n % m ≡ n
low n m h = grind arith

-- the last command with an answer is that of the number of those before it
command_is : (w k : ℕ) (done : List WorkerPart) (ans : List Answered) (a : Answered) (ws : List WalkRecord) (cs : List Carry) (is : List Isolation) (ps : List PlainWalk) → length done ≡ w → length ans ≡ k → w < 2 ^ 16 → k < 2 ^ 32
    → last_command (length (done ++ part (ans ++ a ∷ []) (kinds is ws cs ps) ∷ []) - 1) (part (ans ++ a ∷ []) (kinds is ws cs ps)) ≡ record { worker = w; command = k }
command_is w k done ans a ws cs is ps e f few small =
    let worker : length (done ++ part (ans ++ a ∷ []) (kinds is ws cs ps) ∷ []) - 1 ≡ w = simp length-append (omega arith) in
    let command : length (ans ++ a ∷ []) - 1 ≡ k = simp length-append (omega arith) in
    rw (worker, command, low w (2 ^ 16) few, low k (2 ^ 32) small) refl

-- ---- a walk

-- what is known of a walk of a report
pub record IsWalkFit (x : WalkRecord) : Type 0 where
  pub bits : HasBitWords x
  pub numbers : IsWalkNumbered x
  pub tight : IsTightWalk x

walked_is : (x : WalkRecord) → IsTightWalk x → walked x x.maps.items x.attempts.items ≡ x
walked_is x t = parts (kept x.maps.items) x.maps (kept x.attempts.items) x.attempts (tight_is x.maps t.maps) (tight_is x.attempts t.attempts)
  where
    of : Kept MapSeen → Kept Attempt → WalkRecord
    of maps attempts = record { by = x.by; group = x.group; node = x.node; priority = x.priority; nofs = x.nofs; maps = maps; attempts = attempts; answer = x.answer }

    parts : (a b : Kept MapSeen) (c d : Kept Attempt) → a ≡ b → c ≡ d → of a c ≡ of b d
    parts a b c d e f = rw (e, f) refl

abbrev pub by_of : ℕ → ℕ → Serial
by_of w k = record { worker = w; command = k }

pub one_walk : (h : Head) (w k n : ℕ) (done : List WorkerPart) (ans : List Answered) (a : Answered) (ws : List WalkRecord) (cs : List Carry) (is : List Isolation) (ps : List PlainWalk) (x : WalkRecord) → length done ≡ w → length ans ≡ k → IsWalkFit x → x.by ≡ by_of w k
    → Leads (walk_lines n x) (at_part h done (part (ans ++ a ∷ []) (kinds is ws cs ps))) (at_part h done (part (ans ++ a ∷ []) (kinds is (ws ++ x ∷ []) cs ps)))
unfolding first_word cut pieces plain_kind_of
one_walk h w k n done ans a ws cs is ps x e f fit by =
    let us = ans ++ a ∷ [] in
    let few : w < 2 ^ 16 = subst (λ (s : Serial). s.worker < 2 ^ 16) by fit.numbers.by.worker in
    let small : k < 2 ^ 32 = subst (λ (s : Serial). s.command < 2 ^ 32) by fit.numbers.by.command in
    let command : last_command (length (done ++ part us (kinds is ws cs ps) ∷ []) - 1) (part us (kinds is ws cs ps)) ≡ x.by = command_is w k done ans a ws cs is ps e f few small ∙ sym by in
    let head = walk_heads.head_of x.group x.node x.priority x.nofs x.answer in
    let text = walk_line n x.group x.node x.priority x.nofs x.answer in
    let begins : with_walk (head_of head) (done ++ part us (kinds is ws cs ps) ∷ []) ≡ done ++ part us (kinds is (ws ++ walked x [] [] ∷ []) cs ps) ∷ [] =
    last_is (λ (p : WorkerPart). record p { walks = with_more (walk_begun (last_command (length (done ++ part us (kinds is ws cs ps) ∷ []) - 1) p) (head_of head)) p.walks }) done (part us (kinds is ws cs ps))
    ∙ ap (λ (s : Serial). done ++ part us (kinds is (ws ++ walk_begun s (head_of head) ∷ []) cs ps) ∷ []) command in
    let first = subst (λ (all : List WorkerPart). Leads text (at_part h done (part us (kinds is ws cs ps))) (report_of h all [] [] no_tail)) begins (first_line h w n done us ws cs is ps x fit) in
    let others = maps_lead h done us ws cs is ps x x.maps.items [] x.attempts.items [] (all_both (λ m. IsBitWord m.bits) IsSeenNumbered x.maps.items fit.bits fit.numbers.maps) fit.numbers.attempts in
    subst (λ (y : WalkRecord). Leads (walk_lines n x) (at_part h done (part us (kinds is ws cs ps))) (at_part h done (part us (kinds is (ws ++ y ∷ []) cs ps)))) (walked_is x fit.tight)
    (leads_then text (map_lines x.maps.items x.attempts.items) (at_part h done (part us (kinds is ws cs ps))) (at_part h done (part us (kinds is (ws ++ walked x [] [] ∷ []) cs ps))) (at_part h done (part us (kinds is (ws ++ walked x x.maps.items x.attempts.items ∷ []) cs ps))) first others)
  where
    first_line : (h : Head) (w n : ℕ) (done : List WorkerPart) (us : List Answered) (ws : List WalkRecord) (cs : List Carry) (is : List Isolation) (ps : List PlainWalk) (x : WalkRecord) → IsWalkFit x
        → Leads (walk_line n x.group x.node x.priority x.nofs x.answer) (at_part h done (part us (kinds is ws cs ps))) (report_of h (with_walk (head_of (walk_heads.head_of x.group x.node x.priority x.nofs x.answer)) (done ++ part us (kinds is ws cs ps) ∷ [])) [] [] no_tail)
    first_line h w n done us ws cs is ps x fit = leads_printed read_walk (walk_heads.head_of x.group x.node x.priority x.nofs x.answer) (walk_line n x.group x.node x.priority x.nofs x.answer) (kind.Plain plain.Walk) (λ y. said.Walk (head_of y))
        (at_part h done (part us (kinds is ws cs ps))) (printed_walk n x.group x.node x.priority x.nofs x.answer) refl (λ f ws. refl)
        (record { group = fit.numbers.group; node = fit.numbers.node; priority = fit.numbers.priority; answer = fit.numbers.answer })

-- ---- a carry

pub one_carry : (h : Head) (w k : ℕ) (done : List WorkerPart) (ans : List Answered) (a : Answered) (ws : List WalkRecord) (cs : List Carry) (is : List Isolation) (ps : List PlainWalk) (c : Carry) → length done ≡ w → length ans ≡ k → IsCarryNumbered c → c.by ≡ by_of w k
    → Leads (carry_line c) (at_part h done (part (ans ++ a ∷ []) (kinds is ws cs ps))) (at_part h done (part (ans ++ a ∷ []) (kinds is ws (cs ++ c ∷ []) ps)))
unfolding first_word cut pieces plain_kind_of
one_carry h w k done ans a ws cs is ps c e f fit by =
    let us = ans ++ a ∷ [] in
    let few : w < 2 ^ 16 = subst (λ (s : Serial). s.worker < 2 ^ 16) by fit.by.worker in
    let small : k < 2 ^ 32 = subst (λ (s : Serial). s.command < 2 ^ 32) by fit.by.command in
    let command : last_command (length (done ++ part us (kinds is ws cs ps) ∷ []) - 1) (part us (kinds is ws cs ps)) ≡ c.by = command_is w k done ans a ws cs is ps e f few small ∙ sym by in
    let carried : Serial → Carry = λ s. record { by = s; place = c.place; amount = c.amount } in
    let ends : with_carry (amount_of c) (done ++ part us (kinds is ws cs ps) ∷ []) ≡ done ++ part us (kinds is ws (cs ++ c ∷ []) ps) ∷ [] =
    last_is (λ (p : WorkerPart). record p { carries = with_more (carried (last_command (length (done ++ part us (kinds is ws cs ps) ∷ []) - 1) p)) p.carries }) done (part us (kinds is ws cs ps))
    ∙ ap (λ (s : Serial). done ++ part us (kinds is ws (cs ++ carried s ∷ []) ps) ∷ []) command in
    subst (λ (all : List WorkerPart). Leads (carry_line c) (at_part h done (part us (kinds is ws cs ps))) (report_of h all [] [] no_tail)) ends
    (leads_printed read_amount (amount_of c) (carry_line c) (kind.Plain plain.Carry) (λ y. said.Carry y) (at_part h done (part us (kinds is ws cs ps))) (printed_carry c) refl (λ f ws. refl) (record { place = fit.place; amount = fit.amount }))

-- ---- an isolation, and a walk of the pools

pub one_isolation : (h : Head) (w k : ℕ) (done : List WorkerPart) (ans : List Answered) (a : Answered) (ws : List WalkRecord) (cs : List Carry) (is : List Isolation) (ps : List PlainWalk) (i : Isolation) → length done ≡ w → length ans ≡ k → IsIsolationNumbered i → i.by ≡ by_of w k
    → Leads (isolation_line i) (at_part h done (part (ans ++ a ∷ []) (kinds is ws cs ps))) (at_part h done (part (ans ++ a ∷ []) (kinds (is ++ i ∷ []) ws cs ps)))
unfolding first_word cut pieces plain_kind_of
one_isolation h w k done ans a ws cs is ps i e f fit by =
    let us = ans ++ a ∷ [] in
    let few : w < 2 ^ 16 = subst (λ (s : Serial). s.worker < 2 ^ 16) by fit.by.worker in
    let small : k < 2 ^ 32 = subst (λ (s : Serial). s.command < 2 ^ 32) by fit.by.command in
    let command : last_command (length (done ++ part us (kinds is ws cs ps) ∷ []) - 1) (part us (kinds is ws cs ps)) ≡ i.by = command_is w k done ans a ws cs is ps e f few small ∙ sym by in
    let head = isolation_head_of (lines.isolation_head_of i) in
    let ends : with_isolation head (done ++ part us (kinds is ws cs ps) ∷ []) ≡ done ++ part us (kinds (is ++ i ∷ []) ws cs ps) ∷ [] =
    last_is (λ (p : WorkerPart). record p { isolations = with_more (isolated (last_command (length (done ++ part us (kinds is ws cs ps) ∷ []) - 1) p) head) p.isolations }) done (part us (kinds is ws cs ps))
    ∙ ap (λ (s : Serial). done ++ part us (kinds (is ++ isolated s head ∷ []) ws cs ps) ∷ []) command in
    subst (λ (all : List WorkerPart). Leads (isolation_line i) (at_part h done (part us (kinds is ws cs ps))) (report_of h all [] [] no_tail)) ends
    (leads_printed read_isolation (lines.isolation_head_of i) (isolation_line i) (kind.Plain plain.Isolation) (λ y. said.Isolation (isolation_head_of y)) (at_part h done (part us (kinds is ws cs ps))) (printed_isolation i) refl (λ f ws. refl)
    (record { place = fit.place; budget = fit.budget; visits = fit.visits; freed = fit.freed; ending = fit.ending }))

-- a walk of the pools of these tries
abbrev passed : PlainWalk → List PlainTry → PlainWalk
passed x tries = record { by = x.by; node = x.node; priority = x.priority; tries = kept tries; answer = x.answer }

-- the last walk of the pools of the last part is changed
plain_changed : (change : PlainWalk → PlainWalk) (done : List WorkerPart) (ans : List Answered) (ws : List WalkRecord) (cs : List Carry) (is : List Isolation) (ps : List PlainWalk) (v : PlainWalk)
    → with_last (λ (p : WorkerPart). record p { plain = last_changed change p.plain }) (done ++ part ans (kinds is ws cs (ps ++ v ∷ [])) ∷ []) ≡ done ++ part ans (kinds is ws cs (ps ++ change v ∷ [])) ∷ []
plain_changed change done ans ws cs is ps v =
    last_is (λ (p : WorkerPart). record p { plain = last_changed change p.plain }) done (part ans (kinds is ws cs (ps ++ v ∷ [])))
    ∙ ap (λ (xs : List PlainWalk). done ++ part ans (kinds is ws cs xs) ∷ []) (last_is change ps v)

one_pass : (h : Head) (done : List WorkerPart) (ans : List Answered) (ws : List WalkRecord) (cs : List Carry) (is : List Isolation) (ps : List PlainWalk) (x : PlainWalk) (n : ℕ) (t : PlainTry) (ts : List PlainTry) → IsTryNumbered t
    → Leads (pass_line n t) (at_part h done (part ans (kinds is ws cs (ps ++ passed x ts ∷ [])))) (at_part h done (part ans (kinds is ws cs (ps ++ passed x (ts ++ t ∷ []) ∷ []))))
unfolding first_word cut pieces plain_kind_of
one_pass h done ans ws cs is ps x n t ts k =
    subst (λ (all : List WorkerPart). Leads (pass_line n t) (at_part h done (part ans (kinds is ws cs (ps ++ passed x ts ∷ [])))) (report_of h all [] [] no_tail))
    (plain_changed (passed_walk t) done ans ws cs is ps (passed x ts))
    (leads_printed read_pass_line t (pass_line n t) (kind.Plain plain.Pass) (λ y. said.Pass y) (at_part h done (part ans (kinds is ws cs (ps ++ passed x ts ∷ [])))) (printed_pass n t) refl (λ f ws. refl) k)

-- what is known of a walk of the pools of a report
pub record IsPlainFit (x : PlainWalk) : Type 0 where
  pub numbers : IsPlainNumbered x
  pub tight : IsTightPlain x

passed_is : (x : PlainWalk) → IsTightPlain x → passed x x.tries.items ≡ x
passed_is x t = ap (λ (ts : Kept PlainTry). of ts) (tight_is x.tries t.tries)
  where
    of : Kept PlainTry → PlainWalk
    of ts = record { by = x.by; node = x.node; priority = x.priority; tries = ts; answer = x.answer }

plain_first : (h : Head) (n : ℕ) (done : List WorkerPart) (us : List Answered) (ws : List WalkRecord) (cs : List Carry) (is : List Isolation) (ps : List PlainWalk) (x : PlainWalk) → IsPlainFit x
    → Leads (plain_line n x.node x.priority x.answer) (at_part h done (part us (kinds is ws cs ps))) (report_of h (with_plain (plain_head_of (lines.plain_head_of x.node x.priority x.answer)) (done ++ part us (kinds is ws cs ps) ∷ [])) [] [] no_tail)
unfolding first_word cut pieces plain_kind_of
plain_first h n done us ws cs is ps x fit = leads_printed read_plain (lines.plain_head_of x.node x.priority x.answer) (plain_line n x.node x.priority x.answer) (kind.Plain plain.Plain) (λ y. said.Plain (plain_head_of y))
    (at_part h done (part us (kinds is ws cs ps))) (printed_plain n x.node x.priority x.answer) refl (λ f ws. refl) (record { node = fit.numbers.node; priority = fit.numbers.priority; answer = fit.numbers.answer })

pub one_plain : (h : Head) (w k n : ℕ) (done : List WorkerPart) (ans : List Answered) (a : Answered) (ws : List WalkRecord) (cs : List Carry) (is : List Isolation) (ps : List PlainWalk) (x : PlainWalk) → length done ≡ w → length ans ≡ k → IsPlainFit x → x.by ≡ by_of w k
    → Leads (plain_lines n x) (at_part h done (part (ans ++ a ∷ []) (kinds is ws cs ps))) (at_part h done (part (ans ++ a ∷ []) (kinds is ws cs (ps ++ x ∷ []))))
one_plain h w k n done ans a ws cs is ps x e f fit by =
    let us = ans ++ a ∷ [] in
    let few : w < 2 ^ 16 = subst (λ (s : Serial). s.worker < 2 ^ 16) by fit.numbers.by.worker in
    let small : k < 2 ^ 32 = subst (λ (s : Serial). s.command < 2 ^ 32) by fit.numbers.by.command in
    let command : last_command (length (done ++ part us (kinds is ws cs ps) ∷ []) - 1) (part us (kinds is ws cs ps)) ≡ x.by = command_is w k done ans a ws cs is ps e f few small ∙ sym by in
    let head = plain_head_of (lines.plain_head_of x.node x.priority x.answer) in
    let text = plain_line n x.node x.priority x.answer in
    let begins : with_plain head (done ++ part us (kinds is ws cs ps) ∷ []) ≡ done ++ part us (kinds is ws cs (ps ++ passed x [] ∷ [])) ∷ [] =
    last_is (λ (p : WorkerPart). record p { plain = with_more (plain_begun (last_command (length (done ++ part us (kinds is ws cs ps) ∷ []) - 1) p) head) p.plain }) done (part us (kinds is ws cs ps))
    ∙ ap (λ (s : Serial). done ++ part us (kinds is ws cs (ps ++ plain_begun s head ∷ [])) ∷ []) command in
    let first = subst (λ (all : List WorkerPart). Leads text (at_part h done (part us (kinds is ws cs ps))) (report_of h all [] [] no_tail)) begins (plain_first h n done us ws cs is ps x fit) in
    let others = leads_items (λ (ts : List PlainTry). at_part h done (part us (kinds is ws cs (ps ++ passed x ts ∷ [])))) pass_line IsTryNumbered (λ m t ts g. one_pass h done us ws cs is ps x m t ts g) 0 x.tries.items [] fit.numbers.tries in
    subst (λ (y : PlainWalk). Leads (plain_lines n x) (at_part h done (part us (kinds is ws cs ps))) (at_part h done (part us (kinds is ws cs (ps ++ y ∷ []))))) (passed_is x fit.tight)
    (leads_then text (numbered pass_line 0 x.tries.items) (at_part h done (part us (kinds is ws cs ps))) (at_part h done (part us (kinds is ws cs (ps ++ passed x [] ∷ [])))) (at_part h done (part us (kinds is ws cs (ps ++ passed x x.tries.items ∷ [])))) first others)
