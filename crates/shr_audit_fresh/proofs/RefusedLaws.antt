-- SPDX-License-Identifier: GPL-2.0-only
-- What a worker was shown to be offline, one answer and one walk after another.
use Rattle.shr_audit_fresh.proofs.Common.{◌≡◌, ◌⊎◌, ℕ, ◌+◌, ◌<◌, ◌≤◌, Bool, true, false, cond, List, [], ◌∷◌, ◌++◌, length, Option, Some, None, refl, sym, ap, subst, ◌∙◌, inl, inr, arith, ◌||◌, ◌&&◌, ◌==◌, nat_eq, option_and_then, option_to_list, Decides, get, IsSomeAnd, cases_lt, nat_tests, append-nil, list_any-append, slice_get_past, Answered, Script, WalkRecord, asks_online, is_serial, Report, MayBeOffline, is_begin_at, is_done_at, of_answer, shown_by, tree_cited, walk_cited, answers_of, command_at, commands_of, reply_at, serial_of, walks_of, AreLeastOfGroups, FirstCommands, HasNoFirsts, IsLeast, NotesFirst, is_group, shows_in, walks_cite, IsRefusedAt, ShownByWalks, is_first_before, either, or_left, or_right, ShownOffline, some_same}
use Rattle.shr_audit_fresh.proofs.Answering.{of_past}
use Rattle.shr_audit_fresh.proofs.FirstLaws.{any_both, firsts_blank, firsts_next, firsts_same}
use Rattle.shr_audit_fresh.proofs.WalkFloors.{off_worker, on_command, one_cites}

-- what an answer cites
abbrev pub cites_at : Report → ℕ → ℕ → List ℕ
cites_at r worker k = of_answer r (serial_of worker k) (λ (a : Answered). tree_cited a.reply)

-- of these groups an answer before one shows that they are offline
abbrev pub ShownBefore : Report → ℕ → ℕ → ℕ → ℕ → Type 0
ShownBefore r worker number group k = (k < number) × (shows_in r group (cites_at r worker k) ≡ true)

module _ (r : Report) (worker : ℕ) where
  both : (g : ℕ) (ns ms : List ℕ) → shows_in r g (ns ++ ms) ≡ (shows_in r g ns || shows_in r g ms)
  both g ns ms = list_any-append (λ n. is_begin_at r g n || is_done_at r g n) ns ms

  -- ---- answers

  pub shown_start : (firsts : FirstCommands) → HasNoFirsts firsts → AreLeastOfGroups (ShownBefore r worker 0) firsts
  shown_start firsts blank = firsts_blank (ShownBefore r worker 0) firsts (λ g k p. (let lt : k < 0 = p.0 in absurd (omega arith))) blank

  pub shown_next : (n : ℕ) (group : Option ℕ) (cited : Option ℕ) (old new : FirstCommands) → ((g : ℕ) → is_group g group ≡ shows_in r g (option_to_list cited)) → option_to_list cited ≡ cites_at r worker n → NotesFirst group n old new
      → AreLeastOfGroups (ShownBefore r worker n) old → AreLeastOfGroups (ShownBefore r worker (n + 1)) new
  shown_next n group cited old new shows is notes = firsts_next (ShownBefore r worker n) (ShownBefore r worker (n + 1)) n group old new
      (λ g k p. (let lt = p.0 in let more : k < n + 1 = omega (arith, lt) in (more, p.1)))
      (λ g k q. elim (cases_lt k n) [
        | inl below ↦ inl (below, q.1)
        | inr above ↦ (let lt = q.0 in let same : k ≡ n = omega (arith, lt, above) in inr (same, tells g ∙ subst (λ (j : ℕ). shows_in r g (cites_at r worker j) ≡ true) same q.1))
      ])
      (λ g e. (let more : n < n + 1 = omega arith in (more, sym (tells g) ∙ e))) notes
    where
      tells : (g : ℕ) → is_group g group ≡ shows_in r g (cites_at r worker n)
      tells g = shows g ∙ ap (shows_in r g) is

  pub shown_end : (n : ℕ) (firsts : FirstCommands) → length (answers_of r worker) ≤ n → AreLeastOfGroups (ShownBefore r worker n) firsts → AreLeastOfGroups (ShownByWalks r worker []) firsts
  shown_end n firsts over = firsts_same (ShownBefore r worker n) (ShownByWalks r worker []) firsts
      (λ g k p. subst (λ (ns : List ℕ). shows_in r g ns ≡ true) (sym (append-nil (cites_at r worker k))) p.1)
      (λ g k q. within g k (subst (λ (ns : List ℕ). shows_in r g ns ≡ true) (append-nil (cites_at r worker k)) q))
    where
      within : (g k : ℕ) → shows_in r g (cites_at r worker k) ≡ true → ShownBefore r worker n g k
      within g k h = elim (cases_lt k n) [
        | inl below ↦ (below, h)
        | inr above ↦ (let none : cites_at r worker k ≡ [] = of_past r worker k (λ (a : Answered). tree_cited a.reply) (omega (arith, over, above)) in
            let unlike : ◌≡◌ {A = Bool} false true = subst (λ (ns : List ℕ). shows_in r g ns ≡ true) none h in absurd cc)
      ]

  -- ---- walks

  module _ (before : List WalkRecord) (w : WalkRecord) where
    same_walks : (k : ℕ) → is_serial (serial_of worker k) w.by ≡ false → walks_cite worker (before ++ w ∷ []) k ≡ walks_cite worker before k
    same_walks k off = one_cites worker k before w false off ∙ append-nil (walks_cite worker before k)

    pub other_walk : (firsts : FirstCommands) → (w.by.worker ≡ worker → ⊥) → AreLeastOfGroups (ShownByWalks r worker before) firsts → AreLeastOfGroups (ShownByWalks r worker (before ++ w ∷ [])) firsts
    other_walk firsts other = firsts_same (ShownByWalks r worker before) (ShownByWalks r worker (before ++ w ∷ [])) firsts
        (λ g k p. subst (λ (ns : List ℕ). shows_in r g (cites_at r worker k ++ ns) ≡ true) (sym (same_walks k (off_worker worker w [] k other))) p)
        (λ g k q. subst (λ (ns : List ℕ). shows_in r g (cites_at r worker k ++ ns) ≡ true) (same_walks k (off_worker worker w [] k other)) q)

    and_right : (a b : Bool) → (a && b) ≡ true → b ≡ true
    and_right true b e = e
    and_right false b e = absurd cc

    pub own_walk : (group cited : Option ℕ) (old new : FirstCommands) → w.by.worker ≡ worker → ((g : ℕ) → is_group g group ≡ shows_in r g (option_to_list cited)) → option_to_list cited ≡ walk_cited w.answer → NotesFirst group w.by.command old new
        → AreLeastOfGroups (ShownByWalks r worker before) old → AreLeastOfGroups (ShownByWalks r worker (before ++ w ∷ [])) new
    own_walk group cited old new mine shows is notes = firsts_next (ShownByWalks r worker before) (ShownByWalks r worker (before ++ w ∷ [])) w.by.command group old new to from own notes
      where
        tells : (g : ℕ) → is_group g group ≡ shows_in r g (walk_cited w.answer)
        tells g = shows g ∙ ap (shows_in r g) is

        walks : ℕ → List ℕ
        walks k = walks_cite worker (before ++ w ∷ []) k

        more : (g k : ℕ) (ns : List ℕ) → walks k ≡ walks_cite worker before k ++ ns → shows_in r g (cites_at r worker k ++ walks_cite worker before k) ≡ true → shows_in r g (cites_at r worker k ++ walks k) ≡ true
        more g k ns e p = both g (cites_at r worker k) (walks k) ∙ elim (either (shows_in r g (cites_at r worker k)) (shows_in r g (walks_cite worker before k)) (sym (both g (cites_at r worker k) (walks_cite worker before k)) ∙ p)) [
          | inl a ↦ or_left (shows_in r g (cites_at r worker k)) (shows_in r g (walks k)) a
          | inr b ↦ or_right (shows_in r g (cites_at r worker k)) (shows_in r g (walks k)) (ap (shows_in r g) e ∙ both g (walks_cite worker before k) ns ∙ or_left (shows_in r g (walks_cite worker before k)) (shows_in r g ns) b)
        ]

        to : (g k : ℕ) → ShownByWalks r worker before g k → ShownByWalks r worker (before ++ w ∷ []) g k
        to g k p = by (is_serial (serial_of worker k) w.by) refl
          where
            by : (b : Bool) → is_serial (serial_of worker k) w.by ≡ b → ShownByWalks r worker (before ++ w ∷ []) g k
            by b e = more g k (cond b (walk_cited w.answer) []) (one_cites worker k before w b e) p

        from : (g k : ℕ) → ShownByWalks r worker (before ++ w ∷ []) g k → ShownByWalks r worker before g k ⊎ ((k ≡ w.by.command) × (is_group g group ≡ true))
        from g k q = by (is_serial (serial_of worker k) w.by) refl
          where
            by : (b : Bool) → is_serial (serial_of worker k) w.by ≡ b → ShownByWalks r worker before g k ⊎ ((k ≡ w.by.command) × (is_group g group ≡ true))
            by false e = inl (subst (λ (ns : List ℕ). shows_in r g (cites_at r worker k ++ ns) ≡ true) (same_walks k e) q)
            by true e =
                let command = and_right (worker == w.by.worker) (k == w.by.command) e in
                let same : k ≡ w.by.command = grind (arith, nat_tests) in
                elim (either (shows_in r g (cites_at r worker k)) (shows_in r g (walks k)) (sym (both g (cites_at r worker k) (walks k)) ∙ q)) [
                  | inl a ↦ inl (both g (cites_at r worker k) (walks_cite worker before k) ∙ or_left (shows_in r g (cites_at r worker k)) (shows_in r g (walks_cite worker before k)) a)
                  | inr b ↦ elim (either (shows_in r g (walks_cite worker before k)) (shows_in r g (walk_cited w.answer)) (sym (ap (shows_in r g) (one_cites worker k before w true e) ∙ both g (walks_cite worker before k) (walk_cited w.answer)) ∙ b)) [
                    | inl early ↦ inl (both g (cites_at r worker k) (walks_cite worker before k) ∙ or_right (shows_in r g (cites_at r worker k)) (shows_in r g (walks_cite worker before k)) early)
                    | inr here ↦ inr (same, tells g ∙ here)
                  ]
                ]

        own : (g : ℕ) → is_group g group ≡ true → ShownByWalks r worker (before ++ w ∷ []) g w.by.command
        own g e = both g (cites_at r worker w.by.command) (walks w.by.command) ∙ or_right (shows_in r g (cites_at r worker w.by.command)) (shows_in r g (walks w.by.command))
            (ap (shows_in r g) (one_cites worker w.by.command before w true (on_command worker w [] mine)) ∙ both g (walks_cite worker before w.by.command) (walk_cited w.answer)
            ∙ or_right (shows_in r g (walks_cite worker before w.by.command)) (shows_in r g (walk_cited w.answer)) (sym (tells g) ∙ e))

  -- ---- in the words of the law

  pub shown_offline : (firsts : FirstCommands) → AreLeastOfGroups (ShownByWalks r worker (walks_of r worker)) firsts → AreLeastOfGroups (ShownOffline r worker) firsts
  shown_offline firsts = firsts_same (ShownByWalks r worker (walks_of r worker)) (ShownOffline r worker) firsts
      (λ g k p. any_both (is_begin_at r g) (is_done_at r g) (shown_by r (serial_of worker k)) ∙ p)
      (λ g k q. sym (any_both (is_begin_at r g) (is_done_at r g) (shown_by r (serial_of worker k))) ∙ q)

-- ---- commands

none_some : {X : Type 0} (a : X) → ◌≡◌ {A = Option X} None (Some a) → ⊥
none_some a e = cc

module _ (s : Script) (r : Report) (worker later : ℕ) where
  pub asks_none : None ≡ option_and_then asks_online (command_at s (serial_of worker later)) → Decides true (IsRefusedAt s r worker later)
  asks_none none = (λ t k g lt sh e. absurd (none_some g (none ∙ e)), λ h. refl)

  pub past_refused : length (commands_of s worker) ≤ later → IsRefusedAt s r worker later
  past_refused over k g lt sh e = absurd (none_some g (sym (ap (option_and_then asks_online) (slice_get_past (commands_of s worker) later over)) ∙ e))

  module _ (firsts : FirstCommands) (are : AreLeastOfGroups (ShownOffline r worker) firsts) (group : ℕ) (asks : Some group ≡ option_and_then asks_online (command_at s (serial_of worker later))) where
    pub not_shown : is_first_before (get nat_eq firsts group) later ≡ false → Decides true (IsRefusedAt s r worker later)
    not_shown unlike = (λ t k g lt sh e. absurd (late k lt (subst (λ (h : ℕ). ShownOffline r worker h k) (sym (some_same group g (asks ∙ e))) sh) (get nat_eq firsts group) unlike (are group)), λ h. refl)
      where
        late : (k : ℕ) → k < later → ShownOffline r worker group k → (o : Option ℕ) → is_first_before o later ≡ false → IsLeast (ShownOffline r worker group) o → ⊥
        late k lt sh None f t = t k sh
        late k lt sh (Some m) f t = let le = t.1 k sh in let over : later ≤ m = grind (arith, nat_tests) in omega (arith, le, over, lt)

    pub was_shown : (b : Bool) → is_first_before (get nat_eq firsts group) later ≡ true → Decides b (IsSomeAnd (reply_at r (serial_of worker later)) MayBeOffline) → Decides b (IsRefusedAt s r worker later)
    was_shown b holds d = (λ t k g lt sh e. d.0 t, λ h. d.1 (there (get nat_eq firsts group) holds (are group) h))
      where
        there : (o : Option ℕ) → is_first_before o later ≡ true → IsLeast (ShownOffline r worker group) o → IsRefusedAt s r worker later → IsSomeAnd (reply_at r (serial_of worker later)) MayBeOffline
        there None f t h = absurd cc
        there (Some m) f t h = h m group (let lt : m < later = grind (arith, nat_tests) in lt) t.0 (sym asks)
