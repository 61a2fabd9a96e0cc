-- SPDX-License-Identifier: GPL-2.0-only
-- What an answer knew isn't older than what its worker had known before.
use Rattle.shr_lawful.proofs.Common.{◌≡◌, ℕ, zero, suc, ◌+◌, ◌<◌, ◌≤◌, ◌⊎◌, inl, inr, ⊎_elim, Bool, true, false, ◌||◌, List, [], ◌∷◌, ◌++◌, length, length-append, take, map, get_or, sym, refl, ap, subst, ◌∙◌, arith, slice_get, Option, Some, None, flat_map, option_map, option_and_then, option_to_list, AllByRecursion, list_any, IsSomeAnd, same_Some, none-some, slice_get_within, cases_Bool, append-nil, Serial, Answered, Reply, TreeEntry, Begin, Done, Command, Script, WalkAnswer, WalkRecord, asks_online, is_begin, is_made, is_serial, MayBegin, each_append, each_weaker, Has, Contains_from_Has, each_has, flat_map_has, filter_has, Begins, WorkerState, IsNamed, Report, decls_on, serial_of, command_at, answers_of, walks_of, answer_at, reply_at, walks_by, MayHaveBegun, IsOffline, pool_seen, pool_made, tree_cited, walk_cited, made_shown, of_answer, is_begin_at, shows_begin, shows_offline, MayBeOffline, AreNotFalling, Step, IsAmong, steps_of, AreStepsChained, Grows, KnowsOnline, IsBeginOf, IsEntryOf, IsRun, is_made_grows, is_there, begin_at, done_at, made_at, begin_found, begun_before, is_done, tree_told, tree_seen, shows_made, shown_by, is_done_at, AreBelow, IsFresh, is_begin_of, is_done_of, LoadedState, script_hierarchy, no_test, adjacent}
use Rattle.shr_model.proofs.Members.{Has_cases}
use Rattle.shr_model.proofs.Weights.{is_serial_same}
use Rattle.shr_base.specs.declared.replies.Reply.TheVariants as reply
use Rattle.shr_base.specs.declared.journals.TreeEntry.TheVariants.{Made}
use Rattle.shr_base.specs.declared.walks.WalkAnswer.TheVariants as walk
use Rattle.shr_charge.specs.Views as charge
use Rattle.shr_charge.specs.declared.answers.GroupState.TheVariants as state
use Rattle.shr_lawful.specs.Causes as by
use Rattle.shr_lawful.proofs.Gathering.{among_right, among_begins, work_of, grows, answers, answer_is, reply_is, Stepped, stepped, command_step, first_grows, grows_then, step_grows}
use Rattle.shr_lawful.proofs.Listed.{all_among, begins_slice, slice_begins, contains_slice, answers_are, walk_of, any_has, all_has}
use Rattle.shr_lawful.proofs.JournalsLaw.{entry_maker, entry_stands, tree_stands}
use Rattle.shr_lawful.proofs.VersionsLaw.{NotFalling}

-- ---- numbers along a chain
falls_not : (ns : List ℕ) → AreNotFalling ns → NotFalling ns
falls_not [] h = tt
falls_not (n ∷ ns) h = (above n ns h, falls_not ns (λ k d lt. subst (λ i. get_or ns k d ≤ get_or (n ∷ ns) i d) (let z : suc k + 1 ≡ suc (k + 1) = omega arith in z) (h (suc k) d (omega (arith, lt))))) where
  above : (n : ℕ) (ns : List ℕ) → AreNotFalling (n ∷ ns) → AllByRecursion (λ m. n ≤ m) ns
  above n [] h = tt
  above n (m ∷ ns) h = let first = h 0 0 (omega arith) in (first, above n ns (skip n m ns first h)) where
    skip : (n m : ℕ) (ns : List ℕ) → n ≤ m → AreNotFalling (n ∷ m ∷ ns) → AreNotFalling (n ∷ ns)
    skip n m [] le h k d lt = absurd (omega (arith, lt))
    skip n m (l ∷ ns) le h zero d lt = let t = h 1 d (omega arith) in omega (arith, le, t)
    skip n m (l ∷ ns) le h (suc k) d lt = subst (λ i. get_or (l ∷ ns) k d ≤ get_or (n ∷ l ∷ ns) i d) (let z : suc (suc k) ≡ suc k + 1 = omega arith in z)
        (subst (λ i. get_or (l ∷ ns) k d ≤ get_or (n ∷ m ∷ l ∷ ns) i d) (let z : suc (suc k) + 1 ≡ suc (suc (suc k)) = omega arith in z) (h (suc (suc k)) d (omega (arith, lt))))

both_fall_not : (xs ys : List ℕ) (b : ℕ) → NotFalling xs → NotFalling ys → AllByRecursion (λ n. n ≤ b) xs → AllByRecursion (λ m. b ≤ m) ys → NotFalling (xs ++ ys)
both_fall_not [] ys b f g lo hi = g
both_fall_not (x ∷ xs) ys b f g lo hi = (each_append (λ m. x ≤ m) xs ys f.0 (each_weaker (λ m. b ≤ m) (λ m. x ≤ m) (λ m le. let l = lo.0 in omega (arith, l, le)) ys hi), both_fall_not xs ys b f.1 g lo.1 hi)

-- a list of numbers for each step, each between what its state before and after says
along : (f : Step → List ℕ) (low : WorkerState → ℕ) (t : WorkerState) (mine : List Step) → AreStepsChained t mine → ((k : ℕ) (x : Step) → slice_get mine k ≡ Some x → NotFalling (f x) × AllByRecursion (λ n. (low x.before ≤ n) × (n ≤ low x.after)) (f x) × (low x.before ≤ low x.after))
    → NotFalling (flat_map f mine) × AllByRecursion (λ n. low t ≤ n) (flat_map f mine)
along f low t [] c h = (tt, tt)
along f low t (x ∷ mine) c h =
    let here = h 0 x refl in
    let rest = along f low x.after mine c.2 (λ k y e. h (suc k) y e) in
    let same : low x.before ≡ low t = ap low c.0 in (
      both_fall_not (f x) (flat_map f mine) (low x.after) here.0 rest.0 (each_weaker (λ n. (low x.before ≤ n) × (n ≤ low x.after)) (λ n. n ≤ low x.after) (λ n p. p.1) (f x) here.1) rest.1,
      each_append (λ n. low t ≤ n) (f x) (flat_map f mine) (each_weaker (λ n. (low x.before ≤ n) × (n ≤ low x.after)) (λ n. low t ≤ n) (λ n p. let l = p.0 in omega (arith, l, same)) (f x) here.1)
          (each_weaker (λ n. low x.after ≤ n) (λ n. low t ≤ n) (λ n le. let l = here.2 in omega (arith, l, le, same)) (flat_map f mine) rest.1),
    )

pub begins_length : {A : Type 0} (xs ys : List A) → Begins xs ys → length xs ≤ length ys
begins_length {A} xs ys b = omega (arith, ap (λ (l : List A). length l) b.1, length-append xs b.0)

module _ (s : Script) (r : Report) (workers : List (List Step)) (run : IsRun s r workers) where
  flat_answers : (f : Answered → List ℕ) (worker : ℕ) → flat_map f (answers_of r worker) ≡ flat_map (λ (x : Step). f x.answered) (steps_of workers worker)
  flat_answers f worker = ap (flat_map f) (answers_are s r workers run worker) ∙ mapped (steps_of workers worker) where
    mapped : (mine : List Step) → flat_map f (map (λ (x : Step). x.answered) mine) ≡ flat_map (λ (x : Step). f x.answered) mine
    mapped [] = refl
    mapped (x ∷ mine) = ap (λ l. f x.answered ++ l) (mapped mine)

  pool : (worker : ℕ) → AreNotFalling (flat_map pool_seen (answers_of r worker))
  pool worker = subst AreNotFalling (sym (flat_answers pool_seen worker)) (adjacent (flat_map (λ (x : Step). pool_seen x.answered) (steps_of workers worker))
      (along (λ x. pool_seen x.answered) (λ t. length t.core.turns.known) (run.steps.first worker) (steps_of workers worker) (run.steps.chained worker)
      (λ k x e. let d = (run.steps.each worker k x e).did.pool in (falls_not (pool_seen x.answered) d.rise, d.seen, begins_length x.before.core.turns.known x.after.core.turns.known (work_of s r workers run worker k x e).core.pool))).0)

  -- what an answer gives
  pub of_is : (worker k : ℕ) (x : Step) (f : Answered → List ℕ) → slice_get (steps_of workers worker) k ≡ Some x → of_answer r (serial_of worker k) f ≡ f x.answered
  of_is worker k x f e = ap (λ o. flat_map f (option_to_list o)) (answer_is s r workers run worker k x e) ∙ append-nil (f x.answered)

  -- the steps of two commands, or nothing is said
  pub step_cases : (worker k : ℕ) → ((x : Step) × (slice_get (steps_of workers worker) k ≡ Some x)) ⊎ (answer_at r (serial_of worker k) ≡ None)
  step_cases worker k = by_cases (answer_at r (serial_of worker k)) refl where
    by_cases : (o : Option Answered) → answer_at r (serial_of worker k) ≡ o → ((x : Step) × (slice_get (steps_of workers worker) k ≡ Some x)) ⊎ (answer_at r (serial_of worker k) ≡ None)
    by_cases None e = inr e
    by_cases (Some a) e = let t = answers s r workers run worker k a e in inl (t.step, t.at)

  pub none_given : (worker k : ℕ) (f : Answered → List ℕ) → answer_at r (serial_of worker k) ≡ None → of_answer r (serial_of worker k) f ≡ []
  none_given worker k f e = ap (λ o. flat_map f (option_to_list o)) e

  below_none : (ns : List ℕ) → AreBelow ns []
  below_none [] = tt
  below_none (n ∷ ns) = (tt, below_none ns)

  all_below : (ns ms : List ℕ) (b : ℕ) → AllByRecursion (λ n. n < b) ns → AllByRecursion (λ m. b ≤ m) ms → AreBelow ns ms
  all_below ns ms b lo hi = each_weaker (λ n. n < b) (λ n. AllByRecursion (λ m. n < m) ms) (λ n lt. each_weaker (λ m. b ≤ m) (λ m. n < m) (λ m le. omega (arith, lt, le)) ms hi) ns lo

  pool_own : (worker k later : ℕ) → k < later → AreBelow (of_answer r (serial_of worker k) (λ (a : Answered). pool_made a.reply)) (of_answer r (serial_of worker later) pool_seen)
  pool_own worker k later lt = ⊎_elim
      (λ x. ⊎_elim
      (λ y. let g = (grows s r workers run worker k later x.0 y.0 lt x.1 y.1).pool in
      subst (λ l. AreBelow l (of_answer r (serial_of worker later) pool_seen)) (sym (of_is worker k x.0 (λ (a : Answered). pool_made a.reply) x.1))
      (subst (AreBelow (pool_made x.0.answered.reply)) (sym (of_is worker later y.0 pool_seen y.1))
      (all_below (pool_made x.0.answered.reply) (pool_seen y.0.answered) (length x.0.after.core.turns.known) (run.steps.each worker k x.0 x.1).did.pool.made
      (each_weaker (λ n. (length y.0.before.core.turns.known ≤ n) × (n ≤ length y.0.after.core.turns.known)) (λ m. length x.0.after.core.turns.known ≤ m) (λ n p. let l = p.0 in omega (arith, l, begins_length x.0.after.core.turns.known y.0.before.core.turns.known g)) (pool_seen y.0.answered) (run.steps.each worker later y.0 y.1).did.pool.seen))))
      (λ none. subst (AreBelow (of_answer r (serial_of worker k) (λ (a : Answered). pool_made a.reply))) (sym (none_given worker later pool_seen none)) (below_none (of_answer r (serial_of worker k) (λ (a : Answered). pool_made a.reply)))) (step_cases worker later))
      (λ none. subst (λ l. AreBelow l (of_answer r (serial_of worker later) pool_seen)) (sym (none_given worker k (λ (a : Answered). pool_made a.reply) none)) tt) (step_cases worker k)

  pool_on : (by : Serial) (c : Command) (a : Answered) → Stepped s r workers run by c a → AllByRecursion (λ n. length (decls_on s) ≤ n) (pool_seen a)
  pool_on by c a t = subst (λ (y : Answered). AllByRecursion (λ n. length (decls_on s) ≤ n) (pool_seen y)) t.answered
      (each_weaker (λ n. (length t.step.before.core.turns.known ≤ n) × (n ≤ length t.step.after.core.turns.known)) (λ n. length (decls_on s) ≤ n)
      (λ n p. let l = p.0 in omega (arith, l, (run.steps.new by.worker).pool, begins_length (run.steps.first by.worker).core.turns.known t.step.before.core.turns.known (first_grows (run.steps.first by.worker) (steps_of workers by.worker) by.command t.step (run.steps.chained by.worker) t.at).pool))
      (pool_seen t.step.answered) t.did.pool.seen)

  -- ---- the journal of the tree
  -- what a HasChildren speaks of is all that the worker knows
  tree_bounds : (x : Step) (y : Reply) → by.IsCausedBy s x y → length x.before.tree.known ≤ length x.after.tree.known → NotFalling (tree_told y) × AllByRecursion (λ n. (length x.before.tree.known ≤ n) × (n ≤ length x.after.tree.known)) (tree_told y)
  tree_bounds x (reply.HasChildren child entry) h le = let all = h.all in ((tt, tt), ((omega (arith, all, le), omega (arith, all)), tt))
  tree_bounds x y h le = (tt, tt)

  tree : (worker : ℕ) → AreNotFalling (flat_map tree_seen (answers_of r worker))
  tree worker = subst AreNotFalling (sym (flat_answers tree_seen worker)) (adjacent (flat_map (λ (x : Step). tree_seen x.answered) (steps_of workers worker))
      (along (λ x. tree_seen x.answered) (λ t. length t.tree.known) (run.steps.first worker) (steps_of workers worker) (run.steps.chained worker)
      (λ k x e. let le = begins_length x.before.tree.known x.after.tree.known (work_of s r workers run worker k x e).known in let t = tree_bounds x x.answered.reply (run.steps.each worker k x e).did.cause le in (t.0, t.1, le))).0)

  -- ---- what a command was shown of the journal of the tree
  -- an entry with this number was shown to a worker that is in this state: a word told of it, or it stands among those known
  abbrev WasShown : WorkerState → ℕ → Type 0
  WasShown t n = ((group : ℕ) × IsAmong (record { group = group; state = state.Offline n }) t.tree.loaded) ⊎ ((e : TreeEntry) × (slice_get t.tree.known n ≡ Some e))

  shown_grows : (t u : WorkerState) (n : ℕ) → Grows t u → WasShown t n → WasShown u n
  shown_grows t u n g (inl a) = inl (a.0, among_begins t.tree.loaded u.tree.loaded (record { group = a.0; state = state.Offline n }) g.words a.1)
  shown_grows t u n g (inr d) = inr (d.0, begins_slice t.tree.known u.tree.known n d.0 g.tree d.1)

  word_shown : (worker k : ℕ) (x : Step) (group n : ℕ) → slice_get (steps_of workers worker) k ≡ Some x → IsAmong (record { group = group; state = state.Offline n }) x.work.words → WasShown x.after n
  word_shown worker k x group n e among = inl (group, subst (λ l. IsAmong (record { group = group; state = state.Offline n }) l) (sym (work_of s r workers run worker k x e).words) (among_right x.before.tree.loaded x.work.words (record { group = group; state = state.Offline n }) among))

  -- an entry that the step made, and knows
  own_shown : (worker k : ℕ) (x : Step) (entry : ℕ) (e : TreeEntry) → slice_get (steps_of workers worker) k ≡ Some x → IsAmong (record { number = entry; entry = e }) x.work.tree → entry < length x.after.tree.known → WasShown x.after entry
  own_shown worker k x entry e at made known = inr (e, slice_begins x.after.tree.known r.tree.items entry e (run.steps.shown worker k x at).tree known (entry_stands s r workers run worker k x (record { number = entry; entry = e }) at made))

  -- each number that the answer and the walks cite
  cited_shown : (worker k : ℕ) (x : Step) → slice_get (steps_of workers worker) k ≡ Some x → (y : Reply) → by.IsCausedBy s x y → AllByRecursion (WasShown x.after) (tree_cited y)
  cited_shown worker k x e (reply.Offline entry) h = (⊎_elim (λ w. word_shown worker k x h.group entry e w) (λ b. inr (Begin h.group, begin_at x.after.tree.known h.group entry b)) h.told, tt)
  cited_shown worker k x e (reply.AlreadyDone entry) h = (inr (Done h.group, done_at x.after.tree.known h.group entry h.done), tt)
  cited_shown worker k x e (reply.OfflineDone entry moved deferred) h = (own_shown worker k x entry (Done h.group) e h.made h.known, tt)
  cited_shown worker k x e (reply.Made entry) h = (own_shown worker k x entry (Made h.group) e h.made h.known, tt)
  cited_shown worker k x e (reply.AlreadyMade entry) h = (inr (Made h.group, made_at x.after.tree.known h.group entry h.made), tt)
  cited_shown worker k x e y h = tt

  -- each number that is shown by a command is one that its step was shown
  shown_has : (worker k n : ℕ) → Has (shown_by r (serial_of worker k)) n → (x : Step) × (slice_get (steps_of workers worker) k ≡ Some x) × WasShown x.after n
  shown_has worker k n has = ⊎_elim of_reply of_walk (Has_cases (of_answer r (serial_of worker k) (λ (a : Answered). tree_cited a.reply)) (flat_map (λ (w : WalkRecord). walk_cited w.answer) (walks_by r (serial_of worker k))) n has) where
    of_reply : Has (of_answer r (serial_of worker k) (λ (a : Answered). tree_cited a.reply)) n → (x : Step) × (slice_get (steps_of workers worker) k ≡ Some x) × WasShown x.after n
    of_reply h = ⊎_elim
        (λ x. (x.0, x.1, each_has (WasShown x.0.after) (tree_cited x.0.answered.reply) n (cited_shown worker k x.0 x.1 x.0.answered.reply (run.steps.each worker k x.0 x.1).did.cause) (subst (λ l. Has l n) (of_is worker k x.0 (λ (a : Answered). tree_cited a.reply) x.1) h)))
        (λ none. absurd (subst (λ l. Has l n) (none_given worker k (λ (a : Answered). tree_cited a.reply) none) h)) (step_cases worker k)

    cited_by_walk : (a : WalkAnswer) → Has (walk_cited a) n → a ≡ walk.Offline n
    cited_by_walk (walk.Offline entry) (inl e) = ap walk.Offline e
    cited_by_walk (walk.Offline entry) (inr h) = absurd h
    cited_by_walk a h = absurd h

    of_walk : Has (flat_map (λ (w : WalkRecord). walk_cited w.answer) (walks_by r (serial_of worker k))) n → (x : Step) × (slice_get (steps_of workers worker) k ≡ Some x) × WasShown x.after n
    of_walk h =
        let w = flat_map_has (λ (v : WalkRecord). walk_cited v.answer) (walks_by r (serial_of worker k)) n h in
        let f = filter_has (λ (v : WalkRecord). is_serial (serial_of worker k) v.by) (walks_of r worker) w.0 w.1 in
        let j = contains_slice (walks_of r worker) w.0 (Contains_from_Has (walks_of r worker) w.0 f.0) in
        let of = walk_of s r workers run worker j.0 w.0 j.1 in
        let same : of.k ≡ k = ap (λ (b : Serial). b.command) (sym (is_serial_same (serial_of worker k) w.0.by f.1 ∙ (of.did.by ∙ of.is.by))) in
        let at : slice_get (steps_of workers worker) k ≡ Some of.step = subst (λ i. slice_get (steps_of workers worker) i ≡ Some of.step) same of.at in
        (of.step, at, word_shown worker k of.step w.0.group n at (of.did.word n (cited_by_walk w.0.answer w.2)))

  -- what is shown is among what is known once a HasChildren was told
  below_told : (y : Step) (z : Reply) → by.IsCausedBy s y z → (n : ℕ) → WasShown y.after n → AllByRecursion (λ m. n < m) (tree_told z)
  below_told y (reply.HasChildren child entry) h n shown = (omega (arith, h.all, within), tt) where
    within : n < length y.after.tree.known
    within = ⊎_elim (λ a. slice_get_within y.after.tree.known n (Begin a.0) (begin_at y.after.tree.known a.0 n (all_among (IsNamed (script_hierarchy s) y.after.tree.known) y.after.tree.loaded (record { group = a.0; state = state.Offline n }) h.shown a.1).1))
        (λ d. slice_get_within y.after.tree.known n d.0 d.1) shown
  below_told y z h n shown = tt

  tree_shown : (worker k later : ℕ) → k < later → AreBelow (shown_by r (serial_of worker k)) (of_answer r (serial_of worker later) tree_seen)
  tree_shown worker k later lt = ⊎_elim
      (λ y. subst (AreBelow (shown_by r (serial_of worker k))) (sym (of_is worker later y.0 tree_seen y.1))
      (all_has (λ n. AllByRecursion (λ m. n < m) (tree_told y.0.answered.reply)) (shown_by r (serial_of worker k))
      (λ n has. let x = shown_has worker k n has in
      below_told y.0 y.0.answered.reply (run.steps.each worker later y.0 y.1).did.cause n
      (shown_grows x.0.after y.0.after n (grows_then x.0.after y.0.before y.0.after (grows s r workers run worker k later x.0 y.0 lt x.1 y.1) (step_grows y.0 (work_of s r workers run worker later y.0 y.1))) x.2))))
      (λ none. subst (AreBelow (shown_by r (serial_of worker k))) (sym (none_given worker later tree_seen none)) (below_none (shown_by r (serial_of worker k)))) (step_cases worker later)

  -- ---- a group that is known to be offline
  entry_there : (test : TreeEntry → Bool) (e : TreeEntry) (n : ℕ) → ((d : TreeEntry) → test d ≡ true → d ≡ e) → list_any test (option_to_list (slice_get r.tree.items n)) ≡ true → slice_get r.tree.items n ≡ Some e
  entry_there test e n is h = by_cases (slice_get r.tree.items n) refl where
    by_cases : (o : Option TreeEntry) → slice_get r.tree.items n ≡ o → slice_get r.tree.items n ≡ Some e
    by_cases None none = absurd (let f : false ≡ true = sym (ap (λ o. list_any test (option_to_list o)) none) ∙ h in cc)
    by_cases (Some x) some = let t = any_has test (x ∷ []) (sym (ap (λ o. list_any test (option_to_list o)) some) ∙ h) in
        some ∙ ap Some (⊎_elim (λ same. same ∙ is t.0 t.2) (λ none. absurd none) t.1)

  begin_there : (group n : ℕ) → is_begin_at r group n ≡ true → slice_get r.tree.items n ≡ Some (Begin group)
  begin_there group n h = entry_there (is_begin group) (Begin group) n (is_begin_of group) h

  done_there : (group n : ℕ) → is_done_at r group n ≡ true → slice_get r.tree.items n ≡ Some (Done group)
  done_there group n h = entry_there (is_done group) (Done group) n (is_done_of group) h

  -- an entry that a word tells of is the Begin of its group
  told_stands : (worker k : ℕ) (x : Step) (group n : ℕ) → slice_get (steps_of workers worker) k ≡ Some x → IsAmong (record { group = group; state = state.Offline n }) x.after.tree.loaded → slice_get r.tree.items n ≡ Some (Begin group)
  told_stands worker k x group n e a = begin_at r.tree.items group n (all_among (IsNamed (script_hierarchy s) r.tree.items) x.after.tree.loaded (record { group = group; state = state.Offline n }) (run.steps.shown worker k x e).words a).1

  -- what was shown as a Begin came from a word or stands among what is known, and a Done stands there
  begin_was : (worker k : ℕ) (x : Step) (group n : ℕ) → slice_get (steps_of workers worker) k ≡ Some x → slice_get r.tree.items n ≡ Some (Begin group) → WasShown x.after n
      → IsAmong (record { group = group; state = state.Offline n }) x.after.tree.loaded ⊎ (slice_get x.after.tree.known n ≡ Some (Begin group))
  begin_was worker k x group n e stands (inl a) =
      let same : Begin a.0 ≡ Begin group = same_Some (Begin a.0) (Begin group) (sym (told_stands worker k x a.0 n e a.1) ∙ stands) in let g : a.0 ≡ group = cc in
      inl (subst (λ h. IsAmong (record { group = h; state = state.Offline n }) x.after.tree.loaded) g a.1)
  begin_was worker k x group n e stands (inr d) = inr (d.1 ∙ (sym (tree_stands s r workers run worker k x e n d.0 d.1) ∙ stands))

  done_was : (worker k : ℕ) (x : Step) (group n : ℕ) → slice_get (steps_of workers worker) k ≡ Some x → slice_get r.tree.items n ≡ Some (Done group) → WasShown x.after n → n < length x.after.tree.known
  done_was worker k x group n e stands (inl a) = let wrong : Begin a.0 ≡ Done group = same_Some (Begin a.0) (Done group) (sym (told_stands worker k x a.0 n e a.1) ∙ stands) in absurd (cc)
  done_was worker k x group n e stands (inr d) = slice_get_within x.after.tree.known n d.0 d.1

  -- a worker that was shown the Begin of a group knows that it isn't online
  not_online : (worker k : ℕ) (x : Step) (group n : ℕ) (u : WorkerState) → slice_get (steps_of workers worker) k ≡ Some x → Grows x.after u → slice_get r.tree.items n ≡ Some (Begin group) → WasShown x.after n → KnowsOnline u.tree group → ⊥
  not_online worker k x group n u e g stands shown online = ⊎_elim
      (λ a. all_among (λ (l : LoadedState). l.group ≡ group → (entry : ℕ) → l.state ≡ state.Offline entry → ⊥) u.tree.loaded (record { group = group; state = state.Offline n }) online.loaded (among_begins x.after.tree.loaded u.tree.loaded (record { group = group; state = state.Offline n }) g.words a) refl n refl)
      (λ d. let f = begin_found u.tree.known group n (begins_slice x.after.tree.known u.tree.known n (Begin group) g.tree d) in online.known f.0 f.1)
      (begin_was worker k x group n e stands shown)

  -- so the worker knows that the group isn't online
  pub knows_offline : (worker k : ℕ) (x : Step) (group : ℕ) (u : WorkerState) → slice_get (steps_of workers worker) k ≡ Some x → Grows x.after u → shows_offline r (serial_of worker k) group ≡ true → KnowsOnline u.tree group → ⊥
  knows_offline worker k x group u e g shows online = elim (cases_Bool (shows_begin r (serial_of worker k) group)) [
    | inl begins ↦ from_begin (any_has (is_begin_at r group) (shown_by r (serial_of worker k)) begins)
    | inr not_it ↦ from_done (any_has (is_done_at r group) (shown_by r (serial_of worker k)) (sym (ap (λ b. b || list_any (is_done_at r group) (shown_by r (serial_of worker k))) not_it) ∙ shows))
  ] where
    own : (n : ℕ) → Has (shown_by r (serial_of worker k)) n → WasShown x.after n
    own n has = let t = shown_has worker k n has in subst (λ (z : Step). WasShown z.after n) (same_Some t.0 x (sym t.1 ∙ e)) t.2

    from_begin : (n : ℕ) × Has (shown_by r (serial_of worker k)) n × (is_begin_at r group n ≡ true) → ⊥
    from_begin (n, has, is) = not_online worker k x group n u e g (begin_there group n is) (own n has) online

    from_done : (n : ℕ) × Has (shown_by r (serial_of worker k)) n × (is_done_at r group n ≡ true) → ⊥
    from_done (n, has, is) =
        let stands = done_there group n is in
        let below = done_was worker k x group n e stands (own n has) in
        let b = begun_before (script_hierarchy s) run.uses.hierarchy r.tree.items run.uses.tree group n stands in
        let known = slice_begins x.after.tree.known r.tree.items b.0 (Begin group) (run.steps.shown worker k x e).tree (omega (arith, b.2, below)) b.1 in
        let there = begins_slice x.after.tree.known u.tree.known b.0 (Begin group) g.tree known in
        let f = begin_found u.tree.known group b.0 there in online.known f.0 f.1

  -- a group of which something is shown is below the root
  pub below_root : (worker k group : ℕ) → shows_offline r (serial_of worker k) group ≡ true → 0 < group
  below_root worker k group shows = elim (cases_Bool (shows_begin r (serial_of worker k) group)) [
    | inl begins ↦ let t = any_has (is_begin_at r group) (shown_by r (serial_of worker k)) begins in (begin_may group t.0 (begin_there group t.0 t.2)).below
    | inr not_it ↦ let t = any_has (is_done_at r group) (shown_by r (serial_of worker k)) (sym (ap (λ b. b || list_any (is_done_at r group) (shown_by r (serial_of worker k))) not_it) ∙ shows) in
        let b = begun_before (script_hierarchy s) run.uses.hierarchy r.tree.items run.uses.tree group t.0 (done_there group t.0 t.2) in (begin_may group b.0 b.1).below
  ] where
    begin_may : (g n : ℕ) → slice_get r.tree.items n ≡ Some (Begin g) → MayBegin (script_hierarchy s) (take n r.tree.items) g
    begin_may g n stands = run.uses.tree n (Begin g) stands

  refused : (worker k later group : ℕ) → k < later → shows_offline r (serial_of worker k) group ≡ true → option_and_then asks_online (command_at s (serial_of worker later)) ≡ Some group → IsSomeAnd (reply_at r (serial_of worker later)) MayBeOffline
  refused worker k later group lt shows asks = by_cases (command_at s (serial_of worker later)) refl where
    shown_step : (x : Step) × (slice_get (steps_of workers worker) k ≡ Some x)
    shown_step = elim (cases_Bool (shows_begin r (serial_of worker k) group)) [
      | inl begins ↦ let t = any_has (is_begin_at r group) (shown_by r (serial_of worker k)) begins in let u = shown_has worker k t.0 t.1 in (u.0, u.1)
      | inr not_it ↦ let t = any_has (is_done_at r group) (shown_by r (serial_of worker k)) (sym (ap (λ b. b || list_any (is_done_at r group) (shown_by r (serial_of worker k))) not_it) ∙ shows) in let u = shown_has worker k t.0 t.1 in (u.0, u.1)
    ]

    by_cases : (o : Option Command) → command_at s (serial_of worker later) ≡ o → IsSomeAnd (reply_at r (serial_of worker later)) MayBeOffline
    by_cases None e = absurd (none-some group (sym (ap (option_and_then asks_online) e) ∙ asks))
    by_cases (Some c) e =
        let y = command_step s r workers run worker later c e in
        let x = shown_step in
        let asked : option_and_then asks_online y.0.command ≡ Some group = ap (option_and_then asks_online) (sym (run.steps.each worker later y.0 y.1).command) ∙ asks in
        subst (λ o. IsSomeAnd o MayBeOffline) (sym (reply_is s r workers run worker later y.0 y.1))
        (⊎_elim (λ may. may) (λ online. absurd (knows_offline worker k x.0 group y.0.before x.1 (grows s r workers run worker k later x.0 y.0 lt x.1 y.1) shows online))
        ((run.steps.each worker later y.0 y.1).did.tree.online group asked (below_root worker k group shows)))

  first : (worker k group : ℕ) → ((by : Serial) → IsOffline s r by group MayHaveBegun → (by.worker ≡ worker) × (k < by.command)) → shows_begin r (serial_of worker k) group ≡ false
  first worker k group all_later = no_test (shows_begin r (serial_of worker k) group) (λ shows.
      let t = any_has (is_begin_at r group) (shown_by r (serial_of worker k)) shows in
      let stands = begin_there group t.0 t.2 in
      let x = shown_has worker k t.0 t.1 in
      let m = entry_maker s r workers run t.0 (Begin group) stands in
      let is = run.steps.each m.worker m.k m.step m.at in
      let begun : IsBeginOf m.step group = subst (IsEntryOf s m.step m.made.number) m.entry (all_among (λ (z : charge.TreeMade). (length m.step.before.tree.known ≤ z.number) × IsEntryOf s m.step z.number z.entry) m.step.work.tree m.made is.did.tree.each m.among).1 in
      let l = all_later (serial_of m.worker m.k) (record { command_is = is.command ∙ begun.command; answer = subst (λ o. IsSomeAnd o MayHaveBegun) (sym (reply_is s r workers run m.worker m.k m.step m.at)) begun.answer }) in
      let at : slice_get (steps_of workers worker) m.k ≡ Some m.step = subst (λ v. slice_get (steps_of workers v) m.k ≡ Some m.step) l.0 m.at in
      let g = grows s r workers run worker k m.k x.0 m.step l.1 x.1 at in
      not_online worker k x.0 group t.0 m.step.before x.1 g stands x.2 begun.first)

  -- ---- a group that was met
  nothing_shown : (o : Option Command) (group : ℕ) → option_and_then (λ c. option_and_then (made_shown c) None) o ≡ Some group → ⊥
  nothing_shown None group e = none-some group e
  nothing_shown (Some c) group e = none-some group e

  -- no later answer of the worker says that it isn't made
  made : (worker k later group : ℕ) → k < later → shows_made s r (serial_of worker k) ≡ Some group → reply_at r (serial_of worker later) ≡ Some (reply.NotMade group) → ⊥
  made worker k later group lt shows told = ⊎_elim
      (λ x. ⊎_elim (λ y. met_then x.0 x.1 y.0 y.1) (λ none. none-some (reply.NotMade group) (sym (ap (option_map (λ (a : Answered). a.reply)) none) ∙ told)) (step_cases worker later))
      (λ none. nothing_shown (command_at s (serial_of worker k)) group (sym (ap (λ (o : Option Answered). option_and_then (λ c. option_and_then (made_shown c) (option_map (λ (a : Answered). a.reply) o)) (command_at s (serial_of worker k))) none) ∙ shows))
      (step_cases worker k) where
        met_then : (x : Step) → slice_get (steps_of workers worker) k ≡ Some x → (y : Step) → slice_get (steps_of workers worker) later ≡ Some y → ⊥
        met_then x at_x y at_y =
            let is = run.steps.each worker k x at_x in
            let shown : option_and_then (λ c. made_shown c x.answered.reply) x.command ≡ Some group =
            sym (ap (option_and_then (λ c. option_and_then (made_shown c) (reply_at r (serial_of worker k)))) is.command
            ∙ ap (λ (o : Option Reply). option_and_then (λ c. option_and_then (made_shown c) o) x.command) (reply_is s r workers run worker k x at_x)) ∙ shows in
            let unmade = (run.steps.each worker later y at_y).did.tree.meets.unmade group (same_Some y.answered.reply (reply.NotMade group) (sym (reply_is s r workers run worker later y at_y) ∙ told)) in
            let g = grows s r workers run worker k later x y lt at_x at_y in
            ⊎_elim
            (λ made. let no : false ≡ true = sym unmade.known ∙ subst (λ (l : List TreeEntry). is_made (script_hierarchy s) l group ≡ true) (sym g.tree.1) (is_made_grows (script_hierarchy s) x.after.tree.known g.tree.0 group made) in absurd (cc))
            (λ m. let l : LoadedState = record { group = group; state = m.0 } in
            let among = among_begins x.after.tree.loaded y.before.tree.loaded l g.words (subst (IsAmong l) (sym (work_of s r workers run worker k x at_x).words) (among_right x.before.tree.loaded x.work.words l m.2)) in
            let no : false ≡ true = sym (all_among (λ (z : LoadedState). z.group ≡ group → is_there z.state ≡ false) y.before.tree.loaded l unmade.loaded among refl) ∙ m.1 in absurd (cc))
            (is.did.tree.meets.met group shown)

  pub fresh_law : IsFresh s r
  fresh_law = record {
    pool = pool;
    pool_own = pool_own;
    pool_on = λ by c a command answer. pool_on by c a (stepped s r workers run by c a command answer);
    tree = tree;
    tree_shown = tree_shown;
    refused = refused;
    first = first;
    made = made;
  }
