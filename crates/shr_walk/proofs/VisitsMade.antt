-- SPDX-License-Identifier: GPL-2.0-only
-- Walks one after another.
use Rattle.shr_walk.proofs.ChargingCommon.{◌≡◌, List, [], ◌∷◌, ◌++◌, length, map, drop, true, false, refl, sym, ap, subst, ◌∙◌, inl, inr, ⊎_elim, append_assoc, map-append, append-nil, take-append-drop, All-nil, All-append, All-cons, Serial, IsPrefixOf, Job, Shared, Acting, IsSame, OneGives, lacked_memory, same_for, WorkerState, Visit, walk_for, job_in, IsVisited, AreVisited, VisitHadMemory, WalksAll, WalksFirst}
use Rattle.std.proofs.Math.Seq.{take-append_seam}

-- ---- beginnings of a list

pub prefix_of : (xs rest : List Job) → IsPrefixOf xs (xs ++ rest)
prefix_of xs rest = take-append_seam xs rest

-- what a list begins with, and what follows that
pub parted : (xs ys : List Job) → IsPrefixOf xs ys → ys ≡ xs ++ drop (length xs) ys
parted xs ys h = sym (take-append-drop (length xs) ys) ∙ ap (λ l. l ++ drop (length xs) ys) h

module _ (x : Shared) (by : Serial) where
  -- ---- one walk more, and walks behind walks

  pub visited_more : (vs : List Visit) (v : Visit) (s t : WorkerState) → AreVisited x by vs s t → IsVisited x by v t → AreVisited x by (vs ++ v ∷ []) s v.after
  visited_more [] v s t same one = (subst (λ (r : WorkerState). IsVisited x by v r) (sym same) one, refl)
  visited_more (w ∷ vs) v s t walked one = (walked.0, visited_more vs v w.after t walked.1 one)

  pub visited_then : (vs ws : List Visit) (s t u : WorkerState) → AreVisited x by vs s t → AreVisited x by ws t u → AreVisited x by (vs ++ ws) s u
  visited_then [] ws s t u same others = subst (λ (r : WorkerState). AreVisited x by ws r u) (sym same) others
  visited_then (w ∷ vs) ws s t u walked others = (walked.0, visited_then vs ws w.after t u walked.1 others)

  pub none_walked : (s : WorkerState) → WalksAll x by [] [] s s
  none_walked s = record { visited = refl; all = refl; had = All-nil VisitHadMemory }

  pub all_more : (jobs : List Job) (walks : List Visit) (v : Visit) (s t : WorkerState) → WalksAll x by jobs walks s t → IsVisited x by v t → lacked_memory v.answer ≡ false
      → WalksAll x by (jobs ++ v.job ∷ []) (walks ++ v ∷ []) s v.after
  all_more jobs walks v s t a one had = record {
    visited = visited_more walks v s t a.visited one;
    all = map-append job_in walks (v ∷ []) ∙ ap (λ l. l ++ v.job ∷ []) a.all;
    had = All-append VisitHadMemory walks (v ∷ []) a.had (All-cons VisitHadMemory v [] had (All-nil VisitHadMemory));
  }

  pub all_then : (js ks : List Job) (vs ws : List Visit) (s t u : WorkerState) → WalksAll x by js vs s t → WalksAll x by ks ws t u → WalksAll x by (js ++ ks) (vs ++ ws) s u
  all_then js ks vs ws s t u a b = record {
    visited = visited_then vs ws s t u a.visited b.visited;
    all = map-append job_in vs ws ∙ (ap (λ l. l ++ map job_in ws) a.all ∙ ap (λ l. js ++ l) b.all);
    had = All-append VisitHadMemory vs ws a.had b.had;
  }

  -- ---- the first of more jobs

  -- all of the first jobs
  pub first_all : (js rest : List Job) (vs : List Visit) (s t : WorkerState) → WalksAll x by js vs s t → WalksFirst x by (js ++ rest) vs s t
  first_all js rest vs s t a = record {
    visited = a.visited;
    first = subst (λ l. IsPrefixOf l (js ++ rest)) (sym a.all) (prefix_of js rest);
    cut = inl a.had;
  }

  -- the walk behind the first ones ended for want of memory
  pub first_cut : (js rest : List Job) (walks : List Visit) (v : Visit) (s t : WorkerState) → WalksAll x by js walks s t → IsVisited x by v t → lacked_memory v.answer ≡ true
      → WalksFirst x by ((js ++ v.job ∷ []) ++ rest) (walks ++ v ∷ []) s v.after
  first_cut js rest walks v s t a one lacked = record {
    visited = visited_more walks v s t a.visited one;
    first = subst (λ l. IsPrefixOf l ((js ++ v.job ∷ []) ++ rest)) (sym (map-append job_in walks (v ∷ []) ∙ ap (λ l. l ++ v.job ∷ []) a.all)) (prefix_of (js ++ v.job ∷ []) rest);
    cut = inr (record { front = walks; last = v; whole = refl; had = a.had; lacked = lacked });
  }

  -- the first of some jobs behind all of others
  pub first_then : (js ks rest : List Job) (vs ws : List Visit) (s t u : WorkerState) → WalksAll x by js vs s t → WalksFirst x by ks ws t u → WalksFirst x by (js ++ (ks ++ rest)) (vs ++ ws) s u
  first_then js ks rest vs ws s t u a b = let made = map job_in ws in let left = drop (length made) ks in record {
    visited = visited_then vs ws s t u a.visited b.visited;
    first = subst (λ l. IsPrefixOf l (js ++ (ks ++ rest))) (sym (map-append job_in vs ws ∙ ap (λ l. l ++ made) a.all))
        (subst (λ l. IsPrefixOf (js ++ made) l) (append_assoc js made (left ++ rest) ∙ ap (λ l. js ++ l) (sym (append_assoc made left rest) ∙ ap (λ l. l ++ rest) (sym (parted made ks b.first))))
        (prefix_of (js ++ made) (left ++ rest)));
    cut = ⊎_elim
        (λ had. inl (All-append VisitHadMemory vs ws a.had had))
        (λ c. inr (record { front = vs ++ c.front; last = c.last; whole = ap (λ l. vs ++ l) c.whole ∙ sym (append_assoc vs c.front (c.last ∷ [])); had = All-append VisitHadMemory vs c.front a.had c.had; lacked = c.lacked }))
        b.cut;
  }

  -- all of them
  pub first_whole : (js : List Job) (vs : List Visit) (s t : WorkerState) → WalksAll x by js vs s t → WalksFirst x by js vs s t
  first_whole js vs s t a = subst (λ l. WalksFirst x by l vs s t) (append-nil js) (first_all js [] vs s t a)

  -- walks behind walks, parted
  pub visited_parts : (vs ws : List Visit) (s u : WorkerState) → AreVisited x by (vs ++ ws) s u → (t : WorkerState) × AreVisited x by vs s t × AreVisited x by ws t u
  visited_parts [] ws s u h = (s, refl, h)
  visited_parts (v ∷ vs) ws s u (one, others) = let parts = visited_parts vs ws v.after u others in (parts.0, (one, parts.1), parts.2)

-- a walk, by the tables and the command that the worker began with
pub visited_same : (old a : Acting) (v : Visit) → IsSame old a → OneGives a.shared (walk_for a.by (length a.state.walks) v.job) v.answer a.state v.after → IsVisited old.shared old.by v a.state
visited_same old a v same one = same_for (λ x b. OneGives x (walk_for b (length a.state.walks) v.job) v.answer a.state v.after) old a same one
