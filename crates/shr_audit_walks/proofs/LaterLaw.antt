-- SPDX-License-Identifier: GPL-2.0-only
-- What is so of each walk of each worker is what the law asks of the versions.
use Rattle.shr_audit_walks.proofs.LaterCommon.{◌≡◌, ℕ, ◌<◌, ◌≤◌, Bool, true, false, List, length, get_or, Option, Some, None, refl, sym, ap, subst, ◌∙◌, option_map, slice_get, Decides, AllByRecursion, WorkerPart, At, Place, Answered, WalkRecord, Report, EachWalk, answers_in, at, cited_by, serial_of, EachItem, all_at, clash, each_all, InParts, each_walk_of, IsWalkLater, IsPartLater, found_at, option_and_then, versions_at, cited_at}

-- what the law asks of a walk of a worker
abbrev pub LawLater : Report → ℕ → WalkRecord → Type 0
LawLater r worker w = (k entry : ℕ) (place : Place) → k < w.by.command → cited_at r (serial_of worker k) ≡ Some (at place entry) → AllByRecursion (λ version. entry < version) (versions_at place w)

abbrev pub Later : Report → Type 0
Later r = EachWalk r (λ worker n w. LawLater r worker w)

cited_found : (o : Option Answered) (c : At) → option_and_then cited_by (option_map (λ (a : Answered). a.reply) o) ≡ Some c → (a : Answered) × ((o ≡ Some a) × (cited_by a.reply ≡ Some c))
cited_found None c e = absurd cc
cited_found (Some a) c e = (a, (refl, e))

module _ (r : Report) (worker : ℕ) (part : WorkerPart) (here : slice_get r.workers.items worker ≡ Some part) where
  cited_in : (k : ℕ) → cited_at r (serial_of worker k) ≡ option_and_then cited_by (option_map (λ (a : Answered). a.reply) (slice_get part.answers.items k))
  cited_in k = ap (λ (o : Option WorkerPart). option_and_then cited_by (option_map (λ (a : Answered). a.reply) (slice_get (answers_in o) k))) here

  pub law_of : (w : WalkRecord) → IsWalkLater part.answers.items w → LawLater r worker w
  law_of w later k entry place lt e =
      let f = cited_found (slice_get part.answers.items k) (at place entry) (sym (cited_in k) ∙ e) in
      later k entry place f.0 lt f.1.0 f.1.1

  pub of_law : (w : WalkRecord) → LawLater r worker w → IsWalkLater part.answers.items w
  of_law w law k entry place a lt at_k cites = law k entry place lt (cited_in k ∙ (ap (λ (o : Option Answered). option_and_then cited_by (option_map (λ (x : Answered). x.reply) o)) at_k ∙ cites))

-- ---- the walks of one worker

module _ (part : WorkerPart) (answers : List Answered) (walks : List WalkRecord) (a : answers ≡ part.answers.items) (ws : walks ≡ part.walks.items) (n : ℕ) where
  pub walk_fails : (w : WalkRecord) (b : Bool) → n < length walks → w ≡ get_or walks n w → Decides b (IsWalkLater answers w) → b ≡ false → Decides false (IsPartLater part)
  walk_fails w b lt is d isnt =
      let here : slice_get part.walks.items n ≡ Some w = ap (λ (xs : List WalkRecord). slice_get xs n) (sym ws) ∙ found_at walks n w lt is in
      (λ t. absurd cc, λ h. absurd (clash b (d.1 (subst (λ (xs : List Answered). IsWalkLater xs w) (sym a) (h n w here))) isnt))

  pub walks_all : length walks ≤ n → ((k : ℕ) (w : WalkRecord) → k < n → slice_get walks k ≡ Some w → IsWalkLater answers w) → Decides true (IsPartLater part)
  walks_all over before = subst (λ (xs : List Answered). Decides true (EachItem (IsWalkLater xs) part.walks.items)) a (subst (λ (xs : List WalkRecord). Decides true (EachItem (IsWalkLater answers) xs)) ws (each_all (IsWalkLater answers) walks n over before))

-- ---- all workers

module _ (r : Report) (parts : List WorkerPart) (i : ℕ) (same : parts ≡ r.workers.items) where
  pub all_later : length parts ≤ i → ((k : ℕ) (part : WorkerPart) → k < i → slice_get parts k ≡ Some part → IsPartLater part) → Decides true (Later r)
  all_later over before = each_walk_of r (λ worker n w. LawLater r worker w) true (
    λ t worker part here n w is.
        let each : IsPartLater part = (all_at (λ (k : ℕ) (x : WorkerPart). IsPartLater x) parts i over before).0 refl worker part (ap (λ (xs : List WorkerPart). slice_get xs worker) same ∙ here) in
        law_of r worker part here w (each n w is),
    λ h. refl,
  )

  pub part_fails : (part : WorkerPart) (b : Bool) → i < length parts → part ≡ get_or parts i part → Decides b (IsPartLater part) → b ≡ false → Decides false (Later r)
  part_fails part b lt is d isnt =
      let here : slice_get r.workers.items i ≡ Some part = ap (λ (xs : List WorkerPart). slice_get xs i) (sym same) ∙ found_at parts i part lt is in
      let each : InParts (λ (p : WorkerPart). p.walks.items) r (λ worker n w. LawLater r worker w) → IsPartLater part = λ h n w at_n. of_law r i part here w (h i part here n w at_n) in
      each_walk_of r (λ worker n w. LawLater r worker w) false (λ t. absurd cc, λ h. absurd (clash b (d.1 (each h)) isnt))
