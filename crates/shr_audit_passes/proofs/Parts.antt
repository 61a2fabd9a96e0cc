-- SPDX-License-Identifier: GPL-2.0-only
-- What is so of each walk, gone through worker by worker.
use Rattle.shr_audit_passes.proofs.Common.{◌≡◌, ℕ, ◌+◌, ◌<◌, ◌≤◌, Bool, true, false, List, length, get_or, Option, Some, sym, ap, subst, ◌∙◌, slice_get, Decides, slice_get-get_or, WalkRecord, WorkerPart, Report, walks_in, all_at, more_at, clash, EachWalk}
use Rattle.shr_audit_case.proofs.Eachs.{each_walk_of}

-- so it is of the walks of a worker
abbrev pub EachOf : (ℕ → ℕ → WalkRecord → Type 0) → ℕ → List WalkRecord → Type 0
EachOf P worker walks = (n : ℕ) (w : WalkRecord) → slice_get walks n ≡ Some w → P worker n w

-- so it is of all walks, if it is of those of each worker
pub parts_all : (r : Report) (parts : List WorkerPart) (P : ℕ → ℕ → WalkRecord → Type 0) (i : ℕ) → parts ≡ r.workers.items → length parts ≤ i
    → ((k : ℕ) (part : WorkerPart) → k < i → slice_get parts k ≡ Some part → EachOf P k part.walks.items) → Decides true (EachWalk r P)
parts_all r parts P i e over before =
    each_walk_of r P true (subst (λ (xs : List WorkerPart). Decides true ((worker : ℕ) (part : WorkerPart) → slice_get xs worker ≡ Some part → EachOf P worker part.walks.items)) e (all_at (λ (k : ℕ) (part : WorkerPart). EachOf P k part.walks.items) parts i over before))

-- it isn't, if it isn't of those of one
pub parts_fail : (r : Report) (parts : List WorkerPart) (P : ℕ → ℕ → WalkRecord → Type 0) (worker : ℕ) (part : WorkerPart) (walks : List WalkRecord) (b : Bool)
    → parts ≡ r.workers.items → worker < length parts → part ≡ get_or parts worker part → walks ≡ (get_or parts worker part).walks.items
    → Decides b (EachOf P worker walks) → b ≡ false → Decides false (EachWalk r P)
parts_fail r parts P worker part walks b e lt is there d f =
    let same : walks ≡ part.walks.items = there ∙ ap (λ (x : WorkerPart). x.walks.items) (sym is) in
    let here : slice_get r.workers.items worker ≡ Some part = ap (λ (xs : List WorkerPart). slice_get xs worker) (sym e) ∙ slice_get-get_or parts worker part lt ∙ ap (λ (x : WorkerPart). Some x) (sym is) in (
      λ t. absurd cc,
      λ h. absurd (clash b (d.1 (λ n w at. h worker n w (ap (λ (x : Option WorkerPart). slice_get (walks_in x) n) here ∙ (ap (λ (xs : List WalkRecord). slice_get xs n) (sym same) ∙ at)))) f),
    )

-- it is of those of one more worker
pub parts_more : (parts : List WorkerPart) (P : ℕ → ℕ → WalkRecord → Type 0) (worker : ℕ) (part : WorkerPart) (walks : List WalkRecord) (b : Bool)
    → worker < length parts → part ≡ get_or parts worker part → walks ≡ (get_or parts worker part).walks.items
    → Decides b (EachOf P worker walks) → b ≡ true
    → ((k : ℕ) (x : WorkerPart) → k < worker → slice_get parts k ≡ Some x → EachOf P k x.walks.items)
    → (k : ℕ) (x : WorkerPart) → k < worker + 1 → slice_get parts k ≡ Some x → EachOf P k x.walks.items
parts_more parts P worker part walks b lt is there d f before =
    let same : walks ≡ part.walks.items = there ∙ ap (λ (x : WorkerPart). x.walks.items) (sym is) in
    more_at (λ (k : ℕ) (x : WorkerPart). EachOf P k x.walks.items) parts worker part lt is before (subst (λ (ws : List WalkRecord). EachOf P worker ws) same (d.0 f))

-- ---- items by an index
