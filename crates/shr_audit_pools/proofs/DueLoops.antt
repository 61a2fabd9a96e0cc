-- SPDX-License-Identifier: GPL-2.0-only
-- Loops over what a report prints: what is so of each item, and of each walk of the pools.
use Rattle.shr_audit_pools.proofs.DueCommon.{◌≡◌, ℕ, ◌<◌, ◌≤◌, Bool, true, false, List, length, get_or, Option, Some, refl, sym, ap, subst, ◌∙◌, slice_get, Decides, slice_get-get_or, WorkerPart, PlainWalk, Report, plain_in, all_at, clash, here_at, None, EachPlain}

-- ---- any items

pub item_fails : {X : Type 0} (P : ℕ → X → Type 0) (xs ys : List X) (i : ℕ) (x : X) (b : Bool) → xs ≡ ys → i < length xs → x ≡ get_or xs i x → Decides b (P i x) → b ≡ false → Decides false ((n : ℕ) (y : X) → slice_get ys n ≡ Some y → P n y)
item_fails P xs ys i x b e lt is d f = (λ t. absurd cc, λ h. absurd (clash b (d.1 (h i x (here_at xs ys i x e lt is))) f))

pub items_whole : {X : Type 0} (P : ℕ → X → Type 0) (xs ys : List X) (i : ℕ) → xs ≡ ys → length xs ≤ i → ((n : ℕ) (x : X) → n < i → slice_get xs n ≡ Some x → P n x) → Decides true ((n : ℕ) (y : X) → slice_get ys n ≡ Some y → P n y)
items_whole {X} P xs ys i e over before = subst (λ (zs : List X). Decides true ((n : ℕ) (x : X) → slice_get zs n ≡ Some x → P n x)) e (all_at P xs i over before)

-- the same of items that are plain values
pub value_fails : {X : Type 0} (P : ℕ → X → Type 0) (xs ys : List X) (i : ℕ) (d : X) (b : Bool) → xs ≡ ys → i < length xs → Decides b (P i (get_or xs i d)) → b ≡ false → Decides false ((n : ℕ) (y : X) → slice_get ys n ≡ Some y → P n y)
value_fails {X} P xs ys i d b e lt dec f = (λ t. absurd cc, λ h. absurd (clash b (dec.1 (h i (get_or xs i d) (ap (λ (zs : List X). slice_get zs i) (sym e) ∙ slice_get-get_or xs i d lt))) f))

-- ---- walks

pub none_some : {X : Type 0} (x : X) → ◌≡◌ {A = Option X} None (Some x) → ⊥
none_some x e = cc

pub each_plain_of : (r : Report) (P : ℕ → ℕ → PlainWalk → Type 0) (b : Bool) → Decides b ((worker : ℕ) (part : WorkerPart) → slice_get r.workers.items worker ≡ Some part → (n : ℕ) (w : PlainWalk) → slice_get part.plain.items n ≡ Some w → P worker n w) → Decides b (EachPlain r P)
each_plain_of r P b d = (
  λ t worker n w at_n. by (d.0 t) worker n w (slice_get r.workers.items worker) refl at_n,
  λ h. d.1 (λ worker part here n w at_n. h worker n w (ap (λ (o : Option WorkerPart). slice_get (plain_in o) n) here ∙ at_n)),
)
  where
    by : ((worker : ℕ) (part : WorkerPart) → slice_get r.workers.items worker ≡ Some part → (n : ℕ) (w : PlainWalk) → slice_get part.plain.items n ≡ Some w → P worker n w)
        → (worker n : ℕ) (w : PlainWalk) (o : Option WorkerPart) → slice_get r.workers.items worker ≡ o → slice_get (plain_in o) n ≡ Some w → P worker n w
    by h worker n w None here e = absurd (none_some w e)
    by h worker n w (Some part) here e = h worker part here n w e
