-- SPDX-License-Identifier: GPL-2.0-only
-- The Reclaims of a pass, each by itself and all together.
use Rattle.shr_audit_pools.proofs.Common.{◌≡◌, ℕ, zero, suc, ◌+◌, ◌≤◌, Bool, false, List, [], ◌∷◌, length, take, map, Some, refl, sym, ap, subst, ◌∙◌, sum_by, slice_get, Decides, AllByRecursion, sum_by-cons, PoolDecl, PassRecord, ReclaimMade, EachItem, fails, Reclaimed, IsReclaimAfter, reclaim_freed, made_of_reclaim, replicate, take-replicate, AreReclaimsOf}
use Rattle.shr_model.specs.Pass.{FollowsArithmetic, due, due_asks, ask_size, batch_of, total_of}
use Rattle.shr_audit_passes.proofs.Scanned.{tails}
use Rattle.shr_model.proofs.PassLaws.{made_le}
use Rattle.shr_model.proofs.Lists.{heads}

-- as many asks of this size as there are Reclaims
alike : (size version : ℕ) (xs : List Reclaimed) → EachItem (IsReclaimAfter size version) xs → map (λ (m : ReclaimMade). m.asked) (map made_of_reclaim xs) ≡ replicate (length xs) size
alike size version [] h = refl
alike size version (x ∷ xs) h = ap (λ (n : ℕ). n ∷ map (λ (m : ReclaimMade). m.asked) (map made_of_reclaim xs)) (h 0 x refl).0 ∙ ap (λ (ns : List ℕ). size ∷ ns) (alike size version xs (λ n y e. h (suc n) y e))

laters : (size version : ℕ) (xs : List Reclaimed) → EachItem (IsReclaimAfter size version) xs → AllByRecursion (λ (m : ReclaimMade). version ≤ m.number) (map made_of_reclaim xs)
laters size version [] h = tt
laters size version (x ∷ xs) h = ((h 0 x refl).1, laters size version xs (λ n y e. h (suc n) y e))

some_same : (a b : Reclaimed) → Some a ≡ Some b → a ≡ b
some_same a b e = cc

-- and the other way round
each_alike : (size version : ℕ) (xs : List Reclaimed) → map (λ (m : ReclaimMade). m.asked) (map made_of_reclaim xs) ≡ replicate (length xs) size → AllByRecursion (λ (m : ReclaimMade). version ≤ m.number) (map made_of_reclaim xs) → EachItem (IsReclaimAfter size version) xs
each_alike size version [] e v n x at = absurd (no n x at)
  where
    no : (n : ℕ) (x : Reclaimed) → slice_get [] n ≡ Some x → ⊥
    no n x at = cc
each_alike size version (y ∷ ys) e v zero x at = subst (IsReclaimAfter size version) (some_same y x at) (heads y.asked size (map (λ (m : ReclaimMade). m.asked) (map made_of_reclaim ys)) (replicate (length ys) size) e, v.0)
each_alike size version (y ∷ ys) e v (suc n) x at = each_alike size version ys (tails y.asked size (map (λ (m : ReclaimMade). m.asked) (map made_of_reclaim ys)) (replicate (length ys) size) e) v.1 n x at

freed_alike : (xs : List Reclaimed) → sum_by (λ (m : ReclaimMade). m.freed) (map made_of_reclaim xs) ≡ sum_by reclaim_freed xs
freed_alike [] = refl
freed_alike (x ∷ xs) = sum_by-cons (λ (m : ReclaimMade). m.freed) (made_of_reclaim x) (map made_of_reclaim xs) ∙ ap (λ (n : ℕ). x.freed + n) (freed_alike xs) ∙ sym (sum_by-cons reclaim_freed x xs)

first_asks : (priority : ℕ) (d : PoolDecl) (p : PassRecord) (xs : List Reclaimed) (size : ℕ) → size ≡ ask_size (batch_of d.batch) p.len (total_of p.len p.nr priority d.seeks) → length xs ≡ p.asks → FollowsArithmetic priority d.seeks d.batch p
    → take p.asks (due_asks (batch_of d.batch) p.len (total_of p.len p.nr priority d.seeks)) ≡ replicate (length xs) size
first_asks priority d p xs size s count follows =
    take-replicate p.asks (due (batch_of d.batch) p.len (total_of p.len p.nr priority d.seeks)) (ask_size (batch_of d.batch) p.len (total_of p.len p.nr priority d.seeks))
    (made_le p.asks p.ending (due (batch_of d.batch) p.len (total_of p.len p.nr priority d.seeks)) follows.made)
    ∙ ap (λ (n : ℕ). replicate n (ask_size (batch_of d.batch) p.len (total_of p.len p.nr priority d.seeks))) (sym count)
    ∙ ap (replicate (length xs)) (sym s)

-- where the Reclaims are alike, what they freed tells
pub reclaims_freed : (priority : ℕ) (d : PoolDecl) (p : PassRecord) (xs : List Reclaimed) (size : ℕ) (b : Bool) → size ≡ ask_size (batch_of d.batch) p.len (total_of p.len p.nr priority d.seeks) → length xs ≡ p.asks → FollowsArithmetic priority d.seeks d.batch p
    → EachItem (IsReclaimAfter size p.version) xs → Decides b (sum_by reclaim_freed xs ≡ p.freed) → Decides b (AreReclaimsOf d priority p (map made_of_reclaim xs))
reclaims_freed priority d p xs size b s count follows each freed = (
  λ t. record {
    asked = alike size p.version xs each ∙ sym (first_asks priority d p xs size s count follows);
    freed = freed_alike xs ∙ freed.0 t;
    later = laters size p.version xs each;
  },
  λ h. freed.1 (sym (freed_alike xs) ∙ h.freed),
)

-- where they aren't, they are not those of the pass
pub reclaims_differ : (priority : ℕ) (d : PoolDecl) (p : PassRecord) (xs : List Reclaimed) (size : ℕ) (a : Bool) → size ≡ ask_size (batch_of d.batch) p.len (total_of p.len p.nr priority d.seeks) → length xs ≡ p.asks → FollowsArithmetic priority d.seeks d.batch p
    → Decides a (EachItem (IsReclaimAfter size p.version) xs) → a ≡ false → Decides false (AreReclaimsOf d priority p (map made_of_reclaim xs))
reclaims_differ priority d p xs size a s count follows each isnt =
    fails (EachItem (IsReclaimAfter size p.version) xs) (AreReclaimsOf d priority p (map made_of_reclaim xs)) a each isnt (λ h. each_alike size p.version xs (h.asked ∙ first_asks priority d p xs size s count follows) h.later)
