-- SPDX-License-Identifier: GPL-2.0-only
-- The Scan entries of a pass, each by itself and all together.
use Rattle.shr_audit_passes.proofs.Common.{◌≡◌, ℕ, zero, suc, ◌+◌, ◌-◌, ◌≤◌, Bool, false, List, [], ◌∷◌, length, take, map, Some, refl, sym, ap, subst, ◌∙◌, replicate, sum_by, slice_get, Decides, AllByRecursion, length-map, sum_by-cons, PassRecord, due, ask_size, batch_of, total_of, EachItem, ScanSeen, made_of_scan, freed_of_scan, IsScanAfter, take-replicate, AreScansOf, cache_asks_due, fails}
use Rattle.shr_base.specs.declared.objects.Policy.{Policy}
use Rattle.shr_base.specs.declared.scripts.CacheDecl.{CacheDecl}
use Rattle.shr_model.specs.Scans.{ScanMade}
use Rattle.shr_model.proofs.Lists.{heads}

-- as many asks of this size as there are scans
alike : (size : ℕ) (policy : Policy) (version : ℕ) (xs : List ScanSeen) → EachItem (IsScanAfter size policy version) xs → map (λ (m : ScanMade). m.asked) (map made_of_scan xs) ≡ replicate (length xs) size
alike size policy version [] h = refl
alike size policy version (x ∷ xs) h = ap (λ (n : ℕ). n ∷ map (λ (m : ScanMade). m.asked) (map made_of_scan xs)) (h 0 x refl).0 ∙ ap (λ (ns : List ℕ). size ∷ ns) (alike size policy version xs (λ n y e. h (suc n) y e))

policies : (size : ℕ) (policy : Policy) (version : ℕ) (xs : List ScanSeen) → EachItem (IsScanAfter size policy version) xs → AllByRecursion (λ (m : ScanMade). m.policy ≡ policy) (map made_of_scan xs)
policies size policy version [] h = tt
policies size policy version (x ∷ xs) h = ((h 0 x refl).1.0, policies size policy version xs (λ n y e. h (suc n) y e))

laters : (size : ℕ) (policy : Policy) (version : ℕ) (xs : List ScanSeen) → EachItem (IsScanAfter size policy version) xs → AllByRecursion (λ (m : ScanMade). version ≤ m.number) (map made_of_scan xs)
laters size policy version [] h = tt
laters size policy version (x ∷ xs) h = ((h 0 x refl).1.1, laters size policy version xs (λ n y e. h (suc n) y e))

some_same : (a b : ScanSeen) → Some a ≡ Some b → a ≡ b
some_same a b e = cc

pub tails : (x y : ℕ) (xs ys : List ℕ) → x ∷ xs ≡ y ∷ ys → xs ≡ ys
tails x y xs ys e = cc

-- and the other way round
each_alike : (size : ℕ) (policy : Policy) (version : ℕ) (xs : List ScanSeen) → map (λ (m : ScanMade). m.asked) (map made_of_scan xs) ≡ replicate (length xs) size
    → AllByRecursion (λ (m : ScanMade). m.policy ≡ policy) (map made_of_scan xs) → AllByRecursion (λ (m : ScanMade). version ≤ m.number) (map made_of_scan xs) → EachItem (IsScanAfter size policy version) xs
each_alike size policy version [] e p v n x at = absurd (no n x at)
  where
    no : (n : ℕ) (x : ScanSeen) → slice_get [] n ≡ Some x → ⊥
    no n x at = cc
each_alike size policy version (y ∷ ys) e p v zero x at = subst (IsScanAfter size policy version) (some_same y x at) (heads y.asked size (map (λ (m : ScanMade). m.asked) (map made_of_scan ys)) (replicate (length ys) size) e, (p.0, v.0))
each_alike size policy version (y ∷ ys) e p v (suc n) x at = each_alike size policy version ys (tails y.asked size (map (λ (m : ScanMade). m.asked) (map made_of_scan ys)) (replicate (length ys) size) e) p.1 v.1 n x at

freed_alike : (xs : List ScanSeen) → sum_by (λ (m : ScanMade). m.freed) (map made_of_scan xs) ≡ sum_by freed_of_scan xs
freed_alike [] = refl
freed_alike (x ∷ xs) = sum_by-cons (λ (m : ScanMade). m.freed) (made_of_scan x) (map made_of_scan xs) ∙ ap (λ (n : ℕ). x.freed + n) (freed_alike xs) ∙ sym (sum_by-cons freed_of_scan x xs)

-- the asks of as many scans as are left of those that were made
first_asks : (priority : ℕ) (d : CacheDecl) (p : PassRecord) (xs : List ScanSeen) (size : ℕ) → size ≡ ask_size (batch_of d.batch) p.len (total_of p.len p.nr priority d.seeks)
    → length xs ≡ p.asks - p.closed → p.asks - p.closed ≤ due (batch_of d.batch) p.len (total_of p.len p.nr priority d.seeks) → take (p.asks - p.closed) (cache_asks_due priority d p) ≡ replicate (length xs) size
first_asks priority d p xs size s count few =
    take-replicate (p.asks - p.closed) (due (batch_of d.batch) p.len (total_of p.len p.nr priority d.seeks)) (ask_size (batch_of d.batch) p.len (total_of p.len p.nr priority d.seeks)) few
    ∙ ap (λ (n : ℕ). replicate n (ask_size (batch_of d.batch) p.len (total_of p.len p.nr priority d.seeks))) (sym count)
    ∙ ap (replicate (length xs)) (sym s)

-- where the scans are alike, what they freed tells
pub scans_freed : (priority : ℕ) (d : CacheDecl) (p : PassRecord) (xs : List ScanSeen) (size : ℕ) (b : Bool) → size ≡ ask_size (batch_of d.batch) p.len (total_of p.len p.nr priority d.seeks)
    → length xs ≡ p.asks - p.closed → p.asks - p.closed ≤ due (batch_of d.batch) p.len (total_of p.len p.nr priority d.seeks)
    → EachItem (IsScanAfter size d.policy p.version) xs → Decides b (sum_by freed_of_scan xs ≡ p.freed) → Decides b (AreScansOf priority d p (map made_of_scan xs))
scans_freed priority d p xs size b s count few each freed = (
  λ t. record {
    asked = alike size d.policy p.version xs each ∙ sym (first_asks priority d p xs size s count few);
    number = length-map xs made_of_scan ∙ count;
    policy = policies size d.policy p.version xs each;
    freed = freed_alike xs ∙ freed.0 t;
    later = laters size d.policy p.version xs each;
  },
  λ h. freed.1 (sym (freed_alike xs) ∙ h.freed),
)

-- where they aren't, they are not those of the pass
pub scans_differ : (priority : ℕ) (d : CacheDecl) (p : PassRecord) (xs : List ScanSeen) (size : ℕ) (a : Bool) → size ≡ ask_size (batch_of d.batch) p.len (total_of p.len p.nr priority d.seeks)
    → length xs ≡ p.asks - p.closed → p.asks - p.closed ≤ due (batch_of d.batch) p.len (total_of p.len p.nr priority d.seeks)
    → Decides a (EachItem (IsScanAfter size d.policy p.version) xs) → a ≡ false → Decides false (AreScansOf priority d p (map made_of_scan xs))
scans_differ priority d p xs size a s count few each isnt =
    fails (EachItem (IsScanAfter size d.policy p.version) xs) (AreScansOf priority d p (map made_of_scan xs)) a each isnt
    (λ h. each_alike size d.policy p.version xs (h.asked ∙ first_asks priority d p xs size s count few) h.policy h.later)
