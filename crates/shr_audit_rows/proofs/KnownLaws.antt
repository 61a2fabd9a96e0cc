-- SPDX-License-Identifier: GPL-2.0-only
-- What is said of declarations, in the order of the entries.
use Rattle.shr_audit_rows.proofs.Common.{◌≡◌, ℕ, ◌+◌, ◌<◌, ◌≤◌, Bool, true, false, List, [], ◌∷◌, length, get_or, take, Option, Some, None, refl, sym, ap, subst, ◌∙◌, arith, ◌&&◌, not, is_some, slice_get, Decides, IsSomeAnd, and_parts, and_from, get_or_from_slice_get, slice_get_within, PoolEntry, Script, EachItem, decides_iff, Report, Asked, AreAllSo, IsAskedSo, IsSaid, IsAskedRight, Stands, IsPermutation, slice_get-get_or, clash, is_live_decl, lowest_idle}
use Rattle.std.specs.List.{All}
use Rattle.std.specs.List.Sorted.{IsNonDecreasingBy}
use Rattle.std.proofs.lemmas.List.Sorted.{All-permutation, IsPermutation-sym}
use Rattle.shr_laws.specs.Causes.{IsCached, IsFull, IsUncached}
use Rattle.shr_audit_rows.specs.declared.asked.Said.{Said}
use Rattle.shr_audit_rows.specs.declared.asked.Said.TheVariants.{Uncached, Cached, Full}
use Rattle.shr_model.proofs.Booleans.{not_true}

-- ---- one

true_not : (b : Bool) → b ≡ false → not b ≡ true
true_not b e = ap not e

module _ (s : Script) (r : Report) (decl entry : ℕ) (known : entry ≤ length r.pool.items) (live free : Bool) (live_is : live ≡ is_live_decl s.ids decl (take entry r.pool.items)) (free_is : free ≡ is_some (lowest_idle s.ids (take entry r.pool.items))) where
  uncached : Decides (not live) (IsUncached s r decl entry)
  uncached = (λ t. record { known = known; none = sym live_is ∙ not_true live t }, λ h. true_not live (live_is ∙ h.none))

  cached : Decides live (IsCached s r decl entry)
  cached = (λ t. record { known = known; live = sym live_is ∙ t }, λ h. live_is ∙ h.live)

  no_id : (o : Option ℕ) → is_some o ≡ false → o ≡ None
  no_id None e = refl
  no_id (Some id) e = absurd cc

  full : Decides (not live && not free) (IsFull s r decl entry)
  full = (
    λ t. (let parts = and_parts (not live) (not free) t in record {
      known = known;
      none = sym live_is ∙ not_true live parts.0;
      ids = no_id (lowest_idle s.ids (take entry r.pool.items)) (sym free_is ∙ not_true free parts.1);
    }),
    λ h. and_from (not live) (not free) (true_not live (live_is ∙ h.none)) (true_not free (free_is ∙ ap is_some h.ids)),
  )

  pub said_uncached : (said : Said) → said ≡ Uncached → Decides (not live) (IsSaid s r said decl entry)
  said_uncached said is = subst (λ (x : Said). Decides (not live) (IsSaid s r x decl entry)) (sym is) uncached

  pub said_cached : (said : Said) → said ≡ Cached → Decides live (IsSaid s r said decl entry)
  said_cached said is = subst (λ (x : Said). Decides live (IsSaid s r x decl entry)) (sym is) cached

  pub said_full : (said : Said) → said ≡ Full → Decides (not live && not free) (IsSaid s r said decl entry)
  said_full said is = subst (λ (x : Said). Decides (not live && not free) (IsSaid s r x decl entry)) (sym is) full

-- what isn't known isn't so
known_of : (s : Script) (r : Report) (said : Said) (decl entry : ℕ) → IsSaid s r said decl entry → entry ≤ length r.pool.items
known_of s r Uncached decl entry h = h.known
known_of s r Cached decl entry h = h.known
known_of s r Full decl entry h = h.known

pub not_known : (s : Script) (r : Report) (a : Asked) → length r.pool.items < a.entry → Decides false (IsAskedRight s r a)
not_known s r a over = (λ t. absurd cc, λ h. absurd (by a.decl h))
  where
    by : (o : Option ℕ) → IsSomeAnd o (λ decl. IsSaid s r a.said decl a.entry) → ⊥
    by None h = h
    by (Some decl) h = let le = known_of s r a.said decl a.entry h in omega (arith, le, over)

pub so_of : (s : Script) (r : Report) (a : Asked) (decl : ℕ) (b : Bool) → a.decl ≡ Some decl → Decides b (IsSaid s r a.said decl a.entry) → Decides b (IsAskedRight s r a)
so_of s r a decl b is d = subst (λ (o : Option ℕ). Decides b (IsSomeAnd o (λ x. IsSaid s r a.said x a.entry))) (sym is) d

pub so_none : (s : Script) (r : Report) (a : Asked) → a.decl ≡ None → Decides false (IsAskedRight s r a)
so_none s r a is = subst (λ (o : Option ℕ). Decides false (IsSomeAnd o (λ x. IsSaid s r a.said x a.entry))) (sym is) (λ t. absurd cc, λ h. absurd h)

-- ---- all

take_none : (pool : List PoolEntry) → take 0 pool ≡ []
take_none [] = refl
take_none (e ∷ es) = refl

pub from_start : (pool : List PoolEntry) (next : ℕ) (phases decls : List ℕ) → next ≡ 0 → Stands [] phases decls → Stands (take next pool) phases decls
from_start pool next phases decls is st = subst (λ (es : List PoolEntry). Stands es phases decls) (sym (ap (λ (n : ℕ). take n pool) is ∙ take_none pool)) st

pub at_entry : (pool : List PoolEntry) (next entry : ℕ) (phases decls : List ℕ) → next ≡ entry → Stands (take entry pool) phases decls → Stands (take next pool) phases decls
at_entry pool next entry phases decls is st = subst (λ (n : ℕ). Stands (take n pool) phases decls) (sym is) st

pub low_next : (asked : List Asked) (n next : ℕ) (d : Asked) → IsNonDecreasingBy (λ (a : Asked). a.entry) asked → next ≡ (get_or asked n d).entry → (m : ℕ) (e : Asked) → n + 1 ≤ m → m < length asked → next ≤ (get_or asked m e).entry
low_next asked n next d order is m e le lt = by (order n m d (omega (arith, le)) lt) same
  where
    same : get_or asked m d ≡ get_or asked m e
    same = get_or_from_slice_get asked m (get_or asked m e) d (slice_get-get_or asked m e lt)

    by : (get_or asked n d).entry ≤ (get_or asked m d).entry → get_or asked m d ≡ get_or asked m e → next ≤ (get_or asked m e).entry
    by h f = subst (λ (a : Asked). next ≤ a.entry) f (omega (arith, h, is))

pub so_fails : {X : Type 0} (P : X → Type 0) (xs : List X) (i : ℕ) (d : X) (b : Bool) → i < length xs → Decides b (P (get_or xs i d)) → b ≡ false → Decides false (EachItem P xs)
so_fails P xs i d b lt dec f = (λ t. absurd cc, λ h. absurd (clash b (dec.1 (h i (get_or xs i d) (slice_get-get_or xs i d lt))) f))

-- ---- in any order

all_of_each : {X : Type 0} (P : X → Type 0) (xs : List X) → EachItem P xs → All P xs
all_of_each P xs h k d lt = h k (get_or xs k d) (slice_get-get_or xs k d lt)

each_of_all : {X : Type 0} (P : X → Type 0) (xs : List X) → All P xs → EachItem P xs
each_of_all P xs h n x e = subst P (get_or_from_slice_get xs n x x e) (h n x (within e))
  where
    within : slice_get xs n ≡ Some x → n < length xs
    within f = slice_get_within xs n x f

pub in_any_order : (s : Script) (r : Report) (xs ys : List Asked) (b : Bool) → AreAllSo s r xs → IsPermutation xs ys → Decides b (EachItem (IsAskedRight s r) ys) → Decides b (IsAskedSo s r)
in_any_order s r xs ys b all p d = decides_iff b (EachItem (IsAskedRight s r) ys) (IsAskedSo s r)
    (λ h. all.0 (each_of_all (IsAskedRight s r) xs (All-permutation (IsAskedRight s r) ys xs (IsPermutation-sym xs ys p) (all_of_each (IsAskedRight s r) ys h))))
    (λ h. each_of_all (IsAskedRight s r) ys (All-permutation (IsAskedRight s r) xs ys p (all_of_each (IsAskedRight s r) xs (all.1 h)))) d
